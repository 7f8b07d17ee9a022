-- A unit's value as `cclist` prints its records, behind reserved, flag and z, tells that value; and the promise of `unit_of` fixes its answer.
-- Assumes nothing.
use Prim.Native.Nat.{ℕ, ◌≤◌, ◌<◌}
use native.Mathlib.Omega.{arith}
use mathlib.Core.Bool.{Bool, true, ◌&&◌}
use mathlib.Core.List.{List, [], ◌∷◌, ◌++◌, append_assoc}
use mathlib.Core.Path.{◌≡◌, ◌∙◌, ap, ap₂, sym, refl}
use lib.ListN.{length}
use lib.Seq.{take_all}
use Rattle.lists.specs.Each.{Each}
use Rattle.lists.specs.Room.{filled}
use Rattle.scte20.specs.declared.Record.{Record}
use Rattle.scte20.specs.Value.{Content, blank, field_of, stored}
use Rattle.listing.specs.Texts.{decimal, hex, line_feed, record_text, records_text, space}
use Rattle.std.proofs.Common.{Option, Some}
use Rattle.scte20.specs.declared.CaptionUnit.{CaptionUnit}
use Rattle.notation.specs.Value.{InBytes, are_records, is_record, record_of, records_of, meant_if, meant_of, meant_words, unit_of, unit_text}
use Rattle.notation.specs.Words.{words_of}
use Rattle.notation.proofs.Cutting.{words-end}
use Rattle.notation.proofs.Written.{byte-is, byte_next, byte-value, decimal-is, decimal-next, decimal-value, hex-is, hex-next, hex-number}

module _ (r : Record) (h : InBytes r) where
  abbrev p : List ℕ
  p = decimal r.cc_priority

  abbrev f : List ℕ
  f = decimal (field_of r)

  abbrev l : List ℕ
  l = decimal r.line_offset

  abbrev a : List ℕ
  a = hex r.cc_data_1

  abbrev b : List ℕ
  b = hex r.cc_data_2

  -- a line is five words
  line-words : (rest : List ℕ) → words_of (record_text r ++ rest) ≡ p ∷ f ∷ l ∷ a ∷ b ∷ words_of rest
  line-words rest =
      let grouped : record_text r ++ rest ≡ p ++ (space ++ (f ++ (space ++ (l ++ (space ++ (a ++ (space ++ (b ++ (line_feed ++ rest))))))))) = simp append_assoc in
      ap words_of grouped
      ∙ byte_next r.cc_priority h.priority 0x20 _ refl
      ∙ ap (λ (words : List (List ℕ)). p ∷ words)
      (byte_next (field_of r) h.field 0x20 _ refl
      ∙ ap (λ (words : List (List ℕ)). f ∷ words)
      (byte_next r.line_offset h.line 0x20 _ refl
      ∙ ap (λ (words : List (List ℕ)). l ∷ words)
      (hex-next r.cc_data_1 h.data-1 0x20 _ refl ∙ ap (λ (words : List (List ℕ)). a ∷ words) (hex-next r.cc_data_2 h.data-2 0x0A rest refl))))

  line-is : is_record p f l a b ≡ true
  line-is =
      λ i. byte-is r.cc_priority h.priority i
      && (byte-is (field_of r) h.field i
      && (byte-is r.line_offset h.line i && (hex-is r.cc_data_1 h.data-1 i && hex-is r.cc_data_2 h.data-2 i)))

  line-record : record_of p f l a b ≡ r
  line-record =
      λ i. record {
        cc_priority = byte-value r.cc_priority h.priority i;
        field_number = record { 0 = byte-value (field_of r) h.field i };
        line_offset = byte-value r.line_offset h.line i;
        cc_data_1 = hex-number r.cc_data_1 h.data-1 i;
        cc_data_2 = hex-number r.cc_data_2 h.data-2 i;
      }

-- the lines tell the records
lines_are : (rs : List Record) → Each InBytes rs → are_records (words_of (records_text rs)) ≡ true
lines_are [] h = ap are_records (words-end [] 0 (omega arith))
lines_are (r ∷ rs) h =
    ap are_records (line-words r h.0 (records_text rs)) ∙ ap₂ (λ (s t : Bool). s && t) (line-is r h.0) (lines_are rs h.1)

lines-records : (rs : List Record) → Each InBytes rs → records_of (words_of (records_text rs)) ≡ rs
lines-records [] h = ap records_of (words-end [] 0 (omega arith))
lines-records (r ∷ rs) h =
    ap records_of (line-words r h.0 (records_text rs)) ∙ ap₂ (λ (x : Record) (xs : List Record). x ∷ xs) (line-record r h.0) (lines-records rs h.1)

module _ (c : Content) (reserved : c.reserved < 256) (flag : c.flag < 256) (z : c.z < 1000000000) (few : length c.records ≤ 31) (bytes : Each InBytes c.records) where
  abbrev words : List (List ℕ)
  words = words_of (records_text c.records)

  text-words : words_of (unit_text c) ≡ decimal c.reserved ∷ decimal c.flag ∷ decimal c.z ∷ words
  text-words =
      byte_next c.reserved reserved 0x20 _ refl
      ∙ ap (λ (rest : List (List ℕ)). decimal c.reserved ∷ rest)
      (byte_next c.flag flag 0x20 _ refl
      ∙ ap (λ (rest : List (List ℕ)). decimal c.flag ∷ rest) (decimal-next c.z z 0x20 (records_text c.records) refl))

  pub listed-meant : meant_of (unit_text c) ≡ Some (stored c)
  listed-meant =
      ap meant_words text-words
      ∙ (λ i. meant_if
      (byte-is c.reserved reserved i && (byte-is c.flag flag i && (decimal-is c.z z i && lines_are c.records bytes i)))
      (unit_of (byte-value c.reserved reserved i) (byte-value c.flag flag i) (decimal-value c.z z i) (lines-records c.records bytes i)))
      ∙ ap
      (λ (rs : List Record). Some (record { reserved = c.reserved; vbi_data_flag = c.flag; n = length c.records; records = filled rs 31 blank; z = c.z }))
      (take_all 31 c.records few)

pub unit-determined : (text : List ℕ) (a b : Option CaptionUnit) → a ≡ meant_of text → b ≡ meant_of text → a ≡ b
unit-determined text a b p q = p ∙ sym q
