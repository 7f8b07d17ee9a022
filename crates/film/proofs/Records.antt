-- The records of a unit one after the other, as the loops go: what is left at record i, and what decides there.
-- Assumes nothing.
use Prim.Native.Nat.{ℕ, ◌+◌, ◌*◌, ◌≤◌, ◌<◌}
use native.Mathlib.Omega.{arith}
use native.Mathlib.Numerals.{add-one}
use mathlib.Core.Path.{◌≡◌, ◌∙◌, ap, ap₂, sym, refl}
use mathlib.Core.Logic.{◌⊎◌, inl, inr}
use mathlib.Core.Bool.{Bool, true, false, ◌&&◌}
use mathlib.Core.List.{List, [], ◌∷◌}
use borrow.Author.Tests.{eq-eqb, ne_eqb}
use lib.Dec.{eqb}
use lib.ListN.{length, drop, get_or, drop_of_length-le}
use lib.Seq.{drop-cons, get_or-take}
use Rattle.lists.proofs.Each.{each-of}
use Rattle.refusal.specs.Verdict.{Verdict}
use Rattle.refusal.specs.Verdict.{Accepted, Refused}
use Rattle.refusal.specs.declared.Reason.TheVariants.{NotShown, OtherLine}
use Rattle.refusal.specs.declared.Item.TheVariants.{Bit}
use Rattle.scte20.specs.declared.Record.{Record}
use Rattle.scte20.specs.declared.Numbers.{Numbers}
use Rattle.scte20.specs.Value.{blank, field_of, held, Typed}
use Rattle.scte20.specs.Lent.{lent_records, unit_in}
use Rattle.scte20.proofs.Lending.{lent_length, lent-typed}
use Rattle.scte20.proofs.Holding.{length-held}
use Rattle.film.specs.Slot.{Slot}
use Rattle.film.specs.Slot.{Pair}
use Rattle.film.specs.Display.{is_at, pick, slot_of}
use Rattle.film.specs.Calls.{repeat_verdict, line_verdict}

abbrev pub records_of : Numbers → List ℕ → List Record
records_of v s = (held (unit_in v s)).records

-- a lent array holds bytes, so that the unit that it tells is one by its type
pub array-typed : (v : Numbers) (s : List ℕ) → ((i : ℕ) → get_or s i 0 < 256) → length s ≡ 155 → Typed (unit_in v s)
array-typed v s fits places = lent-typed v s (each-of (λ (b : ℕ). b < 256) 0 s (λ i below. fits i)) places

pub record-here : (v : Numbers) (s : List ℕ) (i : ℕ) (r : Record) → v.n ≤ 31 → i < v.n → r ≡ get_or (lent_records s) i blank
    → drop i (records_of v s) ≡ r ∷ drop (i + 1) (records_of v s)
record-here v s i r few more told =
    let rs = records_of v s in
    let inside : i < length rs = omega (arith, length-held (unit_in v s) (lent_length s) few, more) in
    let here : get_or rs i blank ≡ r = get_or-take v.n (lent_records s) i blank more ∙ sym told in
    drop-cons rs i blank inside ∙ ap₂ (λ (r : Record) (k : ℕ). r ∷ drop k rs) here (sym (add-one i))

pub records-over : (v : Numbers) (s : List ℕ) (i : ℕ) → v.n ≤ 31 → v.n ≤ i → drop i (records_of v s) ≡ []
records-over v s i few end =
    let over : length (records_of v s) ≤ i = omega (arith, length-held (unit_in v s) (lent_length s) few, end) in
    drop_of_length-le (records_of v s) over

-- what a loop finds out from record i on is what all records say
pub record Left {D : Type 0} (says : ℕ → List Record → D) (rs : List Record) (i : ℕ) : Type 0 where
  pub left : says 0 rs ≡ says i (drop i rs)

module _ {D : Type 0} (says : ℕ → List Record → D) (v : Numbers) (s : List ℕ) (few : v.n ≤ 31) (i : ℕ) (r : Record)
    (more : i < v.n) (told : r ≡ get_or (lent_records s) i blank) (so_far : Left says (records_of v s) i) where
  -- record i decides
  pub left-here : (d : D) → ((rest : List Record) → says i (r ∷ rest) ≡ d) → says 0 (records_of v s) ≡ d
  left-here d e = so_far.left ∙ ap (says i) (record-here v s i r few more told) ∙ e (drop (i + 1) (records_of v s))

  -- or those behind it do
  pub left-next : ((rest : List Record) → says i (r ∷ rest) ≡ says (i + 1) rest) → Left says (records_of v s) (i + 1)
  left-next e = record { left = so_far.left ∙ ap (says i) (record-here v s i r few more told) ∙ e (drop (i + 1) (records_of v s)) }

-- where construct i begins
on : (i : ℕ) → 21 + 26 * i + 26 ≡ 21 + 26 * (i + 1)
on i = omega arith

-- 21

abbrev pub repeat_from : ℕ → List Record → Verdict
repeat_from i rs = repeat_verdict false (21 + 26 * i) rs

pub and-false : (t : Bool) → (t && false) ≡ false
and-false true = refl
and-false false = refl

pub repeated : (at : ℕ) (rs : List Record) → repeat_verdict true at rs ≡ Accepted
repeated at [] = refl
repeated at (r ∷ rs) = (simp (and-false (eqb (field_of r) 3))) ∙ repeated (at + 26) rs

pub repeat-refused : (i : ℕ) (r : Record) (rest : List Record) → field_of r ≡ 3 → repeat_from i (r ∷ rest) ≡ Refused NotShown (Bit (21 + 26 * i + 2))
repeat-refused i r rest e = simp (eq-eqb (field_of r) 3 e)

pub repeat-next : (i : ℕ) (r : Record) (rest : List Record) → (field_of r ≡ 3 → ⊥) → repeat_from i (r ∷ rest) ≡ repeat_from (i + 1) rest
repeat-next i r rest e = (simp (ne_eqb (field_of r) 3 e)) ∙ ap (λ (k : ℕ). repeat_verdict false k rest) (on i)

-- 22

abbrev pub lines_from : ℕ → ℕ → List Record → Verdict
lines_from line i rs = line_verdict line (21 + 26 * i) rs

pub line_refused : (line i : ℕ) (r : Record) (rest : List Record) → (r.line_offset ≡ line → ⊥)
    → lines_from line i (r ∷ rest) ≡ Refused OtherLine (Bit (21 + 26 * i + 4))
line_refused line i r rest e = simp (ne_eqb r.line_offset line e)

pub line-next : (line i : ℕ) (r : Record) (rest : List Record) → r.line_offset ≡ line → lines_from line i (r ∷ rest) ≡ lines_from line (i + 1) rest
line-next line i r rest e = (simp (eq-eqb r.line_offset line e)) ∙ ap (λ (k : ℕ). line_verdict line k rest) (on i)

-- the slot of a display field

abbrev pub slot_from : ℕ → ℕ → ℕ → List Record → Slot
slot_from line field i rs = slot_of line field rs

pub slot-here : (line field : ℕ) (r : Record) (rest : List Record) → field_of r ≡ field → r.line_offset ≡ line
    → slot_of line field (r ∷ rest) ≡ Pair r.cc_data_1 r.cc_data_2
slot-here line field r rest e f = simp (eq-eqb (field_of r) field e, eq-eqb r.line_offset line f)

not_at : (line field : ℕ) (r : Record) → (field_of r ≡ field → ⊥) ⊎ (r.line_offset ≡ line → ⊥) → is_at line field r ≡ false
not_at line field r (inl e) = ap (λ (t : Bool). t && eqb r.line_offset line) (ne_eqb (field_of r) field e)
not_at line field r (inr e) = ap (λ (t : Bool). eqb (field_of r) field && t) (ne_eqb r.line_offset line e) ∙ and-false (eqb (field_of r) field)

pub slot_next : (line field : ℕ) (r : Record) (rest : List Record) → (field_of r ≡ field → ⊥) ⊎ (r.line_offset ≡ line → ⊥)
    → slot_of line field (r ∷ rest) ≡ slot_of line field rest
slot_next line field r rest e =
    ap (λ (t : Bool). pick t (Pair r.cc_data_1 r.cc_data_2) (slot_of line field rest)) (not_at line field r e)
