-- What a text tells, by its first three words and the others.
-- Assumes nothing.
use Prim.Native.Nat.{ℕ}
use mathlib.Core.Bool.{Bool, true, ◌&&◌, and-false}
use mathlib.Core.List.{List, [], ◌∷◌}
use mathlib.Core.Path.{◌≡◌, ◌∙◌, ap, sym, refl}
use lib.ListN.{drop}
use Rattle.std.proofs.Common.{Some}
use Rattle.scte20.specs.declared.CaptionUnit.{CaptionUnit}
use Rattle.notation.specs.Inside.{word_at}
use Rattle.notation.specs.Value.{are_records, capped_byte_of, capped_of, is_decimal, records_of, meant_if, meant_of, meant_words, unit_of, unreadable}
use Rattle.notation.specs.Words.{words_of}
use Rattle.notation.proofs.Digits.{decimal-none}

-- whether words can be read, and the value that they tell
abbrev pub are_told : List (List ℕ) → Bool
are_told words = is_decimal (word_at 0 words) && (is_decimal (word_at 1 words) && (is_decimal (word_at 2 words) && are_records (drop 3 words)))

abbrev pub unit_in : List (List ℕ) → CaptionUnit
unit_in words = unit_of (capped_byte_of (word_at 0 words)) (capped_byte_of (word_at 1 words)) (capped_of (word_at 2 words)) (records_of (drop 3 words))

-- two words tell nothing
two-words : (r f : List ℕ) (t : Bool) (u : CaptionUnit) → meant_if (is_decimal r && (is_decimal f && (is_decimal [] && t))) u ≡ unreadable
two-words r f t u =
    ap (λ (third : Bool). meant_if (is_decimal r && (is_decimal f && (third && t))) u) decimal-none
    ∙ ap (λ (both : Bool). meant_if (is_decimal r && both) u) (and-false (is_decimal f))
    ∙ ap (λ (all : Bool). meant_if all u) (and-false (is_decimal r))

told-words : (words : List (List ℕ)) → meant_words words ≡ meant_if (are_told words) (unit_in words)
told-words [] = sym (two-words [] [] true (unit_in []))
told-words (r ∷ []) = sym (two-words r [] true (unit_in (r ∷ [])))
told-words (r ∷ f ∷ []) = sym (two-words r f true (unit_in (r ∷ f ∷ [])))
told-words (r ∷ f ∷ z ∷ words) = refl

-- all can be read
pub told-all : (text : List ℕ) (u : CaptionUnit) → are_told (words_of text) ≡ true → u ≡ unit_in (words_of text) → Some u ≡ meant_of text
told-all text u are e = ap Some e ∙ sym (told-words (words_of text) ∙ ap (λ (t : Bool). meant_if t (unit_in (words_of text))) are)
