-- The answer of reading, by its verdict.
-- Assumes nothing.
use Prim.Native.Nat.{ℕ}
use mathlib.Core.Path.{◌≡◌, ◌∙◌, ap, ap₂, sym, refl}
use mathlib.Core.Bool.{true}
use mathlib.Core.List.{List}
use lib.ListN.{length, get_or, drop}
use Rattle.std.specs.Result.{is_err}
use Rattle.std.proofs.lemmas.Bool.{false≢true}
use Rattle.lists.specs.Bytes.{Bytes}
use Rattle.lists.proofs.FlatOf.{length_taken}
use Rattle.refusal.specs.declared.Refusal.{Refusal}
use Rattle.refusal.specs.Verdict.{Verdict}
use Rattle.refusal.specs.Verdict.{Accepted, Refused}
use Rattle.refusal.specs.Numbers.{refusal_of}
use Rattle.refusal.specs.Answers.{lent_of}
use Rattle.pes.specs.declared.Head.{Head}
use Rattle.pes.specs.Value.{DataField, stored}
use Rattle.pes.specs.Reading.{field_verdict, read_unit, unit_count, value_of}
use Rattle.pes.specs.Lent.{units_bytes, head_of, ReadsInto}

-- a head of a refusal and two numbers
abbrev head_with : ℕ → ℕ → Refusal → Head
head_with identifier n refusal = record { refusal = refusal; data_identifier = identifier; n = n }

refused-head : (v : Verdict) (found : DataField) → is_err v ≡ true → head_of v found ≡ head_with 0 0 (refusal_of v)
refused-head Accepted found e = absurd (false≢true e)
refused-head (Refused reason item) found e = refl

refused-lent : (v : Verdict) (new lent : List ℕ) → is_err v ≡ true → lent_of v new lent ≡ lent
refused-lent Accepted new lent e = absurd (false≢true e)
refused-lent (Refused reason item) new lent e = refl

module _ (s lent : List ℕ) (bytes : Bytes s) (verdict : Verdict) (same : verdict ≡ field_verdict s) (refusal : Refusal) (told : refusal ≡ refusal_of verdict) where
  -- a refusal answers zeros, and leaves the array as it was
  pub refused-into : is_err verdict ≡ true → ReadsInto s lent (head_with 0 0 refusal) lent
  refused-into e =
      record {
        bytes = bytes;
        answer = ap (head_with 0 0) told ∙ sym (refused-head verdict (value_of s) e) ∙ ap (λ (v : Verdict). head_of v (value_of s)) same;
        left =
            let new = units_bytes (stored (value_of s)).units in
            sym (refused-lent verdict new lent e) ∙ ap (λ (v : Verdict). lent_of v new lent) same;
      }

  -- else all of it is the value's units
  pub accepted-into : (found : List ℕ) → verdict ≡ Accepted → found ≡ units_bytes (stored (value_of s)).units
      → ReadsInto s lent (head_with (get_or s 0 0) (unit_count (length s)) refusal) found
  accepted-into found e laid =
      record {
        bytes = bytes;
        answer =
            ap₂ (λ (r : Refusal) (n : ℕ). head_with (get_or s 0 0) n r) (told ∙ ap refusal_of e) (sym (length_taken read_unit 46 (unit_count (length s)) (drop 1 s)))
            ∙ ap (λ (v : Verdict). head_of v (value_of s)) (sym e ∙ same);
        left = laid ∙ ap (λ (v : Verdict). lent_of v (units_bytes (stored (value_of s)).units) lent) (sym e ∙ same);
      }
