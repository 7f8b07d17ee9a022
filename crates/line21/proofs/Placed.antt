-- Where reading a payload refuses: at its length, which is wrong.
-- Assumes nothing.
use Prim.Native.Nat.{ℕ, ◌-◌, ◌%◌}
use native.Mathlib.Omega.{arith}
use mathlib.Core.Path.{◌≡◌, ◌∙◌, ap, sym, subst, refl}
use mathlib.Core.Bool.{not}
use mathlib.Core.List.{List}
use borrow.Author.Tests.{eqb-true, eqb-false, ltb-true, not-true}
use lib.Dec.{eqb, ltb}
use lib.ListN.{length}
use Rattle.refusal.specs.declared.Refusal.{Refusal}
use Rattle.refusal.specs.declared.Reason.{Reason}
use Rattle.refusal.specs.declared.Reason.TheVariants.{NoStart, TooLong, Unfit}
use Rattle.refusal.specs.declared.Misfit.TheVariants.{PayloadLength}
use Rattle.refusal.specs.declared.Item.{Item}
use Rattle.refusal.specs.declared.Item.TheVariants.{Length}
use Rattle.refusal.specs.Numbers.{number_of, place_of, refusal_of}
use Rattle.refusal.proofs.Only.{Only, accepted-only, refuse_if-only, and_then-only, told-only}
use Rattle.line21.specs.declared.Answer.{Answer}
use Rattle.line21.specs.Reading.{length_verdict, unit_count, value_of, Reads}
use Rattle.line21.specs.Places.{Stands, empty_2, long_1, units_13}
use Rattle.line21.proofs.Answers.{answer-refusal, accepted-length}
use Rattle.line21.proofs.Length.{WholeUnits}

module _ (s : List ℕ) where
  abbrev Placed : Reason → Item → Type 0
  Placed reason item = Stands s (number_of reason) (place_of item)

  length-only : Only Placed (length_verdict (length s))
  unfolding length_verdict
  length-only =
      let n = length s in
      and_then-only Placed _ _ (refuse_if-only Placed (eqb n 0) NoStart (Length n) (λ e. empty_2 refl refl (eqb-true n 0 e))) (λ some.
      and_then-only Placed _ _ (refuse_if-only Placed (ltb 1456 n) TooLong (Length n) (λ e. long_1 refl refl (ltb-true 1456 n e))) (λ within.
      and_then-only Placed _ _ (refuse_if-only Placed (not (eqb ((n - 1) % 5) 0)) (Unfit PayloadLength) (Length n) (λ e.
      units_13 refl refl (λ m whole. eqb-false ((n - 1) % 5) 0 (not-true _ e) (omega arith)))) (λ whole.
      accepted-only Placed)))

pub place-means : (s : List ℕ) (r : Answer) → Reads s r → (r.refusal.number ≡ 0 → ⊥)
    → Stands s r.refusal.number r.refusal.place
place-means s r p h =
    let verdict = length_verdict (length s) in
    let told : r.refusal ≡ refusal_of verdict = ap (λ (a : Answer). a.refusal) p.answer ∙ answer-refusal verdict (value_of s) in
    subst (λ (x : Refusal). Stands s x.number x.place) (sym told)
    (told-only (Stands s) verdict (length-only s) (λ e. h (ap (λ (x : Refusal). x.number) told ∙ e)))

stands-length : (s : List ℕ) (number place : ℕ) → Stands s number place → place ≡ length s
stands-length s number place (empty_2 n here none) = here
stands-length s number place (long_1 n here many) = here
stands-length s number place (units_13 n here other) = here

pub place-length : (s : List ℕ) (r : Answer) → Reads s r → (r.refusal.number ≡ 0 → ⊥) → r.refusal.place ≡ length s
place-length s r p h = stands-length s _ _ (place-means s r p h)

-- a payload that is accepted has one flags byte and 0 to 291 units
accepted-stands : (s : List ℕ) → WholeUnits (length s) → (number place : ℕ) → Stands s number place → ⊥
accepted-stands s whole number place (empty_2 n here none) = omega (arith, whole.exact)
accepted-stands s whole number place (long_1 n here many) = omega (arith, whole.exact, whole.most)
accepted-stands s whole number place (units_13 n here other) = other (unit_count (length s)) whole.exact

pub stands-refused : (s : List ℕ) (r : Answer) → Reads s r → (number place : ℕ) → Stands s number place
    → r.refusal.number ≡ 0 → ⊥
stands-refused s r p number place stands e = accepted-stands s (accepted-length s (sym (ap (λ (a : Answer). a.refusal.number) p.answer) ∙ e)) number place stands
