-- Where an order of checks can refuse: where P holds of the reason and the item of each check that is reached.
-- Assumes nothing.
use Prim.Native.Nat.{ℕ, ◌≤◌}
use mathlib.Core.Path.{◌≡◌, subst, refl}
use mathlib.Core.Bool.{Bool, true, false}
use Rattle.refusal.specs.declared.Reason.{Reason}
use Rattle.refusal.specs.declared.Item.{Item}
use Rattle.refusal.specs.declared.Item.TheVariants.{Bit}
use Rattle.refusal.specs.Verdict.{Verdict}
use Rattle.refusal.specs.Verdict.{Accepted, Refused}
use Rattle.refusal.specs.Numbers.{number_of, place_of, refusal_of}
use Rattle.refusal.specs.Checks.{refuse_if, and_then}
use Rattle.refusal.specs.Answers.{AtBit}

module _ (P : Reason → Item → Type 0) where
  -- a verdict that refuses only where P holds of the reason and the item
  abbrev pub Only : Verdict → Type 0
  Only verdict = (reason : Reason) (item : Item) → verdict ≡ Refused reason item → P reason item

  abbrev Keeps : Verdict → Type 0
  Keeps Accepted = Unit {0}
  Keeps (Refused reason item) = P reason item

  pub accepted-only : Only Accepted
  accepted-only reason item e = subst Keeps e tt

  pub refused-only : (reason : Reason) (item : Item) → P reason item → Only (Refused reason item)
  refused-only reason item p r i e = subst Keeps e p

  -- a check refuses only where its test finds a fault
  pub refuse_if-only : (fault : Bool) (reason : Reason) (item : Item) → (fault ≡ true → P reason item) → Only (refuse_if fault reason item)
  refuse_if-only true reason item p = refused-only reason item (p refl)
  refuse_if-only false reason item p = accepted-only

  -- a check is reached only where those before it accept
  pub and_then-only : (check next : Verdict) → Only check → (check ≡ Accepted → Only next) → Only (and_then check next)
  and_then-only Accepted next p q = q refl
  and_then-only (Refused reason item) next p q = p

-- a check at a bit
pub bit-only : (limit : ℕ) (P : ℕ → ℕ → Type 0) (fault : Bool) (reason : Reason) (b : ℕ) → b ≤ limit → (fault ≡ true → P (number_of reason) b)
    → Only (AtBit limit P) (refuse_if fault reason (Bit b))
bit-only limit P fault reason b h stands =
    refuse_if-only (AtBit limit P) fault reason (Bit b) (λ e. record { bit = b; here = refl; within = h; stands = stands e })

-- what is told of a verdict that refuses
pub told-only : (P : ℕ → ℕ → Type 0) (verdict : Verdict) → Only (λ (reason : Reason) (item : Item). P (number_of reason) (place_of item)) verdict
    → ((refusal_of verdict).number ≡ 0 → ⊥) → P (refusal_of verdict).number (refusal_of verdict).place
told-only P Accepted only h = absurd (h refl)
told-only P (Refused reason item) only h = only reason item refl
