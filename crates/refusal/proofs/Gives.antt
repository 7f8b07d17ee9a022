-- Which refusals an order of checks can give: those of its checks and no others.
-- Assumes nothing.
use Prim.Native.Nat.{ℕ}
use mathlib.Core.Path.{◌≡◌, ap, subst, sym, refl}
use mathlib.Core.Logic.{◌⊎◌, inl, inr, ⊎_elim}
use mathlib.Core.Bool.{Bool, true, false}
use mathlib.Core.List.{List, [], ◌∷◌, map}
use lib.Dec.{ltb}
use Rattle.lists.specs.Each.{Each}
use Rattle.refusal.specs.declared.Reason.{Reason}
use Rattle.refusal.specs.declared.Reason.TheVariants.{TooLong, NoRoom}
use Rattle.refusal.specs.declared.Item.{Item}
use Rattle.refusal.specs.declared.Item.TheVariants.{Whole}
use Rattle.refusal.specs.declared.Refusal.{Refusal}
use Rattle.refusal.specs.Verdict.{Verdict}
use Rattle.refusal.specs.Verdict.{Accepted, Refused}
use Rattle.refusal.specs.Numbers.{refusal_of}
use Rattle.refusal.specs.Answers.{refused}
use Rattle.refusal.specs.Checks.{refuse_if, and_then, first, fit_verdict}
use Rattle.refusal.proofs.Checks.{and_then-refused}

module _ (P : Refusal → Type 0) where
  -- a verdict that, where it refuses, gives a refusal of which P holds
  abbrev pub Gives : Verdict → Type 0
  Gives verdict = (verdict ≡ Accepted) ⊎ P (refusal_of verdict)

  pub refuse_if-gives : (fault : Bool) (reason : Reason) (item : Item) → P (refusal_of (Refused reason item)) → Gives (refuse_if fault reason item)
  refuse_if-gives true reason item p = inr p
  refuse_if-gives false reason item p = inl refl

  pub and_then-gives : (check next : Verdict) → Gives check → Gives next → Gives (and_then check next)
  and_then-gives Accepted next g h = h
  and_then-gives (Refused reason item) next g h = g

  pub each-gives : {A : Type 0} (check : A → Verdict) → ((x : A) → Gives (check x)) → (xs : List A) → Gives (first (map check xs))
  each-gives check g [] = inl refl
  each-gives check g (x ∷ xs) = and_then-gives (check x) (first (map check xs)) (g x) (each-gives check g xs)

  pub all-gives : (checks : List Verdict) → Each Gives checks → Gives (first checks)
  all-gives [] g = inl refl
  all-gives (check ∷ checks) g = and_then-gives check (first checks) g.0 (all-gives checks g.1)

  -- where the checks that come first do not accept, theirs is the refusal
  pub refused-gives : (check next : Verdict) → Gives check → (check ≡ Accepted → ⊥) → P (refusal_of (and_then check next))
  refused-gives check next g refused =
      subst (λ (verdict : Verdict). P (refusal_of verdict)) (sym (and_then-refused check next refused)) (⊎_elim (λ e. absurd (refused e)) (λ p. p) g)

  -- a verdict whose refusals are of one sort
  pub gives_as : (Q : Refusal → Type 0) → ((r : Refusal) → P r → Q r) → (verdict : Verdict) → Gives verdict → (verdict ≡ Accepted) ⊎ Q (refusal_of verdict)
  gives_as Q follows verdict g = ⊎_elim (λ e. inl e) (λ p. inr (follows (refusal_of verdict) p)) g

-- refusals without a place, as those of writing
abbrev pub Unplaced : Refusal → Type 0
Unplaced r = r.place ≡ 0

pub refused-unplaced : (number : ℕ) (r : Refusal) → r ≡ refused number 0 → Unplaced r
refused-unplaced number r e = ap (λ (x : Refusal). x.place) e

pub fit-unplaced : (limit size room : ℕ) → Gives Unplaced (fit_verdict limit size room)
fit-unplaced limit size room =
    and_then-gives Unplaced _ _ (refuse_if-gives Unplaced (ltb limit size) TooLong Whole refl)
    (and_then-gives Unplaced _ _ (refuse_if-gives Unplaced (ltb room size) NoRoom Whole refl) (inl refl))

pub gives-unplaced : (verdict : Verdict) → Gives Unplaced verdict → (refusal_of verdict).place ≡ 0
gives-unplaced verdict g = ⊎_elim (λ e. ap (λ (v : Verdict). (refusal_of v).place) e) (λ p. p) g
