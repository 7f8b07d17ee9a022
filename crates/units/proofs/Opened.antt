-- Which bytes open a unit, and what the checks of an area's front say.
-- Assumes nothing.
use Prim.Native.Nat.{ℕ, ◌≤◌, ◌<◌}
use native.Mathlib.Omega.{arith}
use mathlib.Core.Path.{◌≡◌, ◌∙◌, ap, ap₂, refl}
use mathlib.Core.Bool.{Bool, true, false, not, ◌&&◌, and-false, and-eq-true_iff}
use mathlib.Core.List.{List, [], ◌∷◌}
use borrow.Author.Tests.{ne_eqb, lt-ltb, le-ltb, not-false}
use lib.Dec.{eqb, ltb}
use lib.ListN.{length, get_or, get_or-eq_default}
use Rattle.refusal.specs.Verdict.{Verdict}
use Rattle.refusal.specs.Verdict.{Accepted, Refused}
use Rattle.refusal.specs.declared.Reason.TheVariants.{TooLong, NoStart}
use Rattle.refusal.specs.declared.Item.TheVariants.{Whole}
use Rattle.refusal.specs.Checks.{refuse_if, and_then, first}
use Rattle.refusal.proofs.Checks.{accepted-and_then, accepted-refuse_if, accepted-within}
use Rattle.units.specs.Layout.{prefixed}
use Rattle.units.specs.Split.{opened, empty, front_verdict}
use Rattle.units.proofs.Reach.{first-other, second-other, third-other}

-- the front's two checks, by what their tests say
abbrev checked : Bool → Bool → Verdict
checked long lacks = first (refuse_if long TooLong Whole ∷ refuse_if lacks NoStart Whole ∷ [])

module _ (s : List ℕ) where
  -- a byte that is another, or missing, opens no unit
  pub unopened : prefixed s ≡ false → opened s ≡ false
  unopened e = ap (λ (t : Bool). t && eqb (get_or s 3 0) 0xB2) e

  pub fourth-unopened : (get_or s 3 0 ≡ 0xB2 → ⊥) → opened s ≡ false
  fourth-unopened h = ap (λ (t : Bool). prefixed s && t) (ne_eqb (get_or s 3 0) 0xB2 h) ∙ and-false (prefixed s)

  pub short-unopened : length s < 4 → opened s ≡ false
  short-unopened h = fourth-unopened (λ e. let past : length s ≤ 3 = omega arith in omega (arith, get_or-eq_default s 0 past))

  -- what the front's checks say
  pub front_long : 16384 < length s → front_verdict s ≡ Refused TooLong Whole
  unfolding front_verdict
  front_long h = simp (lt-ltb 16384 (length s) h)

  pub front-opened : length s ≤ 16384 → opened s ≡ true → front_verdict s ≡ Accepted
  unfolding front_verdict
  front-opened h e =
      ap₂ checked (le-ltb 16384 (length s) h) (ap (λ (t : Bool). not (empty s) && not t) e ∙ and-false (not (empty s)))

pub first-unopened : (s : List ℕ) → (get_or s 0 0 ≡ 0 → ⊥) → opened s ≡ false
first-unopened [] h = refl
first-unopened (a ∷ s) h = unopened (a ∷ s) (first-other a s h)

pub second-unopened : (s : List ℕ) → (get_or s 1 0 ≡ 0 → ⊥) → opened s ≡ false
second-unopened [] h = refl
second-unopened (a ∷ []) h = refl
second-unopened (a ∷ b ∷ s) h = unopened (a ∷ b ∷ s) (second-other a b s h)

pub third-unopened : (s : List ℕ) → (get_or s 2 0 ≡ 1 → ⊥) → opened s ≡ false
third-unopened [] h = refl
third-unopened (a ∷ []) h = refl
third-unopened (a ∷ b ∷ []) h = refl
third-unopened (a ∷ b ∷ c ∷ s) h = unopened (a ∷ b ∷ c ∷ s) (third-other a b c s h)

pub front-unopened : (s : List ℕ) → length s ≤ 16384 → (length s ≡ 0 → ⊥) → opened s ≡ false → front_verdict s ≡ Refused NoStart Whole
unfolding front_verdict
front-unopened [] h some e = absurd (some refl)
front-unopened (b ∷ s) h some e = ap₂ checked (le-ltb 16384 (length (b ∷ s)) h) (ap not e)

-- a front that is accepted is short,
pub accepted-short : (s : List ℕ) → front_verdict s ≡ Accepted → length s ≤ 16384
unfolding front_verdict
accepted-short s e = accepted-within 16384 (length s) TooLong Whole (accepted-and_then (refuse_if (ltb 16384 (length s)) TooLong Whole) _ e).0

-- and begins with 00 00 01 where it is not empty
pub accepted-prefixed : (s : List ℕ) → front_verdict s ≡ Accepted → 0 < length s → prefixed s ≡ true
unfolding front_verdict
accepted-prefixed [] e h = let f : ⊥ = omega arith in absurd f
accepted-prefixed (b ∷ s) e h =
    let lacks = not (opened (b ∷ s)) in
    let second = (accepted-and_then (refuse_if (ltb 16384 (length (b ∷ s))) TooLong Whole) (and_then (refuse_if lacks NoStart Whole) Accepted) e).1 in
    let opens = not-false (opened (b ∷ s)) (accepted-refuse_if lacks NoStart Whole (accepted-and_then (refuse_if lacks NoStart Whole) Accepted second).0) in
    ((and-eq-true_iff (prefixed (b ∷ s)) (eqb (get_or (b ∷ s) 3 0) 0xB2)).0 opens).0
