-- The check of a line: 0, or one of those from `low` to 22.
-- Assumes nothing.
use Prim.Native.Nat.{ℕ, zero, suc, ◌≤◌, ◌<◌}
use native.Mathlib.Omega.{arith}
use mathlib.Core.Path.{◌≡◌, ◌∙◌, ap, sym, refl}
use mathlib.Core.Logic.{◌⊎◌, inl, inr, ⊎_elim}
use mathlib.Core.Bool.{Bool, true, false, ◌&&◌, ◌||◌, and-false, true≢false}
use borrow.Author.Tests.{lt-ltb, le-ltb, ltb-false}
use lib.Dec.{ltb}
use Rattle.refusal.specs.Checks.{outside}

or-false-both : (a b : Bool) → (a || b) ≡ false → (a ≡ false) × (b ≡ false)
or-false-both true b e = absurd (true≢false e)
or-false-both false b e = (refl, e)

module _ (low : ℕ) where
  abbrev pub Among : ℕ → Type 0
  Among l = (l ≡ 0) ⊎ ((low ≤ l) × (l ≤ 22))

  pub not-outside : (l : ℕ) → outside low l ≡ false → Among l
  not-outside zero e = inl refl
  not-outside (suc m) e =
      let some : 0 < suc m = omega arith in
      let both : (ltb (suc m) low || ltb 22 (suc m)) ≡ false = sym (ap (λ (b : Bool). b && (ltb (suc m) low || ltb 22 (suc m))) (lt-ltb 0 (suc m) some)) ∙ e in
      let each = or-false-both (ltb (suc m) low) (ltb 22 (suc m)) both in
      inr (ltb-false (suc m) low each.0, ltb-false 22 (suc m) each.1)

  none_inside : (l : ℕ) → l ≡ 0 → outside low l ≡ false
  none_inside l e = let none : l ≤ 0 = omega arith in simp (le-ltb 0 l none)

  some-inside : (l : ℕ) → (low ≤ l) × (l ≤ 22) → outside low l ≡ false
  some-inside l h = simp (le-ltb l low h.0, le-ltb 22 l h.1, and-false)

  pub among-inside : (l : ℕ) → Among l → outside low l ≡ false
  among-inside l h = ⊎_elim (none_inside l) (some-inside l) h
