-- An output over whose front a start code is stored: where it has room for one, the four bytes stand before the rest; else it is as it was.
-- Assumes nothing.
use Prim.Native.Nat.{ℕ, ◌≤◌, ◌<◌}
use native.Mathlib.Omega.{arith}
use mathlib.Core.Path.{◌≡◌, refl}
use mathlib.Core.List.{List, [], ◌∷◌}
use lib.ListN.{length, drop}
use Rattle.units.specs.Layout.{layout_unit, started}

pub started-short : (out : List ℕ) → length out < 4 → started out ≡ out
started-short [] h = refl
started-short (a ∷ []) h = refl
started-short (a ∷ b ∷ []) h = refl
started-short (a ∷ b ∷ c ∷ []) h = refl
started-short (a ∷ b ∷ c ∷ d ∷ out) h = let f : ⊥ = omega arith in absurd f

pub started-long : (out : List ℕ) → 4 ≤ length out → started out ≡ layout_unit (drop 4 out)
started-long [] h = let f : ⊥ = omega arith in absurd f
started-long (a ∷ []) h = let f : ⊥ = omega arith in absurd f
started-long (a ∷ b ∷ []) h = let f : ⊥ = omega arith in absurd f
started-long (a ∷ b ∷ c ∷ []) h = let f : ⊥ = omega arith in absurd f
started-long (a ∷ b ∷ c ∷ d ∷ out) h = refl
