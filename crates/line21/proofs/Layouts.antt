-- The layout of units, one after the other.
-- Assumes nothing.
use Prim.Native.Nat.{ℕ, ◌+◌, ◌*◌, ◌<◌}
use native.Mathlib.Numerals.{add-one}
use mathlib.Core.Path.{◌≡◌, ◌∙◌, ap, refl}
use mathlib.Core.List.{List, ◌++◌}
use lib.ListN.{length, take, get_or}
use lib.Seq.{take-suc}
use Rattle.lists.proofs.Flat.{length-flat, flat-more}
use Rattle.line21.specs.declared.AccessUnit.{AccessUnit}
use Rattle.line21.specs.Value.{blank}
use Rattle.line21.specs.Layout.{layout_access_unit, layout_access_units}

pub length-layout_units : (us : List AccessUnit) → length (layout_access_units us) ≡ 5 * length us
length-layout_units = length-flat layout_access_unit 5 (λ u. refl)

-- one unit more is laid behind the others
pub layout_units-more : (us : List AccessUnit) (i : ℕ) → i < length us → layout_access_units (take (i + 1) us) ≡ layout_access_units (take i us) ++ layout_access_unit (get_or us i blank)
layout_units-more us i h =
    ap (λ (vs : List AccessUnit). layout_access_units vs) (ap (λ (k : ℕ). take k us) (add-one i) ∙ take-suc us i blank h)
    ∙ flat-more layout_access_unit (take i us) (get_or us i blank)
