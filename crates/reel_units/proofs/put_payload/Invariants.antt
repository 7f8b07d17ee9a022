-- The flags byte and the first k units are laid over the output.
use Rattle.std.proofs.Common.{◌≡◌, ℕ, ◌+◌, ◌*◌, List, ◌∷◌, take}
use Rattle.lists.specs.Room.{over}
use Rattle.line21.specs.declared.AccessUnit.{AccessUnit}
use Rattle.line21.specs.Layout.{layout_access_units}
use Rattle.reel_units.proofs.put_payload.Given as goal

-- what the first k units have laid so far
abbrev pub front : ℕ → List AccessUnit → ℕ → List ℕ
front flags us k = flags ∷ layout_access_units (take k us)

abbrev pub invariant-loop-unit : goal.invariant-loop-unit
invariant-loop-unit l = (l.at ≡ 1 + 5 * l.unit-index) × (l.out ≡ over (front l.flags l.units l.unit-index) l.initial.out)
