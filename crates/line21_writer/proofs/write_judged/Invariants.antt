-- The flags byte and the first k units are laid over the output.
use Rattle.std.proofs.Common.{◌≡◌, ℕ, List, ◌∷◌, take}
use Rattle.lists.specs.Room.{over}
use Rattle.line21.specs.Layout.{layout_access_units}
use Rattle.line21.specs.Lent.{access_units_in}
use Rattle.line21_writer.proofs.write_judged.Given as goal

-- what the first k units have laid so far
abbrev pub front : ℕ → List ℕ → ℕ → List ℕ
front flags units k = flags ∷ layout_access_units (take k (access_units_in units))

abbrev pub invariant-loop-k : goal.invariant-loop-k
invariant-loop-k l = l.out ≡ over (front l.flags l.units l.k) l.initial.out
