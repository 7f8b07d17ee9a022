-- What the loop of `put_units` keeps: the bytes of the first i units are laid over the output.
use Prim.Native.Nat.{ℕ}
use mathlib.Core.Path.{◌≡◌}
use mathlib.Core.List.{List}
use Rattle.lists.specs.Flat.{taken}
use Rattle.lists.specs.Room.{over}
use Rattle.pes.specs.Layout.{layout_units}
use Rattle.pes.specs.Lent.{unit_in}
use Rattle.pes_writer.proofs.put_units.Given as goal

-- the bytes of the first i units
abbrev pub front : List ℕ → ℕ → List ℕ
front s i = layout_units (taken unit_in 45 i s)

abbrev pub invariant-loop-i : goal.invariant-loop-i
invariant-loop-i l = l.out ≡ over (front l.units l.i) l.initial.out
