-- What the loop of `put_units` keeps: the bytes of the first i units are laid over the array.
use Prim.Native.Nat.{ℕ}
use mathlib.Core.Path.{◌≡◌}
use mathlib.Core.List.{List}
use Rattle.lists.specs.Flat.{taken}
use Rattle.lists.specs.Room.{over}
use Rattle.pes.specs.Reading.{read_unit}
use Rattle.pes.specs.Lent.{units_bytes}
use Rattle.pes_reader.proofs.put_units.Given as goal

-- the bytes of the first i units
abbrev pub front : List ℕ → ℕ → List ℕ
front s i = units_bytes (taken read_unit 46 i s)

abbrev pub invariant-loop-i : goal.invariant-loop-i
invariant-loop-i l = l.units ≡ over (front l.s l.i) l.initial.units
