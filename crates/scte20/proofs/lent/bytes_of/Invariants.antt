-- `scte20::lent::bytes_of` meets its contract. The loop's invariant: the first i records are laid over the zeros.
use mathlib.Core.Path.{◌≡◌}
use lib.ListN.{take, replicate}
use Rattle.lists.specs.Room.{over}
use Rattle.scte20.specs.Lent.{records_bytes}
use Rattle.scte20.proofs.lent.bytes_of.Given as goal

abbrev pub invariant-loop-i : goal.invariant-loop-i
invariant-loop-i l = l.bytes ≡ over (records_bytes (take l.i l.unit.records)) (replicate 155 0)
