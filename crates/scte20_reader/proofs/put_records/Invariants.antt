-- `scte20_reader::put_records` meets its contract. The loop's invariant: the bytes of i records are laid over the front of the array.
use mathlib.Core.Path.{◌≡◌}
use lib.ListN.{take}
use Rattle.lists.specs.Room.{over}
use Rattle.scte20.specs.Lent.{records_bytes}
use Rattle.scte20_gather.specs.Inside.{records_of}
use Rattle.scte20_reader.proofs.put_records.Given as goal

abbrev pub invariant-loop-i : goal.invariant-loop-i
invariant-loop-i l = l.records ≡ over (records_bytes (take l.i (records_of l.n 0 l.found))) l.initial.records
