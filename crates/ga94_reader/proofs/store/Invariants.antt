-- `ga94_reader::store` meets its contract. The loop's invariant: the bytes of the first i records are laid over zeros.
use mathlib.Core.Path.{◌≡◌}
use lib.ListN.{take, replicate}
use Rattle.lists.specs.Room.{over}
use Rattle.ga94.specs.Reading.{records_at}
use Rattle.ga94.specs.Lent.{records_bytes}
use Rattle.ga94_reader.proofs.store.Given as goal

abbrev pub invariant-loop-i : goal.invariant-loop-i
invariant-loop-i l = l.records ≡ over (records_bytes (take l.i (records_at l.n 7 l.body))) (replicate 124 0)
