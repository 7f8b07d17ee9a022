-- `scte20_reader::read_constructs` meets its contract. The loop's invariant: i constructs are read and accepted, `last` is what counts of their
-- records, and the records' bytes are laid over the front of the array.
use Rattle.bits.specs.Bits.{bits_of}
use Rattle.scte20.proofs.Stepwise.{Going}
use Rattle.scte20_reader.proofs.read_constructs.Given as goal

abbrev pub invariant-loop-i : goal.invariant-loop-i
invariant-loop-i l = Going (bits_of l.body) l.n l.initial.records l.records l.last l.i
