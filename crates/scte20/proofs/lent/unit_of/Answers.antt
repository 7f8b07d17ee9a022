-- `scte20::lent::unit_of` meets its contract. The loop's invariant: the first i records are stored, with blanks beyond.
use Prim.Native.Nat.{◌<◌}
use native.Mathlib.Omega.{arith}
use lib.ListN.{length}
use Rattle.lists.proofs.Fill.{filled_next}
use Rattle.scte20.specs.Value.{blank}
use Rattle.scte20.specs.Lent.{lent_records}
use Rattle.scte20.proofs.Lending.{lent_length}
use Rattle.scte20.proofs.lent.unit_of.Goals as goal

pub loop-i-preserved : goal.loop-i-preserved
loop-i-preserved c =
    let turn = c in
    let at = turn.loop-i in
    let s = turn.args.bytes.now in
    let inside : at.i < length (lent_records s) = omega (arith, lent_length s) in
    filled_next (lent_records s) 31 blank at.i turn.loop-i-test.true inside at.records c.record_in.result at.invariant c.record_in.ensures
