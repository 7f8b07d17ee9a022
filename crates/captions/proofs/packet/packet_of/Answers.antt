-- `captions::packet::packet_of` meets its contract: each turn stores the slot of its index.
use native.Mathlib.Omega.{arith}
use Prim.Native.Nat.{◌<◌}
use mathlib.Core.Path.{◌∙◌, sym}
use lib.ListN.{length}
use Rattle.lists.specs.Flat.{taken}
use Rattle.lists.proofs.Fill.{filled_next}
use Rattle.lists.proofs.Flat.{length_taken, get_d-taken}
use Rattle.sdp.specs.User.{slot_of}
use Rattle.captions.specs.Calls.{slot_in}
use Rattle.captions.proofs.packet.packet_of.Goals as goal

pub loop-i-preserved : goal.loop-i-preserved
loop-i-preserved c =
    let s = c.args.bytes.now in
    let i = c.loop-i.i in
    let inside : i < length (taken slot_in 4 5 s) = omega (arith, length_taken slot_in 4 5 s, c.loop-i-test.true) in
    filled_next (taken slot_in 4 5 s) 5 (slot_of 0) i c.loop-i-test.true inside c.loop-i.slots c.slot_from.result c.loop-i.invariant
    (c.slot_from.ensures ∙ sym (get_d-taken slot_in 4 (slot_of 0) 5 i s c.loop-i-test.true))
