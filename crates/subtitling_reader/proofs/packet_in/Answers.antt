use Rattle.std.proofs.Common.{◌<◌, length, map, drop, sym, ap, ap₂, ◌∙◌, arith}
use lib.ListN.{get_or-map, replicate}
use Rattle.lists.proofs.Fill.{filled_next, filled-all}
use Rattle.anc.specs.Words.{byte_of}
use Rattle.sdp.specs.declared.Slot.{Slot}
use Rattle.sdp.specs.User.{descriptors_in, slot_of}
use Rattle.sdp.proofs.Descriptors.{descriptor-at}
use Rattle.subtitling.proofs.Rows.{slots-numbers}
use Rattle.subtitling_reader.proofs.Told.{all_slots, length-all_slots, counter-words, made}
use Rattle.subtitling_reader.proofs.packet_in.Goals as goal

pub loop-i-init : goal.loop-i-init
loop-i-init c = ap (λ (slot : Slot). replicate 5 slot) c.slot_of-slots.ensures

pub loop-i-preserved : goal.loop-i-preserved
loop-i-preserved c =
    let user = c.args.user.now in
    let i = c.loop-i.i in
    let inside : i < length (all_slots user) = omega (arith, length-all_slots user c.requires) in
    let here = get_or-map slot_of (descriptors_in (map byte_of user)) i 0 ∙ ap slot_of (descriptor-at user i c.loop-i-test.true) in
    filled_next (all_slots user) 5 (slot_of 0) i c.loop-i-test.true inside _ c.slot_of.result c.loop-i.invariant (c.slot_of.ensures ∙ sym here)

pub returns : goal.returns
unfolding made
returns c =
    let user = c.args.user.now in
    let u = map byte_of user in
    ap₂ made (counter-words user)
    (c.loop-i.invariant
    ∙ filled-all (all_slots user) 5 (slot_of 0) (length-all_slots user c.requires) c.loop-i.i c.loop-i-test.false
    ∙ sym (slots-numbers (descriptors_in u) (drop 9 u)))
