use Prim.Native.Nat.{ℕ, ◌+◌, ◌<◌}
use native.Mathlib.Omega.{arith}
use mathlib.Core.Path.{◌∙◌, ap}
use lib.ListN.{length, get_or, take}
use Rattle.anc.specs.Words.{byte_of}
use Rattle.sdp.specs.Layout.{count}
use Rattle.sdp.specs.User.{mark_of}
use Rattle.sdp.proofs.Slots.{mark-some}
use Rattle.sdp.proofs.Descriptors.{count-more, descriptor-at, length-descriptors}
use Rattle.sdp_reader.proofs.structures.Invariants.{descriptors}
use Rattle.sdp_reader.proofs.structures.Goals.{else-user-i-ne0, then-user-i-ne0}
use Rattle.sdp_reader.proofs.structures.Goals as goal

pub loop-i-preserved : goal.loop-i-preserved
loop-i-preserved c =
    let user = c.args.user.now in
    let i = c.loop-i.i in
    let below : i < 5 = omega arith in
    let inside : i < length (descriptors user) = omega (arith, length-descriptors user c.requires) in
    let more = count-more (descriptors user) i inside ∙ ap (λ (d : ℕ). count (take i (descriptors user)) + mark_of d) (descriptor-at user i below) in
    elim c.if-user-i-ne0.branch [
      | then-user-i-ne0 w ↦ let one = mark-some (byte_of (get_or user (4 + i) 0)) w.if-user-i-ne0.true in (omega arith, omega arith)
      | else-user-i-ne0 w ↦ let none = ap mark_of w.if-user-i-ne0.false in (omega arith, omega arith)
    ]
