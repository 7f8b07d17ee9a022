use Rattle.std.proofs.Common.{◌≡◌, ◌+◌, ◌*◌, ◌∙◌, length, map, sym, arith}
use mathlib.Core.Bool.{false≢true}
use borrow.Author.Tests.{eqb-true}
use Rattle.anc.specs.Words.{byte_of}
use Rattle.sdp.specs.Layout.{user_length}
use Rattle.sdp.specs.User.{structures_in}
use Rattle.sdp_reader.proofs.Judged.{opens-passed}
use Rattle.sdp_reader.proofs.head_holds.Goals.{then-opens, else-opens}
use Rattle.sdp_reader.proofs.head_holds.Goals as goal

pub returns-then-lines_hold : goal.returns-then-lines_hold
returns-then-lines_hold c is place =
    let user = c.args.user.now in
    let whole : length user ≡ user_length (structures_in (map byte_of user)) = omega (arith, eqb-true (length user) (13 + 45 * c.structures.result) is, c.structures.ensures) in
    elim c.if-opens.branch [
      | then-opens w ↦ opens-passed user place (c.opens.ensures w.if-opens.true) (w.lines_hold.ensures (sym w.value-is ∙ c.if-lines_hold.true) place) whole
      | else-opens w ↦ absurd (false≢true (sym w.if-opens.false ∙ sym w.value-is ∙ c.if-lines_hold.true))
    ]
