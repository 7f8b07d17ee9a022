-- `subtitling::holds` meets its contract: a yes stands behind every check of `packet_verdict`.
use Rattle.std.proofs.Common.{◌∙◌, arith}
use Rattle.subtitling.proofs.Vouched.{found-accepted, found-user}
use Rattle.subtitling.proofs.holds.Goals as goal

pub returns-then-words-n : goal.returns-then-words-n
returns-then-words-n c is =
    let s = c.args.words.now in
    let all = c.in-Some.all in
    let frame = c.surround_holds.ensures c.if-not-surround_holds.false in
    let summed = c.in-Some.ensures in
    let user = found-user s all frame summed.0 summed.1 (omega (arith, c.type_inv.words 5)) in
    found-accepted s all frame summed.0 summed.1 (c.if-words-n.true ∙ c.cs.ensures) (c.holds.ensures user is 5)
