use Rattle.std.proofs.Common.{◌≡◌, ◌∙◌, length, get_or, sym, rules}
use Rattle.anc.specs.Words.{byte_of}
use Rattle.sdp_reader.proofs.Judged.{head-stopped}
use Rattle.sdp_reader.proofs.judge_head.Goals as goal

pub returns-in_err-judge_descriptors : goal.returns-in_err-judge_descriptors
returns-in_err-judge_descriptors c =
    let user = c.args.user.now in
    let three : byte_of (get_or user 2 0) ≡ length user = sym c.from.ensures ∙ c.if-from-n.false in
    search (rules, head-stopped)
