-- `sdp::user::judge_line` meets its contract: `line_verdict` is the check of a line from 6 on.
use Rattle.sdp.specs.User.{line_verdict}
use Rattle.sdp.proofs.user.judge_line.Goals as goal

pub returns : goal.returns
unfolding line_verdict
returns c = c.judge_line.ensures
