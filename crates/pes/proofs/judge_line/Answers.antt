-- `pes::judge_line` meets its contract: `line_verdict` is the check of a line from 7 on.
use Rattle.pes.specs.Reading.{line_verdict}
use Rattle.pes.proofs.judge_line.Goals as goal

pub returns : goal.returns
unfolding line_verdict
returns c = c.judge_line.ensures
