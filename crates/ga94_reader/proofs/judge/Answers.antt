-- `ga94_reader::judge` meets its contract: a yes of the quick look vouches for the body, and after a no the checks decide.
use mathlib.Core.Path.{sym}
use Rattle.ga94_reader.proofs.judge.Goals as goal

pub returns-then-is_clean : goal.returns-then-is_clean
returns-then-is_clean c = sym (c.is_clean.ensures c.if-is_clean.true)

pub returns : goal.returns
returns c = c.first_wrong.ensures
