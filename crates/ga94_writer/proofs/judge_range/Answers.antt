-- `ga94_writer::judge_range` meets its contract: at each return the tests that led there pick that check of `range_verdict`.
use borrow.Author.Tests.{lt-ltb, le-ltb}
use Rattle.ga94.specs.Writing.{range_verdict}
use Rattle.ga94_writer.proofs.judge_range.Goals as goal

pub returns-then-r-gt1 : goal.returns-then-r-gt1
unfolding range_verdict
returns-then-r-gt1 c = simp (lt-ltb _ _ c.if-r-gt1.true)

pub returns-then-r-gt3 : goal.returns-then-r-gt3
unfolding range_verdict
returns-then-r-gt3 c = simp (le-ltb _ _ c.if-r-gt1.false, lt-ltb _ _ c.if-r-gt3.true)

pub returns : goal.returns
unfolding range_verdict
returns c = simp (le-ltb _ _ c.if-r-gt1.false, le-ltb _ _ c.if-r-gt3.false)
