-- At each return the tests that led there pick that check of `unit_verdict`.
use borrow.Author.Tests.{lt-ltb, le-ltb}
use Rattle.line21.specs.Writing.{unit_verdict}
use Rattle.line21_judge.proofs.judge_unit.Goals as goal
use Rattle.line21_judge.proofs.judge_unit.Goals.{then-u-gt1-via-then-u-gt1, then-u-gt1-via-else-u-gt1+then-u-gt1-2}

pub returns-then-u-gt1 : goal.returns-then-u-gt1
unfolding unit_verdict
returns-then-u-gt1 c =
    elim c.then-u-gt1.branch [
      | then-u-gt1-via-then-u-gt1 w ↦ simp (lt-ltb _ _ w.if-u-gt1.true)
      | then-u-gt1-via-else-u-gt1+then-u-gt1-2 w ↦ simp (le-ltb _ _ w.if-u-gt1.false, lt-ltb _ _ w.if-u-gt1-2.true)
    ]

pub returns-then-u-gt63 : goal.returns-then-u-gt63
unfolding unit_verdict
returns-then-u-gt63 c = simp (le-ltb _ _ c.if-u-gt1.false, le-ltb _ _ c.if-u-gt1-2.false, lt-ltb _ _ c.if-u-gt63.true)

pub returns : goal.returns
unfolding unit_verdict
returns c = simp (le-ltb _ _ c.if-u-gt1.false, le-ltb _ _ c.if-u-gt1-2.false, le-ltb _ _ c.if-u-gt63.false)
