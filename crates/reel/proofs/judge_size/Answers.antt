-- `reel::judge_size` meets its contract: at each return the tests that led there pick that check of `size_verdict`.
use borrow.Author.Tests.{eq-eqb, ne_eqb, lt-ltb, le-ltb}
use Rattle.reel.specs.Writing.{size_verdict}
use Rattle.reel.proofs.judge_size.Goals as goal
use Rattle.reel.proofs.judge_size.Goals.{then-size-eq0-via-then-size-eq0, then-size-eq0-via-else-size-eq0+then-size-gt-MAX_UNITS}

pub returns-then-size-eq0 : goal.returns-then-size-eq0
unfolding size_verdict
returns-then-size-eq0 c =
    elim c.then-size-eq0.branch [
      | then-size-eq0-via-then-size-eq0 w ↦ simp (eq-eqb _ _ w.if-size-eq0.true)
      | then-size-eq0-via-else-size-eq0+then-size-gt-MAX_UNITS w ↦ simp (ne_eqb _ _ w.if-size-eq0.false, lt-ltb _ _ w.if-size-gt-MAX_UNITS.true)
    ]

pub returns : goal.returns
unfolding size_verdict
returns c = simp (ne_eqb _ _ c.if-size-eq0.false, le-ltb _ _ c.if-size-gt-MAX_UNITS.false)
