-- `ga94_writer::judge_whole` meets its contract: at each return the tests that led there pick that check of `whole_verdict`.
use borrow.Author.Tests.{lt-ltb, le-ltb}
use Rattle.ga94.specs.Writing.{whole_verdict}
use Rattle.ga94_writer.proofs.judge_whole.Goals as goal

pub returns-then-v-gt-MAX_RECORDS : goal.returns-then-v-gt-MAX_RECORDS
unfolding whole_verdict
returns-then-v-gt-MAX_RECORDS c = simp (lt-ltb _ _ c.if-v-gt-MAX_RECORDS.true)

pub returns-then-v-gt1 : goal.returns-then-v-gt1
unfolding whole_verdict
returns-then-v-gt1 c = simp (le-ltb _ _ c.if-v-gt-MAX_RECORDS.false, lt-ltb _ _ c.if-v-gt1.true)

pub returns-then-v-gt1-2 : goal.returns-then-v-gt1-2
unfolding whole_verdict
returns-then-v-gt1-2 c = simp (le-ltb _ _ c.if-v-gt-MAX_RECORDS.false, le-ltb _ _ c.if-v-gt1.false, lt-ltb _ _ c.if-v-gt1-2.true)

pub returns-then-v-gt1-3 : goal.returns-then-v-gt1-3
unfolding whole_verdict
returns-then-v-gt1-3 c = simp (le-ltb _ _ c.if-v-gt-MAX_RECORDS.false, le-ltb _ _ c.if-v-gt1.false, le-ltb _ _ c.if-v-gt1-2.false, lt-ltb _ _ c.if-v-gt1-3.true)

pub returns-then-v-gt255 : goal.returns-then-v-gt255
unfolding whole_verdict
returns-then-v-gt255 c = simp (le-ltb _ _ c.if-v-gt-MAX_RECORDS.false, le-ltb _ _ c.if-v-gt1.false, le-ltb _ _ c.if-v-gt1-2.false, le-ltb _ _ c.if-v-gt1-3.false, lt-ltb _ _ c.if-v-gt255.true)

pub returns-then-v-gt-MAX_BYTES : goal.returns-then-v-gt-MAX_BYTES
unfolding whole_verdict
returns-then-v-gt-MAX_BYTES c = simp (le-ltb _ _ c.if-v-gt-MAX_RECORDS.false, le-ltb _ _ c.if-v-gt1.false, le-ltb _ _ c.if-v-gt1-2.false, le-ltb _ _ c.if-v-gt1-3.false, le-ltb _ _ c.if-v-gt255.false, lt-ltb _ _ c.if-v-gt-MAX_BYTES.true)

pub returns : goal.returns
unfolding whole_verdict
returns c = simp (le-ltb _ _ c.if-v-gt-MAX_RECORDS.false, le-ltb _ _ c.if-v-gt1.false, le-ltb _ _ c.if-v-gt1-2.false, le-ltb _ _ c.if-v-gt1-3.false, le-ltb _ _ c.if-v-gt255.false, le-ltb _ _ c.if-v-gt-MAX_BYTES.false)
