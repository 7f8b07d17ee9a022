use Rattle.std.proofs.Common.{inr, arith}
use Rattle.multi.proofs.Laid.{heads-more, heads-front}
use Rattle.multi_writer.proofs.user_words.Goals as goal

pub returns-then-user-gt-MAX_USER_WORDS : goal.returns-then-user-gt-MAX_USER_WORDS
returns-then-user-gt-MAX_USER_WORDS c =
    let many = c.if-user-gt-MAX_USER_WORDS.true in
    inr (many, omega (arith, many, c.loop-i.invariant.0, heads-front c.args.heads.now c.loop-i.i))

pub loop-i-preserved : goal.loop-i-preserved
loop-i-preserved c = (
  omega (arith, c.loop-i.invariant.0, c.inner_words-user.ensures.value, heads-more c.args.heads.now c.loop-i.i c.loop-i-test.true),
  omega (arith, c.if-user-gt-MAX_USER_WORDS.false, c.inner_words-user.ensures.upper_bound),
)
