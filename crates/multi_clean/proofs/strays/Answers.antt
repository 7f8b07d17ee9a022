-- `multi_clean::strays` meets its contract: a turn counts one word more.
use Rattle.std.proofs.Common.{get_or, arith}
use Rattle.multi.proofs.Clean.{stray-low, strays-more}
use Rattle.multi_clean.proofs.strays.Goals as goal

pub overflow_add-n : goal.overflow_add-n
overflow_add-n c =
    omega (arith, c.requires, c.loop-w.invariant.1, c.loop-w-test.true, c.stray-n.ensures, stray-low (get_or c.args.words.now c.loop-w.w-index 0))

pub loop-w-preserved : goal.loop-w-preserved
loop-w-preserved c =
    let words = c.args.words.now in
    let i = c.loop-w.w-index in
    let kept = c.loop-w.invariant in (
      omega (arith, kept.0, c.stray-n.ensures, strays-more words i c.loop-w-test.true),
      omega (arith, kept.1, c.stray-n.ensures, stray-low (get_or words i 0)),
    )
