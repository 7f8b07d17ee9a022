-- `bits::first_set` meets its contract.
use Rattle.std.proofs.Common.{◌<◌, get_or, ◌∙◌, sym, arith}
use Rattle.bits.proofs.Runs.{first_set-here, first_set-next, first_set-end}
use Rattle.bits.proofs.first_set.Goals as goal

pub returns-then-s-i-ne0 : goal.returns-then-s-i-ne0
returns-then-s-i-ne0 c =
    let set : 0 < get_or c.args.s.now c.loop-i.i 0 = omega arith in
    sym (c.loop-i.invariant ∙ first_set-here c.args.s.now c.loop-i.i c.loop-i-test.true set)

pub loop-i-preserved : goal.loop-i-preserved
loop-i-preserved c = c.loop-i.invariant ∙ first_set-next c.args.s.now c.loop-i.i c.loop-i-test.true c.if-s-i-ne0.false

pub returns : goal.returns
returns c = sym (c.loop-i.invariant ∙ first_set-end c.args.s.now c.loop-i.i c.loop-i-test.false)
