-- `around::surround` meets its contract: each test is one of whether all fits, and what is laid then is what is promised.
use native.Mathlib.Omega.{arith}
use mathlib.Core.Path.{sym}
use Rattle.around.proofs.Surrounding.{backward, beyond, no_room, laid-surrounded}
use Rattle.around.proofs.surround.Goals as goal

pub returns-then-end-start : goal.returns-then-end-start
returns-then-end-start c =
    sym (backward c.args.s.now c.args.start c.args.end c.args.len c.args.out.now c.if-end-start.true)

pub returns-then-s-end : goal.returns-then-s-end
returns-then-s-end c =
    sym (beyond c.args.s.now c.args.start c.args.end c.args.len c.args.out.now (omega (arith, c.if-end-start.false)) c.if-s-end.true)

pub returns-then-out-start : goal.returns-then-out-start
returns-then-out-start c =
    sym (no_room c.args.s.now c.args.start c.args.end c.args.len c.args.out.now (omega (arith, c.if-end-start.false)) (omega (arith, c.if-s-end.false)) (omega (arith, c.if-out-start.true, c.if-end-start.false, c.if-s-end.false)))

pub returns-then-out-start-lt-START_BYTES : goal.returns-then-out-start-lt-START_BYTES
returns-then-out-start-lt-START_BYTES c =
    sym (no_room c.args.s.now c.args.start c.args.end c.args.len c.args.out.now (omega (arith, c.if-end-start.false)) (omega (arith, c.if-s-end.false)) (omega (arith, c.if-out-start-lt-START_BYTES.true, c.if-out-start.false, c.if-end-start.false, c.if-s-end.false)))

pub returns-then-out-start-2 : goal.returns-then-out-start-2
returns-then-out-start-2 c =
    sym (no_room c.args.s.now c.args.start c.args.end c.args.len c.args.out.now (omega (arith, c.if-end-start.false)) (omega (arith, c.if-s-end.false)) (omega (arith, c.if-out-start-2.true, c.if-out-start.false, c.if-out-start-lt-START_BYTES.false, c.if-end-start.false, c.if-s-end.false)))

pub returns-then-out-start-3 : goal.returns-then-out-start-3
returns-then-out-start-3 c =
    sym (no_room c.args.s.now c.args.start c.args.end c.args.len c.args.out.now (omega (arith, c.if-end-start.false)) (omega (arith, c.if-s-end.false)) (omega (arith, c.if-out-start-3.true, c.if-out-start.false, c.if-out-start-lt-START_BYTES.false, c.if-out-start-2.false, c.if-end-start.false, c.if-s-end.false)))

pub returns : goal.returns
returns c =
    laid-surrounded c.args.s.now c.args.start c.args.end c.args.len c.args.out.now (omega (arith, c.if-end-start.false)) (omega (arith, c.if-s-end.false))
    (omega (arith, c.if-end-start.false, c.if-s-end.false, c.if-out-start.false, c.if-out-start-lt-START_BYTES.false, c.if-out-start-2.false, c.if-out-start-3.false)) _ c.lay.ensures
