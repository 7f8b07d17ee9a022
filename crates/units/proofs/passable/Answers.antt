-- `units::passable` meets its contract: the third byte, then the two before it, rule out places.
use native.Mathlib.Omega.{arith}
use Rattle.units.proofs.Reach.{three-here, next_one, next-third, next-second, next-first, passes, passes_none}
use Rattle.units.proofs.passable.Goals.{else-s-i-eq0-via-then-s-i-eq0+else-s-i-eq0-2, else-s-i-eq0-via-else-s-i-eq0}
use Rattle.units.proofs.passable.Goals as goal

pub returns-then-third-gt1 : goal.returns-then-third-gt1
returns-then-third-gt1 c =
    let s = c.args.s.now in
    let inside = c.requires in
    passes s c.args.i 3 (omega arith) (next-third s c.args.i inside (λ e. omega arith) (λ e. omega arith)) (omega (arith, inside))

pub returns-then-third-eq0 : goal.returns-then-third-eq0
returns-then-third-eq0 c =
    let s = c.args.s.now in
    let inside = c.requires in
    passes s c.args.i 1 (omega arith) (next_one s c.args.i inside (λ e. omega arith)) (omega (arith, inside))

pub returns-then-s-i-eq0-2 : goal.returns-then-s-i-eq0-2
returns-then-s-i-eq0-2 c =
    let s = c.args.s.now in
    let inside = c.requires in
    let here = three-here s c.args.i inside c.if-s-i-eq0-2.true c.if-s-i-eq0.true (omega (arith, c.if-third-eq0.false, c.if-third-gt1.false)) in
    passes_none s c.args.i here (omega (arith, inside))

pub returns : goal.returns
returns c =
    let s = c.args.s.now in
    let i = c.args.i in
    let inside = c.requires in
    let other = c.if-third-eq0.false in
    passes s i 3 (omega arith)
    (elim c.else-s-i-eq0.branch [
      | else-s-i-eq0-via-then-s-i-eq0+else-s-i-eq0-2 w ↦ next-first s i inside other w.if-s-i-eq0-2.false
      | else-s-i-eq0-via-else-s-i-eq0 w ↦ next-second s i inside other w.if-s-i-eq0.false
    ])
    (omega (arith, inside))
