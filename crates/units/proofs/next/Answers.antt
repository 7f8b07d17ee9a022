-- `units::next` meets its contract.
use Rattle.std.proofs.Common.{◌∙◌, sym, arith}
use Rattle.units.proofs.Reach.{next-short}
use Rattle.units.proofs.next.Goals as goal

pub returns-then-s-i-lt3 : goal.returns-then-s-i-lt3
returns-then-s-i-lt3 c = sym (c.loop-i.invariant ∙ next-short c.args.s.now c.loop-i.i (omega arith) (omega arith))
