-- The loop ends behind the last unit.
use Rattle.std.proofs.Common.{arith}
use Rattle.lists.proofs.Each.{each-of}
use Rattle.line21.specs.Value.{ByteUnit, blank}
use Rattle.reel_units.proofs.known.Goals as goal

pub returns : goal.returns
returns c = each-of ByteUnit blank c.args.units.now (λ i h. c.loop-unit.invariant i (omega arith))
