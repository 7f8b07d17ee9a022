-- `bits::leading` meets its contract: for each of the 256 bytes, the count of the instruction is the one that the list of bits has.
use Prim.Native.Nat.{ℕ, ◌<◌}
use native.Mathlib.Omega.{arith}
use mathlib.Core.Path.{◌≡◌}
use lib.Count.{count_leading_zeros}
use lib.Dec.{eqb, eqb→eq}
use Rattle.lists.proofs.Below.{below}
use Rattle.bits.specs.Peek.{leading_of}
use Rattle.bits.proofs.leading.Goals as goal

counted : (b : ℕ) → b < 256 → count_leading_zeros 8 b ≡ leading_of b
unfolding count_leading_zeros leading_of
counted b h = eqb→eq (count_leading_zeros 8 b) (leading_of b) (below (λ (b : ℕ). eqb (count_leading_zeros 8 b) (leading_of b)) 256 tt b h)

pub returns : goal.returns
returns c = let byte : c.args.b < 256 = omega arith in counted c.args.b byte
