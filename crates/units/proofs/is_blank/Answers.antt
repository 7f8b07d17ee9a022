-- `units::is_blank` meets its contract.
use Prim.Native.Nat.{◌+◌}
use native.Mathlib.Omega.{arith}
use mathlib.Core.Path.{◌≡◌}
use lib.Bits.{or_add_and, and_le_l, and_le_r}
use lib.ListN.{get_or}
use Rattle.units.proofs.Reach.{block_none, block_more}
use Rattle.units.proofs.is_blank.Goals as goal

pub loop-j-init : goal.loop-j-init
loop-j-init c e = block_none c.args.s.now c.args.i (omega arith)

pub loop-j-preserved : goal.loop-j-preserved
loop-j-preserved c e =
    let any = c.loop-j.any in
    let third = get_or c.args.s.now (c.args.i + c.loop-j.j + 2) 0 in
    let none : any ≡ 0 = omega (arith, or_add_and any third, and_le_r any third) in
    block_more c.args.s.now c.args.i c.loop-j.j (c.loop-j.invariant none) (omega arith)
    (λ a b. omega (arith, or_add_and any third, and_le_l any third))
