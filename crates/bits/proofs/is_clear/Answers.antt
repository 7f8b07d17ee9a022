-- `bits::is_clear` meets its contract.
use Prim.Native.Nat.{ℕ, ◌+◌}
use native.Mathlib.Omega.{arith}
use mathlib.Core.Path.{◌≡◌, ◌∙◌, ap}
use lib.Bits.{bit_or, or_add_and, and_le_l, and_le_r}
use Rattle.bits.specs.Peek.{first_set}
use Rattle.bits.proofs.Runs.{first_set-next}
use Rattle.bits.proofs.is_clear.Goals as goal

-- no bit is set in two numbers together only where none is in either
or-none : (a b : ℕ) → bit_or a b ≡ 0 → (a ≡ 0) × (b ≡ 0)
or-none a b e = (omega (arith, or_add_and a b, and_le_r a b), omega (arith, or_add_and a b, and_le_l a b))

pub loop-j-preserved : goal.loop-j-preserved
loop-j-preserved c e =
    let both = or-none c.loop-j.any _ e in
    let same : c.args.i + c.loop-j.j + 1 ≡ c.args.i + (c.loop-j.j + 1) = omega arith in
    c.loop-j.invariant both.0 ∙ first_set-next c.args.s.now (c.args.i + c.loop-j.j) (omega arith) both.1 ∙ ap (first_set c.args.s.now) same
