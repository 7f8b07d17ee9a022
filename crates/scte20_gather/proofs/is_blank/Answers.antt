-- `scte20_gather::is_blank` meets its contract: the shift leaves the bits from bit `from` on, and behind them stands no bit.
use Prim.Native.Nat.{ℕ, zero, suc, ◌-◌, ◌*◌, ◌%◌, ◌^◌, ◌<◌}
use native.Mathlib.Omega.{arith}
use mathlib.Core.Path.{◌≡◌, ◌∙◌, sym}
use borrow.Author.Tests.{eqb-true}
use lib.Bits.{or_add_and, and_le_l, and_le_r}
use lib.ListN.{length, get_or}
use Rattle.bits.specs.Peek.{first_set}
use Rattle.bits.proofs.Runs.{first_set-next, first_set-end}
use Rattle.scte20_gather.proofs.is_blank.Goals as goal

low : (b j : ℕ) → j < 8 → b * 2 ^ j % 256 ≡ 0 → b % 2 ^ (8 - j) ≡ 0
low b zero h e = omega arith
low b (suc zero) h e = omega arith
low b (suc (suc zero)) h e = omega arith
low b (suc (suc (suc zero))) h e = omega arith
low b (suc (suc (suc (suc zero)))) h e = omega arith
low b (suc (suc (suc (suc (suc zero))))) h e = omega arith
low b (suc (suc (suc (suc (suc (suc zero)))))) h e = omega arith
low b (suc (suc (suc (suc (suc (suc (suc zero))))))) h e = omega arith
low b (suc (suc (suc (suc (suc (suc (suc (suc j)))))))) h e = let f : ⊥ = omega arith in absurd f

pub loop-i-preserved : goal.loop-i-preserved
loop-i-preserved c none =
    let at = c.loop-i in
    let body = c.args.body.now in
    let b = get_or body at.i 0 in
    let any_none : at.any ≡ 0 = omega (arith, none, or_add_and at.any b, and_le_r at.any b) in
    let byte-none : b ≡ 0 = omega (arith, none, or_add_and at.any b, and_le_l at.any b) in
    at.invariant any_none ∙ first_set-next body at.i c.loop-i-test.true byte-none

pub returns : goal.returns
returns c told =
    let body = c.args.body.now in
    let none = c.loop-i.invariant (eqb-true _ _ told) in
    record {
      here = low _ (c.args.from % 8) (omega arith) c.if-body-k-ne0.false;
      behind = omega (arith, none, first_set-end body c.loop-i.i c.loop-i-test.false);
    }
