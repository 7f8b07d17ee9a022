-- `units::is_quiet` meets its contract. The loop's invariant: where `clean` still holds, j places can be passed.
use Prim.Native.Nat.{ℕ, ◌+◌, ◌<◌}
use native.Mathlib.Omega.{arith}
use mathlib.Core.Path.{◌∙◌, ap₂, sym}
use mathlib.Core.Bool.{true≢false}
use lib.Bits.{bit_or, bit_xor}
use lib.ListN.{length}
use Rattle.units.proofs.Reach.{block_none, block_more}
use Rattle.units.proofs.is_quiet.Goals.{then-second-third-eq0, else-second-third-eq0}
use Rattle.units.proofs.is_quiet.Goals as goal

pub loop-j-init : goal.loop-j-init
loop-j-init c =
    let args = c.args in
    λ told. block_none args.s.now args.i (omega arith)

pub loop-j-preserved : goal.loop-j-preserved
loop-j-preserved c =
    let args = c.args in
    let s = args.s.now in
    let at = c.loop-j in
    let inside : args.i + at.j + 2 < length s = omega arith in
    elim c.if-second-third-eq0.branch [
      | then-second-third-eq0 w ↦ λ told. absurd (true≢false (sym told ∙ w.clean-is))
      | else-second-third-eq0 w ↦ λ told. block_more s args.i at.j (at.invariant (sym w.clean-is ∙ told)) inside (λ a b. w.if-second-third-eq0.false (ap₂ (λ (x y : ℕ). bit_or x (bit_xor y 1)) a b))
    ]
