-- A slice that has m units is judged as the payload of them.
-- Assumes nothing.
use Prim.Native.Nat.{ℕ, ◌/◌, ◌≤◌}
use native.Mathlib.Omega.{arith}
use mathlib.Core.Path.{◌≡◌, ◌∙◌, ap, refl}
use mathlib.Core.Bool.{Bool, true, false}
use mathlib.Core.List.{List}
use borrow.Author.Tests.{le-ltb}
use lib.Dec.{ltb}
use lib.ListN.{length}
use Rattle.refusal.specs.Verdict.{Verdict}
use Rattle.refusal.specs.Verdict.{Accepted}
use Rattle.refusal.specs.declared.Reason.TheVariants.{Unholdable}
use Rattle.refusal.specs.declared.Excess.TheVariants.{Count}
use Rattle.refusal.specs.declared.Item.TheVariants.{Whole}
use Rattle.refusal.specs.Checks.{refuse_if, and_then, fit_verdict}
use Rattle.refusal.proofs.Checks.{and_then-last}
use Rattle.line21.specs.Value.{held}
use Rattle.line21.specs.Layout.{layout}
use Rattle.line21.specs.Writing.{units_verdict, value_verdict}
use Rattle.line21.specs.Lent.{payload_in}
use Rattle.line21_judge.specs.Judging.{lent_verdict}

pub lent-verdict : (m : ℕ) (s : List ℕ) (room : ℕ) → m ≤ length s / 7 → lent_verdict m s room ≡ value_verdict (payload_in 0 m s) room
unfolding lent_verdict
lent-verdict m s room all = simp (le-ltb (length s / 7) m all, and_then-last)

-- and so is every count of an array's units, since 2,037 bytes are 291 of them
twice : (t : Bool) (rest : Verdict)
    → and_then (refuse_if t (Unholdable Count) Whole) (and_then (and_then (refuse_if t (Unholdable Count) Whole) rest) Accepted)
    ≡ and_then (refuse_if t (Unholdable Count) Whole) rest
twice true rest = refl
twice false rest = and_then-last rest

pub lent-array : (m : ℕ) (s : List ℕ) (room : ℕ) → length s ≡ 2037 → lent_verdict m s room ≡ value_verdict (payload_in 0 m s) room
unfolding lent_verdict value_verdict
lent-array m s room e =
    let v = held (payload_in 0 m s) in
    let places : length s / 7 ≡ 291 = omega arith in
    let rest = and_then (units_verdict v.units) (and_then (fit_verdict 1456 (length (layout v)) room) Accepted) in
    ap (λ (n : ℕ). and_then (refuse_if (ltb n m) (Unholdable Count) Whole) (and_then (and_then (refuse_if (ltb 291 m) (Unholdable Count) Whole) rest) Accepted)) places
    ∙ twice (ltb 291 m) rest
