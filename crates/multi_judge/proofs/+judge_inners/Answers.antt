-- Where an inner packet is refused, that is the answer. One that is accepted is all there, and what is behind it decides.
use Rattle.std.proofs.Common.{rules}
use Prim.Native.Nat.{ℕ, ◌+◌, ◌≤◌}
use native.Mathlib.Nat.{pos_of_ne-zero}
use native.Mathlib.Omega.{arith}
use mathlib.Core.Path.{◌≡◌, ◌∙◌, ap, sym}
use mathlib.Core.List.{List}
use lib.ListN.{length}
use Rattle.lists.proofs.Lay.{rest-whole, length_rest}
use Rattle.refusal.specs.Verdict.{Verdict}
use Rattle.refusal.specs.Verdict.{Accepted}
use Rattle.refusal.proofs.Checks.{refused-first, accepted-first}
use Rattle.multi.specs.Order.{size_in}
use Rattle.multi.specs.Reading.{inner_verdict, inners_verdict}
use Rattle.multi.proofs.Inner.{inner-long}
use Rattle.multi.proofs.Inners.{inners-none, inners-next}
use Rattle.multi_judge.proofs.+judge_inners.Goals as goal

-- an inner packet that is accepted is all there
whole : (at : ℕ) (u : List ℕ) {answer : Verdict} → answer ≡ inner_verdict at u → answer ≡ Accepted → (4 ≤ length u) × (size_in u ≤ length u)
whole at u e told = inner-long at u (sym e ∙ told)

pub returns-then-n-eq0 : goal.returns-then-n-eq0
returns-then-n-eq0 t c = sym (inners-none c.args.at c.args.rest.now c.if-n-eq0.true)

pub returns-in_err-judge_inner : goal.returns-in_err-judge_inner
returns-in_err-judge_inner t c =
    (let same : c.from_residual.result ≡ c.judge_inner.result = search rules in refused-first _ (same ∙ c.judge_inner.ensures) (same ∙ c.in_err-judge_inner.was)) ∙ sym (inners-next c.args.at c.args.rest.now (pos_of_ne-zero c.if-n-eq0.false))

pub bounds-rest-3 : goal.bounds-rest-3
bounds-rest-3 t c = omega (arith, (whole c.args.at c.args.rest.now c.judge_inner.ensures c.in_ok-judge_inner.was).0)

pub slice_bounds-judge_inners-count : goal.slice_bounds-judge_inners-count
slice_bounds-judge_inners-count t c = omega (arith, (whole c.args.at c.args.rest.now c.judge_inner.ensures c.in_ok-judge_inner.was).1)

pub slice_bounds-judge_inners-start : goal.slice_bounds-judge_inners-start
slice_bounds-judge_inners-start t c = omega (arith, (whole c.args.at c.args.rest.now c.judge_inner.ensures c.in_ok-judge_inner.was).1)

pub overflow_add-at : goal.overflow_add-at
overflow_add-at t c = omega (arith, (whole c.args.at c.args.rest.now c.judge_inner.ensures c.in_ok-judge_inner.was).1, c.requires)

pub judge_inners-requires : goal.judge_inners-requires
judge_inners-requires t c =
    let u = c.args.rest.now in
    let long = whole c.args.at u c.judge_inner.ensures c.in_ok-judge_inner.was in
    (omega (arith, c.decreases, long.0, long.1, length_rest u (size_in u)), omega (arith, c.requires, long.1, length_rest u (size_in u)))

pub returns : goal.returns
returns t c =
    let at = c.args.at in
    let u = c.args.rest.now in
    c.judge_inners.ensures
    ∙ ap (inners_verdict (at + size_in u)) (rest-whole u (size_in u))
    ∙ sym (inners-next at u (pos_of_ne-zero c.if-n-eq0.false) ∙ accepted-first _ c.judge_inner.ensures c.in_ok-judge_inner.was)
