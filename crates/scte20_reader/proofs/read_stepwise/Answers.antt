-- `scte20_reader::read_stepwise` meets its contract: the head refuses, or its flag says which of the two readings is meant.
use Rattle.std.specs.Prelude.{Err}
use Rattle.std.proofs.lemmas.Result.{err_from_is_err_and}
use Prim.Native.Nat.{ℕ, ◌<◌}
use native.Mathlib.Omega.{arith}
use mathlib.Core.Path.{◌∙◌, ap, sym, subst}
use Rattle.lists.specs.Bytes.{Bytes}
use Rattle.lists.proofs.Each.{each-of}
use Rattle.refusal.specs.Answers.{Judged}
use Rattle.scte20.specs.declared.Numbers.{Numbers}
use Rattle.scte20.specs.Lent.{ReadsInto}
use Rattle.scte20.proofs.Bytewise.{flag-in}
use Rattle.scte20.proofs.Answers.{refused-into, head-long, head-refused}
use Rattle.scte20_reader.proofs.read_stepwise.Goals as goal

pub returns-in_err-judge_head : goal.returns-in_err-judge_head
returns-in_err-judge_head c =
    let body = c.args.body.now in
    let lent = c.args.records.now in
    let bytes : Bytes body = each-of (λ (b : ℕ). b < 256) 0 body (λ i h. omega (arith, c.type_inv.body i)) in
    let p = err_from_is_err_and c.from_residual.result c.from_residual.ensures.1 in
    let told = sym c.judge_head.ensures ∙ c.in_err-judge_head.was in
    subst (λ (r : Judged Numbers). ReadsInto body lent r lent) (sym (p.1 ∙ ap Err p.2)) (refused-into body lent bytes _ (head-refused body _ _ told ∙ told))

-- the head is accepted, and the flag is there
pub bounds-body-1 : goal.bounds-body-1
bounds-body-1 c = head-long c.args.body.now (sym c.judge_head.ensures ∙ c.in_ok-judge_head.was)

pub read_bare-requires-clause-body_value_2 : goal.read_bare-requires-clause-body_value_2
read_bare-requires-clause-body_value_2 c =
    let body = c.args.body.now in
    let bytes : Bytes body = each-of (λ (b : ℕ). b < 256) 0 body (λ i h. omega (arith, c.type_inv.body i)) in
    flag-in body bytes (head-long body (sym c.judge_head.ensures ∙ c.in_ok-judge_head.was)) ∙ c.if-body-eq0.true

pub read_flagged-requires-clause-body_value_2 : goal.read_flagged-requires-clause-body_value_2
read_flagged-requires-clause-body_value_2 c =
    let body = c.args.body.now in
    let bytes : Bytes body = each-of (λ (b : ℕ). b < 256) 0 body (λ i h. omega (arith, c.type_inv.body i)) in
    omega (arith, flag-in body bytes (head-long body (sym c.judge_head.ensures ∙ c.in_ok-judge_head.was)), c.if-body-eq0.false)
