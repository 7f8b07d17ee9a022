-- `scte20_reader::read_bare` meets its contract: with flag 0 the rest behind two bytes decides, and there are no records.
use Rattle.std.specs.Prelude.{Err}
use Rattle.std.proofs.lemmas.Result.{err_from_is_err_and}
use Prim.Native.Nat.{ℕ, ◌<◌}
use native.Mathlib.Omega.{arith}
use mathlib.Core.Path.{◌∙◌, ap, sym, subst, refl}
use Rattle.lists.specs.Bytes.{Bytes}
use Rattle.lists.proofs.Each.{each-of}
use Rattle.refusal.specs.Answers.{Judged}
use Rattle.scte20.specs.declared.Numbers.{Numbers}
use Rattle.scte20.specs.Lent.{ReadsInto}
use Rattle.scte20.proofs.Contents.{accepted-head}
use Rattle.scte20.proofs.Answers.{refused-into, accepted-into, head-long, bare-verdict, bare-value}
use Rattle.scte20_reader.proofs.read_bare.Goals as goal

pub judge_rest-requires : goal.judge_rest-requires
judge_rest-requires c =
    let body = c.args.body.now in
    record { body_len_bound = (accepted-head body c.requires.body_value).short; at_bound = omega (arith, head-long body c.requires.body_value) }

-- the rest decides
pub returns-in_err-judge_rest : goal.returns-in_err-judge_rest
returns-in_err-judge_rest c =
    let body = c.args.body.now in
    let bytes : Bytes body = each-of (λ (b : ℕ). b < 256) 0 body (λ i h. omega (arith, c.type_inv.body i)) in
    let lent = c.args.records.now in
    let p = err_from_is_err_and c.from_residual.result c.from_residual.ensures.1 in
    let same = bare-verdict body c.requires.body_value c.requires.body_value_2 ∙ sym c.judge_rest.ensures in
    subst (λ (r : Judged Numbers). ReadsInto body lent r lent) (sym (p.1 ∙ ap Err p.2)) (refused-into body lent bytes _ (same ∙ c.in_err-judge_rest.was))

pub returns : goal.returns
returns c =
    let body = c.args.body.now in
    let bytes : Bytes body = each-of (λ (b : ℕ). b < 256) 0 body (λ i h. omega (arith, c.type_inv.body i)) in
    let value = bare-value body bytes (head-long body c.requires.body_value) c.requires.body_value_2 in
    let same = bare-verdict body c.requires.body_value c.requires.body_value_2 ∙ sym c.judge_rest.ensures in
    accepted-into body c.args.records.now bytes _ _ (same ∙ c.in_ok-judge_rest.was) value refl

pub bounds-body-1 : goal.bounds-body-1
bounds-body-1 c = head-long c.args.body.now c.requires.body_value

pub overflow_sub-result : goal.overflow_sub-result
overflow_sub-result c = head-long c.args.body.now c.requires.body_value
