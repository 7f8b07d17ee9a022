-- `ga94_reader::read_into` meets its contract: the checks refuse, or the records are stored and the numbers read.
use Rattle.std.specs.Prelude.{Ok, Err}
use Rattle.std.proofs.lemmas.Result.{err_from_is_err_and}
use Prim.Native.Nat.{ℕ, ◌+◌, ◌-◌, ◌*◌, ◌<◌}
use native.Mathlib.Omega.{arith}
use mathlib.Core.Path.{◌≡◌, ◌∙◌, ap, sym, subst, refl}
use mathlib.Core.List.{List}
use lib.ListN.{length, get_or}
use Rattle.lists.specs.Bytes.{Bytes}
use Rattle.lists.specs.Room.{filled}
use Rattle.lists.proofs.Each.{each-of}
use Rattle.refusal.specs.Verdict.{Accepted}
use Rattle.refusal.specs.Answers.{Judged}
use Rattle.ga94.specs.declared.Numbers.{Numbers}
use Rattle.ga94.specs.Value.{stored, blank}
use Rattle.ga94.specs.Reading.{em_flag_in, cc_flag_in, count_in, records_at, content_verdict, value_of}
use Rattle.ga94.specs.Lent.{records_bytes, numbers_of, ReadsInto}
use Rattle.ga94.proofs.Constructs.{length-records}
use Rattle.ga94.proofs.Contents.{Accepts, accepted-content}
use Rattle.ga94.proofs.Answers.{refused-into, accepted-into}
use Rattle.ga94_reader.proofs.read_into.Goals.{In_ok-judge}
use Rattle.ga94_reader.proofs.read_into.Goals as goal

-- the checks refuse
pub returns-in_err-judge : goal.returns-in_err-judge
returns-in_err-judge c =
    let body = c.args.body.now in
    let lent = c.args.records.now in
    let bytes : Bytes body = each-of (λ (b : ℕ). b < 256) 0 body (λ i h. omega (arith, c.type_inv.body i)) in
    let p = err_from_is_err_and c.from_residual.result c.from_residual.ensures.1 in
    subst (λ (r : Judged Numbers). ReadsInto body lent r lent) (sym (p.1 ∙ ap Err p.2)) (refused-into body lent bytes _ (sym c.judge.ensures ∙ c.in_err-judge.was))

-- the body is accepted
accepted : (c : In_ok-judge) → content_verdict c.args.body.now ≡ Accepted
accepted c = sym c.judge.ensures ∙ c.in_ok-judge.was

accepts : (c : In_ok-judge) → Accepts c.args.body.now
accepts c = accepted-content c.args.body.now (accepted c)

-- what is answered is the value that the body holds
numbers-read : (body : List ℕ) → Accepts body
    → numbers_of (stored (value_of body))
    ≡ record {
      process_em_data_flag = em_flag_in body;
      process_cc_data_flag = cc_flag_in body;
      additional_data_flag = 0;
      em_data = get_or body 6 0;
      n = count_in body;
      z = length body - (7 + 3 * count_in body + 1);
    }
unfolding value_of
numbers-read body known =
    let size : length body - (8 + 3 * count_in body) ≡ length body - (7 + 3 * count_in body + 1) = omega arith in
    λ i.
    record {
      process_em_data_flag = em_flag_in body;
      process_cc_data_flag = cc_flag_in body;
      additional_data_flag = known.head.no_additional i;
      em_data = get_or body 6 0;
      n = length-records (count_in body) 7 body i;
      z = size i;
    }

records-read : (body : List ℕ) → records_bytes (stored (value_of body)).records ≡ records_bytes (filled (records_at (count_in body) 7 body) 31 blank)
unfolding value_of
records-read body = refl

pub returns : goal.returns
returns c =
    let body = c.args.body.now in
    let lent = c.args.records.now in
    let bytes : Bytes body = each-of (λ (b : ℕ). b < 256) 0 body (λ i h. omega (arith, c.type_inv.body i)) in
    let passed = (goal.at.returns c).In_ok-judge in
    subst (λ (numbers : Numbers). ReadsInto body lent (Ok numbers) c.store.new.records)
    (numbers-read body (accepts passed))
    (accepted-into body lent bytes _ (accepted passed) (c.store.ensures ∙ sym (records-read body)))

pub bounds-body-5 : goal.bounds-body-5
bounds-body-5 c = omega (arith, (accepts (goal.at.bounds-body-5 c).In_ok-judge).head.complete)

pub bounds-body-6 : goal.bounds-body-6
bounds-body-6 c = omega (arith, (accepts (goal.at.bounds-body-6 c).In_ok-judge).head.complete)

pub store-requires : goal.store-requires
store-requires c =
    record { n_bound = omega arith; n_in_bounds = omega (arith, (accepts (goal.at.store-requires c).In_ok-judge).closing.there) }

pub overflow_sub-result : goal.overflow_sub-result
overflow_sub-result c = omega (arith, (accepts (goal.at.overflow_sub-result c).In_ok-judge).closing.there)
