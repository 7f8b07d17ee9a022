-- The payload that is next decides first, with the room that is left.
use Rattle.std.proofs.Common.{◌≡◌, ◌∙◌, ap, sym, ℕ, ◌+◌, ◌-◌, ◌*◌, ◌/◌, ◌≤◌, List, [], length, Err, arith}
use Rattle.std.proofs.lemmas.Result.{err_from_is_err_and}
use Rattle.std.specs.Slice.Iter.{chunks_rest, chunks_size}
use lib.ListN.{drop_of_length-le}
use Rattle.lists.proofs.Flat.{length_taken}
use Rattle.refusal.specs.Verdict.{Verdict}
use Rattle.refusal.specs.Verdict.{Accepted}
use Rattle.refusal.specs.Checks.{and_then}
use Rattle.refusal.proofs.Checks.{refused-first, accepted-first}
use Rattle.line21.specs.Writing.{value_verdict}
use Rattle.line21.specs.Lent.{access_unit_in, run_in, payload_in}
use Rattle.line21_judge.specs.Judging.{lent_verdict}
use Rattle.line21_judge.proofs.Lent.{lent-verdict}
use Rattle.line21.proofs.Numbers.{accepted-value, length-layout-held}
use Rattle.reel.specs.Writing.{reel, size_verdict, reel_verdict}
use Rattle.reel.specs.Lent.{run_verdict}
use Rattle.reel.proofs.Judging.{accepted-size, run-sized, run-part}
use Rattle.reel.proofs.LentChunks.{Part, part-of, part-few, verdict-part}
use Rattle.reel.proofs.judge_reel.Goals as goal
use Rattle.reel.proofs.judge_reel.Goals.{In-Some}

-- a turn is reached with a size and a run that are let through
module _ (c : In-Some) where
  abbrev x : List ℕ
  x = c.in-Some.payload.now

  abbrev m : ℕ
  m = length x / 7

  abbrev rest : List ℕ
  rest = chunks_rest c.next.new.self

  sized : size_verdict c.args.size ≡ Accepted
  sized = sym c.judge_size.ensures ∙ c.in_ok-judge_size.was

  part : Part c.args.size m x rest
  part =
      let step = c.in-Some.ensures.steps in
      let size = accepted-size c.args.size sized in
      part-of c.args.size _ _ x rest size.0 size.1 c.loop-payload.invariant.0 c.loop-payload.invariant.1 step.1.0 step.1.1 step.1.2

  -- the payload that is next decides first
  told : run_verdict 0 c.args.size c.args.units.now c.args.room
      ≡ and_then (value_verdict (payload_in 0 m x) c.loop-payload.left) (reel_verdict (reel 0 c.args.size (run_in rest)) (c.loop-payload.left - (1 + 5 * m)))
  told =
      run-sized 0 c.args.size c.args.units.now c.args.room sized c.if-units-ne0.false
      ∙ c.loop-payload.invariant.2
      ∙ ap (λ (s : List ℕ). reel_verdict (reel 0 c.args.size (run_in s)) c.loop-payload.left) c.in-Some.ensures.steps.1.0
      ∙ verdict-part c.args.size m x rest part c.loop-payload.left

-- a part is judged as the payload that it tells, and where it is accepted it fits what is left
module _ (size : ℕ) (x rest : List ℕ) (part : Part size (length x / 7) x rest) (verdict : Verdict) (left : ℕ) (e : verdict ≡ lent_verdict (length x / 7) x left) where
  judged : verdict ≡ value_verdict (payload_in 0 (length x / 7) x) left
  judged = e ∙ lent-verdict (length x / 7) x left (omega arith)

  fits : verdict ≡ Accepted → 1 + 5 * (length x / 7) ≤ left
  fits accepted =
      let value = payload_in 0 (length x / 7) x in
      let long = length-layout-held value (length_taken access_unit_in 7 291 x) (part-few size (length x / 7) x rest part) in
      omega (arith, long, (accepted-value value left (sym judged ∙ accepted)).fits)

pub returns-in_err-judge_size : goal.returns-in_err-judge_size
unfolding run_verdict
returns-in_err-judge_size c =
    let p = err_from_is_err_and c.from_residual.result c.from_residual.ensures.1 in
    p.1 ∙ ap Err p.2 ∙ sym c.in_err-judge_size.was ∙ refused-first _ c.judge_size.ensures c.in_err-judge_size.was

pub returns-then-units-ne0 : goal.returns-then-units-ne0
returns-then-units-ne0 c =
    sym (run-part 0 c.args.size c.args.units.now c.args.room (sym c.judge_size.ensures ∙ c.in_ok-judge_size.was) c.if-units-ne0.true)

-- nothing is refused
pub returns-then-passes : goal.returns-then-passes
returns-then-passes c =
    let sized = sym c.judge_size.ensures ∙ c.in_ok-judge_size.was in
    let size = accepted-size c.args.size sized in
    sym
    (run-sized 0 c.args.size c.args.units.now c.args.room sized c.if-units-ne0.false
    ∙ c.passes.ensures c.if-passes.true size.0 size.1)

pub overflow_mul-size : goal.overflow_mul-size
overflow_mul-size c = let size = accepted-size c.args.size (sym c.judge_size.ensures ∙ c.in_ok-judge_size.was) in omega arith

pub chunks-payload-items-requires : goal.chunks-payload-items-requires
chunks-payload-items-requires c = let size = accepted-size c.args.size (sym c.judge_size.ensures ∙ c.in_ok-judge_size.was) in omega arith

pub loop-payload-init-derived : goal.loop-payload-init-derived
loop-payload-init-derived c =
    let size = accepted-size c.args.size (sym c.judge_size.ensures ∙ c.in_ok-judge_size.was) in
    let cut : chunks_size c.into_iter-payload-iterator.result ≡ 7 * c.args.size = ap chunks_size c.into_iter-payload-iterator.ensures.into_iter_gives ∙ c.chunks-payload-items.ensures.size in
    (omega arith, tt)

pub returns-in_err-judge_value : goal.returns-in_err-judge_value
returns-in_err-judge_value c =
    let at = (goal.at.returns-in_err-judge_value c).In-Some in
    let p = err_from_is_err_and c.from_residual-in_err-judge_value.result c.from_residual-in_err-judge_value.ensures.1 in
    p.1 ∙ ap Err p.2 ∙ sym c.in_err-judge_value.was
    ∙ refused-first _ (judged c.args.size (x at) (rest at) (part at) _ c.loop-payload.left c.judge_value.ensures) c.in_err-judge_value.was
    ∙ sym (told at)

pub overflow_sub-left : goal.overflow_sub-left
overflow_sub-left c =
    let at = (goal.at.overflow_sub-left c).In-Some in
    fits c.args.size (x at) (rest at) (part at) _ c.loop-payload.left c.judge_value.ensures c.in_ok-judge_value.was

pub loop-payload-preserved : goal.loop-payload-preserved
loop-payload-preserved c =
    let at = (goal.at.loop-payload-preserved c).In-Some in
    let sized = sym c.judge_size.ensures ∙ c.in_ok-judge_size.was in (
      c.in-Some.ensures.steps.0 ∙ c.loop-payload.invariant.0,
      (part at).ends,
      sym (run-sized 0 c.args.size c.args.units.now c.args.room sized c.if-units-ne0.false)
          ∙ told at
          ∙ accepted-first _ (judged c.args.size (x at) (rest at) (part at) _ c.loop-payload.left c.judge_value.ensures) c.in_ok-judge_value.was,
    )

-- after the loop no payload is left
pub returns : goal.returns
returns c =
    let sized = sym c.judge_size.ensures ∙ c.in_ok-judge_size.was in
    let left = chunks_rest c.loop-payload.payload-iterator in
    let empty = c.in-None.ensures.steps.1.0 in
    let none : left ≡ [] = drop_of_length-le left {i = 0} (omega arith) in
    sym
    (run-sized 0 c.args.size c.args.units.now c.args.room sized c.if-units-ne0.false
    ∙ c.loop-payload.invariant.2
    ∙ ap (λ (s : List ℕ). reel_verdict (reel 0 c.args.size (run_in s)) c.loop-payload.left) none)
