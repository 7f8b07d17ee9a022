-- The payload that is next decides first: its units, then the room.
use Rattle.std.proofs.Common.{◌≡◌, ◌∙◌, ap, sym, ◌+◌, ◌-◌, ◌*◌, Bool, List, length, Err}
use Rattle.std.proofs.lemmas.Result.{err_from_is_err_and}
use Rattle.std.specs.Slice.Iter.{chunks_rest}
use borrow.Author.Tests.{lt-ltb, le-ltb}
use Rattle.refusal.specs.declared.Reason.TheVariants.{NoRoom}
use Rattle.refusal.specs.declared.Item.TheVariants.{Whole}
use Rattle.refusal.specs.Checks.{refuse_if, and_then}
use Rattle.refusal.proofs.Checks.{refused-first, accepted-first}
use Rattle.line21.specs.declared.AccessUnit.{AccessUnit}
use Rattle.line21.specs.Writing.{units_verdict}
use Rattle.reel.specs.Writing.{reel, reel_verdict}
use Rattle.reel.proofs.Chunks.{room_verdict, Chunk, chunk-of, verdict-chunk}
use Rattle.reel_units.proofs.judge.Goals as goal
use Rattle.reel_units.proofs.judge.Goals.{In-Some}

module _ (c : In-Some) where
  abbrev us : List AccessUnit
  us = c.in-Some.payload.now

  abbrev rest : List AccessUnit
  rest = chunks_rest c.next.new.self

  chunk : Chunk c.args.size us rest
  chunk =
      let step = c.in-Some.ensures.steps in
      chunk-of c.args.size _ _ us rest c.requires.0 c.requires.1 c.loop-payload.invariant.0 step.1.0 step.1.1 step.1.2

  told : reel_verdict (reel 0 c.args.size c.args.units.now) c.args.room
      ≡ and_then (units_verdict us) (and_then (room_verdict c.loop-payload.left (1 + 5 * length us)) (reel_verdict (reel 0 c.args.size rest) (c.loop-payload.left - (1 + 5 * length us))))
  told =
      c.loop-payload.invariant.1
      ∙ ap (λ (all : List AccessUnit). reel_verdict (reel 0 c.args.size all) c.loop-payload.left) c.in-Some.ensures.steps.1.0
      ∙ verdict-chunk 0 c.args.size us rest chunk c.loop-payload.left

pub returns-in_err-judge_units : goal.returns-in_err-judge_units
returns-in_err-judge_units c =
    let at = (goal.at.returns-in_err-judge_units c).In-Some in
    let p = err_from_is_err_and c.from_residual.result c.from_residual.ensures.1 in
    p.1 ∙ ap Err p.2 ∙ sym c.in_err-judge_units.was
    ∙ refused-first _ c.judge_units.ensures c.in_err-judge_units.was
    ∙ sym (told at)

pub returns-then-left-len : goal.returns-then-left-len
returns-then-left-len c =
    let at = (goal.at.returns-then-left-len c).In-Some in
    sym
    (told at
    ∙ accepted-first _ c.judge_units.ensures c.in_ok-judge_units.was
    ∙ ap (λ (t : Bool). and_then (refuse_if t NoRoom Whole) (reel_verdict (reel 0 c.args.size (rest at)) (c.loop-payload.left - (1 + 5 * length (us at))))) (lt-ltb _ _ c.if-left-len.true))

pub loop-payload-preserved : goal.loop-payload-preserved
loop-payload-preserved c =
    let at = (goal.at.loop-payload-preserved c).In-Some in (
      c.in-Some.ensures.steps.0 ∙ c.loop-payload.invariant.0,
      told at
          ∙ accepted-first _ c.judge_units.ensures c.in_ok-judge_units.was
          ∙ ap (λ (t : Bool). and_then (refuse_if t NoRoom Whole) (reel_verdict (reel 0 c.args.size (rest at)) (c.loop-payload.left - (1 + 5 * length (us at))))) (le-ltb _ _ c.if-left-len.false),
    )
