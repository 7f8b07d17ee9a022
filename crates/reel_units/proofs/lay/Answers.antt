-- Flags that a byte holds and the size are let through first, then the payloads.
use Rattle.std.proofs.Common.{◌≡◌, ◌∙◌, ap, sym, refl, subst, ℕ, ◌≤◌, ◌<◌, Bool, length, Result, Err, arith}
use Rattle.std.proofs.lemmas.Result.{err_from_is_err_and}
use borrow.Author.Tests.{le-ltb}
use Rattle.lists.specs.Room.{over}
use Rattle.refusal.specs.Verdict.{Verdict}
use Rattle.refusal.specs.Verdict.{Accepted}
use Rattle.refusal.specs.declared.Reason.{Reason}
use Rattle.refusal.specs.declared.Reason.TheVariants.{Unholdable}
use Rattle.refusal.specs.declared.Excess.TheVariants.{FlagsByte}
use Rattle.refusal.specs.declared.Item.{Item}
use Rattle.refusal.specs.declared.Item.TheVariants.{Whole}
use Rattle.refusal.specs.Checks.{refuse_if, and_then}
use Rattle.line21_judge.proofs.Flags.{flags-fit}
use Rattle.reel.specs.Cut.{cut}
use Rattle.reel.specs.Writing.{reel, reel_verdict, size_verdict}
use Rattle.reel.proofs.Judging.{accepted-size, same_flags}
use Rattle.reel_units.specs.Inside.{Lays, begin_verdict, whole_verdict, laid}
use Rattle.reel_units.proofs.lay.Goals as goal
use Rattle.reel_units.proofs.lay.Goals.{In_ok-judge_size, then-not-passes+in_ok-judge, else-not-passes}

module _ (c : In_ok-judge_size) where
  sized : size_verdict c.args.size ≡ Accepted
  sized = sym c.judge_size.ensures ∙ c.in_ok-judge_size.was

  within : (1 ≤ c.args.size) × (c.args.size ≤ 291)
  within = accepted-size c.args.size sized

  fit : (c.args.flags < 256) × (c.args.flags ≡ c.in_ok-byte.byte)
  fit = flags-fit c.args.flags c.in_ok-byte.byte (sym c.judge_flags.ensures ∙ c.in_ok-byte.was)

  begun : begin_verdict c.args.flags c.args.size ≡ Accepted
  begun =
      let low = fit.0 in
      ap (λ (t : Bool). and_then (refuse_if t (Unholdable FlagsByte) Whole) (size_verdict c.args.size)) (le-ltb 255 c.args.flags (omega arith)) ∙ sized

  -- no flags byte is refused
  whole : (room : ℕ) → whole_verdict c.args.flags c.args.size c.args.units.now room ≡ reel_verdict (reel 0 c.args.size c.args.units.now) room
  whole room =
      ap (λ (v : Verdict). and_then v (reel_verdict (reel c.args.flags c.args.size c.args.units.now) room)) begun
      ∙ same_flags c.args.flags 0 (cut c.args.size c.args.units.now) room

pub judge-requires : goal.judge-requires
judge-requires c = within (goal.at.judge-requires c).In_ok-judge_size

pub returns-in_err-judge : goal.returns-in_err-judge
returns-in_err-judge c =
    let at = (goal.at.returns-in_err-judge c).In_ok-judge_size in
    let p = err_from_is_err_and c.from_residual-in_err-judge.result c.from_residual-in_err-judge.ensures.1 in
    subst (λ (r : Result ℕ (Reason × Item)). Lays c.args.flags c.args.size c.args.units.now c.args.out.now r c.args.out.now) (sym (p.1 ∙ ap Err p.2))
    (whole at (length c.args.out.now) ∙ sym c.judge.ensures ∙ c.in_err-judge.was, refl)

pub store-requires-clause-size_in : goal.store-requires-clause-size_in
store-requires-clause-size_in c = within (goal.at.store-requires-clause-size_in c).In_ok-judge_size

pub store-requires-clause-judged : goal.store-requires-clause-judged
store-requires-clause-judged c =
    let at = (goal.at.store-requires-clause-judged c).In_ok-judge_size in
    same_flags c.in_ok-byte.byte 0 (cut c.args.size c.args.units.now) (length c.args.out.now)
    ∙ elim c.if-not-passes.branch [
      | then-not-passes+in_ok-judge w ↦ sym w.judge.ensures ∙ w.in_ok-judge.was
      | else-not-passes w ↦ c.passes.ensures w.if-not-passes.false (within at).0 (within at).1
    ]

pub returns : goal.returns
returns c =
    let at = (goal.at.returns c).In_ok-judge_size in
    let us = c.args.units.now in
    let flags = sym (fit at).1 in (
      whole at (length c.args.out.now)
          ∙ elim c.if-not-passes.branch [
            | then-not-passes+in_ok-judge w ↦ sym w.judge.ensures ∙ w.in_ok-judge.was
            | else-not-passes w ↦ c.passes.ensures w.if-not-passes.false (within at).0 (within at).1
          ],
      c.store.ensures.value ∙ ap (λ (f : ℕ). length (laid f c.args.size us)) flags,
      c.store.ensures.out_after ∙ ap (λ (f : ℕ). over (laid f c.args.size us) c.args.out.now) flags,
    )
