-- The payload that is next stands behind those before it.
use Rattle.std.proofs.Common.{◌≡◌, ◌∙◌, ap, sym, ℕ, ◌+◌, ◌-◌, ◌*◌, ◌≤◌, List, ◌++◌, append_assoc, length, take, drop, length-append, arith}
use Rattle.std.specs.Slice.Iter.{chunks_rest}
use borrow.Rule.Slice.PartMut.{put_mid}
use Rattle.lists.specs.Room.{over}
use Rattle.lists.proofs.Lay.{length_over, laid_more, length_rest}
use Rattle.refusal.specs.Verdict.{Accepted}
use Rattle.refusal.specs.declared.Reason.TheVariants.{NoRoom}
use Rattle.refusal.specs.declared.Item.TheVariants.{Whole}
use Rattle.refusal.proofs.Checks.{accepted-and_then, accepted-within}
use Rattle.line21.specs.declared.AccessUnit.{AccessUnit}
use Rattle.line21.specs.Layout.{layout}
use Rattle.line21.specs.Writing.{units_verdict}
use Rattle.reel.specs.Writing.{payload, reel, reel_layout, reel_verdict}
use Rattle.reel.proofs.Chunks.{length-one, Chunk, chunk-of, verdict-chunk, layout-chunk}
use Rattle.reel_units.proofs.store.Invariants.{Placed}
use Rattle.reel_units.proofs.store.Goals as goal
use Rattle.reel_units.proofs.store.Goals.{In-Some}

-- one turn: a payload of these units, before those that are left
module _ (flags size : ℕ) (all left us rest : List AccessUnit) (begun out : List ℕ) (at : ℕ) (p : Placed flags size all left begun out at) (split : left ≡ us ++ rest) (chunk : Chunk size us rest) where
  abbrev piece : List ℕ
  piece = layout (payload flags us)

  kept : length out ≡ length begun
  kept = ap length p.stands ∙ length_over p.front begun (omega (arith, p.long, p.fits))

  -- its units are accepted, and it fits what is left, and so do the others
  record Passes : Type 0 where
    units : units_verdict us ≡ Accepted
    room : 1 + 5 * length us ≤ length begun - at
    others : reel_verdict (reel flags size rest) (length begun - at - (1 + 5 * length us)) ≡ Accepted

  passes : Passes
  passes =
      let whole = sym (ap (λ (vs : List AccessUnit). reel_verdict (reel flags size vs) (length begun - at)) split ∙ verdict-chunk flags size us rest chunk (length begun - at)) ∙ p.others in
      let one = accepted-and_then _ _ whole in
      let two = accepted-and_then _ _ one.1 in
      record { units = one.0; room = accepted-within _ _ NoRoom Whole two.0; others = two.1 }

  asked : 1 + 5 * length us ≤ length (take (length out - at) (drop at out))
  asked = let room = passes.room in omega (arith, length_rest out at, kept)

  turned : (part : List ℕ) (len : ℕ) → len ≡ length piece → part ≡ over piece (take (length out - at) (drop at out))
      → Placed flags size all rest begun (put_mid at (length out - at) out part) (at + len)
  turned part len counted laid =
      let room = passes.room in
      let long : len ≡ 1 + 5 * length us = counted ∙ length-one flags us in
      let gone : length begun - at - (1 + 5 * length us) ≡ length begun - (at + len) = omega arith in
      record {
        front = p.front ++ piece;
        long = simp length-append (omega (arith, p.long, counted));
        fits = omega (arith, p.fits);
        stands = laid_more p.front piece begun out part at p.stands p.long laid;
        whole = p.whole
            ∙ ap (λ (bytes : List ℕ). p.front ++ bytes) (ap (λ (vs : List AccessUnit). reel_layout (reel flags size vs)) split ∙ layout-chunk flags size us rest chunk)
            ∙ sym (append_assoc p.front piece (reel_layout (reel flags size rest)));
        others = ap (reel_verdict (reel flags size rest)) (sym gone) ∙ passes.others;
      }

module _ (c : In-Some) where
  abbrev us : List AccessUnit
  us = c.in-Some.payload.now

  abbrev rest : List AccessUnit
  rest = chunks_rest c.next.new.self

  next : Chunk c.args.size us rest
  next =
      let step = c.in-Some.ensures.steps in
      chunk-of c.args.size _ _ us rest c.requires.size_in.0 c.requires.size_in.1 c.loop-payload.invariant.0 step.1.0 step.1.1 step.1.2

pub put_payload-at-requires-clause-judged : goal.put_payload-at-requires-clause-judged
put_payload-at-requires-clause-judged c =
    let at = (goal.at.put_payload-at-requires-clause-judged c).In-Some in
    (passes _ _ _ _ (us at) (rest at) _ _ _ c.loop-payload.invariant.1 c.in-Some.ensures.steps.1.0 (next at)).units

pub put_payload-at-requires-clause-in_bounds : goal.put_payload-at-requires-clause-in_bounds
put_payload-at-requires-clause-in_bounds c =
    let at = (goal.at.put_payload-at-requires-clause-in_bounds c).In-Some in
    asked _ _ _ _ (us at) (rest at) _ _ _ c.loop-payload.invariant.1 c.in-Some.ensures.steps.1.0 (next at)

pub loop-payload-preserved : goal.loop-payload-preserved
loop-payload-preserved c =
    let at = (goal.at.loop-payload-preserved c).In-Some in (
      c.in-Some.ensures.steps.0 ∙ c.loop-payload.invariant.0,
      turned _ _ _ _ (us at) (rest at) _ _ _ c.loop-payload.invariant.1 c.in-Some.ensures.steps.1.0 (next at) c.put_payload-at.new.out c.put_payload-at.result
          c.put_payload-at.ensures.value
          c.put_payload-at.ensures.out_after,
    )
