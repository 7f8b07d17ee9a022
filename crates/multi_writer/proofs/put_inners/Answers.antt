use Rattle.std.proofs.Common.{◌≡◌, ℕ, ◌+◌, ◌<◌, ◌≤◌, List, [], length, get_or, sym, ap, ◌∙◌, refl, arith}
use Rattle.lists.specs.Room.{over}
use Rattle.lists.proofs.Lay.{length_over, length_rest, laid_more}
use Rattle.refusal.specs.Verdict.{Accepted}
use Rattle.multi.specs.Layout.{layout_inner}
use Rattle.multi.specs.Lent.{inner_of}
use Rattle.multi.specs.Writing.{head_verdict}
use Rattle.multi.specs.Inside.{heads_words}
use Rattle.multi.proofs.Laid.{front-words, heads-more, inners-more, heads-front, head-accepted-at}
use Rattle.multi_writer.proofs.Summed.{inners-total}
use Rattle.multi_writer.proofs.put_inners.Invariants.{front}
use Rattle.multi_writer.proofs.put_inners.Goals.{In-loop-i}
use Rattle.multi_writer.proofs.put_inners.Goals as goal

-- a turn of the loop
module _ (c : In-loop-i) where
  abbrev heads : List (List ℕ)
  heads = c.args.heads.now

  abbrev words : List ℕ
  words = c.args.words.now

  abbrev lent : List ℕ
  lent = c.args.out.now

  abbrev i : ℕ
  i = c.loop-i.i

  abbrev head : List ℕ
  head = get_or heads i []

  long : length (front words heads i) ≡ c.loop-i.at
  long = front-words words heads c.requires.heads_value i ∙ sym c.loop-i.invariant.0

  few : c.loop-i.at < 255
  few = omega (arith, c.loop-i.invariant.0, heads-front heads i, c.requires.heads_bound)

  -- the output keeps its length
  kept : length c.loop-i.out ≡ length lent
  kept =
      ap length c.loop-i.invariant.1
      ∙ length_over (front words heads i) lent (omega (arith, long, c.loop-i.invariant.0, heads-front heads i, c.requires.heads_in_bounds))

  told : head_verdict words head ≡ Accepted
  told = head-accepted-at words heads c.requires.heads_value i c.loop-i-test.true

  -- there is room for one more
  room : c.loop-i.at + (5 + get_or head 5 0) ≤ heads_words heads
  room = omega (arith, c.loop-i.invariant.0, heads-more heads i c.loop-i-test.true, heads-front heads (i + 1))

pub offset_bounds-out-at : goal.offset_bounds-out-at
offset_bounds-out-at c = omega (arith, few (goal.at.offset_bounds-out-at c).In-loop-i)

pub slice_bounds-put_inner-count : goal.slice_bounds-put_inner-count
slice_bounds-put_inner-count c =
    let turn = (goal.at.slice_bounds-put_inner-count c).In-loop-i in
    omega (arith, kept turn, room turn, c.requires.heads_in_bounds)

pub slice_bounds-put_inner-start : goal.slice_bounds-put_inner-start
slice_bounds-put_inner-start c =
    let turn = (goal.at.slice_bounds-put_inner-start c).In-loop-i in
    omega (arith, kept turn, room turn, c.requires.heads_in_bounds)

pub put_inner-inner-requires : goal.put_inner-inner-requires
put_inner-inner-requires c =
    let turn = (goal.at.put_inner-inner-requires c).In-loop-i in
    record {
      head_value = told turn;
      head_bound = omega (arith, room turn, c.requires.heads_bound);
      head_in_bounds = omega (arith, length_rest c.loop-i.out c.loop-i.at, kept turn, room turn, c.requires.heads_in_bounds);
    }

pub loop-i-preserved : goal.loop-i-preserved
loop-i-preserved c =
    let turn = (goal.at.loop-i-preserved c).In-loop-i in
    let heads = c.args.heads.now in
    let words = c.args.words.now in
    let lent = c.args.out.now in
    let i = c.loop-i.i in
    let more = c.loop-i-test.true in
    let before = c.loop-i.invariant in (
      omega (arith, before.0, c.inner_words-at.ensures.value, heads-more heads i more),
      laid_more (front words heads i) (layout_inner (inner_of words (head turn))) lent c.loop-i.out c.put_inner-inner.new.out c.loop-i.at before.1 (long turn)
          c.put_inner-inner.ensures.out_after
          ∙ ap (λ (laid : List ℕ). over laid lent) (sym (inners-more heads i more words)),
      inners-total heads i more words c.loop-i.total c.put_inner-inner.result _ before.2
          c.put_inner-inner.ensures.value refl,
    )
