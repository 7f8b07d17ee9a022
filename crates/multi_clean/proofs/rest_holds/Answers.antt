-- `multi_clean::rest_holds` meets its contract: each turn passes an inner packet that is all there, and what is left is CS.
use Rattle.std.proofs.Common.{ℕ, ◌+◌, ◌-◌, ◌≤◌, List, length, get_or, sym, refl, ◌∙◌, arith, eqb-true}
use Rattle.lists.specs.Part.{part}
use Rattle.anc.specs.Words.{byte_of}
use Rattle.multi.specs.Inside.{Sums}
use Rattle.multi.proofs.Clean.{stray-low, turn-start, inner-inside, turn_on, turn_end}
use Rattle.multi_clean.proofs.rest_holds.Goals.{After-stray-excused}
use Rattle.multi_clean.proofs.rest_holds.Goals as goal

pub loop-at-init : goal.loop-at-init
loop-at-init c =
    let words = c.args.words.now in
    turn-start words (length words - 1) c.sum-total.result (omega (arith, c.requires)) c.sum-total.ensures

-- the inner packet is all there, and its sum is told
module _ (c : After-stray-excused) where
  abbrev words : List ℕ
  words = c.args.words.now

  abbrev at : ℕ
  at = c.loop-at.at

  sums : Sums (part at (length words - 1) words) c.in-Some.sum
  sums = c.in-Some.ensures

  inside : (at + 4 ≤ length words - 1) × (at + 5 + byte_of (get_or words (at + 3) 0) ≤ length words - 1)
  inside = inner-inside words (length words - 1) at c.in-Some.sum (omega arith) sums

pub overflow_add-excused : goal.overflow_add-excused
overflow_add-excused c =
    let turn = (goal.at.overflow_add-excused c).After-stray-excused in
    let ncs = c.loop-at.at + 4 + byte_of (get_or c.args.words.now (c.loop-at.at + 3) 0) in
    omega (arith, c.stray-excused.ensures, stray-low (get_or c.args.words.now ncs 0), c.loop-at.invariant.few, inside turn, c.requires)

pub loop-at-preserved : goal.loop-at-preserved
loop-at-preserved c =
    let turn = (goal.at.loop-at-preserved c).After-stray-excused in
    let words = c.args.words.now in
    let loop = c.loop-at in
    turn_on words (length words - 1) loop.at loop.total loop.excused (omega arith) c.loop-at-test.true loop.invariant c.in-Some.sum (sums turn)
    (loop.at + 4 + byte_of (get_or words (loop.at + 3) 0)) refl _ _ refl (omega (arith, c.stray-excused.ensures))

pub returns : goal.returns
returns c is =
    let words = c.args.words.now in
    let loop = c.loop-at in
    turn_end words loop.at loop.total loop.excused c.requires.0 c.loop-at-test.false loop.invariant
    (sym c.strays-found.ensures ∙ c.if-found-excused.false)
    (eqb-true _ _ is ∙ c.cs.ensures)
