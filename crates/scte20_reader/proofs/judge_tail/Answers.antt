-- `scte20_reader::judge_tail` meets its contract: the sampled video count is judged as `sampled_verdict` says, and the rest by `judge_rest`.
use Prim.Native.Nat.{ℕ, ◌+◌, ◌-◌, ◌*◌, ◌≤◌, ◌<◌}
use native.Mathlib.Omega.{arith}
use mathlib.Core.Path.{◌≡◌, ◌∙◌, sym}
use mathlib.Core.List.{List}
use borrow.Author.Tests.{eq-eqb, ne_eqb}
use lib.ListN.{length}
use Rattle.bits.specs.Bits.{bits_of, field}
use Rattle.bits.proofs.Beyond.{peek-inside}
use Rattle.scte20.specs.Reading.{sampled_verdict}
use Rattle.scte20.proofs.Bytewise.{missing-some, missing-none}
use Rattle.scte20_reader.proofs.judge_tail.Goals.{After-peek}
use Rattle.scte20_reader.proofs.judge_tail.Goals as goal

pub returns-then-body-end : goal.returns-then-body-end
unfolding sampled_verdict
returns-then-body-end c =
    let body = c.args.body.now in
    let at = c.args.end - 4 in
    let short : 8 * length body < at + 4 = omega arith in
    simp (missing-some body at 4 short)

-- the count is there
module _ (c : After-peek) where
  abbrev body_of : List ℕ
  body_of = c.args.body.now

  abbrev at_of : ℕ
  at_of = c.args.end - 4

  long : at_of + 4 ≤ 8 * length body_of
  long = omega arith

  seen : c.peek.result ≡ field (bits_of body_of) at_of 4
  seen = c.peek.ensures ∙ peek-inside body_of at_of 4 long

pub returns-then-peek-ne0 : goal.returns-then-peek-ne0
unfolding sampled_verdict
returns-then-peek-ne0 c =
    simp (
      missing-none (body_of (goal.at.returns-then-peek-ne0 c).After-peek) (at_of (goal.at.returns-then-peek-ne0 c).After-peek) 4 (long (goal.at.returns-then-peek-ne0 c).After-peek),
      ne_eqb (field (bits_of (body_of (goal.at.returns-then-peek-ne0 c).After-peek)) (at_of (goal.at.returns-then-peek-ne0 c).After-peek) 4) 0 (λ e. c.if-peek-ne0.true (seen (goal.at.returns-then-peek-ne0 c).After-peek ∙ e)),
    )

pub returns : goal.returns
unfolding sampled_verdict
returns c =
    simp (
      missing-none (body_of (goal.at.returns c).After-peek) (at_of (goal.at.returns c).After-peek) 4 (long (goal.at.returns c).After-peek),
      eq-eqb (field (bits_of (body_of (goal.at.returns c).After-peek)) (at_of (goal.at.returns c).After-peek) 4) 0 (sym (seen (goal.at.returns c).After-peek) ∙ c.if-peek-ne0.false),
    ) c.judge_rest.ensures
