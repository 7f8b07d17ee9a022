-- `ga94_reader::judge_closing` meets its contract: the tests and the search find the check of `closing_verdict` that refuses, or none.
-- Assumes nothing.
use Prim.Native.Nat.{ℕ, ◌+◌, ◌*◌, ◌≤◌, ◌<◌}
use native.Mathlib.Omega.{arith}
use mathlib.Core.Path.{◌∙◌, ap, sym, subst}
use mathlib.Core.List.{List}
use borrow.Author.Rules.{rules}
use borrow.Author.Tests.{eq-eqb, ne_eqb}
use lib.ListN.{length, get_or}
use Rattle.lists.specs.Bytes.{Bytes}
use Rattle.lists.proofs.Each.{each-of}
use Rattle.refusal.specs.Verdict.{Refused}
use Rattle.refusal.specs.declared.Reason.TheVariants.{Unfixed}
use Rattle.refusal.specs.declared.Fixed.TheVariants.{Stuffing}
use Rattle.refusal.specs.declared.Item.TheVariants.{Bit}
use Rattle.bits.specs.Peek.{leading_of, first_set}
use Rattle.stuffing.proofs.Zeros.{stuffing-none, stuffing-some}
use Rattle.ga94.specs.Reading.{closing_verdict}
use Rattle.ga94.proofs.Constructs.{missing-some, missing-none}
use Rattle.ga94_reader.proofs.judge_closing.Statement.{statement}
use Rattle.ga94_reader.proofs.judge_closing.Tie as tie

-- the input is a list of bytes by its type
module _ (c : tie.After-shared_slice_known-1) where
  abbrev body_of : List ℕ
  body_of = c.before.args.body.now

  abbrev at_of : ℕ
  at_of = c.before.args.at

  bytes : Bytes body_of
  bytes = each-of (λ (b : ℕ). b < 256) 0 body_of (λ i h. omega (arith, c.shared_slice_known-1.given i))

ends : tie.Need-returns-then-body-at
unfolding closing_verdict
ends c = let known = c.before in simp (missing-some (at_of known) 1 (body_of known) c.if-body-at.true)

other : tie.Need-returns-then-body-at-2
unfolding closing_verdict
other c =
    let there = c.before.before in
    let known = there.before in
    simp (missing-none (at_of known) 1 (body_of known) there.if-body-at.false, ne_eqb (get_or (body_of known) (at_of known) 0) 0xFF c.if-body-at-2.true)

-- past the ones the stuffing decides
module _ (c : tie.After-first_set-wrong) where
  abbrev known : tie.After-shared_slice_known-1
  known = c.before.before.before.before

  there : at_of known + 1 ≤ length (body_of known)
  there = c.before.before.before.if-body-at.false

stuffed : tie.Need-returns-then-wrong-body
unfolding closing_verdict
stuffed c =
    let found = c.before.before.before in
    let body = body_of (known found) in
    let at = at_of (known found) in
    let wrong = found.first_set-wrong.result in
    let some : first_set body (at + 1) < length body = subst (λ (k : ℕ). k < length body) found.first_set-wrong.ensures c.before.before.if-wrong-body.true in
    ap (λ (k : ℕ). Refused (Unfixed Stuffing) (Bit (8 * wrong + k))) c.leading-zeros.ensures
    ∙ ap (λ (k : ℕ). Refused (Unfixed Stuffing) (Bit (8 * k + leading_of (get_or body k 0)))) found.first_set-wrong.ensures
    ∙ sym (simp (missing-none at 1 body (there found), eq-eqb (get_or body at 0) 0xFF found.before.if-body-at-2.false, stuffing-some body (at + 1) (bytes (known found)) some))

right : tie.Need-returns
unfolding closing_verdict
right c =
    let found = c.before in
    let body = body_of (known found) in
    let at = at_of (known found) in
    let none : length body ≤ first_set body (at + 1) = subst (λ (k : ℕ). length body ≤ k) found.first_set-wrong.ensures c.if-wrong-body.false in
    sym (simp (missing-none at 1 body (there found), eq-eqb (get_or body at 0) 0xFF found.before.if-body-at-2.false, stuffing-none body (at + 1) none))

pub judge_closing_spec : {M : Type 1} → statement M
judge_closing_spec =
    tie.close
    (tie.spec
    (λ c. omega arith)
    (λ c. omega arith)
    ends
    (λ c. omega arith)
    (λ c. omega arith)
    other
    (λ c. omega arith)
    (λ c κs. search rules)
    (λ c. omega arith)
    (λ c κs. search rules)
    (λ c. omega arith)
    (λ c. search rules)
    (λ c. omega arith)
    stuffed
    right)
