-- `ga94_reader::is_closed` meets its contract: a yes comes after the eight ones, and where no byte behind them is set.
use Prim.Native.Nat.{ℕ, ◌+◌, ◌≤◌, ◌<◌}
use native.Mathlib.Omega.{arith}
use mathlib.Core.Path.{◌≡◌, subst}
use mathlib.Core.Bool.{false≢true}
use mathlib.Core.List.{List}
use borrow.Author.Tests.{eq-eqb, leb-true}
use lib.ListN.{length, get_or}
use Rattle.refusal.specs.Verdict.{Accepted}
use Rattle.bits.specs.Peek.{first_set}
use Rattle.bits.proofs.Runs.{first_set-end}
use Rattle.stuffing.proofs.Zeros.{stuffing-none}
use Rattle.ga94.specs.Reading.{closing_verdict}
use Rattle.ga94.proofs.Constructs.{missing-none}
use Rattle.ga94_reader.proofs.is_closed.Goals as goal

-- the ones are there, and behind them zeros
closed : (body : List ℕ) (at : ℕ) → at < length body → get_or body at 0 ≡ 0xFF → length body ≤ first_set body (at + 1) → closing_verdict at body ≡ Accepted
unfolding closing_verdict
closed body at there ones none = simp (missing-none at 1 body (omega arith), eq-eqb (get_or body at 0) 0xFF ones, stuffing-none body (at + 1) none)

pub returns-then-body-stuffing : goal.returns-then-body-stuffing
returns-then-body-stuffing c is =
    let past = c in
    let args = past.args in
    let body = args.body.now in
    closed body args.at (omega arith) past.if-body-at.false (omega (arith, c.if-body-stuffing.true, first_set-end body (args.at + 1) c.if-body-stuffing.true))

pub returns : goal.returns
returns c is =
    let past = c in
    let args = past.args in
    let body = args.body.now in
    closed body args.at (omega arith) past.if-body-at.false (subst (λ (k : ℕ). length body ≤ k) c.first_set.ensures (leb-true _ _ is))

pub returns-then-body-at : goal.returns-then-body-at
returns-then-body-at c is =
    absurd (false≢true is)
