-- `reel::fits` meets its contract: no unit fits any room, more than a fifth of the room fits none, and between the two the flags bytes decide.
use native.Mathlib.Omega.{arith}
use mathlib.Core.Bool.{false≢true}
use borrow.Author.Tests.{lt-ltb, ltb-true, eq-eqb}
use Rattle.reel.proofs.Fitting.{fits-counted, units-long, none-long}
use Rattle.reel.proofs.fits.Goals as goal
use Rattle.reel.proofs.fits.Goals.{then-size-eq0-via-then-size-eq0, then-size-eq0-via-else-size-eq0+then-room-n}

pub returns-then-size-eq0 : goal.returns-then-size-eq0
returns-then-size-eq0 c flags us is some =
    elim c.then-size-eq0.branch [
      | then-size-eq0-via-then-size-eq0 w ↦ (let f : ⊥ = omega arith in absurd f)
      | then-size-eq0-via-else-size-eq0+then-room-n w ↦ (
        λ e. absurd (false≢true e),
        λ h. let f : ⊥ = omega (arith, units-long flags c.args.size us some) in absurd f,
      )
    ]

pub returns-then-n-eq0 : goal.returns-then-n-eq0
returns-then-n-eq0 c flags us is some = (λ e. omega (arith, none-long flags c.args.size us some (omega arith)), λ h. eq-eqb _ _ c.if-n-eq0.true)

pub returns-else-n-eq0 : goal.returns-else-n-eq0
returns-else-n-eq0 c flags us is some =
    let exactly = fits-counted flags c.args.size us some c.args.n c.args.room is (omega arith) (omega arith) in
    (λ e. exactly.0 (ltb-true _ _ e), λ h. lt-ltb _ _ (exactly.1 h))
