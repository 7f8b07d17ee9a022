-- `ga94_reader::are_marked` meets its contract. The loop's invariant: as long as no construct was unmarked, those from i on decide as all of them do.
use Prim.Native.Nat.{◌+◌, ◌*◌, ◌≤◌}
use native.Mathlib.Omega.{arith}
use mathlib.Core.Path.{◌∙◌, sym, refl}
use mathlib.Core.Bool.{false≢true}
use lib.ListN.{length}
use Rattle.refusal.proofs.Checks.{accepted-first}
use Rattle.ga94.proofs.Constructs.{missing-none, marker-accepted}
use Rattle.ga94.proofs.Answers.{constructs-here}
use Rattle.ga94_reader.proofs.are_marked.Goals.{then-body-i-ne31, else-body-i-ne31}
use Rattle.ga94_reader.proofs.are_marked.Goals as goal

pub loop-i-preserved : goal.loop-i-preserved
loop-i-preserved c =
    let body = c.args.body.now in
    let n = c.args.n in
    let i = c.loop-i.i in
    let all : 7 + 3 * i + 3 ≤ length body = omega (arith, c.loop-i-test.true) in
    elim c.if-body-i-ne31.branch [
      | then-body-i-ne31 w ↦ λ is. absurd (false≢true (sym w.clean-is ∙ is))
      | else-body-i-ne31 w ↦ λ is.
          c.loop-i.invariant (sym w.clean-is ∙ is)
          ∙ constructs-here body n i c.loop-i-test.true
          ∙ accepted-first _ (sym (missing-none (7 + 3 * i) 3 body all)) refl
          ∙ accepted-first _ (sym (marker-accepted (7 + 3 * i) body w.if-body-i-ne31.false)) refl
    ]
