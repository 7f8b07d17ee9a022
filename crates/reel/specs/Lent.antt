-- Writing a reel of a run that is lent as bytes, seven for each unit.
use Rattle.std.specs.Prelude.{ℕ, ◌%◌, ◌≡◌, not, List, [], ◌∷◌, eqb, length}
use Rattle.lists.specs.Bytes.{Bytes}
use Rattle.refusal.specs.Verdict.{Verdict}
use Rattle.refusal.specs.Verdict.{Refused}
use Rattle.refusal.specs.declared.Reason.TheVariants.{Unholdable}
use Rattle.refusal.specs.declared.Excess.TheVariants.{RunLength}
use Rattle.refusal.specs.declared.Item.TheVariants.{Whole}
use Rattle.refusal.specs.declared.Written.{Written}
use Rattle.refusal.specs.Checks.{refuse_if, first}
use Rattle.refusal.specs.Answers.{Wrote}
use Rattle.line21.specs.Lent.{run_in}
use Rattle.reel.specs.Writing.{reel, size_verdict, reel_verdict, WritesReel}

-- 15 of the size, 15 of a run that ends within a unit, then the payloads
unfoldable pub run_verdict : ℕ → ℕ → List ℕ → ℕ → Verdict
run_verdict flags size s room =
    first
    (size_verdict size
    ∷ refuse_if (not (eqb (length s % 7) 0)) (Unholdable RunLength) Whole
    ∷ reel_verdict (reel flags size (run_in s)) room
    ∷ [])

-- the promise of writing a reel of a lent run: that of its units, and 15 where the run ends within one
pub record WritesRun (flags size : ℕ) (s out : List ℕ) (answer : Written) (exit : List ℕ) : Type 0 where
  pub bytes : Bytes s
  pub whole : length s % 7 ≡ 0 → WritesReel flags size (run_in s) out answer exit
  pub cut_off : (length s % 7 ≡ 0 → ⊥) → Wrote (Refused (Unholdable RunLength) Whole) [] out answer exit
