-- The theorems of refusals (docs/RULES.md, "Refusals"). What they speak of is defined in specs/Numbers and Checks. What
-- an answer tells of a writer's output is shown in proofs/Outputs, for the pages of the carriages.
-- How to read it: docs/NOTATION.md.
-- Assumes nothing.
use Prim.Native.Nat.{ℕ, ◌+◌}
use mathlib.Core.Path.{◌≡◌}
use Rattle.refusal.specs.declared.Reason.{Reason}
use Rattle.refusal.specs.declared.Item.{Item}
use Rattle.refusal.specs.Verdict.{Verdict}
use Rattle.refusal.specs.Verdict.{Accepted}
use Rattle.refusal.specs.declared.Refusal.{Refusal}
use Rattle.refusal.specs.Numbers.{number_of, place_of, refusal_of}
use Rattle.refusal.specs.Checks.{fit_verdict, line_verdict}
use Rattle.refusal.proofs.Acceptance as acceptance
use Rattle.refusal.proofs.Determined as determined

-- A caller tells an acceptance by its number: no refusal has number 0.
pub told-accepted : (verdict : Verdict) → (refusal_of verdict).number ≡ 0 → verdict ≡ Accepted
told-accepted = acceptance.told-accepted

-- For each function, two answers that keep its promise are equal.
pub number-determined : (reason : Reason) (a b : ℕ) → a ≡ number_of reason → b ≡ number_of reason → a ≡ b
number-determined = determined.number-determined

pub place-determined : (item : Item) (a b : ℕ) → a ≡ place_of item → b ≡ place_of item → a ≡ b
place-determined = determined.place-determined

pub told-determined : (verdict : Verdict) (a b : Refusal)
    → a ≡ refusal_of verdict → b ≡ refusal_of verdict → a ≡ b
told-determined = determined.told-determined

pub judge-fit-determined : (limit before body after room : ℕ) (a b : Verdict)
    → a ≡ fit_verdict limit (before + body + after) room → b ≡ fit_verdict limit (before + body + after) room → a ≡ b
judge-fit-determined = determined.judge-fit-determined

pub judge-line-determined : (low : ℕ) (reason : Reason) (item : Item) (line : ℕ) (a b : Verdict)
    → a ≡ line_verdict low reason item line → b ≡ line_verdict low reason item line → a ≡ b
judge-line-determined = determined.judge-line-determined
