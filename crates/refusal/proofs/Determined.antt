-- Each function's promise fixes its answer.
-- Assumes nothing.
use Prim.Native.Nat.{ℕ, ◌+◌}
use mathlib.Core.Path.{◌≡◌, ◌∙◌, sym}
use Rattle.refusal.specs.declared.Reason.{Reason}
use Rattle.refusal.specs.declared.Item.{Item}
use Rattle.refusal.specs.Verdict.{Verdict}
use Rattle.refusal.specs.declared.Refusal.{Refusal}
use Rattle.refusal.specs.Numbers.{number_of, place_of, refusal_of}
use Rattle.refusal.specs.Checks.{fit_verdict, line_verdict}

pub number-determined : (reason : Reason) (a b : ℕ) → a ≡ number_of reason → b ≡ number_of reason → a ≡ b
number-determined reason a b ea eb = ea ∙ sym eb

pub place-determined : (item : Item) (a b : ℕ) → a ≡ place_of item → b ≡ place_of item → a ≡ b
place-determined item a b ea eb = ea ∙ sym eb

pub told-determined : (verdict : Verdict) (a b : Refusal) → a ≡ refusal_of verdict → b ≡ refusal_of verdict → a ≡ b
told-determined verdict a b ea eb = ea ∙ sym eb

pub judge-fit-determined : (limit before body after room : ℕ) (a b : Verdict)
    → a ≡ fit_verdict limit (before + body + after) room → b ≡ fit_verdict limit (before + body + after) room → a ≡ b
judge-fit-determined limit before body after room a b ea eb = ea ∙ sym eb

pub judge-line-determined : (low : ℕ) (reason : Reason) (item : Item) (line : ℕ) (a b : Verdict)
    → a ≡ line_verdict low reason item line → b ≡ line_verdict low reason item line → a ≡ b
judge-line-determined low reason item line a b ea eb = ea ∙ sym eb
