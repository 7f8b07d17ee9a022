-- What a call promises to itself: what its checks say, and what it lays where they are passed. RULES, "Reel" and "Order of
-- checks".
use Rattle.std.specs.Prelude.{ℕ, ◌≤◌, ◌≡◌, Bool, true, List, ltb, length, Result, Ok, Err}
use Rattle.lists.specs.Room.{over}
use Rattle.refusal.specs.Verdict.{Verdict}
use Rattle.refusal.specs.Verdict.{Accepted}
use Rattle.refusal.specs.declared.Reason.{Reason}
use Rattle.refusal.specs.declared.Reason.TheVariants.{Unholdable}
use Rattle.refusal.specs.declared.Excess.TheVariants.{FlagsByte}
use Rattle.refusal.specs.declared.Item.{Item}
use Rattle.refusal.specs.declared.Item.TheVariants.{Whole}
use Rattle.refusal.specs.Checks.{refuse_if, and_then}
use Rattle.line21.specs.declared.AccessUnit.{AccessUnit}
use Rattle.reel.specs.Writing.{size_verdict, reel, reel_layout, reel_verdict}

-- 15 for flags that no byte holds, then 15 of the size
abbrev pub begin_verdict : ℕ → ℕ → Verdict
begin_verdict flags size = and_then (refuse_if (ltb 255 flags) (Unholdable FlagsByte) Whole) (size_verdict size)

-- what is said of the call, and what it lays where it is accepted
abbrev pub whole_verdict : ℕ → ℕ → List AccessUnit → ℕ → Verdict
whole_verdict flags size us room = and_then (begin_verdict flags size) (reel_verdict (reel flags size us) room)

abbrev pub laid : ℕ → ℕ → List AccessUnit → List ℕ
laid flags size us = reel_layout (reel flags size us)

-- the promise of `passes`: after a yes no payload of the run is refused
abbrev pub Vouches : ℕ → List AccessUnit → ℕ → Bool → Type 0
Vouches size us room r = r ≡ true → 1 ≤ size → size ≤ 291 → reel_verdict (reel 0 size us) room ≡ Accepted

-- the promise of `lay`: all bytes and how many there are, or the refusal and the output as it was
abbrev pub Lays : ℕ → ℕ → List AccessUnit → List ℕ → Result ℕ (Reason × Item) → List ℕ → Type 0
Lays flags size us out (Ok n) exit =
    (whole_verdict flags size us (length out) ≡ Accepted) × (n ≡ length (laid flags size us)) × (exit ≡ over (laid flags size us) out)
Lays flags size us out (Err why) exit = (whole_verdict flags size us (length out) ≡ Err why) × (exit ≡ out)
