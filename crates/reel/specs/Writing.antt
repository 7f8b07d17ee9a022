-- What writing a reel answers, and what the lent output then holds, for every run and output. RULES, "Reel" and "Order
-- of checks": 15 of the size, then what the writer of one payload checks, payload after payload.
use Rattle.std.specs.Prelude.{ℕ, ◌-◌, ◌<◌, List, [], ◌∷◌, map, eqb, ltb, length}
use Rattle.lists.specs.Each.{Each}
use Rattle.lists.specs.Flat.{flat}
use Rattle.refusal.specs.Verdict.{Verdict}
use Rattle.refusal.specs.Verdict.{Accepted}
use Rattle.refusal.specs.declared.Reason.TheVariants.{Unholdable}
use Rattle.refusal.specs.declared.Excess.TheVariants.{PayloadSize}
use Rattle.refusal.specs.declared.Item.TheVariants.{Whole}
use Rattle.refusal.specs.declared.Written.{Written}
use Rattle.refusal.specs.Checks.{refuse_if, and_then, first}
use Rattle.refusal.specs.Answers.{Wrote}
use Rattle.line21.specs.declared.AccessUnit.{AccessUnit}
use Rattle.line21.specs.Value.{Line21, ByteUnit, stored}
use Rattle.line21.specs.Layout.{layout}
use Rattle.line21.specs.Writing.{value_verdict}
use Rattle.reel.specs.Cut.{cut}

abbrev pub payload : ℕ → List AccessUnit → Line21
payload flags us = record { flags = flags; units = us }

-- the run as payloads of `size` units, all with the same flags byte
abbrev pub reel : ℕ → ℕ → List AccessUnit → List Line21
reel flags size us = map (payload flags) (cut size us)

-- their bytes, payload after payload
abbrev pub reel_layout : List Line21 → List ℕ
reel_layout vs = flat layout vs

-- a payload has 1 to 291 units
unfoldable pub size_verdict : ℕ → Verdict
size_verdict size =
    first
    (refuse_if (eqb size 0) (Unholdable PayloadSize) Whole
    ∷ refuse_if (ltb 291 size) (Unholdable PayloadSize) Whole
    ∷ [])

-- what the writer of one payload says of each in its turn, with the room that those before it leave
abbrev pub reel_verdict : List Line21 → ℕ → Verdict
reel_verdict [] room = Accepted
reel_verdict (v ∷ vs) room = and_then (value_verdict (stored v) room) (reel_verdict vs (room - length (layout v)))

abbrev pub call_verdict : ℕ → ℕ → List AccessUnit → ℕ → Verdict
call_verdict flags size us room = and_then (size_verdict size) (reel_verdict (reel flags size us) room)

-- the promise of writing a reel. By their types the flags byte and the units' data bytes are bytes: the code shows it
pub record WritesReel (flags size : ℕ) (us : List AccessUnit) (out : List ℕ) (answer : Written) (exit : List ℕ) : Type 0 where
  pub byte : flags < 256
  pub bytes : Each ByteUnit us
  pub wrote : Wrote (call_verdict flags size us (length out)) (reel_layout (reel flags size us)) out answer exit
