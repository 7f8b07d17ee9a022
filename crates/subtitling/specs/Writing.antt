-- What writing a subtitling packet answers, and what the lent output then holds, for every value and output. RULES,
-- "Order of checks": 15 of the counter; slot by slot 15 and 7; 1; 14.
use Rattle.std.specs.Prelude.{ℕ, List, [], ◌∷◌, ltb, length}
use Rattle.refusal.specs.Verdict.{Verdict}
use Rattle.refusal.specs.declared.Reason.TheVariants.{Unholdable}
use Rattle.refusal.specs.declared.Excess.TheVariants.{Counter}
use Rattle.refusal.specs.declared.Item.TheVariants.{Whole}
use Rattle.refusal.specs.declared.Written.{Written}
use Rattle.refusal.specs.Checks.{refuse_if, first, fit_verdict}
use Rattle.refusal.specs.Answers.{Wrote}
use Rattle.sdp.specs.declared.Packet.{Packet}
use Rattle.sdp.specs.Value.{Sdp, Typed, held}
use Rattle.sdp.specs.SlotVerdict.{slots_verdict}
use Rattle.subtitling.specs.Layout.{layout}

unfoldable pub value_verdict : Sdp → ℕ → Verdict
value_verdict v room =
    first
    (refuse_if (ltb 65535 v.counter) (Unholdable Counter) Whole
    ∷ slots_verdict v.slots
    ∷ fit_verdict 245 (length (layout v)) room
    ∷ [])

-- the promise of `write`. By their types there are five slots, and five rows of 42 bytes: the code shows it
pub record Writes (p : Packet) (rows : List (List ℕ)) (out : List ℕ) (answer : Written) (exit : List ℕ) : Type 0 where
  pub typed : Typed p rows
  pub wrote : Wrote (value_verdict (held p rows) (length out)) (layout (held p rows)) out answer exit
