-- What the checks of writing a payload say of the first m units of a lent slice, which may have fewer. RULES, "Order of
-- checks".
use Rattle.std.specs.Prelude.{ℕ, ◌/◌, if◌then◌else◌, List, [], ◌∷◌, ltb, length, Result, Ok, Err}
use Rattle.refusal.specs.Verdict.{Verdict}
use Rattle.refusal.specs.declared.Reason.{Reason}
use Rattle.refusal.specs.declared.Reason.TheVariants.{Unholdable}
use Rattle.refusal.specs.declared.Excess.TheVariants.{Count, FlagsByte}
use Rattle.refusal.specs.declared.Item.{Item}
use Rattle.refusal.specs.declared.Item.TheVariants.{Whole}
use Rattle.refusal.specs.Checks.{refuse_if, first}
use Rattle.line21.specs.Writing.{value_verdict}
use Rattle.line21.specs.Lent.{payload_in}

-- 15 where the slice has fewer than m units, then the payload's own checks. No flags byte is refused, so that 0 stands
-- for each
unfoldable pub lent_verdict : ℕ → List ℕ → ℕ → Verdict
lent_verdict m s room =
    first
    (refuse_if (ltb (length s / 7) m) (Unholdable Count) Whole
    ∷ value_verdict (payload_in 0 m s) room
    ∷ [])

-- a flags byte that is told by a number of any size: 15 for one that no byte holds
abbrev pub flags_judged : ℕ → Result ℕ (Reason × Item)
flags_judged flags = if ltb flags 256 then Ok flags else Err (Unholdable FlagsByte, Whole)
