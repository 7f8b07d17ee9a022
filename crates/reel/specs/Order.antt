-- RULES, "Order of checks", for the reel: all checks of writing, each of the input alone, in the order of RULES.
use Rattle.std.specs.Prelude.{ℕ, ◌-◌, List, [], ◌∷◌, ◌++◌, eqb, ltb, length}
use Rattle.refusal.specs.Verdict.{Verdict}
use Rattle.refusal.specs.declared.Reason.TheVariants.{Unholdable}
use Rattle.refusal.specs.declared.Excess.TheVariants.{PayloadSize}
use Rattle.refusal.specs.declared.Item.TheVariants.{Whole}
use Rattle.refusal.specs.Checks.{refuse_if}
use Rattle.line21.specs.declared.AccessUnit.{AccessUnit}
use Rattle.line21.specs.Value.{Line21, stored}
use Rattle.line21.specs.Layout.{layout}
use Rattle.line21.specs.Order.{writing_checks}
use Rattle.reel.specs.Writing.{reel}

-- the checks of each payload in its turn, as its own writer makes them: 15 unit by unit, then 14 for the room that the
-- payloads before it leave
abbrev pub each_payload : List Line21 → ℕ → List Verdict
each_payload [] room = []
each_payload (v ∷ vs) room = writing_checks (stored v) room ++ each_payload vs (room - length (layout v))

abbrev pub reel_checks : ℕ → ℕ → List AccessUnit → ℕ → List Verdict
reel_checks flags size us room =
    -- 15: a payload of no unit, or of more than 291
    refuse_if (eqb size 0) (Unholdable PayloadSize) Whole
    ∷ refuse_if (ltb 291 size) (Unholdable PayloadSize) Whole
    ∷ each_payload (reel flags size us) room
