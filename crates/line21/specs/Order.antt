-- RULES, "Order of checks", for the payload: all checks of reading and of writing, each of the input alone, in the
-- order of RULES.
use Rattle.std.specs.Prelude.{ℕ, ◌-◌, ◌%◌, not, List, [], ◌∷◌, ◌++◌, eqb, ltb, length}
use Rattle.refusal.specs.Verdict.{Verdict}
use Rattle.refusal.specs.declared.Reason.TheVariants.{NoStart, TooLong, Unfit, NoRoom, Unholdable}
use Rattle.refusal.specs.declared.Misfit.TheVariants.{PayloadLength}
use Rattle.refusal.specs.declared.Excess.TheVariants.{Count, CcValid, Padding}
use Rattle.refusal.specs.declared.Item.TheVariants.{Whole, Length}
use Rattle.refusal.specs.Checks.{refuse_if}
use Rattle.refusal.specs.Order.{each_of}
use Rattle.line21.specs.declared.AccessUnit.{AccessUnit}
use Rattle.line21.specs.declared.Payload.{Payload}
use Rattle.line21.specs.Value.{held}
use Rattle.line21.specs.Layout.{layout}

abbrev pub reading_checks : List ℕ → List Verdict
reading_checks s =
    -- 2: a payload of length 0
    refuse_if (eqb (length s) 0) NoStart (Length (length s))
    -- 1: longer than 1,456 bytes
    ∷ refuse_if (ltb 1456 (length s)) TooLong (Length (length s))
    -- 13: not one byte and whole units of 5
    ∷ refuse_if (not (eqb ((length s - 1) % 5) 0)) (Unfit PayloadLength) (Length (length s))
    ∷ []

-- 15: a flag that is no bit, padding above 63
abbrev pub unit_checks : AccessUnit → List Verdict
unit_checks u =
    refuse_if (ltb 1 u.cc_valid_1) (Unholdable CcValid) Whole
    ∷ refuse_if (ltb 1 u.cc_valid_2) (Unholdable CcValid) Whole
    ∷ refuse_if (ltb 63 u.padding) (Unholdable Padding) Whole
    ∷ []

abbrev pub writing_checks : Payload → ℕ → List Verdict
writing_checks p room =
    -- 15: m above 291
    refuse_if (ltb 291 p.m) (Unholdable Count) Whole
    -- 15: each access unit, in order. Entries beyond m are not looked at
    ∷ (each_of unit_checks (held p).units
    -- 1: the result is longer than 1,456 bytes
    ++ (refuse_if (ltb 1456 (length (layout (held p)))) TooLong Whole
    -- 14: the output is shorter than the result
    ∷ refuse_if (ltb room (length (layout (held p)))) NoRoom Whole
    ∷ []))
