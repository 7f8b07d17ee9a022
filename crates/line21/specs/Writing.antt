-- What writing a Line 21 payload answers, and what the lent output then holds, for every value and output. RULES,
-- "Order of checks": 15 of m, 15 unit by unit, 1, 14.
use Rattle.std.specs.Prelude.{ℕ, List, [], ◌∷◌, map, ltb, length}
use Rattle.refusal.specs.Verdict.{Verdict}
use Rattle.refusal.specs.declared.Reason.TheVariants.{Unholdable}
use Rattle.refusal.specs.declared.Excess.TheVariants.{Count, CcValid, Padding}
use Rattle.refusal.specs.declared.Item.TheVariants.{Whole}
use Rattle.refusal.specs.declared.Written.{Written}
use Rattle.refusal.specs.Checks.{refuse_if, first, fit_verdict}
use Rattle.refusal.specs.Answers.{Wrote}
use Rattle.line21.specs.declared.AccessUnit.{AccessUnit}
use Rattle.line21.specs.declared.Payload.{Payload}
use Rattle.line21.specs.Value.{Typed, held}
use Rattle.line21.specs.Layout.{layout}

-- each flag is one bit, the padding six
unfoldable pub unit_verdict : AccessUnit → Verdict
unit_verdict u =
    first
    (refuse_if (ltb 1 u.cc_valid_1) (Unholdable CcValid) Whole
    ∷ refuse_if (ltb 1 u.cc_valid_2) (Unholdable CcValid) Whole
    ∷ refuse_if (ltb 63 u.padding) (Unholdable Padding) Whole
    ∷ [])

abbrev pub units_verdict : List AccessUnit → Verdict
units_verdict us = first (map unit_verdict us)

unfoldable pub value_verdict : Payload → ℕ → Verdict
value_verdict p room =
    first
    (refuse_if (ltb 291 p.m) (Unholdable Count) Whole
    ∷ units_verdict (held p).units
    ∷ fit_verdict 1456 (length (layout (held p))) room
    ∷ [])

-- the promise of `write`. By its type the struct's bytes are bytes and its array has 291 places: the code shows it
pub record Writes (p : Payload) (out : List ℕ) (answer : Written) (exit : List ℕ) : Type 0 where
  pub typed : Typed p
  pub wrote : Wrote (value_verdict p (length out)) (layout (held p)) out answer exit
