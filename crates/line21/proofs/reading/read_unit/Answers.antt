-- The verdict decides what the answer shows, and the unit at i is the one that stands there.
use Rattle.std.proofs.Common.{◌≡◌, ◌∙◌, ap, sym, ℕ, ◌+◌, ◌*◌, ◌≤◌, ◌<◌, List, [], ◌∷◌, length, get_or, drop, arith}
use lib.Seq.{drop-drop}
use Rattle.lists.proofs.Flat.{get_d-taken}
use Rattle.refusal.specs.declared.Refusal.{Refusal}
use Rattle.refusal.specs.Verdict.{Verdict}
use Rattle.refusal.specs.Verdict.{Accepted}
use Rattle.refusal.specs.Numbers.{refusal_of}
use Rattle.line21.specs.declared.AccessUnit.{AccessUnit}
use Rattle.line21.specs.Value.{blank}
use Rattle.line21.specs.Reading.{read_unit, unit_count, value_of}
use Rattle.line21.proofs.Answers.{one_of, one-there, one-beyond, one-refused}
use Rattle.line21.proofs.Length.{accepted-whole}
use Rattle.line21.proofs.Units.{length-read_units}
use Rattle.line21.proofs.reading.read_unit.Goals as goal
use Rattle.line21.proofs.reading.read_unit.Goals.{In-Ok, in-Ok+else-i-s, in_default}

counted : (s : List ℕ) → length (value_of s).units ≡ unit_count (length s)
counted s = length-read_units (unit_count (length s)) (drop 1 s)

unit-there : (s : List ℕ) (i : ℕ) → i < unit_count (length s) → get_or (value_of s).units i blank ≡ read_unit (drop (1 + 5 * i) s)
unit-there s i h = get_d-taken read_unit 5 blank (unit_count (length s)) i (drop 1 s) h ∙ ap read_unit (drop-drop (5 * i) 1 s)

no-unit : Refusal → Refusal × List AccessUnit
no-unit refusal = (refusal, [])

pub overflow_sub-s : goal.overflow_sub-s
overflow_sub-s c = omega (arith, (accepted-whole (length c.args.s.now) (sym c.judge_length-verdict.ensures ∙ c.in-Ok.is)).exact)

pub returns-then-i-s : goal.returns-then-i-s
returns-then-i-s c =
    let s = c.args.s.now in
    let i = c.args.i in
    let below : i < unit_count (length s) = omega arith in
    let inside : i < length (value_of s).units = omega (arith, counted s) in
    ap (λ (u : AccessUnit). (refusal_of Accepted, u ∷ [])) (c.unit_at.ensures ∙ sym (unit-there s i below))
    ∙ sym (one-there (value_of s) i inside)
    ∙ ap (λ (v : Verdict). one_of v (value_of s) i) (sym c.in-Ok.is ∙ c.judge_length-verdict.ensures)

pub returns : goal.returns
unfolding no-unit
returns c =
    let s = c.args.s.now in
    let i = c.args.i in
    let judged = c.judge_length-verdict.ensures in
    elim c.match-verdict.branch [
      | in-Ok+else-i-s w ↦
          (let past : length (value_of s).units ≤ i = omega (arith, counted s) in
          ap no-unit (c.from.ensures ∙ ap refusal_of w.in-Ok.is) ∙ sym (one-beyond (value_of s) i past)
          ∙ ap (λ (v : Verdict). one_of v (value_of s) i) (sym w.in-Ok.is ∙ judged))
      | in_default w ↦
          ap no-unit (c.from.ensures ∙ ap refusal_of w.in_default.is) ∙ sym (one-refused (value_of s) i w.in_default.field-0.0 w.in_default.field-0.1)
          ∙ ap (λ (v : Verdict). one_of v (value_of s) i) (sym w.in_default.is ∙ judged)
    ]
