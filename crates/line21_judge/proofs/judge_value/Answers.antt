-- The units from i on decide as all of them do; after the loop the room decides.
use Rattle.std.proofs.Common.{◌≡◌, ◌∙◌, ap, sym, Bool, ℕ, ◌+◌, ◌*◌, ◌/◌, ◌≤◌, ◌<◌, List, [], length, get_or, drop, ltb, Err, arith}
use Rattle.std.proofs.lemmas.Result.{err_from_is_err_and}
use lib.ListN.{drop_of_length-le}
use borrow.Author.Tests.{lt-ltb, le-ltb}
use lib.Seq.{get_or-take}
use Rattle.lists.proofs.Flat.{length_taken}
use Rattle.refusal.specs.Verdict.{Verdict}
use Rattle.refusal.specs.declared.Reason.TheVariants.{NoRoom}
use Rattle.refusal.specs.declared.Item.TheVariants.{Whole}
use Rattle.refusal.specs.Checks.{refuse_if, and_then}
use Rattle.line21.specs.declared.AccessUnit.{AccessUnit}
use Rattle.line21.specs.Value.{blank}
use Rattle.line21.specs.Writing.{unit_verdict, units_verdict, value_verdict}
use Rattle.line21.specs.Lent.{access_unit_in, access_units_in, run_in, payload_in}
use Rattle.line21.proofs.LentUnits.{unit-either}
use Rattle.line21.proofs.Numbers.{length-held, units-from, verdict-few}
use Rattle.line21_judge.specs.Judging.{lent_verdict}
use Rattle.line21_judge.proofs.Lent.{lent-verdict}
use Rattle.line21_judge.proofs.judge_value.Invariants.{judged}
use Rattle.line21_judge.proofs.judge_value.Goals as goal
use Rattle.line21_judge.proofs.judge_value.Goals.{After-loop-i, then-units-m-via-then-units-m, then-units-m-via-else-units-m+then-m-gt-MAX_UNITS}

-- the code's first test was passed
module _ (m : ℕ) (units : List ℕ) (few : m ≤ 291) where
  places : length (judged m units) ≡ m
  places = length-held (payload_in 0 m units) (length_taken access_unit_in 7 291 units) few

  -- the slice tells a unit as an array does
  same-unit : m ≤ length units / 7 → (i : ℕ) → i < m → get_or (run_in units) i blank ≡ get_or (access_units_in units) i blank
  same-unit all i below = unit-either units i (omega arith) (omega arith)

  -- in a turn, the unit at i decides first
  split : (i : ℕ) → i < m → units_verdict (drop i (judged m units)) ≡ and_then (unit_verdict (get_or (access_units_in units) i blank)) (units_verdict (drop (i + 1) (judged m units)))
  split i below =
      let inside : i < length (judged m units) = omega (arith, places) in
      units-from (judged m units) i inside
      ∙ ap (λ (u : AccessUnit). and_then (unit_verdict u) (units_verdict (drop (i + 1) (judged m units))))
      (get_or-take m (access_units_in units) i blank below)

  -- what the checks say of the value, as long as no unit was refused
  told : (room i : ℕ) → units_verdict (judged m units) ≡ units_verdict (drop i (judged m units))
      → value_verdict (payload_in 0 m units) room ≡ and_then (units_verdict (drop i (judged m units))) (refuse_if (ltb room (1 + 5 * m)) NoRoom Whole)
  told room i e =
      verdict-few (payload_in 0 m units) (length_taken access_unit_in 7 291 units) few room
      ∙ ap (λ (v : Verdict). and_then v (refuse_if (ltb room (1 + 5 * m)) NoRoom Whole)) e

  -- after the loop no unit is left
  none_left : (i : ℕ) → m ≤ i → drop i (judged m units) ≡ []
  none_left i past = let all : length (judged m units) ≤ i = omega (arith, places) in drop_of_length-le (judged m units) all

pub returns-then-units-m : goal.returns-then-units-m
unfolding lent_verdict value_verdict
returns-then-units-m c =
    elim c.then-units-m.branch [
      | then-units-m-via-then-units-m w ↦ simp (lt-ltb _ _ w.if-units-m.true)
      | then-units-m-via-else-units-m+then-m-gt-MAX_UNITS w ↦ simp (le-ltb _ _ w.if-units-m.false, lt-ltb _ _ w.if-m-gt-MAX_UNITS.true)
    ]

pub returns-in_err-judge_unit : goal.returns-in_err-judge_unit
returns-in_err-judge_unit c =
    let m = c.args.m in
    let units = c.args.units.now in
    let i = c.loop-i.i in
    let few = c.if-m-gt-MAX_UNITS.false in
    let all = c.if-units-m.false in
    let judged-here = c.in_err-judge_unit.was in
    let p = err_from_is_err_and c.from_residual.result c.from_residual.ensures.1 in
    let rest = units_verdict (drop (i + 1) (judged m units)) in
    let space = refuse_if (ltb c.args.room (1 + 5 * m)) NoRoom Whole in
    p.1 ∙ ap Err p.2
    ∙ ap (λ (v : Verdict). and_then (and_then v rest) space)
    (sym judged-here ∙ c.judge_unit.ensures ∙ ap unit_verdict (c.unit_in.ensures ∙ same-unit m units few all i c.loop-i-test.true))
    ∙ ap (λ (v : Verdict). and_then v space) (sym (split m units few i c.loop-i-test.true))
    ∙ sym (lent-verdict m units c.args.room all ∙ told m units few c.args.room i c.loop-i.invariant)

pub loop-i-preserved : goal.loop-i-preserved
loop-i-preserved c =
    let m = c.args.m in
    let units = c.args.units.now in
    let i = c.loop-i.i in
    let few = c.if-m-gt-MAX_UNITS.false in
    let all = c.if-units-m.false in
    c.loop-i.invariant
    ∙ split m units few i c.loop-i-test.true
    ∙ ap (λ (v : Verdict). and_then v (units_verdict (drop (i + 1) (judged m units))))
    (sym (c.judge_unit.ensures ∙ ap unit_verdict (c.unit_in.ensures ∙ same-unit m units few all i c.loop-i-test.true)) ∙ c.in_ok-judge_unit.was)

-- after the loop the room decides
past : (c : After-loop-i) → lent_verdict c.args.m c.args.units.now c.args.room ≡ refuse_if (ltb c.args.room (1 + 5 * c.args.m)) NoRoom Whole
past c =
    let m = c.args.m in
    let units = c.args.units.now in
    let few = c.if-m-gt-MAX_UNITS.false in
    lent-verdict m units c.args.room c.if-units-m.false
    ∙ told m units few c.args.room c.loop-i.i c.loop-i.invariant
    ∙ ap (λ (us : List AccessUnit). and_then (units_verdict us) (refuse_if (ltb c.args.room (1 + 5 * m)) NoRoom Whole))
    (none_left m units few c.loop-i.i c.loop-i-test.false)

pub returns-then-room-m : goal.returns-then-room-m
returns-then-room-m c = sym (past (goal.at.returns-then-room-m c).After-loop-i ∙ ap (λ (t : Bool). refuse_if t NoRoom Whole) (lt-ltb _ _ c.if-room-m.true))

pub returns : goal.returns
returns c = sym (past (goal.at.returns c).After-loop-i ∙ ap (λ (t : Bool). refuse_if t NoRoom Whole) (le-ltb _ _ c.if-room-m.false))
