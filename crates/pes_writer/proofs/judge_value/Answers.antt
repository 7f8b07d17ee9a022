-- `pes_writer::judge_value` meets its contract: what refuses before the loop, and the unit in it that does.
use Rattle.std.proofs.Common.{ℕ, List, ◌*◌, ap, rules, sym, ◌∙◌, ◌≡◌}
use Rattle.lists.proofs.Lay.{rest-whole}
use Rattle.pes.specs.Writing.{written_verdict}
use Rattle.pes.specs.Lent.{unit_in}
use Rattle.pes_writer.proofs.Judged.{wrong-identifier, many, behind-refused}
use Rattle.pes_writer.proofs.judge_value.Goals as goal

pub returns-then-data_identifier-ne1 : goal.returns-then-data_identifier-ne1
returns-then-data_identifier-ne1 c =
    let args = c.args in
    sym (wrong-identifier args.data_identifier args.n args.room args.units.now c.if-data_identifier-ne1.true)

pub returns-then-n-gt-MAX_UNITS : goal.returns-then-n-gt-MAX_UNITS
returns-then-n-gt-MAX_UNITS c =
    let args = c.args in
    sym (many args.data_identifier args.n args.room args.units.now c.if-data_identifier-ne1.false c.if-n-gt-MAX_UNITS.true)

pub returns-in_err-judge_unit : goal.returns-in_err-judge_unit
returns-in_err-judge_unit c =
    let args = c.args in
    let units = args.units.now in
    let i = c.loop-i.i in
    let same : c.from_residual.result ≡ c.judge_unit.result = search rules in
    let here = c.in_err-judge_unit.ensures ∙ ap (λ (u : List ℕ). written_verdict (unit_in u)) (rest-whole units (45 * i)) in
    let refused = behind-refused args.data_identifier args.n args.room units c.if-n-gt-MAX_UNITS.false i _ c.loop-i-test.true (sym here) in
    same ∙ c.in_err-judge_unit.was ∙ sym (c.loop-i.invariant ∙ refused)
