-- `film_value::judge_repeat` meets its contract: a record of display field 3 decides, and another leaves it to those behind it.
use Rattle.std.proofs.Common.{rules}
use mathlib.Core.Path.{◌∙◌, ap, sym}
use mathlib.Core.Bool.{Bool}
use Rattle.film.specs.Calls.{repeat_verdict}
use Rattle.film.proofs.Records.{records_of, repeated, left-here, left-next, repeat_from, repeat-refused, repeat-next}
use Rattle.film_value.proofs.judge_repeat.Goals as goal

pub returns-then-repeat_first_field : goal.returns-then-repeat_first_field
returns-then-repeat_first_field c =
    let rs = records_of c.args.v c.args.records.now in
    sym (ap (λ (t : Bool). repeat_verdict t 21 rs) c.if-repeat_first_field.true ∙ repeated 21 rs)

pub returns-then-eq : goal.returns-then-eq
returns-then-eq c =
    let args = c.args in
    sym
    (ap (λ (t : Bool). repeat_verdict t 21 (records_of args.v args.records.now)) c.if-repeat_first_field.false
    ∙ left-here repeat_from args.v args.records.now c.requires c.loop-i.i _ c.loop-i-test.true c.record_in-record.ensures c.loop-i.invariant _
    (λ rest. repeat-refused c.loop-i.i c.record_in-record.result rest (search rules)))

pub loop-i-preserved : goal.loop-i-preserved
loop-i-preserved c =
    let args = c.args in
    left-next repeat_from args.v args.records.now c.requires c.loop-i.i _ c.loop-i-test.true c.record_in-record.ensures c.loop-i.invariant
    (λ rest. repeat-next c.loop-i.i c.record_in-record.result rest (search rules))
