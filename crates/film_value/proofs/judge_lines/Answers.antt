-- `film_value::judge_lines` meets its contract: a record on another line decides, and one on this line leaves it to those behind it.
use mathlib.Core.Path.{sym}
use Rattle.film.proofs.Records.{left-here, left-next, lines_from, line_refused, line-next}
use Rattle.film_value.proofs.judge_lines.Goals as goal

pub returns-then-record-line_offset : goal.returns-then-record-line_offset
returns-then-record-line_offset c =
    let args = c.args in
    sym
    (left-here (lines_from args.line_offset) args.v args.records.now c.requires c.loop-i.i _ c.loop-i-test.true c.record_in-record.ensures c.loop-i.invariant _
    (λ rest. line_refused args.line_offset c.loop-i.i c.record_in-record.result rest c.if-record-line_offset.true))

pub loop-i-preserved : goal.loop-i-preserved
loop-i-preserved c =
    let args = c.args in
    left-next (lines_from args.line_offset) args.v args.records.now c.requires c.loop-i.i _ c.loop-i-test.true c.record_in-record.ensures c.loop-i.invariant
    (λ rest. line-next args.line_offset c.loop-i.i c.record_in-record.result rest c.if-record-line_offset.false)
