-- `film_value::judge_lines` meets its contract. The loop's invariant: the records from i on decide as all of them do.
use Rattle.film.proofs.Records.{records_of, Left, lines_from}
use Rattle.film_value.proofs.judge_lines.Given as goal

abbrev pub invariant-loop-i : goal.invariant-loop-i
invariant-loop-i l = Left (lines_from l.line_offset) (records_of l.fn.v l.records) l.i
