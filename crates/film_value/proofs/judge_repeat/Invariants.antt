-- `film_value::judge_repeat` meets its contract. Where the first field is repeated no record is refused; else the loop's
-- invariant: the records from i on decide as all of them do.
use Rattle.film.proofs.Records.{records_of, Left, repeat_from}
use Rattle.film_value.proofs.judge_repeat.Given as goal

abbrev pub invariant-loop-i : goal.invariant-loop-i
invariant-loop-i l = Left repeat_from (records_of l.fn.v l.records) l.i
