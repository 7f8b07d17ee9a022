-- `film_picture::slot_of` meets its contract. The loop's invariant: the records from i on have the slot that all of them have.
use Rattle.film.proofs.Records.{records_of, Left, slot_from}
use Rattle.film_picture.proofs.slot_of.Given as goal

abbrev pub invariant-loop-i : goal.invariant-loop-i
invariant-loop-i l = Left (slot_from l.line_offset l.field.0) (records_of l.fn.v l.records) l.i
