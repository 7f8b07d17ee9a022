-- `picture_writer::write_unit` meets its contract: before the body that was written the start code makes the unit.
use native.Mathlib.Omega.{arith}
use Rattle.picture.proofs.Wholes.{unit-refused, unit-laid, unit-short}
use Rattle.picture_writer.proofs.write_unit.Goals as goal

pub returns-in-Err : goal.returns-in-Err
returns-in-Err g c = unit-refused g.C.Content.KIND c.write_body.ensures _ c.in-Err.is _ c.refused.ensures

pub overflow_add-result : goal.overflow_add-result
overflow_add-result g c = let short = unit-short g.C.Content.KIND c.write_body.ensures _ c.in-Ok.is in omega (arith, short)

pub returns-in-Ok : goal.returns-in-Ok
returns-in-Ok g c = unit-laid g.C.Content.KIND c.write_body.ensures _ c.in-Ok.is _ c.from.ensures _ c.«open».ensures
