-- `picture_writer::exchange` meets its contract: around the body that was written come the area's front, the start code and the area's rest.
use Rattle.picture.proofs.Wholes.{area-refused, area-laid}
use Rattle.picture_writer.proofs.exchange.Goals as goal

pub returns-in-Err : goal.returns-in-Err
returns-in-Err g c =
    let spot = c.args.spot in
    area-refused g.C.Content.KIND c.args.s.now spot.start spot.end c.requires.start_le_end c.requires.end_in_bounds c.write_body.ensures
    _ c.in-Err.is _ c.refused.ensures

pub returns-in-Ok : goal.returns-in-Ok
returns-in-Ok g c =
    let spot = c.args.spot in
    area-laid g.C.Content.KIND c.args.s.now spot.start spot.end c.requires.start_le_end c.requires.end_in_bounds c.write_body.ensures
    _ c.in-Ok.is _ c.from.ensures _ c.surround.ensures
