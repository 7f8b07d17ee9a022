use Rattle.sdp.proofs.Types.{typed}
use Rattle.subtitling_writer.proofs.by_types.Goals as goal

pub returns : goal.returns
returns c = typed c.args.p _ c.well_formed.0 c.args.rows _ c.well_formed.1.0
