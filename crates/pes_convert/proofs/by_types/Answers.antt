-- `pes_convert::by_types` meets its contract: what comes by value is `Typed`.
use Rattle.sdp.proofs.Types.{typed}
use Rattle.pes_convert.proofs.by_types.Goals as goal

pub returns : goal.returns
returns c =
    typed c.args.p _ c.well_formed.0 c.args.rows _ c.well_formed.1.0
