-- The run fits, and none of its units is refused.
use Rattle.std.proofs.Common.{refl}
use Rattle.reel.proofs.Fitting.{fits-accepted}
use Rattle.reel_units.proofs.passes.Goals as goal

pub returns-then-fits : goal.returns-then-fits
returns-then-fits c e some few =
    let us = c.args.units.now in
    fits-accepted 0 c.args.size us some c.args.room few (c.all_hold.ensures e) ((c.fits.ensures 0 us refl some).0 c.if-fits.true)
