-- `reel::passes` meets its contract: the run fits, and none of its units is refused.
use Prim.Native.Nat.{◌/◌}
use mathlib.Core.Path.{◌≡◌}
use lib.ListN.{length}
use Rattle.lists.proofs.Flat.{length_taken}
use Rattle.line21.specs.Lent.{access_unit_in, run_in}
use Rattle.reel.proofs.Fitting.{fits-accepted}
use Rattle.reel.proofs.passes.Goals as goal

pub returns-then-fits : goal.returns-then-fits
returns-then-fits c e some few =
    let s = c.args.units.now in
    let units : length (run_in s) ≡ length s / 7 = length_taken access_unit_in 7 (length s / 7) s in
    fits-accepted 0 c.args.size (run_in s) some c.args.room few (c.all_hold.ensures e)
    ((c.fits.ensures 0 (run_in s) units some).0 c.if-fits.true)
