-- `listing::with` puts the bytes behind the text one by one.
use Rattle.listing.proofs.Building.{appends-none, appends-next, appends-all}
use Rattle.listing.proofs.with.Goals as goal

pub loop-b-init : goal.loop-b-init
loop-b-init c = appends-none c.args.t

pub loop-b-preserved : goal.loop-b-preserved
loop-b-preserved c = appends-next c.args.bytes.now c.loop-b.b-index c.loop-b-test.true c.loop-b.invariant c.with_byte-r.ensures

pub returns : goal.returns
returns c = appends-all c.args.bytes.now c.loop-b.b-index c.loop-b-test.false c.loop-b.invariant
