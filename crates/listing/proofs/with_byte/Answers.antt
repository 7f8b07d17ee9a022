-- `listing::with_byte` stores the byte behind what the text holds; a full text has no room for it.
use Rattle.listing.proofs.Building.{appends-byte, appends-full}
use Rattle.listing.proofs.with_byte.Goals as goal

pub returns-then-len-ge-ROOM : goal.returns-then-len-ge-ROOM
returns-then-len-ge-ROOM c = appends-full c.args.t c.args.b c.if-len-ge-ROOM.true

pub returns : goal.returns
returns c = appends-byte c.args.t c.args.b c.if-len-ge-ROOM.false
