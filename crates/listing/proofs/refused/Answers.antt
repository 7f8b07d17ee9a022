-- `listing::refused` puts the pieces of a refusal's text one behind the other.
use Rattle.listing.proofs.Building.{appends-both, appends-first}
use Rattle.listing.proofs.Lengths.{refused-fits}
use Rattle.listing.proofs.refused.Goals as goal

pub returns : goal.returns
returns c =
    let number = c in
    let written = number in
    appends-first
    written.empty.ensures
    (appends-both written.with-t.ensures
    (appends-both number.with_decimal-t.ensures
    (appends-both c.with-t-2.ensures
    (appends-both c.with_decimal-t-2.ensures c.with_byte.ensures))))
    (refused-fits written.args.r)
