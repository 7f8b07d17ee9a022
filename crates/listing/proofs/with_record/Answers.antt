-- `listing::with_record` puts a record's numbers and what stands between them behind the text, in their order.
use Rattle.listing.proofs.Building.{appends-both}
use Rattle.listing.proofs.with_record.Goals as goal

pub returns : goal.returns
returns c =
    let third = c in
    let second = third in
    let first = second in
    appends-both first.with_decimal-t.ensures
    (appends-both first.with_byte-t.ensures
    (appends-both second.with_decimal-t-2.ensures
    (appends-both second.with_byte-t-2.ensures
    (appends-both third.with_decimal-t-3.ensures
    (appends-both third.with_byte-t-3.ensures
    (appends-both c.with_hex-t.ensures
    (appends-both c.with_byte-t-4.ensures
    (appends-both c.with_hex-t-2.ensures c.with_byte.ensures))))))))
