-- `scte20::lent::record_in` meets its contract: the five bytes read are those of the record at that index.
use Prim.Native.Nat.{◌*◌, ◌≤◌}
use native.Mathlib.Omega.{arith}
use mathlib.Core.Path.{◌∙◌, sym}
use lib.ListN.{length, get_or-eq_default}
use Rattle.scte20.specs.Value.{blank}
use Rattle.scte20.specs.Lent.{lent_records}
use Rattle.scte20.proofs.Lending.{lent_length, lent_at, record-at}
use Rattle.scte20.proofs.lent.record_in.Goals as goal

pub returns-then-i-ge-MAX_RECORDS : goal.returns-then-i-ge-MAX_RECORDS
returns-then-i-ge-MAX_RECORDS c =
    let start = c in
    let s = start.args.records.now in
    let past : length (lent_records s) ≤ start.args.i = omega (arith, lent_length s) in
    c.blank.ensures ∙ sym (get_or-eq_default (lent_records s) blank past)

pub returns : goal.returns
returns c =
    let start = c in
    let s = start.args.records.now in
    let i = start.args.i in
    sym (lent_at s i (omega arith) ∙ record-at s (5 * i))
