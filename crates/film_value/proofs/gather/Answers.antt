-- `film_value::gather` meets its contract: where each record was that of a display field, the picture is carried, with the halves of its slots.
use Rattle.std.proofs.Common.{rules}
use mathlib.Core.Path.{◌≡◌, ◌∙◌, ap, sym}
use Prim.Native.Nat.{◌+◌}
use Rattle.scte20.proofs.Holding.{Whole, accepted-whole}
use Rattle.film.proofs.Records.{array-typed}
use Rattle.scte20.specs.Lent.{unit_in}
use Rattle.scte20.specs.Value.{count_if}
use Rattle.film.specs.Frames.{half_of}
use Rattle.film_value.proofs.Rising.{gathered}
use Rattle.film_value.proofs.gather.Goals as goal

pub returns : goal.returns
returns c =
    let args = c.args in
    let s = args.records.now in
    let typed = array-typed args.v s c.fits-records c.told-records in
    let empty = accepted-whole (unit_in args.v _) (c.is_whole.ensures c.if-not-is_whole.false) in
    let whole : Whole (unit_in args.v s) =
    record {
      few = empty.few;
      reserved = empty.reserved;
      flag = empty.flag;
      stuffing = empty.stuffing;
      bare = empty.bare;
      no_group = empty.no_group;
    } in
    let one : c.from-i.result ≡ 0 + count_if c.is_at-one.result = search rules in
    let two : c.from.result ≡ count_if c.is_at-two.result = search rules in
    let three : c.from-2.result ≡ count_if c.is_at-three.result = search rules in
    let right =
    gathered args.how args.v s typed c.if-line-gt31.false whole c.is_at-one.result c.is_at-two.result c.is_at-three.result
    c.from-i.result (c.from-i.result + c.from.result) one (ap (λ k. c.from-i.result + k) two) (ap (λ k. c.from-i.result + c.from.result + k) (sym three) ∙ c.if-j-from.false)
    c.is_at-one.ensures c.is_at-two.ensures c.is_at-three.ensures in
    record {
      verdict = right.0;
      first = c.half_in.ensures ∙ ap half_of (sym right.1);
      second = c.half_in-2.ensures ∙ ap half_of (sym right.2);
      third = c.half_in-3.ensures ∙ ap half_of (sym right.3);
    }
