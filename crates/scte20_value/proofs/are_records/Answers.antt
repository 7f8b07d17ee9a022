-- `scte20_value::are_records` meets its contract. The loop's invariant: i records are accepted, and `place` and `urgent` are what counts of them.
use Prim.Native.Nat.{ℕ, ◌+◌, ◌*◌, ◌≤◌, ◌<◌}
use native.Mathlib.Omega.{arith}
use mathlib.Core.Path.{◌≡◌, ◌∙◌, sym}
use mathlib.Core.List.{List}
use lib.Dec.{eqb}
use lib.ListN.{length, take}
use lib.Seq.{length-take-le, get_or-take}
use Rattle.std.proofs.lemmas.Bool.Decides.{nat_tests}
use Rattle.scte20.specs.Value.{blank, field_of, count_if}
use Rattle.scte20.specs.Lent.{lent_records}
use Rattle.scte20.proofs.Lending.{lent_length}
use Rattle.scte20.proofs.Judged.{judging-accepted}
use Rattle.scte20_value.proofs.Rising.{rising-first, rising-next}
use Rattle.scte20_value.proofs.are_records.Goals as goal

length-records : (n : ℕ) (s : List ℕ) → n ≤ 31 → length (take n (lent_records s)) ≡ n
length-records n s few = length-take-le n (lent_records s) (omega (arith, few, lent_length s))

pub loop-i-init : goal.loop-i-init
loop-i-init c = (rising-first _, omega arith)

pub loop-i-preserved : goal.loop-i-preserved
loop-i-preserved c =
    let n = c.args.n in
    let s = c.args.records.now in
    let at = c.loop-i in
    let r = c.record_in-record.result in
    let inside : at.i < length (take n (lent_records s)) = omega (arith, length-records n s c.requires) in
    let here = get_or-take n (lent_records s) at.i blank c.loop-i-test.true ∙ sym c.record_in-record.ensures in
    let on : 32 * field_of r ≤ at.place → c.if-place-field.kept ≡ at.urgent = λ within. grind arith in
    let more : c.if-place-field.kept + c.from-in-loop-i.result ≡ count_if (eqb r.cc_priority 0) + c.if-place-field.kept = grind (arith, nat_tests) in (
      rising-next (take n (lent_records s)) at.place at.urgent at.i at.invariant.0 r _ (omega (arith, c.from-field.ensures, c.from.ensures))
          c.if-record-gt3.false c.if-record-gt3-2.false c.if-record-gt31.false c.if-next-place.false
          c.if-place-field.kept _ on more c.if-urgent-gt4.false inside here,
      c.if-urgent-gt4.false,
    )

pub returns : goal.returns
returns c is =
    let rs = take c.args.n (lent_records c.args.records.now) in
    let over : length rs ≤ c.loop-i.i = omega (arith, length-records c.args.n c.args.records.now c.requires) in
    judging-accepted rs c.loop-i.invariant.0.last c.loop-i.i c.loop-i.invariant.0.judging over
