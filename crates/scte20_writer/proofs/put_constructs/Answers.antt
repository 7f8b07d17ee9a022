-- `scte20_writer::put_constructs` meets its contract. The loop's invariant: cc_count and the first i constructs are brought in.
use Prim.Native.Nat.{ℕ, ◌+◌, ◌-◌, ◌*◌, ◌/◌, ◌%◌, ◌^◌, ◌≤◌, ◌<◌}
use native.Mathlib.Omega.{arith}
use mathlib.Core.Path.{◌≡◌, ◌∙◌, ap, ap₂, sym, subst, refl}
use mathlib.Core.List.{List, ◌++◌}
use lib.ListN.{length, get_or, take, set, replicate, length-set}
use lib.Seq.{length-take-le, get_or-take}
use Rattle.lists.specs.Room.{over_at}
use Rattle.lists.proofs.Each.{each_at}
use Rattle.bits.specs.Bits.{bits, num, bytes_of}
use Rattle.bits.proofs.Numbers.{AreBits, bits_are, are-append}
use Rattle.scte20.specs.declared.Record.{Record}
use Rattle.refusal.specs.Verdict.{Accepted}
use Rattle.scte20.specs.declared.Numbers.{Numbers}
use Rattle.scte20.specs.declared.CaptionUnit.{CaptionUnit}
use Rattle.scte20.specs.Value.{blank, held}
use Rattle.scte20.specs.Lent.{unit_in}
use Rattle.scte20.specs.Layout.{construct_bits, constructs_bits}
use Rattle.scte20_writer.specs.Inside.{counted_size, counted_bytes, pushed}
use Rattle.scte20.proofs.Constructs.{length-construct, length-constructs}
use Rattle.scte20.proofs.Sizes.{construct-are, constructs-are}
use Rattle.scte20.proofs.Types.{byte-record}
use Rattle.scte20.proofs.Lending.{lent_length}
use Rattle.scte20.proofs.Holding.{value-whole, length-held}
use Rattle.scte20.proofs.Writable.{InRange, in-range, value-ranged}
use Rattle.scte20_writer.proofs.Penned.{Penned, penned-start, penned-on, penned-end, constructs-more}
use Rattle.scte20.specs.Writing.{value_verdict}
use Rattle.scte20_writer.proofs.put_constructs.Invariants.{written}
use Rattle.scte20_writer.proofs.put_constructs.Goals as goal

written-are : (u : CaptionUnit) (i : ℕ) → AreBits (written u i)
written-are u i = are-append (bits 5 u.n) (constructs_bits (take i u.records)) (bits_are 5 u.n) (constructs-are (take i u.records))

length-written : (u : CaptionUnit) (i : ℕ) → i ≤ length u.records → length (written u i) ≡ 5 + 26 * i
length-written u i h = omega (arith, length-constructs (take i u.records), length-take-le i u.records h)

-- all of them
counted-written : (u : CaptionUnit) (i : ℕ) → length u.records ≡ 31 → u.n ≤ 31 → i ≡ u.n
    → bytes_of (length (written u i) / 8 + 1) (written u i ++ replicate 8 0) ≡ counted_bytes (held u).records
counted-written u i room few all =
    let long : length (written u u.n) ≡ 5 + 26 * u.n = length-written u u.n (omega arith) in
    ap (λ (j : ℕ). bytes_of (length (written u j) / 8 + 1) (written u j ++ replicate 8 0)) all
    ∙ ap (λ (j : ℕ). bytes_of (j / 8 + 1) (written u u.n ++ replicate 8 0)) long
    ∙ ap (λ (m : ℕ). bytes_of (counted_size m) ((bits 5 m ++ constructs_bits (held u).records) ++ replicate 8 0)) (sym (length-held u room few))

module _ (v : Numbers) (s : List ℕ) (accepted : value_verdict (unit_in v s) ≡ Accepted) where
  -- the value that is written
  abbrev unit : CaptionUnit
  unit = unit_in v s

  places : length unit.records ≡ 31
  places = lent_length s

  few : unit.n ≤ 31
  few = (value-whole unit accepted).few

  -- the numbers of each record are those that the layout holds
  ranged : (i : ℕ) → i < unit.n → InRange (get_or unit.records i blank)
  ranged i below =
      let inside : i < length (held unit).records = omega (arith, length-held unit places few) in
      subst InRange (get_or-take unit.n unit.records i blank below) (each_at InRange blank (held unit).records (value-ranged unit accepted) i inside)

  -- how long what is written is
  sized : (i : ℕ) → i ≤ unit.n → length (written unit i) ≡ 5 + 26 * i
  sized i h = length-written unit i (omega (arith, places, few))

pub loop-i-init : goal.loop-i-init
loop-i-init c =
    let small = few c.args.v c.args.records.now c.requires.records_value in
    record { few = small; penned = penned-start c.args.out.now c.args.v.n (omega arith) }

pub overflow_cast-last : goal.overflow_cast-last
overflow_cast-last c = omega (arith, few c.args.v c.args.records.now c.requires.records_value)

pub construct_of-construct-requires-clause-ranged : goal.construct_of-construct-requires-clause-ranged
construct_of-construct-requires-clause-ranged c =
    let told = c.record_in in
    in-range told.result (byte-record told.result _ told.type_inv)
    (subst InRange (sym told.ensures) (ranged c.args.v c.args.records.now c.requires.records_value c.loop-i.i c.loop-i-test.true))

pub loop-i-preserved : goal.loop-i-preserved
loop-i-preserved c =
    let v = c.args.v in
    let s = c.args.records.now in
    let h = c.requires.records_value in
    let u = unit_in v s in
    let i = c.loop-i.i in
    let out = c.args.out.now in
    let below : i < u.n = c.loop-i-test.true in
    let inside : i < length u.records = omega (arith, places v s h, few v s h) in
    let r = c.record_in.result in
    let then = c.push.new.out in
    let long = sized v s h i (omega arith) in
    let laid = c.push.ensures
    ∙ ap₂ (λ (n k : ℕ). over_at (2 + n / 8) (bytes_of 4 (pushed n c.loop-i.last k)) c.loop-i.out) (sym long) c.construct_of-construct.ensures
    in
    let room : 2 + length (written u i) / 8 + 4 ≤ length out = omega (arith, long, c.requires.n_in_bounds) in
    let on = penned-on out (written u i) c.loop-i.last c.loop-i.out c.loop-i.invariant.penned (construct_bits r) (construct-are r) (length-construct r) then laid room in
    let more : written u i ++ construct_bits r ≡ written u (i + 1) =
    ap (λ (t : Record). written u i ++ construct_bits t) c.record_in.ensures
    ∙ ap (λ (xs : List ℕ). bits 5 u.n ++ xs) (sym (constructs-more u.records i blank inside))
    in
    record {
      few = few v s h;
      penned =
          subst (λ (last : ℕ). Penned out (written u (i + 1)) last then) (sym c.construct_of-construct.ensures)
          (subst (λ (xs : List ℕ). Penned out xs (num (construct_bits r)) then) more on);
    }

-- behind the loop all are brought in
pub returns : goal.returns
returns c =
    let v = c.args.v in
    let s = c.args.records.now in
    let h = c.requires.records_value in
    let u = unit_in v s in
    let n = u.n in
    let i = c.loop-i.i in
    let out = c.args.out.now in
    let exit = c.loop-i.out in
    let last = c.loop-i.last in
    let penned = c.loop-i.invariant.penned in
    let all : i ≡ n = omega arith in
    let all-sized : length (written u i) ≡ 5 + 26 * n = sized v s h i (omega arith) ∙ ap (λ (k : ℕ). 5 + 26 * k) all in
    record {
      ends = omega (arith, length-held u (places v s h) (few v s h));
      long = length-set exit _ _ ∙ penned.long;
      front =
          ap (λ (k : ℕ). take (2 + k / 8 + 1) (set exit (2 + k / 8) (last * 2 ^ (8 - k % 8) % 4294967296 % 256))) (sym all-sized)
          ∙ penned-end out (written u i) last exit penned (omega (arith, all-sized, c.requires.n_in_bounds)) _ refl
          ∙ ap (λ (bytes : List ℕ). take 2 out ++ bytes) (counted-written u i (places v s h) (few v s h) all);
    }
