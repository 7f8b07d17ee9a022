-- `ga94_writer::put` meets its contract: seven bytes, the constructs, a byte of ones and zeros are the layout, which fills the output.
use Prim.Native.Nat.{ℕ, ◌+◌, ◌*◌, ◌≤◌}
use native.Mathlib.Omega.{arith}
use mathlib.Core.Path.{◌≡◌}
use mathlib.Core.List.{List}
use lib.ListN.{length, length-set}
use Rattle.ga94.specs.Value.{CaptionUnit}
use Rattle.ga94.specs.Lent.{unit_in}
use Rattle.ga94.proofs.Lending.{lent_length}
use Rattle.ga94.proofs.Holding.{Whole, value-whole}
use Rattle.ga94_writer.proofs.Pieces.{flags-small, out-long, length-headed, length-built, all_laid}
use Rattle.ga94_writer.proofs.put.Goals as goal

pub returns : goal.returns
returns c =
    let unit : CaptionUnit = unit_in c.args.v c.args.records.now in
    let places : length unit.records ≡ 31 = lent_length c.args.records.now in
    let out : List ℕ = c.args.out.now in
    let two : List ℕ = c.put_constructs.new.out in
    all_laid
    unit
    places
    c.requires.records_value
    out
    c.requires.out_len
    c.put_head.new.out
    c.put_head.ensures
    two
    c.put_constructs.ensures
    c.fill.new.self
    (c.fill.ensures.after (λ y e. e))

pub overflow_mul-flags : goal.overflow_mul-flags
overflow_mul-flags c =
    let unit : CaptionUnit = unit_in c.args.v c.args.records.now in
    let whole : Whole unit = value-whole unit c.requires.records_value in
    omega (arith, whole.em_flag)

pub overflow_mul-flags-2 : goal.overflow_mul-flags-2
overflow_mul-flags-2 c =
    let unit : CaptionUnit = unit_in c.args.v c.args.records.now in
    let whole : Whole unit = value-whole unit c.requires.records_value in
    omega (arith, whole.cc_flag)

pub overflow_add-flags : goal.overflow_add-flags
overflow_add-flags c =
    let unit : CaptionUnit = unit_in c.args.v c.args.records.now in
    let whole : Whole unit = value-whole unit c.requires.records_value in
    omega (arith, whole.em_flag, whole.cc_flag)

pub overflow_cast-flags : goal.overflow_cast-flags
overflow_cast-flags c =
    let unit : CaptionUnit = unit_in c.args.v c.args.records.now in
    let whole : Whole unit = value-whole unit c.requires.records_value in
    omega (arith, whole.few)

pub overflow_add-flags-2 : goal.overflow_add-flags-2
overflow_add-flags-2 c =
    let unit : CaptionUnit = unit_in c.args.v c.args.records.now in
    let whole : Whole unit = value-whole unit c.requires.records_value in
    omega (arith, whole.em_flag, whole.cc_flag, whole.few)

pub overflow_cast-flags-2 : goal.overflow_cast-flags-2
overflow_cast-flags-2 c =
    let unit : CaptionUnit = unit_in c.args.v c.args.records.now in
    let places : length unit.records ≡ 31 = lent_length c.args.records.now in
    omega (arith, flags-small unit places c.requires.records_value)

pub overflow_cast-v : goal.overflow_cast-v
overflow_cast-v c =
    let unit : CaptionUnit = unit_in c.args.v c.args.records.now in
    let whole : Whole unit = value-whole unit c.requires.records_value in
    omega (arith, whole.em)

pub put_constructs-requires : goal.put_constructs-requires
put_constructs-requires c =
    let unit : CaptionUnit = unit_in c.args.v c.args.records.now in
    let places : length unit.records ≡ 31 = lent_length c.args.records.now in
    let out : List ℕ = c.args.out.now in
    let long : length out ≡ 7 + 3 * unit.n + 1 + unit.z = out-long unit places c.requires.records_value out c.requires.out_len in
    let headed : length c.put_head.new.out ≡ length out = length-headed unit places c.requires.records_value out c.requires.out_len c.put_head.new.out c.put_head.ensures in
    record { records_value = c.requires.records_value; n_in_bounds = omega (arith, headed, long) }

pub overflow_mul-end : goal.overflow_mul-end
overflow_mul-end c =
    let unit : CaptionUnit = unit_in c.args.v c.args.records.now in
    let whole : Whole unit = value-whole unit c.requires.records_value in
    omega (arith, whole.few)

pub overflow_add-end : goal.overflow_add-end
overflow_add-end c =
    let unit : CaptionUnit = unit_in c.args.v c.args.records.now in
    let whole : Whole unit = value-whole unit c.requires.records_value in
    omega (arith, whole.few)

pub bounds-out-end : goal.bounds-out-end
bounds-out-end c =
    let unit : CaptionUnit = unit_in c.args.v c.args.records.now in
    let places : length unit.records ≡ 31 = lent_length c.args.records.now in
    let out : List ℕ = c.args.out.now in
    let long : length out ≡ 7 + 3 * unit.n + 1 + unit.z = out-long unit places c.requires.records_value out c.requires.out_len in
    let two : List ℕ = c.put_constructs.new.out in
    let built : length two ≡ length out =
    length-built unit places c.requires.records_value out c.requires.out_len c.put_head.new.out c.put_head.ensures two c.put_constructs.ensures
    in
    let room : 7 + 3 * unit.n + 1 ≤ length two = omega (arith, built, long) in
    omega (arith, room)

pub overflow_add-end-2 : goal.overflow_add-end-2
overflow_add-end-2 c =
    let unit : CaptionUnit = unit_in c.args.v c.args.records.now in
    let whole : Whole unit = value-whole unit c.requires.records_value in
    omega (arith, whole.few)

pub slice_bounds-fill-count : goal.slice_bounds-fill-count
slice_bounds-fill-count c =
    let unit : CaptionUnit = unit_in c.args.v c.args.records.now in
    let places : length unit.records ≡ 31 = lent_length c.args.records.now in
    let out : List ℕ = c.args.out.now in
    let long : length out ≡ 7 + 3 * unit.n + 1 + unit.z = out-long unit places c.requires.records_value out c.requires.out_len in
    let two : List ℕ = c.put_constructs.new.out in
    let built : length two ≡ length out =
    length-built unit places c.requires.records_value out c.requires.out_len c.put_head.new.out c.put_head.ensures two c.put_constructs.ensures
    in
    let room : 7 + 3 * unit.n + 1 ≤ length two = omega (arith, built, long) in
    simp length-set (omega (arith, room))

pub slice_bounds-fill-start : goal.slice_bounds-fill-start
slice_bounds-fill-start c =
    let unit : CaptionUnit = unit_in c.args.v c.args.records.now in
    let places : length unit.records ≡ 31 = lent_length c.args.records.now in
    let out : List ℕ = c.args.out.now in
    let long : length out ≡ 7 + 3 * unit.n + 1 + unit.z = out-long unit places c.requires.records_value out c.requires.out_len in
    let two : List ℕ = c.put_constructs.new.out in
    let built : length two ≡ length out =
    length-built unit places c.requires.records_value out c.requires.out_len c.put_head.new.out c.put_head.ensures two c.put_constructs.ensures
    in
    let room : 7 + 3 * unit.n + 1 ≤ length two = omega (arith, built, long) in
    simp length-set (omega (arith, room))
