-- `scte20_writer::put` meets its contract: two stores, the constructs and zeros are the layout, which fills the output.
use Prim.Native.Nat.{ℕ, ◌≤◌, ◌<◌}
use native.Mathlib.Omega.{arith}
use mathlib.Core.Path.{◌≡◌, ◌∙◌}
use lib.ListN.{length, length-set}
use Rattle.lists.proofs.Lay.{cleared}
use Rattle.scte20.specs.declared.CaptionUnit.{CaptionUnit}
use Rattle.scte20.specs.Value.{held}
use Rattle.scte20.specs.Lent.{unit_in}
use Rattle.scte20.proofs.Lending.{lent_length}
use Rattle.scte20.proofs.Holding.{Whole, value-whole, length-held}
use Rattle.scte20_writer.proofs.Pieces.{layout-long, bare-stored, flagged-stored, flagged-long, flagged-ends}
use Rattle.refusal.specs.Verdict.{Accepted}
use Rattle.scte20.specs.Writing.{value_verdict}
use mathlib.Core.List.{List}
use Rattle.scte20.specs.Layout.{layout}
use Rattle.scte20_writer.proofs.put.Goals as goal

module _ (u : CaptionUnit) (h : value_verdict u ≡ Accepted) where
  whole : Whole u
  whole = value-whole u h

  small : u.reserved < 128
  small = omega (arith, whole.reserved)

  -- there is room for the first two bytes
  long : (out : List ℕ) → length out ≡ length (layout (held u)) → 2 ≤ length out
  long out e = omega (arith, e, layout-long (held u))

pub bounds-out-0 : goal.bounds-out-0
bounds-out-0 c = omega (arith, long (unit_in c.args.v c.args.records.now) c.requires.records_value c.args.out.now c.requires.out_len)

pub overflow_mul-out : goal.overflow_mul-out
overflow_mul-out c = omega (arith, (whole (unit_in c.args.v c.args.records.now) c.requires.records_value).reserved)

pub overflow_add-out : goal.overflow_add-out
overflow_add-out c =
    let w = whole (unit_in c.args.v c.args.records.now) c.requires.records_value in
    omega (arith, w.reserved, w.flag)

pub bounds-out-1 : goal.bounds-out-1
bounds-out-1 c =
    let room = long (unit_in c.args.v c.args.records.now) c.requires.records_value c.args.out.now c.requires.out_len in
    simp length-set (omega (arith, room))

pub slice_bounds-fill-count : goal.slice_bounds-fill-count
slice_bounds-fill-count c =
    let room = long (unit_in c.args.v c.args.records.now) c.requires.records_value c.args.out.now c.requires.out_len in
    simp length-set (omega (arith, room))

pub slice_bounds-fill-start : goal.slice_bounds-fill-start
slice_bounds-fill-start c =
    let room = long (unit_in c.args.v c.args.records.now) c.requires.records_value c.args.out.now c.requires.out_len in
    simp length-set (omega (arith, room))

-- with flag 0
pub returns-then-v-eq0 : goal.returns-then-v-eq0
returns-then-v-eq0 c =
    let u = unit_in c.args.v c.args.records.now in
    bare-stored (held u) (small u c.requires.records_value) c.args.out.now c.requires.out_len c.if-v-eq0.true c.fill.new.self (c.fill.ensures.after (λ y e. e))

-- past the test the flag is 1, and there are as many records as v says
pub put_constructs-end-requires-clause-n_in_bounds : goal.put_constructs-end-requires-clause-n_in_bounds
put_constructs-end-requires-clause-n_in_bounds c =
    let u = unit_in c.args.v c.args.records.now in
    let w = whole u c.requires.records_value in
    let flag : u.vbi_data_flag ≡ 1 = omega (arith, c.if-v-eq0.false, w.flag) in
    let counted = length-held u (lent_length c.args.records.now) w.few in
    simp length-set (omega (arith, flagged-long (held u) flag, counted, c.requires.out_len))

pub slice_bounds-fill-count-2 : goal.slice_bounds-fill-count-2
slice_bounds-fill-count-2 c =
    let u = unit_in c.args.v c.args.records.now in
    let flag : u.vbi_data_flag ≡ 1 = omega (arith, c.if-v-eq0.false, (whole u c.requires.records_value).flag) in
    flagged-ends (held u) (small u c.requires.records_value) c.args.out.now c.requires.out_len flag c.put_constructs-end.result
    c.put_constructs-end.new.out c.put_constructs-end.ensures

pub slice_bounds-fill-start-2 : goal.slice_bounds-fill-start-2
slice_bounds-fill-start-2 c =
    let u = unit_in c.args.v c.args.records.now in
    let flag : u.vbi_data_flag ≡ 1 = omega (arith, c.if-v-eq0.false, (whole u c.requires.records_value).flag) in
    flagged-ends (held u) (small u c.requires.records_value) c.args.out.now c.requires.out_len flag c.put_constructs-end.result
    c.put_constructs-end.new.out c.put_constructs-end.ensures

pub returns : goal.returns
returns c =
    let u = unit_in c.args.v c.args.records.now in
    let flag : u.vbi_data_flag ≡ 1 = omega (arith, c.if-v-eq0.false, (whole u c.requires.records_value).flag) in
    cleared c.put_constructs-end.new.out _ c.put_constructs-end.result (c.fill-2.ensures.after (λ y e. e))
    ∙ flagged-stored (held u) (small u c.requires.records_value) c.args.out.now c.requires.out_len flag c.put_constructs-end.result
    c.put_constructs-end.new.out c.put_constructs-end.ensures
