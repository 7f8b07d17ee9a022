-- The flags byte and the first k units are laid over the output.
use Rattle.std.proofs.Common.{◌≡◌, ◌∙◌, ap, sym, refl, ℕ, ◌+◌, ◌*◌, ◌≤◌, ◌<◌, List, [], ◌∷◌, length, drop, take, get_or, set, arith}
use lib.ListN.{length-set}
use lib.Seq.{length-take-le, get_or-take, sets-eq, drop-set-lt}
use Rattle.lists.specs.Room.{over, over_at}
use Rattle.lists.proofs.Flat.{length_taken, get_d-taken}
use Rattle.lists.proofs.Lay.{length_over, laid-part, over_at-over_at}
use Rattle.refusal.specs.Verdict.{Accepted}
use Rattle.line21.specs.declared.Payload.{Payload}
use Rattle.line21.specs.Value.{blank, held}
use Rattle.line21.specs.Layout.{layout_access_unit}
use Rattle.line21.specs.Writing.{unit_verdict}
use Rattle.line21.specs.Lent.{access_unit_in, access_units_in, payload_in}
use Rattle.line21.proofs.Layouts.{length-layout_units, layout_units-more}
use Rattle.line21.proofs.Numbers.{Writable, accepted-value, length-held, length-layout-held, accepted-unit-at}
use Rattle.line21_writer.proofs.write_judged.Invariants.{front}
use Rattle.line21_writer.proofs.write_judged.Goals as goal
use Rattle.line21_writer.proofs.write_judged.Goals.{Start, At-loop-k}

places : (units : List ℕ) → length (access_units_in units) ≡ 291
places units = length_taken access_unit_in 7 291 units

length_front : (flags : ℕ) (units : List ℕ) (i : ℕ) → i ≤ 291 → length (front flags units i) ≡ 1 + 5 * i
length_front flags units i h =
    let inside : i ≤ length (access_units_in units) = omega (arith, places units) in
    omega (arith, length-layout_units (take i (access_units_in units)), length-take-le i (access_units_in units) inside)

module _ (c : Start) where
  abbrev p : Payload
  p = payload_in c.args.flags c.args.m c.args.units.now

  writable : Writable p (length c.args.out.now)
  writable = accepted-value p (length c.args.out.now) c.requires.out_value

  -- the result fits the output
  long : 1 + 5 * c.args.m ≤ length c.args.out.now
  long = omega (arith, writable.fits, length-layout-held p (places c.args.units.now) writable.few)

  -- each unit that is written was judged
  passed : (i : ℕ) → i < c.args.m → unit_verdict (get_or (access_units_in c.args.units.now) i blank) ≡ Accepted
  passed i below =
      let inside : i < length (held p).units = omega (arith, length-held p (places c.args.units.now) writable.few) in
      ap unit_verdict (sym (get_or-take c.args.m (access_units_in c.args.units.now) i blank below))
      ∙ accepted-unit-at (held p).units writable.each i inside

  -- and its bytes tell it as an array does
  same-unit : (i : ℕ) → i < c.args.m → access_unit_in (drop (7 * i) c.args.units.now) ≡ get_or (access_units_in c.args.units.now) i blank
  same-unit i below =
      let few = writable.few in
      sym (get_d-taken access_unit_in 7 blank 291 i c.args.units.now (omega arith))

-- what the loop knows of its output at its head
module _ (start : Start) (k : ℕ) (below : k ≤ start.args.m) (now : List ℕ) (laid : now ≡ over (front start.args.flags start.args.units.now k) (set start.args.out.now 0 start.args.flags)) where
  sized : length (front start.args.flags start.args.units.now k) ≡ 1 + 5 * k
  sized = length_front start.args.flags start.args.units.now k (omega (arith, (writable start).few))

  kept : length now ≡ length start.args.out.now
  kept =
      let flags = start.args.flags in
      let out = start.args.out.now in
      let so-far = front flags start.args.units.now k in
      let same = length-set out 0 flags in
      let h : length so-far ≤ length (set out 0 flags) = omega (arith, sized, long start) in
      ap length laid ∙ length_over so-far (set out 0 flags) h ∙ same

pub bounds-out-0 : goal.bounds-out-0
bounds-out-0 c = omega (arith, long (goal.at.bounds-out-0 c).Start)

pub loop-k-init : goal.loop-k-init
loop-k-init c =
    let out = c.args.out.now in
    let flags = c.args.flags in
    sets-eq (flags ∷ []) out 0 (omega (arith, long (goal.at.loop-k-init c).Start))
    ∙ ap (λ (rest : List ℕ). flags ∷ rest) (sym (drop-set-lt 1 out 0 flags (omega arith)))

pub slice_bounds-copy_from_slice-end : goal.slice_bounds-copy_from_slice-end
slice_bounds-copy_from_slice-end c =
    let start = (goal.at.slice_bounds-copy_from_slice-end c).Start in
    omega (arith, kept start c.loop-k.k (omega arith) c.loop-k.out c.loop-k.invariant, long start)

pub unit_bytes-requires : goal.unit_bytes-requires
unit_bytes-requires c =
    let start = (goal.at.unit_bytes-requires c).Start in
    let k = c.loop-k.k in
    ap unit_verdict (c.unit_at-unit.ensures ∙ same-unit start k c.loop-k-test.true) ∙ passed start k c.loop-k-test.true

pub loop-k-preserved : goal.loop-k-preserved
loop-k-preserved c =
    let start = (goal.at.loop-k-preserved c).Start in
    let flags = c.args.flags in
    let units = c.args.units.now in
    let k = c.loop-k.k in
    let at = 1 + 5 * k in
    let begun = set c.args.out.now 0 flags in
    let u = get_or (access_units_in units) k blank in
    let piece = layout_access_unit u in
    let inside : k < length (access_units_in units) = omega (arith, places units, (writable start).few) in
    let here : c.unit_at-unit.result ≡ u = c.unit_at-unit.ensures ∙ same-unit start k c.loop-k-test.true in
    let bytes : c.unit_bytes.result ≡ piece =
    c.unit_bytes.ensures ∙ ap layout_access_unit here
    in
    let some : 0 ≤ length begun = omega arith in
    let next : 0 + length (front flags units k) ≡ at = omega (arith, sized start k (omega arith) c.loop-k.out c.loop-k.invariant) in
    laid-part at 5 c.loop-k.out c.copy_from_slice.new.self piece refl (c.copy_from_slice.ensures.after ∙ bytes)
    ∙ ap (over_at at piece) c.loop-k.invariant
    ∙ over_at-over_at 0 (front flags units k) piece begun at some next
    ∙ ap (λ (all : List ℕ). over (flags ∷ all) begun) (sym (layout_units-more (access_units_in units) k inside))

pub returns-clause-value : goal.returns-clause-value
returns-clause-value c =
    let start = (goal.at.returns-clause-value c).Start in
    sym (length-layout-held (p start) (places c.args.units.now) (writable start).few)
