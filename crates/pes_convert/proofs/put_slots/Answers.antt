-- `pes_convert::put_slots` meets its contract. A turn lays the unit of a full slot, and nothing for an empty one.
use Prim.Native.Nat.{ℕ, ◌+◌, ◌≤◌, ◌<◌}
use native.Mathlib.Omega.{arith}
use mathlib.Core.Path.{◌≡◌, ◌∙◌, ap, sym, subst}
use mathlib.Core.Logic.{⊎_elim}
use mathlib.Core.List.{List}
use lib.ListN.{length, get_or, length-append}
use lib.Seq.{take_all}
use Rattle.lists.specs.Each.{Each}
use Rattle.lists.specs.Room.{over}
use Rattle.lists.proofs.Each.{each_at}
use Rattle.lists.proofs.Lay.{laid_more, length_rest}
use Rattle.sdp.specs.declared.Packet.{Packet}
use Rattle.sdp.specs.Value.{SlotRow, LegalSlot, Typed, empty_slot, held}
use Rattle.sdp.proofs.Numbers.{length-held}
use Rattle.sdp.proofs.Slots.{legal-below}
use Rattle.subtitling.proofs.Held.{beyond, held_at}
use Rattle.pes.specs.Layout.{layout_unit, layout_units}
use Rattle.pes_convert.specs.Converting.{slot_unit, full_units}
use Rattle.pes_convert.proofs.Walked.{bytes, x, bytes-none, bytes-some, row_at, length-unit, front-short}
use Rattle.pes_convert.proofs.put_slots.Goals as goal
use Rattle.pes_convert.proofs.put_slots.Goals.{then-s-ne0, else-s-ne0}

module _ (p : Packet) (rows : List (List ℕ)) (t : Typed p rows) (i : ℕ) (h : i < 5) where
  -- the numbers of a full slot fit the byte
  numbers : Each LegalSlot (held p rows).slots → ((x p rows t i h).slot.full ≡ 0 → ⊥) → ((x p rows t i h).slot.field.0 ≤ 1) × ((x p rows t i h).slot.line ≤ 31)
  numbers legal some =
      ⊎_elim
      (λ empty. absurd (some (ap (λ (y : SlotRow). y.slot.full) empty)))
      (λ full. (omega (arith, full.field), omega (arith, legal-below (x p rows t i h).slot.line full.line)))
      (subst LegalSlot (held_at p rows t i h) (each_at LegalSlot beyond (held p rows).slots legal i (omega (arith, length-held p rows t))))

-- so that there is room for the next
room_at : (p : Packet) (rows : List (List ℕ)) (t : Typed p rows) (i : ℕ) (h : i < 5) (at : ℕ) → length (bytes (held p rows).slots i) ≡ at
    → ((get_or p.slots i empty_slot).full ≡ 0 → ⊥) → at + 46 ≤ length (layout_units (full_units (held p rows).slots))
room_at p rows t i h at e some =
    let xs = (held p rows).slots in
    let unit = layout_unit (slot_unit (x p rows t i h)) in
    omega (arith, front-short xs (i + 1), ap length (bytes-some p rows t i h some), length-append (bytes xs i) unit, length-unit p rows t i h, e)

pub loop-i-preserved : goal.loop-i-preserved
loop-i-preserved c =
    let p = c.args.p in
    let rows = c.args.rows.now in
    let xs = (held p rows).slots in
    let i = c.loop-i.i in
    let out = c.args.out.now in
    let more = c.loop-i-test.true in
    let types = c.requires.typed in
    elim c.if-s-ne0.branch [
      | then-s-ne0 w ↦
          let new = layout_unit (slot_unit (x p rows types i more)) in
          let grown = bytes-some p rows types i more w.if-s-ne0.true in
          let long : length (bytes xs (i + 1)) ≡ c.loop-i.at + 46 =
          omega (arith, ap length grown, length-append (bytes xs i) new, length-unit p rows types i more, c.loop-i.invariant.0) in (
            long ∙ sym w.at-is,
            w.out-is
                ∙ laid_more (bytes xs i) new out c.loop-i.out w.put_slot.new.out c.loop-i.at c.loop-i.invariant.1 c.loop-i.invariant.0 w.put_slot.ensures
                ∙ ap (λ (front : List ℕ). over front out) (sym grown),
          )
      | else-s-ne0 w ↦
          let same = bytes-none p rows types i more w.if-s-ne0.false in (
            ap length same ∙ c.loop-i.invariant.0 ∙ sym w.at-is,
            w.out-is ∙ c.loop-i.invariant.1 ∙ ap (λ (front : List ℕ). over front out) (sym same),
          )
    ]

pub put_slot-requires : goal.put_slot-requires
put_slot-requires c =
    let p = c.args.p in
    let rows = c.args.rows.now in
    let i = c.loop-i.i in
    let more = c.loop-i-test.true in
    let types = c.requires.typed in
    let room = room_at p rows types i more c.loop-i.at c.loop-i.invariant.0 c.if-s-ne0.true in
    record {
      reverses = c.reversed_bytes-table.ensures;
      field_bound = numbers p rows types i more c.requires.each c.if-s-ne0.true;
      row_value = row_at p rows types i more;
      in_bounds = omega (arith, length_rest c.loop-i.out c.loop-i.at, room, c.requires.in_bounds);
    }

pub slice_bounds-put_slot-count : goal.slice_bounds-put_slot-count
slice_bounds-put_slot-count c =
    let room = room_at c.args.p c.args.rows.now c.requires.typed c.loop-i.i c.loop-i-test.true c.loop-i.at c.loop-i.invariant.0 c.if-s-ne0.true in
    omega (arith, room, c.requires.in_bounds)

pub returns : goal.returns
returns c =
    let p = c.args.p in
    let rows = c.args.rows.now in
    let all : length (held p rows).slots ≤ c.loop-i.i = omega (arith, length-held p rows c.requires.typed, c.loop-i-test.false) in
    let whole = take_all c.loop-i.i (held p rows).slots all in
    record {
      value = sym c.loop-i.invariant.0 ∙ ap (λ (xs : List SlotRow). length (layout_units (full_units xs))) whole;
      out_after = c.loop-i.invariant.1 ∙ ap (λ (xs : List SlotRow). over (layout_units (full_units xs)) c.args.out.now) whole;
    }
