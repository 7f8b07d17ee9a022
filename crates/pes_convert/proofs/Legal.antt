-- Converting the words of a legal value, and such a value: what is refused, what is left in the output, and how it reads.
-- Assumes nothing.
use Prim.Native.Nat.{ℕ, ◌+◌, ◌*◌, ◌<◌}
use mathlib.Core.Path.{◌≡◌, ◌∙◌, ap}
use mathlib.Core.List.{List}
use lib.ListN.{length, get_or, take}
use Rattle.lists.specs.Each.{Each}
use Rattle.lists.specs.Part.{part}
use Rattle.lists.specs.Room.{over}
use Rattle.refusal.specs.declared.Written.{Written}
use Rattle.refusal.specs.Answers.{accepted, refused, written}
use Rattle.sdp.specs.declared.Packet.{Packet}
use Rattle.sdp.specs.Value.{Sdp, Legal, empty_row, held}
use Rattle.subtitling.specs.Layout.{layout as packetLayout}
use Rattle.pes.specs.declared.Head.{Head}
use Rattle.pes.specs.Value.{stored}
use Rattle.pes.specs.Layout.{layout}
use Rattle.pes.specs.Lent.{unit_bytes, units_bytes, ReadsInto}
use Rattle.pes_convert.specs.Converting.{slot_unit, full_units, converted, Converts, ConvertsValue}
use Rattle.pes_convert.specs.Order.{LineCarried}
use Rattle.pes_convert.proofs.Units.{slot_lent}
use Rattle.pes_convert.proofs.Lines.{line-6-only}
use Rattle.pes_convert.proofs.Carrying as carrying
use Rattle.pes_convert.proofs.Words.{of-legal}
use Rattle.pes_convert.proofs.Values.{of-value, value-exactly}

-- what is read of the units of a full slot, in an array that holds all of them
read-slot : (v : Sdp) → Legal v → (end : List ℕ) → end ≡ units_bytes (stored (converted v)).units → (i : ℕ) → (get_or v.slots i empty_row).slot.full ≡ 1
    → part (45 * length (full_units (take i v.slots))) (45 * length (full_units (take i v.slots)) + 45) end
    ≡ unit_bytes (slot_unit (get_or v.slots i empty_row))
read-slot v h end e i full = let k = length (full_units (take i v.slots)) in ap (part (45 * k) (45 * k + 45)) e ∙ slot_lent v h i full

module _ (v : Sdp) (h : Legal v) (out : List ℕ) (r : Written) (exit : List ℕ) (c : Converts (packetLayout v) out r exit) where
  pub line_refused : (i : ℕ) → i < 5 → (get_or v.slots i empty_row).slot.full ≡ 1 → (get_or v.slots i empty_row).slot.line ≡ 6
      → r.refusal ≡ refused 7 0
  line_refused i below full six =
      carrying.line_refused v h out r exit (of-legal v h out r exit c) (λ lines. (line-6-only v h).0 lines i below full six)

  pub no-room-refused : Each LineCarried v.slots → length out < length (layout (converted v)) → r.refusal ≡ refused 14 0
  no-room-refused = carrying.no-room-refused v h out r exit (of-legal v h out r exit c)

  module _ (e : r.refusal.number ≡ 0) where
    pub converted-front : (r ≡ written (length (layout (converted v)))) × (exit ≡ over (layout (converted v)) out)
    converted-front = carrying.front v h out r exit (of-legal v h out r exit c) e

    pub converted-reads : (lent : List ℕ) (a : Head) (end : List ℕ) → ReadsInto (take r.len exit) lent a end
        → (a ≡ record { refusal = accepted; data_identifier = 0x10; n = length (full_units v.slots) })
        × (end ≡ units_bytes (stored (converted v)).units)
    converted-reads = carrying.reads v h out r exit (of-legal v h out r exit c) e

    pub slot-reads : (lent : List ℕ) (a : Head) (end : List ℕ) → ReadsInto (take r.len exit) lent a end
        → (i : ℕ) → (get_or v.slots i empty_row).slot.full ≡ 1
        → part (45 * length (full_units (take i v.slots))) (45 * length (full_units (take i v.slots)) + 45) end
        ≡ unit_bytes (slot_unit (get_or v.slots i empty_row))
    slot-reads lent a end reads i full = read-slot v h end (converted-reads lent a end reads).1 i full

module _ (p : Packet) (rows : List (List ℕ)) (out : List ℕ) (r : Written) (exit : List ℕ) (c : ConvertsValue p rows out r exit) where
  abbrev v : Sdp
  v = held p rows

  pub value-line-refused : Legal v
      → (i : ℕ) → i < 5 → (get_or v.slots i empty_row).slot.full ≡ 1 → (get_or v.slots i empty_row).slot.line ≡ 6
      → r.refusal ≡ refused 7 0
  value-line-refused h i below full six =
      carrying.line_refused v h out r exit (of-value p rows out r exit c h) (λ lines. (line-6-only v h).0 lines i below full six)

  pub value-no-room-refused : Legal v → Each LineCarried v.slots → length out < length (layout (converted v)) → r.refusal ≡ refused 14 0
  value-no-room-refused h = carrying.no-room-refused v h out r exit (of-value p rows out r exit c h)

  module _ (e : r.refusal.number ≡ 0) where
    legal : Legal v
    legal = ((value-exactly p rows out r exit c).0 e).legal

    pub value-front : (r ≡ written (length (layout (converted v)))) × (exit ≡ over (layout (converted v)) out)
    value-front = carrying.front v legal out r exit (of-value p rows out r exit c legal) e

    pub value-reads : (lent : List ℕ) (a : Head) (end : List ℕ) → ReadsInto (take r.len exit) lent a end
        → (a ≡ record { refusal = accepted; data_identifier = 0x10; n = length (full_units v.slots) })
        × (end ≡ units_bytes (stored (converted v)).units)
    value-reads = carrying.reads v legal out r exit (of-value p rows out r exit c legal) e
