-- The theorems of the conversion of a subtitling packet into a PES data field (docs/RULES.md, "PES data field" and
-- "Order of checks"). What they speak of is defined in specs/: the data field of a packet's value, and what converting
-- answers and leaves, in Converting; the checks, as one list, and which values are carried in Order. A packet's value
-- and when it is legal are those of `sdp`, its words and its own checks those of `subtitling`, and the data field's
-- value and bytes those of `pes`; each has a page of theorems too, and nothing of them is said anew. `layout` is that
-- of `pes`, and `packet.layout` that of `subtitling`.
-- How to read it: docs/NOTATION.md.
--
-- The contract of `convert` is the promise `Converts`, and that of `convert_value` is `ConvertsValue`.
-- `Converts s out r exit`: converting the words s to an output that held `out` answers r and leaves `exit`.
-- `ConvertsValue p rows out r exit`: the same of a packet's numbers and its rows. So each theorem speaks of every call.
-- Assumes nothing.
use Prim.Native.Nat.{ℕ, ◌+◌, ◌*◌, ◌≤◌, ◌<◌}
use mathlib.Core.Path.{◌≡◌}
use mathlib.Core.Logic.{◌⊎◌, ◌↔◌}
use mathlib.Core.List.{List, [], ◌∷◌, ◌++◌, map}
use lib.ListN.{length, get_or, take}
use Rattle.lists.specs.Each.{Each}
use Rattle.lists.specs.Part.{part}
use Rattle.lists.specs.Sum.{sum}
use Rattle.lists.specs.Room.{over}
use Rattle.refusal.specs.declared.Written.{Written}
use Rattle.refusal.specs.Verdict.{Verdict}
use Rattle.refusal.specs.Checks.{first}
use Rattle.refusal.specs.Numbers.{refusal_of}
use Rattle.refusal.specs.Answers.{accepted, refused, written}
use Rattle.bits.specs.Bits.{reversed}
use Rattle.sdp.specs.declared.Packet.{Packet}
use Rattle.sdp.specs.Value.{SlotRow, Sdp, Legal, empty_row, held}
use Rattle.sdp.specs.Layout.{descriptors_of, count}
use Rattle.subtitling.specs.declared.Answer.{Answer}
use Rattle.subtitling.specs.Layout as packet
use Rattle.subtitling.specs.Reading as packets
use Rattle.subtitling.specs.Reading.{packet_verdict, value_of, Reads}
use Rattle.subtitling.specs.Writing.{Writes}
use Rattle.subtitling.specs.Order.{reading_checks, writing_checks}
use Rattle.pes.specs.declared.Head.{Head}
use Rattle.pes.specs.Value as field
use Rattle.pes.specs.Value.{blank, stored}
use Rattle.pes.specs.Layout.{layout}
use Rattle.pes.specs.Lent.{units_bytes, ReadsInto}
use Rattle.pes.specs.Places.{unit_at}
use Rattle.pes_convert.specs.Converting.{slot_unit, full_units, converted, convert_verdict}
use Rattle.pes_convert.specs.Converting.{Converts, ConvertsValue}
use Rattle.pes_convert.specs.Order.{convert_checks, LineCarried, Carried, unreserved}
use Rattle.pes_convert.proofs.Full as full
use Rattle.pes_convert.proofs.Units as units
use Rattle.pes_convert.proofs.Lines as lines
use Rattle.pes_convert.proofs.Words as words
use Rattle.pes_convert.proofs.Values as values
use Rattle.pes_convert.proofs.Legal as legal
use Rattle.pes_convert.proofs.Determined as determined

-- THE DATA FIELD OF A VALUE

-- A full slot has one unit, of subtitles, with its field, line and row. The field is not turned round: 1 is the odd
-- one, which is the first.
pub unit-of-full : (x : SlotRow) → x.slot.full ≡ 1 → full_units (x ∷ []) ≡ slot_unit x ∷ []
unit-of-full = units.unit-of-full

-- An empty one has none,
pub none-of-empty : (x : SlotRow) → x.slot.full ≡ 0 → full_units (x ∷ []) ≡ []
none-of-empty = full.full-none

-- and they stand in the order of the slots.
pub units-in-order : (xs ys : List SlotRow) → full_units (xs ++ ys) ≡ full_units xs ++ full_units ys
units-in-order = full.full-append

-- There are as many as full slots, which are as many as the packet's structures.
pub units-count : (v : Sdp) → Legal v
    → (length (converted v).units ≡ sum (map (λ (x : SlotRow). x.slot.full) v.slots))
    × (length (converted v).units ≡ count (descriptors_of v.slots))
units-count = units.units-count

-- The unit of slot i stands behind those of the full slots before it.
pub unit-at : (v : Sdp) (i : ℕ) → (get_or v.slots i empty_row).slot.full ≡ 1
    → get_or (converted v).units (length (full_units (take i v.slots))) blank ≡ slot_unit (get_or v.slots i empty_row)
unit-at = units.unit-at

-- In the stream it has these bytes.
pub slot-stream : (v : Sdp) → Legal v → (i : ℕ) → (get_or v.slots i empty_row).slot.full ≡ 1
    → part (unit_at (length (full_units (take i v.slots)))) (unit_at (length (full_units (take i v.slots))) + 46)
    (layout (converted v))
    ≡ 0x03 ∷ 0x2C
    ∷ (192 + 32 * (get_or v.slots i empty_row).slot.field.0 + (get_or v.slots i empty_row).slot.line)
    ∷ 0xE4 ∷ map reversed (get_or v.slots i empty_row).row
slot-stream = units.slot-stream

-- A packet of k structures has a data field of 1 + 46k bytes.
pub converted-size : (v : Sdp) → Legal v
    → length (layout (converted v)) ≡ 1 + 46 * count (descriptors_of v.slots)
converted-size = units.converted-size

-- It is legal where the value is and each full slot's line is 0 or 7 to 22.
pub converted-legal : (v : Sdp) → Legal v → Each LineCarried v.slots → field.Legal (converted v)
converted-legal = units.converted-legal

-- That leaves out line 6, which only a packet may have, and no other line.
pub line-6-only : (v : Sdp) → Legal v
    → Each LineCarried v.slots
    ↔ ((i : ℕ) → i < 5 → (get_or v.slots i empty_row).slot.full ≡ 1 → (get_or v.slots i empty_row).slot.line ≡ 6 → ⊥)
line-6-only = lines.line-6-only

-- Reserved bits and counter are dropped: values that differ only in them have the same data field,
pub same-converted : (v w : Sdp) → map unreserved v.slots ≡ map unreserved w.slots → converted v ≡ converted w
same-converted = units.same-converted

-- and packets that differ only in them are converted alike.
pub reserved-dropped : (v w : Sdp) → Legal v → Legal w → map unreserved v.slots ≡ map unreserved w.slots
    → (out : List ℕ) (a : Written) (exit : List ℕ) (b : Written) (end : List ℕ)
    → Converts (packet.layout v) out a exit → Converts (packet.layout w) out b end → (a ≡ b) × (exit ≡ end)
reserved-dropped = words.reserved-dropped

-- CONVERTING A PACKET

-- It succeeds exactly when the words are those of a legal value, each full slot's line is 0 or 7 to 22, and the data
-- field fits the output.
pub converts-exactly : (s out : List ℕ) (r : Written) (exit : List ℕ) → Converts s out r exit
    → r.refusal.number ≡ 0 ↔ ((v : Sdp) × (packet.layout v ≡ s) × Carried v (length out))
converts-exactly = words.converts-exactly

-- The checks are made in the order of RULES: those of reading the packet, the lines of the full slots, the room. The
-- first that finds a fault decides,
pub convert-order : (checks : List Verdict) (v : Sdp) (room : ℕ)
    → convert_verdict (first checks) v room ≡ first (convert_checks checks v room)
convert-order = words.order

-- and the answer tells its number and place.
pub convert-first : (s out : List ℕ) (r : Written) (exit : List ℕ) → Converts s out r exit
    → r.refusal ≡ refusal_of (first (convert_checks (reading_checks s) (value_of s) (length out)))
convert-first = words.convert-first

-- A packet that reading refuses is refused with the same number and place.
pub packet-refused : (s out : List ℕ) (r : Written) (exit : List ℕ) → Converts s out r exit
    → (a : Answer) → Reads s a → (a.refusal.number ≡ 0 → ⊥) → r.refusal ≡ a.refusal
packet-refused = words.packet-refused

-- Of a packet that reading accepts, line 6 in a full slot is refused with 7,
pub line_refused : (v : Sdp) → Legal v → (out : List ℕ) (r : Written) (exit : List ℕ)
    → Converts (packet.layout v) out r exit
    → (i : ℕ) → i < 5 → (get_or v.slots i empty_row).slot.full ≡ 1 → (get_or v.slots i empty_row).slot.line ≡ 6
    → r.refusal ≡ refused 7 0
line_refused = legal.line_refused

-- and else too short an output with 14.
pub no-room-refused : (v : Sdp) → Legal v → (out : List ℕ) (r : Written) (exit : List ℕ)
    → Converts (packet.layout v) out r exit → Each LineCarried v.slots
    → length out < length (layout (converted v)) → r.refusal ≡ refused 14 0
no-room-refused = legal.no-room-refused

-- There is no other refusal.
pub refused-only : (s out : List ℕ) (r : Written) (exit : List ℕ) → Converts s out r exit
    → (r.refusal.number ≡ 0 → ⊥)
    → (r.refusal ≡ refusal_of (packet_verdict s)) ⊎ ((r.refusal ≡ refused 7 0) ⊎ (r.refusal ≡ refused 14 0))
refused-only = words.refused-only

-- A refused call counted nothing and changed nothing.
pub refused-untouched : (s out : List ℕ) (r : Written) (exit : List ℕ) → Converts s out r exit
    → (r.refusal.number ≡ 0 → ⊥) → (r.len ≡ 0) × (exit ≡ out)
refused-untouched = words.refused-untouched

-- A successful one left exactly the data field at the front of the output, and changed nothing else.
pub converted-front : (v : Sdp) → Legal v → (out : List ℕ) (r : Written) (exit : List ℕ)
    → Converts (packet.layout v) out r exit → r.refusal.number ≡ 0
    → (r ≡ written (length (layout (converted v)))) × (exit ≡ over (layout (converted v)) out)
converted-front = legal.converted-front

-- The result reads as data_identifier 10 and the units of the full slots,
pub converted-reads : (v : Sdp) → Legal v → (out : List ℕ) (r : Written) (exit : List ℕ)
    → Converts (packet.layout v) out r exit → r.refusal.number ≡ 0
    → (lent : List ℕ) (a : Head) (end : List ℕ) → ReadsInto (take r.len exit) lent a end
    → (a ≡ record { refusal = accepted; data_identifier = 0x10; n = length (full_units v.slots) })
    × (end ≡ units_bytes (stored (converted v)).units)
converted-reads = legal.converted-reads

-- and in the array that was lent, those of slot i are id 03, its field, its line and its row, unchanged.
pub slot-reads : (v : Sdp) → Legal v → (out : List ℕ) (r : Written) (exit : List ℕ)
    → Converts (packet.layout v) out r exit → r.refusal.number ≡ 0
    → (lent : List ℕ) (a : Head) (end : List ℕ) → ReadsInto (take r.len exit) lent a end
    → (i : ℕ) → (get_or v.slots i empty_row).slot.full ≡ 1
    → part (45 * length (full_units (take i v.slots))) (45 * length (full_units (take i v.slots)) + 45) end
    ≡ 0x03 ∷ (get_or v.slots i empty_row).slot.field.0 ∷ (get_or v.slots i empty_row).slot.line
    ∷ (get_or v.slots i empty_row).row
slot-reads = legal.slot-reads

-- CONVERTING A VALUE

-- It succeeds exactly when the value is legal, each full slot's line is 0 or 7 to 22, and the data field fits.
pub value-exactly : (p : Packet) (rows : List (List ℕ)) (out : List ℕ) (r : Written) (exit : List ℕ)
    → ConvertsValue p rows out r exit → r.refusal.number ≡ 0 ↔ Carried (held p rows) (length out)
value-exactly = values.value-exactly

-- The checks are those of writing the packet where any has room, then the lines, then the room: the answer tells the
-- first that finds a fault.
pub convert-value-first : (p : Packet) (rows : List (List ℕ)) (out : List ℕ) (r : Written) (exit : List ℕ)
    → ConvertsValue p rows out r exit
    → r.refusal ≡ refusal_of (first (convert_checks (writing_checks (held p rows) 245) (held p rows) (length out)))
convert-value-first = values.value-first

-- A value that cannot be written as a packet is refused as writing it to an output for any packet is,
pub value-refused : (p : Packet) (rows : List (List ℕ)) (out : List ℕ) (r : Written) (exit : List ℕ)
    → ConvertsValue p rows out r exit
    → (place : List ℕ) (w : Written) (end : List ℕ) → Writes p rows place w end → 245 ≤ length place
    → (w.refusal.number ≡ 0 → ⊥) → r.refusal ≡ w.refusal
value-refused = values.as_written

-- with 15 or 7,
pub illegal-refused : (p : Packet) (rows : List (List ℕ)) (out : List ℕ) (r : Written) (exit : List ℕ)
    → ConvertsValue p rows out r exit → (Legal (held p rows) → ⊥)
    → (r.refusal ≡ refused 15 0) ⊎ (r.refusal ≡ refused 7 0)
illegal-refused = values.illegal-refused

-- and a legal one as its packet is: with 7 for line 6 in a full slot,
pub value-line-refused : (p : Packet) (rows : List (List ℕ)) (out : List ℕ) (r : Written) (exit : List ℕ)
    → ConvertsValue p rows out r exit → Legal (held p rows)
    → (i : ℕ) → i < 5 → (get_or (held p rows).slots i empty_row).slot.full ≡ 1
    → (get_or (held p rows).slots i empty_row).slot.line ≡ 6 → r.refusal ≡ refused 7 0
value-line-refused = legal.value-line-refused

-- and else with 14.
pub value-no-room-refused : (p : Packet) (rows : List (List ℕ)) (out : List ℕ) (r : Written) (exit : List ℕ)
    → ConvertsValue p rows out r exit → Legal (held p rows) → Each LineCarried (held p rows).slots
    → length out < length (layout (converted (held p rows))) → r.refusal ≡ refused 14 0
value-no-room-refused = legal.value-no-room-refused

-- No refusal has a place to tell.
pub value-place : (p : Packet) (rows : List (List ℕ)) (out : List ℕ) (r : Written) (exit : List ℕ)
    → ConvertsValue p rows out r exit → r.refusal.place ≡ 0
value-place = values.value-place

-- A refused call counted nothing and changed nothing.
pub value-refused-untouched : (p : Packet) (rows : List (List ℕ)) (out : List ℕ) (r : Written) (exit : List ℕ)
    → ConvertsValue p rows out r exit → (r.refusal.number ≡ 0 → ⊥) → (r.len ≡ 0) × (exit ≡ out)
value-refused-untouched = values.value-untouched

-- A successful one left exactly the data field at the front of the output,
pub value-front : (p : Packet) (rows : List (List ℕ)) (out : List ℕ) (r : Written) (exit : List ℕ)
    → ConvertsValue p rows out r exit → r.refusal.number ≡ 0
    → (r ≡ written (length (layout (converted (held p rows))))) × (exit ≡ over (layout (converted (held p rows))) out)
value-front = legal.value-front

-- which reads as the units of the full slots.
pub value-reads : (p : Packet) (rows : List (List ℕ)) (out : List ℕ) (r : Written) (exit : List ℕ)
    → ConvertsValue p rows out r exit → r.refusal.number ≡ 0
    → (lent : List ℕ) (a : Head) (end : List ℕ) → ReadsInto (take r.len exit) lent a end
    → (a ≡ record { refusal = accepted; data_identifier = 0x10; n = length (full_units (held p rows).slots) })
    × (end ≡ units_bytes (stored (converted (held p rows))).units)
value-reads = legal.value-reads

-- BOTH WAYS

-- Converting a legal value and converting its words answer and leave the same,
pub value-as-words : (p : Packet) (rows : List (List ℕ)) → Legal (held p rows)
    → (out : List ℕ) (a : Written) (exit : List ℕ) (b : Written) (end : List ℕ)
    → Converts (packet.layout (held p rows)) out a exit → ConvertsValue p rows out b end → (a ≡ b) × (exit ≡ end)
value-as-words = values.value-as-words

-- and so do converting words and converting what is read of them.
pub words-as-value : (s : List ℕ) (lent : List (List ℕ)) (read : Answer) (rows : List (List ℕ))
    → packets.ReadsInto s lent read rows → read.refusal.number ≡ 0
    → (out : List ℕ) (a : Written) (exit : List ℕ) (b : Written) (end : List ℕ)
    → Converts s out a exit → ConvertsValue read.packet rows out b end → (a ≡ b) × (exit ≡ end)
words-as-value = values.words-as-value

-- ONE ANSWER

-- For each function, two answers that keep its promise are equal, lent memory too.
pub convert-determined : (s out : List ℕ) (a : Written) (exit : List ℕ) (b : Written) (end : List ℕ)
    → Converts s out a exit → Converts s out b end → (a ≡ b) × (exit ≡ end)
convert-determined = determined.convert-determined

pub convert-value-determined : (p : Packet) (rows : List (List ℕ)) (out : List ℕ) (a : Written) (exit : List ℕ)
    → (b : Written) (end : List ℕ) → ConvertsValue p rows out a exit → ConvertsValue p rows out b end
    → (a ≡ b) × (exit ≡ end)
convert-value-determined = determined.convert-value-determined
