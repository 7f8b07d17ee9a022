-- What the arguments of a write call tell, and when they fit: what the theorems of the calls speak of.
use Rattle.std.specs.Prelude.{ℕ, ◌%◌, ◌≤◌, ◌<◌, ◌≡◌, List, [], ◌∷◌, length}
use Rattle.lists.specs.Each.{Each}
use Rattle.kind.specs.declared.Kind.{Kind}
use Rattle.scte20.specs.declared.Numbers.{Numbers}
use Rattle.ga94.specs.declared.Numbers as ga94
use Rattle.picture.specs.Kinds as kinds
use Rattle.picture.specs.Kinds.{LegalCaptionUnit, held, unit_in}
use Rattle.picture.specs.Value.{Area, replaced}
use Rattle.picture.specs.Value as area
use Rattle.picture.specs.Writing.{unit_bytes}
use Rattle.sdp.specs.declared.Slot.{Slot}
use Rattle.sdp.specs.declared.Packet.{Packet}
use Rattle.sdp.specs.Value as sdp
use Rattle.subtitling.specs.Layout as packet
use Rattle.line21.specs.Value as line21
use Rattle.line21.specs.Layout as payload
use Rattle.line21.specs.Lent.{payload_in, run_in}
use Rattle.reel.specs.Writing.{reel, reel_layout}
use Rattle.pes.specs.Value as pes
use Rattle.pes.specs.Layout as data-field
use Rattle.pes.specs.Lent.{field_in}
use Rattle.captions.specs.declared.UnitHead.{UnitHead}
use Rattle.captions.specs.declared.Ga94Head.{Ga94Head}
use Rattle.captions.specs.Calls.{numbers_in, ga94_numbers_in}

-- THE PICTURE AREA

-- a unit's numbers as they are passed
abbrev pub plain : ℕ → ℕ → ℕ → ℕ → Numbers
plain reserved flag n z = record { reserved = reserved; vbi_data_flag = flag; n = n; z = z }

-- the numbers of an answer, passed on to a write call
abbrev pub passed : UnitHead → Numbers
passed a = numbers_in a.reserved a.vbi_data_flag a.n a.z

-- the same of GA94
abbrev pub ga94_passed : Ga94Head → ga94.Numbers
ga94_passed a =
    ga94_numbers_in a.process_em_data_flag a.process_cc_data_flag a.additional_data_flag a.em_data a.n
    a.z

-- numbers and the bytes of records, of either kind: the value is legal, and its unit fits limit and buffer
abbrev pub Fits : (k : Kind) → List ℕ → List ℕ → kinds.Numbers k → Type 0
Fits k records out v =
    LegalCaptionUnit k (unit_in k v records)
    × (length (unit_bytes k (held k (unit_in k v records))) ≤ 16384)
    × (length (unit_bytes k (held k (unit_in k v records))) ≤ length out)

-- and in an area: the area is a legal value's, and the whole new area fits
abbrev pub FitsIn : (k : Kind) → List ℕ → List ℕ → List ℕ → kinds.Numbers k → Type 0
FitsIn k s records out v =
    (x : Area k) × area.Legal k x × (area.layout k x ≡ s)
    × LegalCaptionUnit k (unit_in k v records)
    × (length (area.layout k (replaced k x (held k (unit_in k v records)))) ≤ 16384)
    × (length (area.layout k (replaced k x (held k (unit_in k v records)))) ≤ length out)

-- THE SUBTITLING PACKET

-- a slot as four bytes
abbrev pub slot_bytes : Slot → List ℕ
slot_bytes s = s.full ∷ s.line ∷ s.reserved ∷ s.field.0 ∷ []

-- the value is legal, and the packet fits limit and buffer
abbrev pub FitsPacket : Packet → List (List ℕ) → List ℕ → Type 0
FitsPacket p rows out =
    sdp.Legal (sdp.held p rows)
    × (length (packet.layout (sdp.held p rows)) ≤ 245)
    × (length (packet.layout (sdp.held p rows)) ≤ length out)

-- THE LINE 21 PAYLOAD

-- flags, a count and the bytes of units: the value is legal, and the payload fits limit and buffer
abbrev pub FitsPayload : ℕ → ℕ → List ℕ → List ℕ → Type 0
FitsPayload flags m sent out =
    line21.LegalPayload (payload_in flags m sent)
    × (length (payload.layout (line21.held (payload_in flags m sent))) ≤ 1456)
    × (length (payload.layout (line21.held (payload_in flags m sent))) ≤ length out)

-- THE REEL

-- flags, a size and the bytes of a run: they are whole units, the size is a payload's, the units are legal, and all
-- payloads fit the buffer
abbrev pub FitsRun : ℕ → ℕ → List ℕ → List ℕ → Type 0
FitsRun flags size s out =
    (flags < 256)
    × (length s % 7 ≡ 0)
    × (1 ≤ size)
    × (size ≤ 291)
    × Each line21.LegalAccessUnit (run_in s)
    × (length (reel_layout (reel flags size (run_in s))) ≤ length out)

-- THE PES DATA FIELD

-- data_identifier, a count and the bytes of units: the value is legal, and the data field fits the buffer
abbrev pub FitsField : ℕ → ℕ → List ℕ → List ℕ → Type 0
FitsField identifier n units out =
    pes.LegalTold (field_in identifier n units)
    × (length (data-field.layout (pes.held (field_in identifier n units))) ≤ length out)
