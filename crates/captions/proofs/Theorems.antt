-- The theorems of the C interface (docs/RULES.md, "Demands"; c/captions.h). Each call's contract is a promise of its
-- carriage, of the value that plain numbers and lent memory tell (specs/Calls), so that the theorems of the carriages
-- speak of every call: those of `picture` for `captions_area_read` (`AreaReads` is its `ReadsInto`),
-- `captions_unit_write` (`Writes`), `captions_area_replace` (`Replaces`) and, for GA94, `captions_ga94_read`
-- (`Ga94Reads`), `captions_ga94_write` and `captions_ga94_replace`; those of `subtitling` for `captions_packet_read`
-- and `captions_packet_write`; those of `line21` for `captions_payload_read` and, by `as_written`, for
-- `captions_payload_write`; those of `reel`, by `as-run`, for `captions_reel_write_bytes`, and, by `as-reel` of
-- `reel_units`' page, for `captions_reel_write` (`ReelWrites`); those of `film_lent` for
-- `captions_film_picture` (`PictureInto`) and `captions_film_close` (`CloseInto`); those of `pes` for
-- `captions_pes_read` and `captions_pes_write`; those of `pes_convert` for `captions_pes_convert` (`Converts`) and
-- `captions_pes_convert_value` (`ConvertsValue`); those of `multi` for `captions_multi_read` and
-- `captions_multi_write`. Here stands what the boundary adds and, for the calls of the
-- carriages, of plain numbers and lent bytes: when each succeeds, both round trips, and that two answers are equal.
-- When a value fits is said in specs/Arguments.
-- How to read it: docs/NOTATION.md.
-- Assumes nothing.
use Prim.Native.Nat.{ℕ, ◌*◌, ◌≤◌, ◌<◌}
use mathlib.Core.Path.{◌≡◌}
use mathlib.Core.Logic.{◌↔◌, ◌⊎◌}
use mathlib.Core.Bool.{true}
use mathlib.Core.List.{List, ◌∷◌}
use lib.ListN.{length, take}
use Rattle.lists.specs.Flat.{flat}
use Rattle.lists.specs.Room.{filled, over}
use Rattle.refusal.specs.declared.Written.{Written}
use Rattle.refusal.specs.Answers.{accepted, refused, written}
use Rattle.kind.specs.declared.Kind.TheVariants.{Scte20, Ga94}
use Rattle.scte20.specs.declared.Numbers.{Numbers}
use Rattle.scte20.specs.Value.{Content}
use Rattle.scte20.specs.Lent.{unit_in}
use Rattle.ga94.specs.declared.Numbers as ga94
use Rattle.ga94.specs.Value as ga94-value
use Rattle.ga94.specs.Lent as ga94-lent
use Rattle.picture.specs.Value.{Area, captioned}
use Rattle.picture.specs.Value as area
use Rattle.picture.specs.Writing.{unit_bytes, Writes, Replaces}
use Rattle.sdp.specs.declared.Packet.{Packet}
use Rattle.sdp.specs.Value.{Sdp}
use Rattle.sdp.specs.Value as sdp
use Rattle.subtitling.specs.declared.Answer.{Answer}
use Rattle.subtitling.specs.Layout as packet-layout
use Rattle.subtitling.specs.Reading as packet-reading
use Rattle.subtitling.specs.Writing as packet-writing
use Rattle.subtitling.proofs.Theorems as subtitling
use Rattle.line21.specs.declared.Head.{Head}
use Rattle.line21.specs.Value.{Line21}
use Rattle.line21.specs.Value as line21
use Rattle.line21.specs.Layout as payload-layout
use Rattle.line21.specs.Lent.{payload_in}
use Rattle.line21.specs.Lent as payload-reading
use Rattle.line21.specs.Writing as payload-writing
use Rattle.line21.proofs.Theorems as payloads
use Rattle.film_lent.specs.declared.Head as film-lent
use Rattle.film_lent.specs.Lent.{PictureInto, CloseInto}
use Rattle.pes.specs.declared.Head as pes-head
use Rattle.pes.specs.Value as pes
use Rattle.pes.specs.Layout as pes-layout
use Rattle.pes.specs.Lent.{field_in}
use Rattle.pes.specs.Lent as pes-reading
use Rattle.pes.specs.Writing as pes-writing
use Rattle.pes.proofs.Theorems as data-field
use Rattle.pes_convert.specs.Converting.{Converts, ConvertsValue}
use Rattle.multi.specs.declared.Answer as multi-answer
use Rattle.multi.specs.Value as multi
use Rattle.multi.specs.Layout as multi-layout
use Rattle.multi.specs.Lent as multi-lent
use Rattle.multi.specs.Writing as multi-writing
use Rattle.multi.proofs.Theorems as multipacket
use Rattle.pes_convert.proofs.Theorems as converting
use Rattle.captions.specs.declared.UnitHead.{UnitHead}
use Rattle.captions.specs.declared.Ga94Head.{Ga94Head}
use Rattle.captions.specs.Calls.{AreaReads, numbers_in, ga94_head_in, Ga94Reads, packet_in}
use Rattle.line21_writer.specs.Calls.{PayloadWrites, RunWrites}
use Rattle.reel.specs.Lent.{WritesRun}
use Rattle.captions.specs.Arguments.{plain, passed, ga94_passed, Fits, FitsIn}
use Rattle.captions.specs.Arguments.{slot_bytes, FitsPacket, FitsPayload, FitsRun, FitsField}
use Rattle.captions.proofs.Numbers as numbers
use Rattle.captions.proofs.Refusing as refusing
use Rattle.captions.proofs.Succeeding as succeeding
use Rattle.captions.proofs.BothWays as both_ways
use Rattle.captions.proofs.Ga94 as atsc
use Rattle.captions.proofs.Runs as reels
use Rattle.captions.proofs.Inside as packets-inside
use Rattle.captions.proofs.Determined as determined

-- NUMBERS

-- A number that a byte holds is the value's.
pub numbers-told : (reserved flag n z : ℕ) → reserved < 256 → flag < 256
    → numbers_in reserved flag n z ≡ plain reserved flag n z
numbers-told = numbers.numbers-told

-- A larger one is no legal value's: it is above what the reserved bits and the flag hold.
pub numbers-wide : (reserved flag n z : ℕ)
    → (127 < reserved → 127 < (numbers_in reserved flag n z).reserved)
    × (1 < flag → 1 < (numbers_in reserved flag n z).vbi_data_flag)
numbers-wide = numbers.numbers-wide

-- So it is refused with 15, whatever the records and the output are.
pub wide-refused : (reserved flag n z : ℕ) (lent out : List ℕ) (r : Written) (exit : List ℕ)
    → Writes Scte20 (unit_in (numbers_in reserved flag n z) lent) out r exit
    → (127 < reserved) ⊎ (1 < flag) → r.refusal ≡ refused 15 0
wide-refused = refusing.wide-refused

-- Every packet can be told, four bytes for a slot (`slot_bytes`).
pub packet-told : (p : Packet) → length p.slots ≡ 5 → packet_in p.counter (flat slot_bytes p.slots) ≡ p
packet-told = numbers.packet-told

-- THE FLAGS BYTE

-- Flags that a byte holds: the promise of the payload's writer, and all its theorems.
pub as_written : (flags m : ℕ) (lent out : List ℕ) (r : Written) (exit : List ℕ)
    → PayloadWrites flags m lent out r exit → flags < 256
    → payload-writing.Writes (payload_in flags m lent) out r exit
as_written = refusing.as_written

-- Larger ones are refused with 15, and nothing changed.
pub flags-refused : (flags m : ℕ) (lent out : List ℕ) (r : Written) (exit : List ℕ)
    → PayloadWrites flags m lent out r exit → 255 < flags
    → (r ≡ record { refusal = refused 15 0; len = 0 }) × (exit ≡ out)
flags-refused = refusing.flags-refused

-- The same of a reel: flags that a byte holds have the promise of its writer, and all theorems of `reel`,
pub as-run : (flags size : ℕ) (s out : List ℕ) (r : Written) (exit : List ℕ)
    → RunWrites flags size s out r exit → flags < 256 → WritesRun flags size s out r exit
as-run = reels.as-run

-- and larger ones are refused with 15.
pub reel-flags-refused : (flags size : ℕ) (s out : List ℕ) (r : Written) (exit : List ℕ)
    → RunWrites flags size s out r exit → 255 < flags
    → (r ≡ record { refusal = refused 15 0; len = 0 }) × (exit ≡ out)
reel-flags-refused = reels.reel-flags-refused

-- ACCEPTED EXACTLY WHEN

-- A read call accepts exactly what is the layout of a legal value.
pub area-read-exactly : (s lent : List ℕ) (r : UnitHead) (exit : List ℕ) → AreaReads s lent r exit
    → r.refusal.number ≡ 0 ↔ ((v : Area Scte20) × area.Legal Scte20 v × (area.layout Scte20 v ≡ s))
area-read-exactly = succeeding.area-read-exactly

pub packet-read-exactly : (s : List ℕ) (lent : List (List ℕ)) (r : Answer) (exit : List (List ℕ))
    → packet-reading.ReadsInto s lent r exit
    → r.refusal.number ≡ 0 ↔ ((v : Sdp) × sdp.Legal v × (packet-layout.layout v ≡ s))
packet-read-exactly = subtitling.into-exactly

pub payload-read-exactly : (s lent : List ℕ) (r : Head) (exit : List ℕ) → payload-reading.ReadsInto s lent r exit
    → r.refusal.number ≡ 0 ↔ ((v : Line21) × line21.Legal v × (payload-layout.layout v ≡ s))
payload-read-exactly = payloads.into-exactly

pub ga94-read-exactly : (s lent : List ℕ) (r : Ga94Head) (exit : List ℕ) → Ga94Reads s lent r exit
    → r.refusal.number ≡ 0 ↔ ((v : Area Ga94) × area.Legal Ga94 v × (area.layout Ga94 v ≡ s))
ga94-read-exactly = atsc.ga94-read-exactly

pub pes-read-exactly : (s lent : List ℕ) (r : pes-head.Head) (exit : List ℕ) → pes-reading.ReadsInto s lent r exit
    → r.refusal.number ≡ 0 ↔ ((v : pes.DataField) × pes.Legal v × (pes-layout.layout v ≡ s))
pes-read-exactly = data-field.accepted-exactly

pub multi-read-exactly : (s : List ℕ) (lent : List (List ℕ)) (r : multi-answer.Answer) (exit : List (List ℕ))
    → multi-lent.ReadsInto s lent r exit
    → r.refusal.number ≡ 0 ↔ ((v : multi.Multi) × multi.Legal v × (multi-layout.layout v ≡ s))
multi-read-exactly = multipacket.accepted-exactly

-- A write call succeeds exactly when the value that its numbers and bytes tell is legal, and the result fits limit and
-- buffer: the numbers as they are passed (`plain`), not as a byte would cut them.
pub unit-write-exactly : (reserved flag n z : ℕ) (records out : List ℕ) (r : Written) (exit : List ℕ)
    → Writes Scte20 (unit_in (numbers_in reserved flag n z) records) out r exit
    → r.refusal.number ≡ 0 ↔ Fits Scte20 records out (plain reserved flag n z)
unit-write-exactly = succeeding.unit-write-exactly

-- GA94's numbers are told as they are passed (`ga94_numbers_in`): v has them all.
pub ga94-write-exactly : (v : ga94.Numbers) (records out : List ℕ) (r : Written) (exit : List ℕ)
    → Writes Ga94 (ga94-lent.unit_in v records) out r exit → r.refusal.number ≡ 0 ↔ Fits Ga94 records out v
ga94-write-exactly = atsc.ga94-write-exactly

-- So does the one that replaces, when the area is accepted too, and the whole new area fits.
pub area-replace-exactly : (s : List ℕ) (reserved flag n z : ℕ) (records out : List ℕ) (r : Written) (exit : List ℕ)
    → Replaces Scte20 s (unit_in (numbers_in reserved flag n z) records) out r exit
    → r.refusal.number ≡ 0 ↔ FitsIn Scte20 s records out (plain reserved flag n z)
area-replace-exactly = succeeding.area-replace-exactly

pub ga94-replace-exactly : (s : List ℕ) (v : ga94.Numbers) (records out : List ℕ) (r : Written) (exit : List ℕ)
    → Replaces Ga94 s (ga94-lent.unit_in v records) out r exit
    → r.refusal.number ≡ 0 ↔ FitsIn Ga94 s records out v
ga94-replace-exactly = atsc.ga94-replace-exactly

pub packet-write-exactly : (counter : ℕ) (slots : List ℕ) (rows : List (List ℕ))
    → (out : List ℕ) (r : Written) (exit : List ℕ) → packet-writing.Writes (packet_in counter slots) rows out r exit
    → r.refusal.number ≡ 0 ↔ FitsPacket (packet_in counter slots) rows out
packet-write-exactly = succeeding.packet-write-exactly

pub payload-write-exactly : (flags m : ℕ) (sent out : List ℕ) (r : Written) (exit : List ℕ)
    → PayloadWrites flags m sent out r exit → r.refusal.number ≡ 0 ↔ FitsPayload flags m sent out
payload-write-exactly = succeeding.payload-write-exactly

pub reel-bytes-exactly : (flags size : ℕ) (s out : List ℕ) (r : Written) (exit : List ℕ)
    → RunWrites flags size s out r exit → r.refusal.number ≡ 0 ↔ FitsRun flags size s out
reel-bytes-exactly = reels.reel-bytes-exactly

pub pes-write-exactly : (identifier n : ℕ) (units out : List ℕ) (r : Written) (exit : List ℕ)
    → pes-writing.Writes (field_in identifier n units) out r exit
    → r.refusal.number ≡ 0 ↔ FitsField identifier n units out
pes-write-exactly = succeeding.pes-write-exactly

pub multi-write-exactly : (t : multi-lent.Told) (out : List ℕ) (r : Written) (exit : List ℕ)
    → multi-writing.Writes t out r exit
    → r.refusal.number ≡ 0
    ↔ (multi-lent.LegalTold t × (length (multi-layout.layout (multi-lent.held t)) ≤ length out))
multi-write-exactly = multipacket.writes-exactly

-- BOTH WAYS

-- Reading what was written gives the same numbers and the same bytes. The lent array has zeros beyond the n records or
-- m units. An array that is passed has its length by its type.
pub unit-written-read : (reserved flag n z : ℕ) (records out : List ℕ) (w : Written) (end : List ℕ)
    → Writes Scte20 (unit_in (numbers_in reserved flag n z) records) out w end
    → w.refusal.number ≡ 0 → length records ≡ 155
    → (lent : List ℕ) (r : UnitHead) (exit : List ℕ) → AreaReads (take w.len end) lent r exit
    → (r ≡ record { refusal = accepted; present = true; reserved = reserved; vbi_data_flag = flag; n = n; z = z })
    × (exit ≡ filled (take (5 * n) records) 155 0)
unit-written-read = both_ways.unit-written-read

pub area-replaced-read : (x : Area Scte20) → area.Legal Scte20 x
    → (reserved flag n z : ℕ) (records out : List ℕ) (w : Written) (end : List ℕ)
    → Replaces Scte20 (area.layout Scte20 x) (unit_in (numbers_in reserved flag n z) records) out w end
    → w.refusal.number ≡ 0 → length records ≡ 155
    → (lent : List ℕ) (r : UnitHead) (exit : List ℕ) → AreaReads (take w.len end) lent r exit
    → (r ≡ record { refusal = accepted; present = true; reserved = reserved; vbi_data_flag = flag; n = n; z = z })
    × (exit ≡ filled (take (5 * n) records) 155 0)
area-replaced-read = both_ways.area-replaced-read

pub ga94-written-read : (v : ga94.Numbers) (records out : List ℕ) (w : Written) (end : List ℕ)
    → Writes Ga94 (ga94-lent.unit_in v records) out w end → w.refusal.number ≡ 0 → length records ≡ 124
    → (lent : List ℕ) (r : Ga94Head) (exit : List ℕ) → Ga94Reads (take w.len end) lent r exit
    → (ga94_head_in r ≡ record { refusal = accepted; present = true; numbers = v })
    × (exit ≡ filled (take (4 * v.n) records) 124 0)
ga94-written-read = atsc.ga94-written-read

pub ga94-replaced-read : (x : Area Ga94) → area.Legal Ga94 x
    → (v : ga94.Numbers) (records out : List ℕ) (w : Written) (end : List ℕ)
    → Replaces Ga94 (area.layout Ga94 x) (ga94-lent.unit_in v records) out w end
    → w.refusal.number ≡ 0 → length records ≡ 124
    → (lent : List ℕ) (r : Ga94Head) (exit : List ℕ) → Ga94Reads (take w.len end) lent r exit
    → (ga94_head_in r ≡ record { refusal = accepted; present = true; numbers = v })
    × (exit ≡ filled (take (4 * v.n) records) 124 0)
ga94-replaced-read = atsc.ga94-replaced-read

pub packet-written-read : (counter : ℕ) (slots : List ℕ) (rows : List (List ℕ))
    → (out : List ℕ) (w : Written) (end : List ℕ) → packet-writing.Writes (packet_in counter slots) rows out w end
    → w.refusal.number ≡ 0 → length slots ≡ 20
    → (lent : List (List ℕ)) (r : Answer) (exit : List (List ℕ))
    → packet-reading.ReadsInto (take w.len end) lent r exit
    → (r.refusal ≡ accepted) × (r.packet.counter ≡ counter)
    × (flat slot_bytes r.packet.slots ≡ slots) × (exit ≡ rows)
packet-written-read = both_ways.packet-written-read

pub payload-written-read : (flags m : ℕ) (sent out : List ℕ) (w : Written) (end : List ℕ)
    → PayloadWrites flags m sent out w end → w.refusal.number ≡ 0 → length sent ≡ 2037
    → (lent : List ℕ) (r : Head) (exit : List ℕ) → payload-reading.ReadsInto (take w.len end) lent r exit
    → (r ≡ record { refusal = accepted; flags = flags; m = m }) × (exit ≡ filled (take (7 * m) sent) 2037 0)
payload-written-read = both_ways.payload-written-read

pub pes-written-read : (identifier n : ℕ) (units out : List ℕ) (w : Written) (end : List ℕ)
    → pes-writing.Writes (field_in identifier n units) out w end → w.refusal.number ≡ 0 → length units ≡ 1395
    → (lent : List ℕ) (r : pes-head.Head) (exit : List ℕ) → pes-reading.ReadsInto (take w.len end) lent r exit
    → (r ≡ record { refusal = accepted; data_identifier = identifier; n = n })
    × (exit ≡ filled (take (45 * n) units) 1395 0)
pes-written-read = data-field.written_read

pub multi-written-read : (t : multi-lent.Told) (out : List ℕ) (w : Written) (end : List ℕ)
    → multi-writing.Writes t out w end → w.refusal.number ≡ 0
    → (lent : List (List ℕ)) (r : multi-answer.Answer) (exit : List (List ℕ))
    → multi-lent.ReadsInto (take w.len end) lent r exit
    → (r ≡ record { refusal = accepted; priority = t.priority; n = length t.heads })
    × (exit ≡ filled (multi-lent.heads_of 7 (multi-lent.held t).inners) 50 multi-lent.no_head)
multi-written-read = multipacket.written_read

-- Writing what was read gives the input back: of an area the unit's bytes,
pub area-read-written : (before : List (List ℕ)) (c : Content) (after : List (List ℕ))
    → area.Legal Scte20 (captioned before c after)
    → (lent : List ℕ) (a : UnitHead) (kept : List ℕ)
    → AreaReads (area.layout Scte20 (captioned before c after)) lent a kept
    → (out : List ℕ) (r : Written) (exit : List ℕ) → Writes Scte20 (unit_in (passed a) kept) out r exit
    → length (unit_bytes Scte20 c) ≤ length out
    → (r ≡ written (length (unit_bytes Scte20 c))) × (exit ≡ over (unit_bytes Scte20 c) out)
area-read-written = both_ways.area-read-written

pub ga94-read-written : (before : List (List ℕ)) (c : ga94-value.Content) (after : List (List ℕ))
    → area.Legal Ga94 (captioned before c after)
    → (lent : List ℕ) (a : Ga94Head) (kept : List ℕ)
    → Ga94Reads (area.layout Ga94 (captioned before c after)) lent a kept
    → (out : List ℕ) (r : Written) (exit : List ℕ) → Writes Ga94 (ga94-lent.unit_in (ga94_passed a) kept) out r exit
    → length (unit_bytes Ga94 c) ≤ length out
    → (r ≡ written (length (unit_bytes Ga94 c))) × (exit ≡ over (unit_bytes Ga94 c) out)
ga94-read-written = atsc.ga94-read-written

-- and, put back where another unit replaced it, the area byte for byte;
pub area-put-back : (x : Area Scte20) → area.Legal Scte20 x
    → (lent : List ℕ) (a : UnitHead) (kept : List ℕ) → AreaReads (area.layout Scte20 x) lent a kept → a.present ≡ true
    → (reserved flag n z : ℕ) (records out : List ℕ) (r : Written) (exit : List ℕ)
    → Replaces Scte20 (area.layout Scte20 x) (unit_in (numbers_in reserved flag n z) records) out r exit
    → r.refusal.number ≡ 0
    → (room : List ℕ) (again : Written) (end : List ℕ)
    → Replaces Scte20 (take r.len exit) (unit_in (passed a) kept) room again end
    → length (area.layout Scte20 x) ≤ length room
    → (again ≡ written (length (area.layout Scte20 x))) × (end ≡ over (area.layout Scte20 x) room)
area-put-back = both_ways.area-put-back

pub ga94-put-back : (x : Area Ga94) → area.Legal Ga94 x
    → (lent : List ℕ) (a : Ga94Head) (kept : List ℕ) → Ga94Reads (area.layout Ga94 x) lent a kept → a.present ≡ true
    → (v : ga94.Numbers) (records out : List ℕ) (r : Written) (exit : List ℕ)
    → Replaces Ga94 (area.layout Ga94 x) (ga94-lent.unit_in v records) out r exit → r.refusal.number ≡ 0
    → (room : List ℕ) (again : Written) (end : List ℕ)
    → Replaces Ga94 (take r.len exit) (ga94-lent.unit_in (ga94_passed a) kept) room again end
    → length (area.layout Ga94 x) ≤ length room
    → (again ≡ written (length (area.layout Ga94 x))) × (end ≡ over (area.layout Ga94 x) room)
ga94-put-back = atsc.ga94-put-back

-- of a packet its words,
pub packet-read-written : (s : List ℕ) (lent : List (List ℕ)) (a : Answer) (kept : List (List ℕ))
    → packet-reading.ReadsInto s lent a kept → a.refusal.number ≡ 0
    → (out : List ℕ) (r : Written) (exit : List ℕ)
    → packet-writing.Writes (packet_in a.packet.counter (flat slot_bytes a.packet.slots)) kept out r exit
    → length s ≤ length out → (r ≡ written (length s)) × (exit ≡ over s out)
packet-read-written = both_ways.packet-read-written

-- and of a payload
pub payload-read-written : (s lent : List ℕ) (a : Head) (kept : List ℕ) → payload-reading.ReadsInto s lent a kept
    → a.refusal.number ≡ 0
    → (out : List ℕ) (r : Written) (exit : List ℕ) → PayloadWrites a.flags a.m kept out r exit
    → length s ≤ length out → (r ≡ written (length s)) × (exit ≡ over s out)
payload-read-written = both_ways.payload-read-written

-- of a data field its bytes,
pub pes-read-written : (s lent : List ℕ) (a : pes-head.Head) (kept : List ℕ) → pes-reading.ReadsInto s lent a kept
    → a.refusal.number ≡ 0
    → (out : List ℕ) (r : Written) (end : List ℕ)
    → pes-writing.Writes (field_in a.data_identifier a.n kept) out r end
    → length s ≤ length out → (r ≡ written (length s)) × (end ≡ over s out)
pes-read-written = data-field.read-written

-- and of a multipacket its words, with the very words that were read.
pub multi-read-written : (s : List ℕ) (lent : List (List ℕ)) (a : multi-answer.Answer) (kept : List (List ℕ))
    → multi-lent.ReadsInto s lent a kept → a.refusal.number ≡ 0
    → (out : List ℕ) (r : Written) (end : List ℕ)
    → multi-writing.Writes (record { priority = a.priority; heads = take a.n kept; words = s }) out r end
    → length s ≤ length out → (r ≡ written (length s)) × (end ≡ over s out)
multi-read-written = multipacket.read-written

-- FROM A MULTIPACKET TO A PACKET

-- An inner packet of 143, 102 is a subtitling packet: the flag, and behind it its words from NDID to NCS, are the
-- layout of a legal packet, so that `captions_packet_read` accepts them.
pub inner-packet : (x : multi.Inner) → multi.LegalInner x → x.did ≡ 0x43 → x.sdid ≡ 0x02
    → (v : Sdp) × sdp.Legal v
    × (0x000 ∷ 0x3FF ∷ 0x3FF ∷ multi-layout.checked (multi-layout.covered_inner x) ≡ packet-layout.layout v)
inner-packet = packets-inside.inner-packet

-- ONE ANSWER

-- For each call, two answers that keep its promise are equal, lent memory too.
pub area-read-determined : (s lent : List ℕ) (a : UnitHead) (exit : List ℕ) (b : UnitHead) (end : List ℕ)
    → AreaReads s lent a exit → AreaReads s lent b end → (a ≡ b) × (exit ≡ end)
area-read-determined = determined.area-read-determined

pub unit-write-determined : (v : Numbers) (lent out : List ℕ) (a : Written) (exit : List ℕ)
    → (b : Written) (end : List ℕ) → Writes Scte20 (unit_in v lent) out a exit → Writes Scte20 (unit_in v lent) out b end
    → (a ≡ b) × (exit ≡ end)
unit-write-determined = determined.unit-write-determined

pub area-replace-determined : (s : List ℕ) (v : Numbers) (lent out : List ℕ) (a : Written) (exit : List ℕ)
    → (b : Written) (end : List ℕ)
    → Replaces Scte20 s (unit_in v lent) out a exit → Replaces Scte20 s (unit_in v lent) out b end
    → (a ≡ b) × (exit ≡ end)
area-replace-determined = determined.area-replace-determined

pub ga94-read-determined : (s lent : List ℕ) (a : Ga94Head) (exit : List ℕ) (b : Ga94Head) (end : List ℕ)
    → Ga94Reads s lent a exit → Ga94Reads s lent b end → (a ≡ b) × (exit ≡ end)
ga94-read-determined = atsc.ga94-read-determined

pub ga94-write-determined : (v : ga94.Numbers) (lent out : List ℕ) (a : Written) (exit : List ℕ)
    → (b : Written) (end : List ℕ)
    → Writes Ga94 (ga94-lent.unit_in v lent) out a exit → Writes Ga94 (ga94-lent.unit_in v lent) out b end
    → (a ≡ b) × (exit ≡ end)
ga94-write-determined = atsc.ga94-write-determined

pub ga94-replace-determined : (s : List ℕ) (v : ga94.Numbers) (lent out : List ℕ) (a : Written) (exit : List ℕ)
    → (b : Written) (end : List ℕ)
    → Replaces Ga94 s (ga94-lent.unit_in v lent) out a exit → Replaces Ga94 s (ga94-lent.unit_in v lent) out b end
    → (a ≡ b) × (exit ≡ end)
ga94-replace-determined = atsc.ga94-replace-determined

pub packet-read-determined : (s : List ℕ) (lent : List (List ℕ)) (a : Answer) (exit : List (List ℕ))
    → (b : Answer) (end : List (List ℕ))
    → packet-reading.ReadsInto s lent a exit → packet-reading.ReadsInto s lent b end → (a ≡ b) × (exit ≡ end)
packet-read-determined = subtitling.read-into-determined

pub packet-write-determined : (counter : ℕ) (lent : List ℕ) (rows : List (List ℕ)) (out : List ℕ)
    → (a : Written) (exit : List ℕ) (b : Written) (end : List ℕ)
    → packet-writing.Writes (packet_in counter lent) rows out a exit
    → packet-writing.Writes (packet_in counter lent) rows out b end → (a ≡ b) × (exit ≡ end)
packet-write-determined = determined.packet-write-determined

pub payload-read-determined : (s lent : List ℕ) (a : Head) (exit : List ℕ) (b : Head) (end : List ℕ)
    → payload-reading.ReadsInto s lent a exit → payload-reading.ReadsInto s lent b end → (a ≡ b) × (exit ≡ end)
payload-read-determined = payloads.read-into-determined

pub payload-write-determined : (flags m : ℕ) (lent out : List ℕ) (a : Written) (exit : List ℕ)
    → (b : Written) (end : List ℕ) → PayloadWrites flags m lent out a exit → PayloadWrites flags m lent out b end
    → (a ≡ b) × (exit ≡ end)
payload-write-determined = determined.payload-write-determined

pub reel-bytes-determined : (flags size : ℕ) (s out : List ℕ) (a : Written) (exit : List ℕ)
    → (b : Written) (end : List ℕ) → RunWrites flags size s out a exit → RunWrites flags size s out b end
    → (a ≡ b) × (exit ≡ end)
reel-bytes-determined = reels.reel-bytes-determined

pub film-picture-determined : (film : List ℕ) (top repeat line : ℕ) (v : Numbers) (records lent : List ℕ)
    → (a : film-lent.Head) (exit end : List ℕ) (b : film-lent.Head) (out fin : List ℕ)
    → PictureInto film top repeat line (unit_in v records) lent a exit end
    → PictureInto film top repeat line (unit_in v records) lent b out fin → (a ≡ b) × (exit ≡ out) × (end ≡ fin)
film-picture-determined = determined.film-picture-determined

pub film-close-determined : (film lent : List ℕ) (a : film-lent.Head) (exit end : List ℕ)
    → (b : film-lent.Head) (out fin : List ℕ)
    → CloseInto film lent a exit end → CloseInto film lent b out fin → (a ≡ b) × (exit ≡ out) × (end ≡ fin)
film-close-determined = determined.film-close-determined

pub pes-read-determined : (s lent : List ℕ) (a : pes-head.Head) (exit : List ℕ) (b : pes-head.Head) (end : List ℕ)
    → pes-reading.ReadsInto s lent a exit → pes-reading.ReadsInto s lent b end → (a ≡ b) × (exit ≡ end)
pes-read-determined = data-field.read-into-determined

pub pes-write-determined : (identifier n : ℕ) (units out : List ℕ) (a : Written) (exit : List ℕ)
    → (b : Written) (end : List ℕ) → pes-writing.Writes (field_in identifier n units) out a exit
    → pes-writing.Writes (field_in identifier n units) out b end → (a ≡ b) × (exit ≡ end)
pes-write-determined = determined.pes-write-determined

pub multi-read-determined : (s : List ℕ) (lent : List (List ℕ)) (a : multi-answer.Answer) (exit : List (List ℕ))
    → (b : multi-answer.Answer) (end : List (List ℕ))
    → multi-lent.ReadsInto s lent a exit → multi-lent.ReadsInto s lent b end → (a ≡ b) × (exit ≡ end)
multi-read-determined = multipacket.read-into-determined

pub multi-write-determined : (t : multi-lent.Told) (out : List ℕ) (a : Written) (exit : List ℕ)
    → (b : Written) (end : List ℕ)
    → multi-writing.Writes t out a exit → multi-writing.Writes t out b end → (a ≡ b) × (exit ≡ end)
multi-write-determined = multipacket.write-determined

pub pes-convert-determined : (s out : List ℕ) (a : Written) (exit : List ℕ) (b : Written) (end : List ℕ)
    → Converts s out a exit → Converts s out b end → (a ≡ b) × (exit ≡ end)
pes-convert-determined = converting.convert-determined

pub pes-convert-value-determined : (counter : ℕ) (slots : List ℕ) (rows : List (List ℕ)) (out : List ℕ)
    → (a : Written) (exit : List ℕ) (b : Written) (end : List ℕ)
    → ConvertsValue (packet_in counter slots) rows out a exit → ConvertsValue (packet_in counter slots) rows out b end
    → (a ≡ b) × (exit ≡ end)
pes-convert-value-determined = determined.pes-convert-value-determined
