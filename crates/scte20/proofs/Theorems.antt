-- The theorems of SCTE 20 caption content (docs/RULES.md, "Demands" and "Picture area").
-- How to read it: docs/NOTATION.md.
--
-- What they speak of is defined in specs/: a value and when it is legal in Value; its bits and bytes in Layout, without
-- the reader; the rules over records in Rules; what reading answers in Reading; what writing answers and leaves in
-- Writing; records as bytes in a lent array in Lent; all checks in the order of RULES, as one list for reading and one
-- for writing, in Order; where the elements of a body stand, and what a refusal tells of its place, in Places.
--
-- `ReadsInto body lent r exit` is the promise of `read_into` (crate scte20_reader): to the bytes of a unit's body it
-- answers r, and in a lent array that held `lent` it leaves `exit`. `Writes u before after out r exit` is that of
-- `write_from` (crate scte20_writer): writing the body of u, with so many bytes before and after it, to an output that
-- held `out` answers r and leaves `exit`. So each theorem speaks of every call. Assumes nothing.
use Rattle.std.specs.Prelude.{Ok}
use Prim.Native.Nat.{ℕ, ◌+◌, ◌*◌, ◌≤◌, ◌<◌, min}
use mathlib.Core.Path.{◌≡◌}
use mathlib.Core.Logic.{◌↔◌}
use mathlib.Core.Bool.{true, not}
use mathlib.Core.List.{List, []}
use lib.ListN.{length, get_or}
use Rattle.lists.specs.Room.{over_at}
use Rattle.refusal.specs.declared.Reason.{Reason}
use Rattle.refusal.specs.declared.Item.{Item}
use Rattle.refusal.specs.Verdict.{Verdict}
use Rattle.refusal.specs.Verdict.{Accepted, Refused}
use Rattle.refusal.specs.Checks.{first}
use Rattle.refusal.specs.Answers.{AtBit, Judged, verdict_of, len_of}
use Rattle.bits.specs.Bits.{bits_of, longest}
use Rattle.kind.specs.declared.Kind.TheVariants.{Scte20}
use Rattle.kind.specs.Ours.{group_type, ours}
use Rattle.scte20.specs.declared.Record.{Record}
use Rattle.scte20.specs.declared.Last.{Last}
use Rattle.scte20.specs.declared.Numbers.{Numbers}
use Rattle.scte20.specs.declared.CaptionUnit.{CaptionUnit}
use Rattle.scte20.specs.Value.{Content, flag_byte, with_data, LegalRecord}
use Rattle.scte20.specs.Value.{Legal, LegalCaptionUnit, Typed, blank, none, stored, held}
use Rattle.scte20.specs.Layout.{content_bits, content_bytes, layout, size_in}
use Rattle.scte20.specs.Rules.{record_verdict}
use Rattle.scte20.specs.Reading.{content_verdict}
use Rattle.scte20.specs.Writing.{value_verdict, write_verdict, body_verdict, Writes}
use Rattle.scte20.specs.Order.{reading_checks, writing_checks}
use Rattle.scte20.specs.Places.{Element, Has, element_in, bits_in, Stands, value_in}
use Rattle.scte20.specs.Lent.{records_bytes, lent_records, stored_at, unit_in, numbers_of, numbers_in, ReadsInto}
use Rattle.scte20.specs.Inside.{last_of, FieldsDescend, last_verdict, last_after}
use Rattle.scte20.proofs.Accepting as accepting
use Rattle.scte20.proofs.Faults as faults
use Rattle.scte20.proofs.Writing as writing
use Rattle.scte20.proofs.Sequence as sequence
use Rattle.scte20.proofs.Elements as elements
use Rattle.scte20.proofs.Own as own
use Rattle.scte20.proofs.Sizes as sizes
use Rattle.scte20.proofs.Zeros as zeros
use Rattle.scte20.proofs.Order as order
use Rattle.scte20.proofs.Determined as determined

-- READING

-- The answer to a legal value's bytes is that value, its records in the lent array.
pub the-answer : (c : Content) → Legal c → length (layout c) ≤ 16384
    → (lent : List ℕ) (r : Judged Numbers) (exit : List ℕ) → ReadsInto (layout c) lent r exit
    → (r ≡ Ok (numbers_of (stored c))) × (exit ≡ records_bytes (stored c).records)
the-answer = accepting.the-answer

-- Bytes, within the limit of an area, are accepted exactly when some legal value has them as its layout.
pub accepted-exactly : (body lent : List ℕ) (r : Judged Numbers) (exit : List ℕ) → ReadsInto body lent r exit
    → verdict_of r ≡ Accepted ↔ ((c : Content) × Legal c × (length body ≤ 16384) × (layout c ≡ body))
accepted-exactly = accepting.accepted-exactly

-- That value is the only one,
pub only_one : (c d : Content) → Legal c → Legal d → layout c ≡ layout d → c ≡ d
only_one = accepting.only_one

-- the struct that holds it gives it back,
pub stored-held : (c : Content) → held (stored c) ≡ c
stored-held = accepting.stored-held

-- and is legal where the value is,
pub stored-legal : (c : Content) → Legal c → LegalCaptionUnit (stored c)
stored-legal = accepting.stored-legal

-- and its numbers and its records' bytes tell it again.
pub lent-held : (u : CaptionUnit) → Typed u → unit_in (numbers_of u) (records_bytes u.records) ≡ u
lent-held = accepting.lent-held

-- Any data bytes do: with others a legal record is as legal.
pub any-data : (r : Record) (a b : ℕ) → a < 256 → b < 256 → LegalRecord r → LegalRecord (with_data r a b)
any-data = accepting.any-data

-- A refusal tells the verdict of all checks.
pub refused-in-order : (body lent : List ℕ) (r : Judged Numbers) (exit : List ℕ) → ReadsInto body lent r exit
    → verdict_of r ≡ content_verdict body
refused-in-order = accepting.refused-in-order

-- These stand in the order of RULES, one line of `reading_checks` (specs/Order) each. The first that finds a fault
-- decides,
pub reading-order : (body : List ℕ) → content_verdict body ≡ first (reading_checks body)
reading-order = sequence.reading-order

-- and is what is answered.
pub read_first : (body lent : List ℕ) (r : Judged Numbers) (exit : List ℕ) → ReadsInto body lent r exit
    → verdict_of r ≡ first (reading_checks body)
read_first = accepting.read_first

-- It comes without records: the numbers are zero, and the lent array is as it was.
pub refused-zero : (body lent : List ℕ) (r : Judged Numbers) (exit : List ℕ) → ReadsInto body lent r exit
    → (verdict_of r ≡ Accepted → ⊥) → (numbers_in r ≡ numbers_of (stored none)) × (exit ≡ lent)
refused-zero = accepting.refused-zero

-- WHAT STANDS AT THE PLACE

-- A refusal of a body within the limit of an area is at a bit of it or at its end, and there stands what `Stands`
-- (specs/Places) says of its number: 5, 7 to 10, 18 or 19, and 6 for a body that does not begin 03, or begins 03 09 or
-- 03 0A, which is none of an area's caption units.
pub refused-at : (body lent : List ℕ) (r : Judged Numbers) (exit : List ℕ) → ReadsInto body lent r exit → length body ≤ 16384
    → (reason : Reason) (item : Item) → verdict_of r ≡ Refused reason item
    → AtBit (8 * length body) (Stands (bits_of body)) reason item
refused-at = accepting.refused-at

-- Each case is a fault: where one stands, at any bit, the body is refused.
pub stands-refused : (body lent : List ℕ) (r : Judged Numbers) (exit : List ℕ) → ReadsInto body lent r exit
    → (number bit : ℕ) → Stands (bits_of body) number bit → verdict_of r ≡ Accepted → ⊥
stands-refused = faults.stands-refused

-- WHAT THE LAYOUT HAS THERE

-- In the layout of every legal value each element stands where `first_bit` (specs/Places) says, and is the value's
-- number: a marker 1, non_real_time_video_count 0.
pub layout-elements : (c : Content) → Legal c → (e : Element) → Has c.flag (length c.records) e
    → element_in (bits_of (layout c)) e ≡ value_in c e
layout-elements = elements.layout-elements

-- Behind them all bits are 0.
pub layout-zeros : (c : Content) → Legal c → (i : ℕ) → bits_in c.flag (length c.records) ≤ i
    → get_or (bits_of (layout c)) i 0 ≡ 0
layout-zeros = elements.layout-zeros

-- WHICH ARE OURS

-- Where the layout holds reserved and flag, a unit with that body is SCTE 20's exactly where both make neither 09 nor
-- 0A (`group_type`, crate `kind`).
pub layout-ours : (c : Content) → c.reserved < 128 → c.flag < 2
    → ours Scte20 (layout c) ≡ not (group_type (flag_byte c.reserved c.flag))
layout-ours = own.layout-ours

-- So no legal value's layout is foreign: what can be written is what is read as ours.
pub legal-ours : (c : Content) → Legal c → ours Scte20 (layout c) ≡ true
legal-ours = own.legal-ours

-- SIZES

-- Content takes as many bytes as `size_in` says of its flag and its number of records. The stuffing is no part of it,
pub content-size : (c : Content) → length (content_bytes c) ≡ size_in c.flag (length c.records)
content-size = sizes.content-size

-- but of the body.
pub layout-size : (c : Content) → length (layout c) ≡ size_in c.flag (length c.records) + c.z
layout-size = sizes.length-layout

-- That is 2 with flag 0, and with flag 1: 4 for n = 0, 7 for 1, 104 for 31.
pub sizes-told : (size_in 0 0 ≡ 2) × (size_in 1 0 ≡ 4) × (size_in 1 1 ≡ 7) × (size_in 1 31 ≡ 104)
sizes-told = sizes.sizes-told

-- WRITING

-- Writing succeeds exactly when the value is legal and the result, with what stands before and after the body, fits
-- limit and buffer.
pub writes-exactly : (u : CaptionUnit) (before after : ℕ) (out : List ℕ) (r : Judged ℕ) (exit : List ℕ)
    → Writes u before after out r exit
    → verdict_of r ≡ Accepted
    ↔ (LegalCaptionUnit u
    × (before + length (layout (held u)) + after ≤ 16384)
    × (before + length (layout (held u)) + after ≤ length out))
writes-exactly = writing.writes-exactly

-- Then exactly the layout stands in the buffer behind the bytes before it, and nothing else changed.
pub written-there : (u : CaptionUnit) (before after : ℕ) (out : List ℕ) (r : Judged ℕ) (exit : List ℕ)
    → Writes u before after out r exit → verdict_of r ≡ Accepted
    → (r ≡ Ok (length (layout (held u)))) × (exit ≡ over_at before (layout (held u)) out)
written-there = writing.written-there

-- A refusal tells the verdict of all checks.
pub write-in-order : (u : CaptionUnit) (before after : ℕ) (out : List ℕ) (r : Judged ℕ) (exit : List ℕ)
    → Writes u before after out r exit → verdict_of r ≡ body_verdict u before after (length out)
write-in-order = writing.write-in-order

-- These stand in the order of RULES, one line of `writing_checks` (specs/Order) each. The first that finds a fault
-- decides,
pub writing-order : (u : CaptionUnit) (size room : ℕ) → write_verdict u size room ≡ first (writing_checks u size room)
writing-order = sequence.writing-order

-- and is what is answered.
pub write-first : (u : CaptionUnit) (before after : ℕ) (out : List ℕ) (r : Judged ℕ) (exit : List ℕ)
    → Writes u before after out r exit
    → verdict_of r ≡ first (writing_checks u (before + length (layout (held u)) + after) (length out))
write-first = writing.write-first

-- A refused call counted nothing and changed nothing.
pub refused-untouched : (u : CaptionUnit) (before after : ℕ) (out : List ℕ) (r : Judged ℕ) (exit : List ℕ)
    → Writes u before after out r exit → (verdict_of r ≡ Accepted → ⊥) → (len_of r ≡ 0) × (exit ≡ out)
refused-untouched = writing.refused-untouched

-- THE ZERO RUN

-- In legal content, without its stuffing, a run of zero bits has 22 at the most,
pub zero-run : (c : Content) → Legal c → longest (content_bits c) ≤ 22
zero-run = zeros.zero-run

-- and 22 is reached.
pub zero-run-reached : (c : Content) × Legal c × (longest (content_bits c) ≡ 22)
zero-run-reached = zeros.zero-run-reached

-- WHAT IS KEPT

-- What the code keeps of the records before decides as the records themselves do, where fields never rise going back.
pub kept-decides : (at : ℕ) (before : List Record) (r : Record) → FieldsDescend before
    → last_verdict at (last_of before) r ≡ record_verdict at before r
kept-decides = order.last-record

-- ONE ANSWER

-- For each function, two answers that keep its promise are equal, lent memory too: those of scte20_reader and
-- scte20_writer,
pub read-into-determined : (body lent : List ℕ) (a : Judged Numbers) (exit : List ℕ) (b : Judged Numbers) (end : List ℕ)
    → ReadsInto body lent a exit → ReadsInto body lent b end → (a ≡ b) × (exit ≡ end)
read-into-determined = determined.read-into-determined

pub write-determined : (u : CaptionUnit) (before after : ℕ) (out : List ℕ) (a : Judged ℕ) (exit : List ℕ)
    → (b : Judged ℕ) (end : List ℕ)
    → Writes u before after out a exit → Writes u before after out b end → (a ≡ b) × (exit ≡ end)
write-determined = determined.write-determined

-- of scte20,
pub record-in-determined : (s : List ℕ) (i : ℕ) (a b : Record)
    → a ≡ get_or (lent_records s) i blank → b ≡ get_or (lent_records s) i blank → a ≡ b
record-in-determined = determined.record-in-determined

pub put-record-determined : (i : ℕ) (r : Record) (s exit end : List ℕ)
    → exit ≡ stored_at i r s → end ≡ stored_at i r s → exit ≡ end
put-record-determined = determined.put-record-determined

pub unit-of-determined : (v : Numbers) (s : List ℕ) (a b : CaptionUnit) → a ≡ unit_in v s → b ≡ unit_in v s → a ≡ b
unit-of-determined = determined.unit-of-determined

pub numbers-of-determined : (u : CaptionUnit) (a b : Numbers) → a ≡ numbers_of u → b ≡ numbers_of u → a ≡ b
numbers-of-determined = determined.numbers-of-determined

pub bytes-of-determined : (u : CaptionUnit) (a b : List ℕ)
    → a ≡ records_bytes u.records → b ≡ records_bytes u.records → a ≡ b
bytes-of-determined = determined.bytes-of-determined

pub narrow-determined : (n a b : ℕ) → a ≡ min n 255 → b ≡ min n 255 → a ≡ b
narrow-determined = determined.narrow-determined

pub nothing-determined : (a b : CaptionUnit) → a ≡ stored none → b ≡ stored none → a ≡ b
nothing-determined = determined.nothing-determined

-- and of scte20_value and scte20_rules.
pub judge-value-determined : (v : Numbers) (s : List ℕ) (a b : Verdict)
    → a ≡ value_verdict (unit_in v s) → b ≡ value_verdict (unit_in v s) → a ≡ b
judge-value-determined = determined.judge-value-determined

pub none-yet-determined : (a b : Last) → a ≡ last_of [] → b ≡ last_of [] → a ≡ b
none-yet-determined = determined.none-yet-determined

pub judge-record-determined : (at : ℕ) (last : Last) (r : Record) (a b : Verdict)
    → a ≡ last_verdict at last r → b ≡ last_verdict at last r → a ≡ b
judge-record-determined = determined.judge-record-determined

pub after-determined : (last : Last) (r : Record) (a b : Last) → a ≡ last_after last r → b ≡ last_after last r → a ≡ b
after-determined = determined.after-determined
