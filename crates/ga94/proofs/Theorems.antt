-- The theorems of GA94 caption content (docs/RULES.md, "Demands" and "GA94").
-- How to read it: docs/NOTATION.md.
--
-- What they speak of is defined in specs/: a value and when it is legal in Value; its bytes in Layout, without the
-- reader, and its items with their numbers of bits; what reading answers in Reading; what writing answers and leaves in
-- Writing; records as bytes in a lent array in Lent; all checks in the order of RULES, as one list for reading and one
-- for writing, in Order; where the elements of a body stand, and what a refusal tells of its place, in Places.
--
-- `ReadsInto body lent r exit` is the promise of `read_into` (crate ga94_reader): to the bytes of a unit's body it
-- answers r, and in a lent array that held `lent` it leaves `exit`. `Writes u before after out r exit` is that of
-- `write_from` (crate ga94_writer): writing the body of u, with so many bytes before and after it, to an output that
-- held `out` answers r and leaves `exit`. So each theorem speaks of every call. Assumes nothing.
use Rattle.ga94.specs.declared.Numbers.{Numbers}
use Rattle.std.specs.Prelude.{Ok}
use Prim.Native.Nat.{ℕ, ◌+◌, ◌*◌, ◌≤◌, ◌<◌}
use mathlib.Core.Path.{◌≡◌}
use mathlib.Core.Logic.{◌↔◌}
use mathlib.Core.List.{List}
use lib.ListN.{length, get_or}
use Rattle.lists.specs.Room.{over_at}
use Rattle.refusal.specs.declared.Reason.{Reason}
use Rattle.refusal.specs.declared.Item.{Item}
use Rattle.refusal.specs.Verdict.{Accepted, Refused}
use Rattle.refusal.specs.Numbers.{refusal_of}
use Rattle.refusal.specs.Checks.{first}
use Rattle.refusal.specs.Answers.{refused, AtBit, Judged, verdict_of, len_of}
use Rattle.bits.specs.Bits.{bits_of, longest}
use Rattle.ga94.specs.declared.Record.{Record}
use Rattle.ga94.specs.Value.{Content, with_data, LegalRecord, CaptionUnit}
use Rattle.ga94.specs.Value.{Legal, LegalCaptionUnit, Typed, blank, none, stored, held}
use Rattle.ga94.specs.Layout.{content_bytes, layout, size_of, item_bits}
use Rattle.ga94.specs.Reading.{content_verdict}
use Rattle.ga94.specs.Writing.{whole_verdict, write_verdict, body_verdict, Writes}
use Rattle.ga94.specs.Order.{reading_checks, writing_checks}
use Rattle.ga94.specs.Places.{Element, Has, element_in, Stands, value_in}
use Rattle.ga94.specs.Lent.{records_bytes, lent_records, stored_at, unit_in, numbers_of, numbers_in, ReadsInto}
use Rattle.ga94.proofs.Accepting as accepting
use Rattle.ga94.proofs.Faults as faults
use Rattle.ga94.proofs.Writing as writing
use Rattle.ga94.proofs.Sequence as sequence
use Rattle.ga94.proofs.Elements as elements
use Rattle.ga94.proofs.Sizes as sizes
use Rattle.ga94.proofs.Table as table
use Rattle.ga94.proofs.Zeros as zeros
use Rattle.ga94.proofs.Determined as determined

-- READING

-- The answer to a legal value's bytes is that value, its records in the lent array.
pub the-answer : (c : Content) → Legal c → length (layout c) ≤ 16384
    → (lent : List ℕ) (r : Judged Numbers) (exit : List ℕ) → ReadsInto (layout c) lent r exit
    → (r ≡ Ok (numbers_of (stored c))) × (exit ≡ records_bytes (stored c).records)
the-answer = accepting.the-answer

-- Bytes, within the limit of an area, are accepted exactly when some legal value has them as its layout.
pub accepted-exactly : (body lent : List ℕ) (r : Judged Numbers) (exit : List ℕ) → ReadsInto body lent r exit
    → verdict_of r ≡ Accepted ↔ ((c : Content) × Legal c × (length body ≤ 16384) × (layout c ≡ body))
accepted-exactly = accepting.accepted-exactly

-- That value is the only one,
pub only_one : (c d : Content) → Legal c → Legal d → layout c ≡ layout d → c ≡ d
only_one = accepting.only_one

-- as it is told it is the same again,
pub stored-held : (c : Content) → held (stored c) ≡ c
stored-held = accepting.stored-held

-- and is legal where the value is,
pub stored-legal : (c : Content) → Legal c → LegalCaptionUnit (stored c)
stored-legal = accepting.stored-legal

-- and numbers and the records' bytes tell what they were made of.
pub lent-held : (u : CaptionUnit) → Typed u → unit_in (numbers_of u) (records_bytes u.records) ≡ u
lent-held = accepting.lent-held

-- Any data bytes do: with others a legal record is as legal.
pub any-data : (r : Record) (a b : ℕ) → a < 256 → b < 256 → LegalRecord r → LegalRecord (with_data r a b)
any-data = accepting.any-data

-- A refusal tells the verdict of all checks.
pub refused-in-order : (body lent : List ℕ) (r : Judged Numbers) (exit : List ℕ) → ReadsInto body lent r exit
    → verdict_of r ≡ content_verdict body
refused-in-order = accepting.refused-in-order

-- These stand in the order of RULES, one line of `reading_checks` (specs/Order) each. The first that finds a fault
-- decides,
pub reading-order : (body : List ℕ) → content_verdict body ≡ first (reading_checks body)
reading-order = sequence.reading-order

-- and is what is answered.
pub read_first : (body lent : List ℕ) (r : Judged Numbers) (exit : List ℕ) → ReadsInto body lent r exit
    → verdict_of r ≡ first (reading_checks body)
read_first = accepting.read_first

-- It comes without records: the numbers are zero, and the lent array is as it was.
pub refused-zero : (body lent : List ℕ) (r : Judged Numbers) (exit : List ℕ) → ReadsInto body lent r exit
    → (verdict_of r ≡ Accepted → ⊥) → (numbers_in r ≡ numbers_of (stored none)) × (exit ≡ lent)
refused-zero = accepting.refused-zero

-- WHAT STANDS AT THE PLACE

-- A refusal of a body within the limit of an area is at a bit of it or at its end, and there stands what `Stands`
-- (specs/Places) says of its number: 5, 16, 18 or 19, and 6 for a body that does not begin with the identifier and 03,
-- which is none of an area's GA94 units.
pub refused-at : (body lent : List ℕ) (r : Judged Numbers) (exit : List ℕ) → ReadsInto body lent r exit → length body ≤ 16384
    → (reason : Reason) (item : Item) → verdict_of r ≡ Refused reason item
    → AtBit (8 * length body) (Stands (bits_of body)) reason item
refused-at = accepting.refused-at

-- Each case is a fault: where one stands, at any bit, the body is refused.
pub stands-refused : (body lent : List ℕ) (r : Judged Numbers) (exit : List ℕ) → ReadsInto body lent r exit
    → (number bit : ℕ) → Stands (bits_of body) number bit → verdict_of r ≡ Accepted → ⊥
stands-refused = faults.stands-refused

-- WHAT THE LAYOUT HAS THERE

-- In the layout of every legal value each element stands where `first_bit` (specs/Places) says, and is the value's
-- number: the marker_bits of a construct are 1 1 1 1 1, the closing ones FF.
pub layout-elements : (c : Content) → Legal c → (e : Element) → Has (length c.records) e
    → element_in (bits_of (layout c)) e ≡ value_in c e
layout-elements = elements.layout-elements

-- Behind them all bits are 0.
pub layout-zeros : (c : Content) → Legal c → (i : ℕ) → 8 * (8 + 3 * length c.records) ≤ i
    → get_or (bits_of (layout c)) i 0 ≡ 0
layout-zeros = elements.layout-zeros

-- SIZES

-- Content takes eight bytes, and three for each record. The stuffing is no part of it,
pub content-size : (c : Content) → length (content_bytes c) ≡ size_of (length c.records)
content-size = sizes.content-size

-- but of the body.
pub layout-size : (c : Content) → length (layout c) ≡ size_of (length c.records) + c.z
layout-size = sizes.length-layout

-- That is 8 for n = 0, 11 for 1, 101 for 31.
pub sizes-told : (size_of 0 ≡ 8) × (size_of 1 ≡ 11) × (size_of 31 ≡ 101)
sizes-told = sizes.sizes-told

-- TABLE 3

-- The bits of the content are the items of document 003, Table 3, each with its number of bits.
pub table-3 : (c : Content) → Legal c → bits_of (content_bytes c) ≡ item_bits c
table-3 = table.table-3

-- WRITING

-- Writing succeeds exactly when the value is legal and the result, with what stands before and after the body, fits
-- limit and buffer.
pub writes-exactly : (u : CaptionUnit) (before after : ℕ) (out : List ℕ) (r : Judged ℕ) (exit : List ℕ)
    → Writes u before after out r exit
    → verdict_of r ≡ Accepted
    ↔ (LegalCaptionUnit u
    × (before + length (layout (held u)) + after ≤ 16384)
    × (before + length (layout (held u)) + after ≤ length out))
writes-exactly = writing.writes-exactly

-- Then exactly the layout stands in the buffer behind the bytes before it, and nothing else changed.
pub written-there : (u : CaptionUnit) (before after : ℕ) (out : List ℕ) (r : Judged ℕ) (exit : List ℕ)
    → Writes u before after out r exit → verdict_of r ≡ Accepted
    → (r ≡ Ok (length (layout (held u)))) × (exit ≡ over_at before (layout (held u)) out)
written-there = writing.written-there

-- A refusal tells the verdict of all checks.
pub write-in-order : (u : CaptionUnit) (before after : ℕ) (out : List ℕ) (r : Judged ℕ) (exit : List ℕ)
    → Writes u before after out r exit → verdict_of r ≡ body_verdict u before after (length out)
write-in-order = writing.write-in-order

-- These stand in the order of RULES, one line of `writing_checks` (specs/Order) each. The first that finds a fault
-- decides,
pub writing-order : (u : CaptionUnit) (size room : ℕ) → write_verdict u size room ≡ first (writing_checks u size room)
writing-order = sequence.writing-order

-- and is what is answered.
pub write-first : (u : CaptionUnit) (before after : ℕ) (out : List ℕ) (r : Judged ℕ) (exit : List ℕ)
    → Writes u before after out r exit
    → verdict_of r ≡ first (writing_checks u (before + length (layout (held u)) + after) (length out))
write-first = writing.write-first

-- A value with the third flag set, whose numbers are within their ranges, is refused with 16.
pub write-16 : (u : CaptionUnit) (before after : ℕ) (out : List ℕ) (r : Judged ℕ) (exit : List ℕ)
    → Writes u before after out r exit → whole_verdict u ≡ Accepted → (u.additional_data_flag ≡ 0 → ⊥)
    → refusal_of (verdict_of r) ≡ refused 16 0
write-16 = writing.write-16

-- A refused call counted nothing and changed nothing.
pub refused-untouched : (u : CaptionUnit) (before after : ℕ) (out : List ℕ) (r : Judged ℕ) (exit : List ℕ)
    → Writes u before after out r exit → (verdict_of r ≡ Accepted → ⊥) → (len_of r ≡ 0) × (exit ≡ out)
refused-untouched = writing.refused-untouched

-- THE ZERO RUN

-- In legal content, without its stuffing, a run of zero bits has 19 at the most,
pub zero-run : (c : Content) → Legal c → longest (bits_of (content_bytes c)) ≤ 19
zero-run = zeros.zero-run

-- and 19 is reached.
pub zero-run-reached : (c : Content) × Legal c × (longest (bits_of (content_bytes c)) ≡ 19)
zero-run-reached = zeros.zero-run-reached

-- ONE ANSWER

-- For each function, two answers that keep its promise are equal, lent memory too: those of ga94_reader and
-- ga94_writer,
pub read-into-determined : (body lent : List ℕ) (a : Judged Numbers) (exit : List ℕ) (b : Judged Numbers) (end : List ℕ)
    → ReadsInto body lent a exit → ReadsInto body lent b end → (a ≡ b) × (exit ≡ end)
read-into-determined = determined.read-into-determined

pub write-determined : (u : CaptionUnit) (before after : ℕ) (out : List ℕ) (a : Judged ℕ) (exit : List ℕ)
    → (b : Judged ℕ) (end : List ℕ)
    → Writes u before after out a exit → Writes u before after out b end → (a ≡ b) × (exit ≡ end)
write-determined = determined.write-determined

-- and of ga94.
pub record-in-determined : (s : List ℕ) (i : ℕ) (a b : Record)
    → a ≡ get_or (lent_records s) i blank → b ≡ get_or (lent_records s) i blank → a ≡ b
record-in-determined = determined.record-in-determined

pub put-record-determined : (i : ℕ) (r : Record) (s exit end : List ℕ)
    → exit ≡ stored_at i r s → end ≡ stored_at i r s → exit ≡ end
put-record-determined = determined.put-record-determined
