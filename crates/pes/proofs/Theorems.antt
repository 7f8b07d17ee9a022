-- The theorems of the PES data field (docs/RULES.md, "Demands" and "PES data field").
-- How to read it: docs/NOTATION.md.
--
-- What they speak of is defined in specs/: a value and when it is legal in Value; its bytes in Layout, without the
-- reader; all checks in the order of RULES, as one list for reading and one for writing, in Order; what reading answers
-- in Reading, and writing in Writing; units as bytes in a lent array in Lent; where things stand in a data field, and
-- what a refusal tells of its place, in Places.
--
-- `ReadsInto s lent r exit` is the promise of `read_into` (crate pes_reader): to the bytes s it answers r, and in a
-- lent array that held `lent` it leaves `exit`. `Writes t out r exit` is that of `write_from` (crate pes_writer):
-- writing what is told by t to an output that held `out` answers r and leaves `exit`. So each theorem speaks of every
-- call.
-- Assumes nothing.
use Prim.Native.Nat.{ℕ, ◌+◌, ◌*◌, ◌≤◌, ◌<◌}
use mathlib.Core.Path.{◌≡◌}
use mathlib.Core.Logic.{◌⊎◌, ◌↔◌}
use mathlib.Core.Bool.{Bool}
use mathlib.Core.List.{List, ◌∷◌, ◌++◌}
use lib.ListN.{length, take}
use Rattle.lists.specs.Bytes.{Bytes}
use Rattle.lists.specs.Room.{filled, over}
use Rattle.refusal.specs.declared.Item.{Item}
use Rattle.refusal.specs.Verdict.{Verdict}
use Rattle.refusal.specs.declared.Written.{Written}
use Rattle.refusal.specs.Checks.{first}
use Rattle.refusal.specs.Numbers.{refusal_of}
use Rattle.refusal.specs.Answers.{accepted, refused, written}
use Rattle.pes.specs.declared.Head.{Head}
use Rattle.pes.specs.Value.{Teletext, DataUnit, DataField, with_row, LegalTeletext}
use Rattle.pes.specs.Value.{Legal, Told, LegalTold, Typed, stored, held}
use Rattle.pes.specs.Layout.{layout}
use Rattle.pes.specs.Order.{teletext_id, known_id, reading_checks, writing_checks}
use Rattle.pes.specs.Reading.{field_verdict, line_verdict}
use Rattle.pes.specs.Writing.{value_verdict, Writes}
use Rattle.pes.specs.Lent.{units_bytes, field_in, ReadsInto}
use Rattle.pes.specs.Places.{Stands, FixedAt}
use Rattle.pes.proofs.Field as field
use Rattle.pes.proofs.Lending as lending
use Rattle.pes.proofs.Accepting as accepting
use Rattle.pes.proofs.Placed as placed
use Rattle.pes.proofs.Writing as writing
use Rattle.pes.proofs.BothWays as both_ways
use Rattle.pes.proofs.Determined as determined

-- READING

-- The answer to a legal value's bytes is that value, its units in the lent array.
pub the-answer : (v : DataField) → Legal v
    → (lent : List ℕ) (r : Head) (exit : List ℕ) → ReadsInto (layout v) lent r exit
    → (r ≡ record { refusal = accepted; data_identifier = v.data_identifier; n = length v.units })
    × (exit ≡ units_bytes (stored v).units)
the-answer = accepting.the-answer

-- Bytes are accepted exactly when some legal value has them as its layout.
pub accepted-exactly : (s lent : List ℕ) (r : Head) (exit : List ℕ) → ReadsInto s lent r exit
    → r.refusal.number ≡ 0 ↔ ((v : DataField) × Legal v × (layout v ≡ s))
accepted-exactly = accepting.accepted-exactly

-- That value is the only one,
pub only_one : (v w : DataField) → Legal v → Legal w → layout v ≡ layout w → v ≡ w
only_one = accepting.only_one

-- as it is told it is the same again,
pub stored-held : (v : DataField) → held (stored v) ≡ v
stored-held = accepting.stored-held

-- and is legal where the value is,
pub stored-legal : (v : DataField) → Legal v → LegalTold (stored v)
stored-legal = accepting.stored-legal

-- and its numbers and its units' bytes tell what they were made of.
pub lent-held : (t : Told) → Typed t → field_in t.data_identifier t.n (units_bytes t.units) ≡ t
lent-held = lending.lent-held

-- Any row of 42 bytes does: with another a legal unit is as legal.
pub any-row : (t : Teletext) (row : List ℕ) → length row ≡ 42 → Bytes row
    → LegalTeletext t → LegalTeletext (with_row t row)
any-row = accepting.any-row

-- The order of lines is carried, not judged: with two units in each other's place a legal value is as legal.
pub any_order : (identifier : ℕ) (before after : List DataUnit) (x y : DataUnit)
    → Legal (record { data_identifier = identifier; units = before ++ (x ∷ y ∷ after) })
    → Legal (record { data_identifier = identifier; units = before ++ (y ∷ x ∷ after) })
any_order = accepting.any_order

-- The checks are made in the order of RULES, one line of `reading_checks` (specs/Order) each: the first that finds a
-- fault decides,
pub reading-order : (s : List ℕ) → field_verdict s ≡ first (reading_checks s)
reading-order = accepting.reading-order

-- and the answer tells its number and place.
pub read_first : (s lent : List ℕ) (r : Head) (exit : List ℕ) → ReadsInto s lent r exit
    → r.refusal ≡ refusal_of (first (reading_checks s))
read_first = accepting.read_first

-- A refusal comes without units: the numbers are zero, and the lent array is as it was.
pub refused-zero : (s lent : List ℕ) (r : Head) (exit : List ℕ) → ReadsInto s lent r exit
    → (r.refusal.number ≡ 0 → ⊥) → (r.data_identifier ≡ 0) × (r.n ≡ 0) × (exit ≡ lent)
refused-zero = accepting.refused-zero

-- WHAT STANDS AT THE PLACE

-- The place of a refusal is the byte at which the failing item begins: there stands what `Stands` (specs/Places) says
-- of its number.
pub place-means : (s lent : List ℕ) (r : Head) (exit : List ℕ) → ReadsInto s lent r exit
    → (r.refusal.number ≡ 0 → ⊥) → Stands s r.refusal.number r.refusal.place
place-means = placed.place-means

-- Each case is a fault: where one stands, at any byte, the data field is refused.
pub stands-refused : (s lent : List ℕ) (r : Head) (exit : List ℕ) → ReadsInto s lent r exit
    → (number byte : ℕ) → Stands s number byte → r.refusal.number ≡ 0 → ⊥
stands-refused = placed.stands-refused

-- WHAT THE LAYOUT HAS THERE

-- In the layout of every legal value each unit stands where `unit_at` (specs/Places) says, its data_unit_length is 2C,
-- and where it is teletext its reserved bits are ones and its framing code is E4.
pub layout-fixed : (v : DataField) → Legal v → (j : ℕ) → j < length v.units → FixedAt (layout v) j
layout-fixed = placed.layout-fixed

-- SIZES

-- A legal value takes one byte, and 46 for each unit: 1,427 at the most.
pub layout-size : (v : DataField) → Legal v → length (layout v) ≡ 1 + 46 * length v.units
layout-size = field.length-field

-- WRITING

-- Writing succeeds exactly when the value is legal and the result fits the buffer.
pub writes-exactly : (t : Told) (out : List ℕ) (r : Written) (exit : List ℕ) → Writes t out r exit
    → r.refusal.number ≡ 0 ↔ (LegalTold t × (length (layout (held t)) ≤ length out))
writes-exactly = writing.writes-exactly

-- Then exactly the layout stands at the front of the buffer, and nothing else changed.
pub written-front : (t : Told) (out : List ℕ) (r : Written) (exit : List ℕ) → Writes t out r exit
    → r.refusal.number ≡ 0 → (r ≡ written (length (layout (held t)))) × (exit ≡ over (layout (held t)) out)
written-front = writing.written-front

-- The checks are made in the order of RULES, one line of `writing_checks` (specs/Order) each: the first that finds a
-- fault decides,
pub writing-order : (t : Told) (room : ℕ) → value_verdict t room ≡ first (writing_checks t room)
writing-order = writing.writing-order

-- and the answer tells its number.
pub write-first : (t : Told) (out : List ℕ) (r : Written) (exit : List ℕ) → Writes t out r exit
    → r.refusal ≡ refusal_of (first (writing_checks t (length out)))
write-first = writing.write-first

-- A value that is not legal is refused with 15 or 7,
pub illegal-refused : (t : Told) (out : List ℕ) (r : Written) (exit : List ℕ) → Writes t out r exit
    → (LegalTold t → ⊥) → (r.refusal ≡ refused 15 0) ⊎ (r.refusal ≡ refused 7 0)
illegal-refused = writing.illegal-refused

-- and a legal one with 14, where the buffer is too short.
pub no-room-refused : (t : Told) (out : List ℕ) (r : Written) (exit : List ℕ) → Writes t out r exit
    → LegalTold t → length out < length (layout (held t)) → r.refusal ≡ refused 14 0
no-room-refused = writing.no-room-refused

-- Writing has no place to tell: it is 0, whatever the answer.
pub write-place : (t : Told) (out : List ℕ) (r : Written) (exit : List ℕ) → Writes t out r exit
    → r.refusal.place ≡ 0
write-place = writing.write-place

-- A refused call counted nothing and changed nothing.
pub refused-untouched : (t : Told) (out : List ℕ) (r : Written) (exit : List ℕ) → Writes t out r exit
    → (r.refusal.number ≡ 0 → ⊥) → (r.len ≡ 0) × (exit ≡ out)
refused-untouched = writing.refused-untouched

-- BOTH WAYS

-- Reading what was written gives the same numbers and the same bytes, with zeros behind the n units. A lent array has
-- 1,395 bytes by its type.
pub written_read : (identifier n : ℕ) (units out : List ℕ) (w : Written) (end : List ℕ)
    → Writes (field_in identifier n units) out w end → w.refusal.number ≡ 0 → length units ≡ 1395
    → (lent : List ℕ) (r : Head) (exit : List ℕ) → ReadsInto (take w.len end) lent r exit
    → (r ≡ record { refusal = accepted; data_identifier = identifier; n = n })
    × (exit ≡ filled (take (45 * n) units) 1395 0)
written_read = both_ways.written_read

-- Writing what was read gives the bytes back.
pub read-written : (s lent : List ℕ) (a : Head) (exit : List ℕ) → ReadsInto s lent a exit → a.refusal.number ≡ 0
    → (out : List ℕ) (r : Written) (end : List ℕ) → Writes (field_in a.data_identifier a.n exit) out r end
    → length s ≤ length out → (r ≡ written (length s)) × (end ≡ over s out)
read-written = both_ways.read-written

-- ONE ANSWER

-- For each function, two answers that keep its promise are equal, lent memory too: those of pes_reader and pes_writer,
pub read-into-determined : (s lent : List ℕ) (a : Head) (exit : List ℕ) (b : Head) (end : List ℕ)
    → ReadsInto s lent a exit → ReadsInto s lent b end → (a ≡ b) × (exit ≡ end)
read-into-determined = determined.read-into-determined

pub write-determined : (t : Told) (out : List ℕ) (a : Written) (exit : List ℕ) (b : Written) (end : List ℕ)
    → Writes t out a exit → Writes t out b end → (a ≡ b) × (exit ≡ end)
write-determined = determined.write-determined

-- of pes_judge,
pub judge-determined : (s : List ℕ) (a b : Verdict) → a ≡ field_verdict s → b ≡ field_verdict s → a ≡ b
judge-determined = determined.judge-determined

-- and of pes.
pub is-teletext-determined : (id : ℕ) (a b : Bool) → a ≡ teletext_id id → b ≡ teletext_id id → a ≡ b
is-teletext-determined = determined.is-teletext-determined

pub is-known-determined : (id : ℕ) (a b : Bool) → a ≡ known_id id → b ≡ known_id id → a ≡ b
is-known-determined = determined.is-known-determined

pub judge-line-determined : (item : Item) (line : ℕ) (a b : Verdict)
    → a ≡ line_verdict item line → b ≡ line_verdict item line → a ≡ b
judge-line-determined = determined.judge-line-determined
