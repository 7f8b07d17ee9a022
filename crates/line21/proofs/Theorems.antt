-- The theorems of the Line 21 payload (docs/RULES.md, "Demands", "Line 21 payload" and "Order of checks"). What they
-- speak of is defined in specs/: a value and when it is legal in Value; its bytes in Layout, without the reader; what
-- reading answers in Reading; what writing answers and leaves in Writing; units as bytes in a lent array in Lent; the
-- checks of each call, as one list, in Order; what is wrong with the length that a refusal tells in Places.
-- How to read it: docs/NOTATION.md.
--
-- The contracts of `read`, `read_head`, `read_unit` and `read_into` are the promises `Reads`, `ReadsHead`, `ReadsUnit`
-- and `ReadsInto`; that of `write` and `write_from` is `Writes`. `Reads s r`: r is the answer to the bytes s.
-- `Writes p out r exit`: writing p to an output that held `out` answers r and leaves `exit`; `write_from` writes the
-- struct that its arguments tell. So each theorem speaks of every call.
-- Assumes nothing.
use Prim.Native.Nat.{ℕ, ◌-◌, ◌*◌, ◌%◌, ◌≤◌, ◌<◌}
use mathlib.Core.Path.{◌≡◌}
use mathlib.Core.Logic.{◌↔◌}
use mathlib.Core.List.{List}
use lib.ListN.{length, take, get_or}
use Rattle.lists.specs.Room.{filled, over}
use Rattle.refusal.specs.declared.Written.{Written}
use Rattle.refusal.specs.Checks.{first}
use Rattle.refusal.specs.Numbers.{refusal_of}
use Rattle.refusal.specs.Answers.{accepted, refused, written}
use Rattle.line21.specs.declared.AccessUnit.{AccessUnit}
use Rattle.line21.specs.declared.Payload.{Payload}
use Rattle.line21.specs.declared.Answer.{Answer}
use Rattle.line21.specs.declared.Head.{Head}
use Rattle.line21.specs.Value.{Line21, with_data, LegalAccessUnit}
use Rattle.line21.specs.Value.{Legal, LegalPayload, Typed, blank, none, stored, held}
use Rattle.line21.specs.Layout.{layout}
use Rattle.line21.specs.Reading.{length_verdict, head_of, Reads, ReadsHead, ReadsUnit, One}
use Rattle.line21.specs.Writing.{value_verdict, Writes}
use Rattle.line21.specs.Lent.{access_units_bytes, run_in, payload_in, ReadsInto}
use Rattle.line21.specs.Order.{reading_checks, writing_checks}
use Rattle.line21.specs.Places.{Stands}
use Rattle.line21.proofs.Answers as answers
use Rattle.line21.proofs.Accepting as accepting
use Rattle.line21.proofs.Refusing as refusing
use Rattle.line21.proofs.Placed as placed
use Rattle.line21.proofs.Sequence as sequence
use Rattle.line21.proofs.LentUnits as lent-units
use Rattle.line21.proofs.Writing as writing
use Rattle.line21.proofs.Unplaced as unplaced
use Rattle.line21.proofs.BothWays as both_ways
use Rattle.line21.proofs.LentTheorems as lent-theorems
use Rattle.line21.proofs.Determined as determined

-- READING

-- The answer to a legal value's bytes is that value.
pub the-answer : (v : Line21) → Legal v → (r : Answer) → Reads (layout v) r
    → r ≡ record { refusal = accepted; payload = stored v }
the-answer = accepting.the-answer

-- Bytes are accepted exactly when some legal value has them as its layout.
pub accepted-exactly : (s : List ℕ) (r : Answer) → Reads s r
    → r.refusal.number ≡ 0 ↔ ((v : Line21) × Legal v × (layout v ≡ s))
accepted-exactly = accepting.accepted-exactly

-- That value is the only one,
pub only_one : (v w : Line21) → Legal v → Legal w → layout v ≡ layout w → v ≡ w
only_one = accepting.only_one

-- and the struct that holds it gives it back.
pub stored-held : (v : Line21) → held (stored v) ≡ v
stored-held = answers.stored-held

-- Any data bytes do, under any flags: with others a legal access unit is as legal.
pub any-data : (u : AccessUnit) (a b c d : ℕ) → a < 256 → b < 256 → c < 256 → d < 256
    → LegalAccessUnit u → LegalAccessUnit (with_data u a b c d)
any-data = accepting.any-data

-- Bad input gets 2, 1 or 13, in this order, and its length as place,
pub refused-2 : (s : List ℕ) (r : Answer) → Reads s r → length s ≡ 0 → r.refusal ≡ refused 2 (length s)
refused-2 = refusing.refused-2

pub refused-1 : (s : List ℕ) (r : Answer) → Reads s r → 1456 < length s → r.refusal ≡ refused 1 (length s)
refused-1 = refusing.refused-1

pub refused-13 : (s : List ℕ) (r : Answer) → Reads s r → 0 < length s → length s ≤ 1456 → ((length s - 1) % 5 ≡ 0 → ⊥)
    → r.refusal ≡ refused 13 (length s)
refused-13 = refusing.refused-13

-- and no other input is refused.
pub accepted-whole-units : (s : List ℕ) (r : Answer) → Reads s r → 0 < length s → length s ≤ 1456
    → (length s - 1) % 5 ≡ 0 → r.refusal ≡ accepted
accepted-whole-units = refusing.accepted-whole-units

-- The checks are made in the order of RULES, one line of `reading_checks` each: the first that finds a fault decides,
pub reading-order : (s : List ℕ) → length_verdict (length s) ≡ first (reading_checks s)
reading-order = sequence.reading-order

-- and the answer tells its number and place.
pub read_first : (s : List ℕ) (r : Answer) → Reads s r → r.refusal ≡ refusal_of (first (reading_checks s))
read_first = refusing.read_first

-- A refusal holds no units.
pub refused-zero : (s : List ℕ) (r : Answer) → Reads s r → (r.refusal.number ≡ 0 → ⊥) → r.payload ≡ stored none
refused-zero = refusing.refused-zero

-- `read_into` answers the head of what `read` answers. Its array holds all units of that answer, and in a refusal it is
-- as it was.
pub read-into-as-read : (s lent : List ℕ) (r : Head) (exit : List ℕ) → ReadsInto s lent r exit
    → (a : Answer) → Reads s a
    → (r ≡ head_of a) × (a.refusal.number ≡ 0 → exit ≡ access_units_bytes a.payload.units)
    × ((a.refusal.number ≡ 0 → ⊥) → exit ≡ lent)
read-into-as-read = lent-theorems.read-into-as-read

-- WHAT STANDS AT THE PLACE

-- The place of a refusal is the length of the payload,
pub place-length : (s : List ℕ) (r : Answer) → Reads s r → (r.refusal.number ≡ 0 → ⊥) → r.refusal.place ≡ length s
place-length = placed.place-length

-- and what is wrong with this length is a case of `Stands` with the refusal's number: none, too long, no whole units.
pub place-means : (s : List ℕ) (r : Answer) → Reads s r → (r.refusal.number ≡ 0 → ⊥)
    → Stands s r.refusal.number r.refusal.place
place-means = placed.place-means

-- Each case is a fault: a payload of which one holds is refused.
pub stands-refused : (s : List ℕ) (r : Answer) → Reads s r → (number place : ℕ) → Stands s number place
    → r.refusal.number ≡ 0 → ⊥
stands-refused = placed.stands-refused

-- WRITING

-- A struct whose units are lent as bytes is that struct.
pub lent-held : (p : Payload) → Typed p → payload_in p.flags p.m (access_units_bytes p.units) ≡ p
lent-held = lent-units.lent-held

-- Writing succeeds exactly when the value is legal and the result fits limit and buffer.
pub writes-exactly : (p : Payload) (out : List ℕ) (r : Written) (exit : List ℕ) → Writes p out r exit
    → r.refusal.number ≡ 0
    ↔ (LegalPayload p × (length (layout (held p)) ≤ 1456) × (length (layout (held p)) ≤ length out))
writes-exactly = writing.writes-exactly

-- Then exactly the layout stands at the front of the buffer, and nothing else changed.
pub written-front : (p : Payload) (out : List ℕ) (r : Written) (exit : List ℕ) → Writes p out r exit
    → r.refusal.number ≡ 0
    → (r ≡ written (length (layout (held p)))) × (exit ≡ over (layout (held p)) out)
written-front = writing.written-front

-- The checks are made in the order of RULES, one line of `writing_checks` each: the first that finds a fault decides,
pub writing-order : (p : Payload) (room : ℕ) → value_verdict p room ≡ first (writing_checks p room)
writing-order = sequence.writing-order

-- and the answer tells its number.
pub write-first : (p : Payload) (out : List ℕ) (r : Written) (exit : List ℕ) → Writes p out r exit
    → r.refusal ≡ refusal_of (first (writing_checks p (length out)))
write-first = writing.write-first

-- A value that is not legal is refused with 15.
pub illegal-refused : (p : Payload) (out : List ℕ) (r : Written) (exit : List ℕ) → Writes p out r exit
    → (LegalPayload p → ⊥) → r.refusal ≡ refused 15 0
illegal-refused = writing.illegal-refused

-- A legal one is never too long, so that 1 is not given,
pub legal-short : (v : Line21) → Legal v → length (layout v) ≤ 1456
legal-short = writing.legal-short

-- and is refused with 14 where the buffer is too short.
pub no-room-refused : (p : Payload) (out : List ℕ) (r : Written) (exit : List ℕ) → Writes p out r exit
    → LegalPayload p → length out < length (layout (held p)) → r.refusal ≡ refused 14 0
no-room-refused = writing.no-room-refused

-- Writing has no place to tell: it is 0, whatever the answer.
pub write-place : (p : Payload) (out : List ℕ) (r : Written) (exit : List ℕ) → Writes p out r exit
    → r.refusal.place ≡ 0
write-place = unplaced.write-place

-- A refused call counted nothing and changed nothing.
pub refused-untouched : (p : Payload) (out : List ℕ) (r : Written) (exit : List ℕ) → Writes p out r exit
    → (r.refusal.number ≡ 0 → ⊥) → (r.len ≡ 0) × (exit ≡ out)
refused-untouched = writing.refused-untouched

-- BOTH WAYS

-- Reading what was written gives the value back.
pub written_read : (p : Payload) (out : List ℕ) (r : Written) (exit : List ℕ) → Writes p out r exit
    → r.refusal.number ≡ 0
    → (a : Answer) → Reads (take r.len exit) a → a ≡ record { refusal = accepted; payload = stored (held p) }
written_read = both_ways.written_read

-- Writing what was read gives the bytes back.
pub read-written : (s : List ℕ) (a : Answer) → Reads s a → a.refusal.number ≡ 0
    → (out : List ℕ) (r : Written) (exit : List ℕ) → Writes a.payload out r exit → length s ≤ length out
    → (r ≡ written (length s)) × (exit ≡ over s out)
read-written = both_ways.read-written

-- LENT UNITS

-- The same of the functions that C calls, of the bytes in lent arrays. Such an array has 2,037 bytes by its type.

-- `read_into` accepts the same bytes.
pub into-exactly : (s lent : List ℕ) (r : Head) (exit : List ℕ) → ReadsInto s lent r exit
    → r.refusal.number ≡ 0 ↔ ((v : Line21) × Legal v × (layout v ≡ s))
into-exactly = lent-theorems.into-exactly

-- And the place of a refusal means the same.
pub into-place : (s lent : List ℕ) (r : Head) (exit : List ℕ) → ReadsInto s lent r exit
    → (r.refusal.number ≡ 0 → ⊥) → Stands s r.refusal.number r.refusal.place
into-place = lent-theorems.into-place

-- Reading into a lent array what `write_from` wrote gives the same numbers and the same bytes, with zeros behind the m
-- units.
pub written-read-into : (flags m : ℕ) (units out : List ℕ) (w : Written) (end : List ℕ)
    → Writes (payload_in flags m units) out w end → w.refusal.number ≡ 0 → length units ≡ 2037
    → (lent : List ℕ) (r : Head) (exit : List ℕ) → ReadsInto (take w.len end) lent r exit
    → (r ≡ record { refusal = accepted; flags = flags; m = m }) × (exit ≡ filled (take (7 * m) units) 2037 0)
written-read-into = lent-theorems.written-read-into

-- `write_from` of what was read into a lent array gives the bytes back.
pub read-into-written : (s lent : List ℕ) (a : Head) (exit : List ℕ) → ReadsInto s lent a exit → a.refusal.number ≡ 0
    → (out : List ℕ) (r : Written) (end : List ℕ) → Writes (payload_in a.flags a.m exit) out r end
    → length s ≤ length out → (r ≡ written (length s)) × (end ≡ over s out)
read-into-written = lent-theorems.read-into-written

-- ONE ANSWER

-- For each function, two answers that keep its promise are equal, lent memory too.
pub read-determined : (s : List ℕ) (a b : Answer) → Reads s a → Reads s b → a ≡ b
read-determined = determined.read-determined

pub read-head-determined : (s : List ℕ) (a b : Head) → ReadsHead s a → ReadsHead s b → a ≡ b
read-head-determined = determined.read-head-determined

pub read-unit-determined : (s : List ℕ) (i : ℕ) (a b : One) → ReadsUnit s i a → ReadsUnit s i b → a ≡ b
read-unit-determined = determined.read-unit-determined

pub read-into-determined : (s lent : List ℕ) (a : Head) (exit : List ℕ) (b : Head) (end : List ℕ)
    → ReadsInto s lent a exit → ReadsInto s lent b end → (a ≡ b) × (exit ≡ end)
read-into-determined = determined.read-into-determined

pub unit-in-determined : (units : List ℕ) (i : ℕ) (a b : AccessUnit)
    → a ≡ get_or (run_in units) i blank → b ≡ get_or (run_in units) i blank → a ≡ b
unit-in-determined = determined.unit-in-determined

pub bytes-of-determined : (p : Payload) (a b : List ℕ)
    → a ≡ access_units_bytes p.units → b ≡ access_units_bytes p.units → a ≡ b
bytes-of-determined = determined.bytes-of-determined

pub write-determined : (p : Payload) (out : List ℕ) (a : Written) (exit : List ℕ) (b : Written) (end : List ℕ)
    → Writes p out a exit → Writes p out b end → (a ≡ b) × (exit ≡ end)
write-determined = determined.write-determined
