-- The theorems of the subtitling packet (docs/RULES.md, "Demands", "Subtitling packet" and "Order of checks"). What
-- they speak of is defined in specs/: its words in Layout, without the reader; what reading answers in Reading; what
-- writing answers and leaves in Writing; the checks of each call, as one list, in Order; what stands at the place of a
-- refusal in Places. A value, when it is legal, its user bytes and the rules over them are those of `sdp`, which has a
-- page of theorems too.
-- How to read it: docs/NOTATION.md.
--
-- The contracts of `read`, `read_rows` and `read_into` are the promises `Reads`, `ReadsRows` and `ReadsInto`; that of
-- `write` and `write_from` is `Writes`. `Reads s r`: r is the answer to the words s. `ReadsRows s rows`: these are the
-- rows in it. `ReadsInto s lent r exit`: r is the answer, and the lent array, which held `lent`, is left at `exit`.
-- `Writes p rows out r exit`: writing p with its rows to an output that held `out` answers r and leaves `exit`. So each
-- theorem speaks of every call.
-- Assumes nothing.
use Prim.Native.Nat.{ℕ, ◌+◌, ◌-◌, ◌*◌, ◌≤◌, ◌<◌}
use mathlib.Core.Path.{◌≡◌}
use mathlib.Core.Logic.{◌⊎◌, ◌↔◌}
use mathlib.Core.List.{List}
use lib.ListN.{length, get_or, take}
use Rattle.lists.specs.Room.{over}
use Rattle.refusal.specs.declared.Written.{Written}
use Rattle.refusal.specs.Verdict.{Verdict}
use Rattle.refusal.specs.Verdict.{Accepted}
use Rattle.refusal.specs.Checks.{first}
use Rattle.refusal.specs.Numbers.{refusal_of}
use Rattle.refusal.specs.Answers.{accepted, refused, written}
use Rattle.anc.specs.Words.{byte_of}
use Rattle.sdp.specs.declared.Packet.{Packet}
use Rattle.sdp.specs.Value.{SlotRow, Sdp, Legal, none, held, numbers_of, rows_of}
use Rattle.sdp.specs.Layout.{descriptors_of, count, user_bytes}
use Rattle.sdp.specs.SlotVerdict.{slot_verdict}
use Rattle.sdp.specs.SlotFaults.{Holdable, Unwritable, NoLine}
use Rattle.sdp.specs.Places.{user_word}
use Rattle.subtitling.specs.declared.Answer.{Answer}
use Rattle.subtitling.specs.Layout.{layout}
use Rattle.subtitling.specs.Reading.{user_in, packet_verdict, Reads, ReadsRows, ReadsInto}
use Rattle.subtitling.specs.Writing.{value_verdict, Writes}
use Rattle.subtitling.specs.Order.{reading_checks, writing_checks, Reached}
use Rattle.subtitling.specs.Places.{flag_words, identifier_bytes, FlagBroken, Stands}
use Rattle.sdp.proofs.Beside as beside
use Rattle.subtitling.proofs.Accepting as accepting
use Rattle.subtitling.proofs.Refusing as refusing
use Rattle.subtitling.proofs.Placed as placed
use Rattle.subtitling.proofs.RightPlaces as right-places
use Rattle.subtitling.proofs.Sequence as sequence
use Rattle.subtitling.proofs.Writing as writing
use Rattle.subtitling.proofs.Unplaced as unplaced
use Rattle.subtitling.proofs.SlotTheorems as slot-theorems
use Rattle.subtitling.proofs.BothWays as both_ways
use Rattle.subtitling.proofs.LentTheorems as lent-theorems
use Rattle.subtitling.proofs.Determined as determined

-- READING

-- The answer to a legal value's words is that value: its numbers,
pub the-answer : (v : Sdp) → Legal v → (r : Answer) → Reads (layout v) r
    → r ≡ record { refusal = accepted; packet = numbers_of v }
the-answer = accepting.the-answer

-- and its rows.
pub the-rows : (v : Sdp) → Legal v → (rows : List (List ℕ)) → ReadsRows (layout v) rows → rows ≡ rows_of v
the-rows = accepting.the-rows

-- Words are accepted exactly when some legal value has them as its layout.
pub accepted-exactly : (s : List ℕ) (r : Answer) → Reads s r
    → r.refusal.number ≡ 0 ↔ ((v : Sdp) × Legal v × (layout v ≡ s))
accepted-exactly = accepting.accepted-exactly

-- That value is the only one,
pub only_one : (v w : Sdp) → Legal v → Legal w → layout v ≡ layout w → v ≡ w
only_one = accepting.only_one

-- and its numbers and rows, put together, are the value.
pub held-together : (v : Sdp) → held (numbers_of v) (rows_of v) ≡ v
held-together = beside.held-together

-- A refusal tells the verdict of all checks.
pub refused-in-order : (s : List ℕ) (r : Answer) → Reads s r → r.refusal ≡ refusal_of (packet_verdict s)
refused-in-order = refusing.refused-in-order

-- These are made in the order of RULES, one line of `reading_checks` each: the first that finds a fault decides,
pub reading-order : (s : List ℕ) → packet_verdict s ≡ first (reading_checks s)
reading-order = sequence.reading-order

-- and the answer tells its number and place.
pub read_first : (s : List ℕ) (r : Answer) → Reads s r → r.refusal ≡ refusal_of (first (reading_checks s))
read_first = refusing.read_first

-- It comes without slots: all else in it is zero.
pub refused-zero : (s : List ℕ) (r : Answer) (rows : List (List ℕ)) → Reads s r → ReadsRows s rows
    → (r.refusal.number ≡ 0 → ⊥) → (r.packet ≡ numbers_of none) × (rows ≡ rows_of none)
refused-zero = refusing.refused-zero

-- Reading into a lent array answers the same, and leaves the rows in it, or in a refusal what it held.
pub read-into-as-read : (s : List ℕ) (lent : List (List ℕ)) (r : Answer) (exit : List (List ℕ))
    → ReadsInto s lent r exit
    → (a : Answer) (rows : List (List ℕ)) → Reads s a → ReadsRows s rows
    → (r ≡ a) × (a.refusal.number ≡ 0 → exit ≡ rows) × ((a.refusal.number ≡ 0 → ⊥) → exit ≡ lent)
read-into-as-read = lent-theorems.read-into-as-read

-- SIZES

-- A packet with k structures has 20 + 45k words, 20 to 245.
pub layout-size : (v : Sdp) → Legal v
    → (length (layout v) ≡ 20 + 45 * count (descriptors_of v.slots)) × (count (descriptors_of v.slots) ≤ 5)
layout-size = accepting.layout-size

pub accepted-size : (s : List ℕ) (r : Answer) → Reads s r → r.refusal.number ≡ 0
    → (k : ℕ) × (k ≤ 5) × (length s ≡ 20 + 45 * k)
accepted-size = accepting.accepted-size

-- Longer ones are refused with 1, shorter ones with 5, whatever they hold. The place is the number of words.
pub refused-1 : (s : List ℕ) (r : Answer) → Reads s r → 245 < length s → r.refusal ≡ refused 1 (length s)
refused-1 = refusing.refused-1

pub refused-5 : (s : List ℕ) (r : Answer) → Reads s r → length s < 20 → r.refusal ≡ refused 5 (length s)
refused-5 = refusing.refused-5

-- One of the right length whose first three words are not the flag is refused with 2, whatever follows, at the first of
-- them that is another.
pub refused-2 : (s : List ℕ) (r : Answer) → Reads s r → 20 ≤ length s → length s ≤ 245
    → (get_or s 0 0 ≡ 0x000 → get_or s 1 0 ≡ 0x3FF → get_or s 2 0 ≡ 0x3FF → ⊥)
    → (word : ℕ) × FlagBroken s word × (r.refusal ≡ refused 2 word)
refused-2 = refusing.refused-2

-- WHAT STANDS AT THE PLACE

-- A refusal's place is a word, or with 1 and 5 the number of words, and what is wrong there is a case of `Stands` with
-- its number, told of the words alone.
pub place-means : (s : List ℕ) (r : Answer) → Reads s r → (r.refusal.number ≡ 0 → ⊥)
    → Stands s r.refusal.number r.refusal.place
place-means = placed.place-means

-- Each case is a fault: where one stands, at any word, the packet is refused.
pub stands-refused : (s : List ℕ) (r : Answer) → Reads s r → (number word : ℕ) → Stands s number word
    → r.refusal.number ≡ 0 → ⊥
stands-refused = right-places.stands-refused

-- What is said of user byte i is said of the byte of word 6 + i.
pub user-byte : (s : List ℕ) → 20 ≤ length s → (i : ℕ) → i < length (user_in s)
    → get_or (user_in s) i 0 ≡ byte_of (get_or s (user_word 5 i) 0)
user-byte = right-places.user-byte

pub user-count : (s : List ℕ) → 20 ≤ length s → length (user_in s) ≡ length s - 7
user-count = sequence.length-user_in

-- A layout has the words and bytes that `Stands` asks for: the flag,
pub layout-flag : (v : Sdp) (i : ℕ) → i < 3 → get_or (layout v) i 0 ≡ get_or flag_words i 0
layout-flag = right-places.layout-flag

-- DID and SDID,
pub layout-identifier : (v : Sdp) (i : ℕ) → i < 2 → byte_of (get_or (layout v) (3 + i) 0) ≡ get_or identifier_bytes i 0
layout-identifier = right-places.layout-identifier

-- and the user bytes of the value, whose fixed bytes are on the page of `sdp` (`layout-constant`, `layout-run-in`).
pub layout-user : (v : Sdp) → Legal v → user_in (layout v) ≡ user_bytes v
layout-user = right-places.layout-user

-- WRITING

-- Writing succeeds exactly when the value is legal and the result fits limit and buffer.
pub writes-exactly : (p : Packet) (rows : List (List ℕ)) (out : List ℕ) (r : Written) (exit : List ℕ)
    → Writes p rows out r exit
    → r.refusal.number ≡ 0
    ↔ (Legal (held p rows) × (length (layout (held p rows)) ≤ 245) × (length (layout (held p rows)) ≤ length out))
writes-exactly = writing.writes-exactly

-- Then exactly the layout stands at the front of the buffer, and nothing else changed.
pub written-front : (p : Packet) (rows : List (List ℕ)) (out : List ℕ) (r : Written) (exit : List ℕ)
    → Writes p rows out r exit → r.refusal.number ≡ 0
    → (r ≡ written (length (layout (held p rows)))) × (exit ≡ over (layout (held p rows)) out)
written-front = writing.written-front

-- The checks are made in the order of RULES, one line of `writing_checks` each: the first that finds a fault decides,
pub writing-order : (v : Sdp) (room : ℕ) → value_verdict v room ≡ first (writing_checks v room)
writing-order = sequence.writing-order

-- and the answer tells its number.
pub write-first : (p : Packet) (rows : List (List ℕ)) (out : List ℕ) (r : Written) (exit : List ℕ)
    → Writes p rows out r exit → r.refusal ≡ refusal_of (first (writing_checks (held p rows) (length out)))
write-first = writing.write-first

-- Where the checks come to a slot that does not pass, it decides:
pub slot-decides : (p : Packet) (rows : List (List ℕ)) (out : List ℕ) (r : Written) (exit : List ℕ)
    → Writes p rows out r exit
    → (x : SlotRow) → Reached (held p rows) x
    → (slot_verdict x ≡ Accepted → ⊥) → r.refusal ≡ refusal_of (slot_verdict x)
slot-decides = slot-theorems.slot-decides

-- with 15 where one of its numbers cannot be held or it is unwritable,
pub slot-15 : (p : Packet) (rows : List (List ℕ)) (out : List ℕ) (r : Written) (exit : List ℕ)
    → Writes p rows out r exit
    → (x : SlotRow) → Reached (held p rows) x
    → (Holdable x → ⊥) → r.refusal ≡ refused 15 0
slot-15 = slot-theorems.slot-15

-- so for one that is full and has descriptor 0, and for one that is empty and holds something,
pub unwritable-15 : (p : Packet) (rows : List (List ℕ)) (out : List ℕ) (r : Written) (exit : List ℕ)
    → Writes p rows out r exit
    → (x : SlotRow) → Reached (held p rows) x
    → Unwritable x → r.refusal ≡ refused 15 0
unwritable-15 = slot-theorems.unwritable-15

-- and else with 7 where its line is 1 to 5 or 23 to 31.
pub slot-7 : (p : Packet) (rows : List (List ℕ)) (out : List ℕ) (r : Written) (exit : List ℕ)
    → Writes p rows out r exit
    → (x : SlotRow) → Reached (held p rows) x
    → Holdable x → NoLine x.slot.line → r.refusal ≡ refused 7 0
slot-7 = slot-theorems.slot-7

-- A value that is not legal is refused with 15 or 7.
pub illegal-refused : (p : Packet) (rows : List (List ℕ)) (out : List ℕ) (r : Written) (exit : List ℕ)
    → Writes p rows out r exit → (Legal (held p rows) → ⊥)
    → (r.refusal ≡ refused 15 0) ⊎ (r.refusal ≡ refused 7 0)
illegal-refused = writing.illegal-refused

-- A legal one is never too long, so that 1 is not given,
pub legal-short : (v : Sdp) → Legal v → length (layout v) ≤ 245
legal-short = writing.legal-short

-- and is refused with 14 where the buffer is too short.
pub no-room-refused : (p : Packet) (rows : List (List ℕ)) (out : List ℕ) (r : Written) (exit : List ℕ)
    → Writes p rows out r exit → Legal (held p rows)
    → length out < length (layout (held p rows)) → r.refusal ≡ refused 14 0
no-room-refused = writing.no-room-refused

-- Writing has no place to tell: it is 0, whatever the answer.
pub write-place : (p : Packet) (rows : List (List ℕ)) (out : List ℕ) (r : Written) (exit : List ℕ)
    → Writes p rows out r exit → r.refusal.place ≡ 0
write-place = unplaced.write-place

-- A refused call counted nothing and changed nothing.
pub refused-untouched : (p : Packet) (rows : List (List ℕ)) (out : List ℕ) (r : Written) (exit : List ℕ)
    → Writes p rows out r exit → (r.refusal.number ≡ 0 → ⊥) → (r.len ≡ 0) × (exit ≡ out)
refused-untouched = writing.refused-untouched

-- BOTH WAYS

-- Reading what was written gives the value back, number for number and row for row.
pub written_read : (p : Packet) (rows : List (List ℕ)) (out : List ℕ) (r : Written) (exit : List ℕ)
    → Writes p rows out r exit → r.refusal.number ≡ 0
    → (a : Answer) (back : List (List ℕ)) → Reads (take r.len exit) a → ReadsRows (take r.len exit) back
    → (a ≡ record { refusal = accepted; packet = p }) × (back ≡ rows)
written_read = both_ways.written_read

-- Writing what was read gives the words back.
pub read-written : (s : List ℕ) (a : Answer) (rows : List (List ℕ)) → Reads s a → ReadsRows s rows
    → a.refusal.number ≡ 0 → (out : List ℕ) (r : Written) (exit : List ℕ) → Writes a.packet rows out r exit
    → length s ≤ length out → (r ≡ written (length s)) × (exit ≡ over s out)
read-written = both_ways.read-written

-- LENT ROWS

-- The same of the functions that C calls, of the rows in lent arrays.

-- `read_into` accepts the same words.
pub into-exactly : (s : List ℕ) (lent : List (List ℕ)) (r : Answer) (exit : List (List ℕ)) → ReadsInto s lent r exit
    → r.refusal.number ≡ 0 ↔ ((v : Sdp) × Legal v × (layout v ≡ s))
into-exactly = lent-theorems.into-exactly

-- And the place of a refusal means the same.
pub into-place : (s : List ℕ) (lent : List (List ℕ)) (r : Answer) (exit : List (List ℕ)) → ReadsInto s lent r exit
    → (r.refusal.number ≡ 0 → ⊥) → Stands s r.refusal.number r.refusal.place
into-place = lent-theorems.into-place

-- Reading into lent rows what was written gives the same numbers and the same rows.
pub written-read-into : (p : Packet) (rows : List (List ℕ)) (out : List ℕ) (w : Written) (end : List ℕ)
    → Writes p rows out w end → w.refusal.number ≡ 0
    → (lent : List (List ℕ)) (r : Answer) (exit : List (List ℕ)) → ReadsInto (take w.len end) lent r exit
    → (r ≡ record { refusal = accepted; packet = p }) × (exit ≡ rows)
written-read-into = lent-theorems.written-read-into

-- Writing what was read into lent rows gives the words back.
pub read-into-written : (s : List ℕ) (lent : List (List ℕ)) (a : Answer) (exit : List (List ℕ))
    → ReadsInto s lent a exit → a.refusal.number ≡ 0
    → (out : List ℕ) (r : Written) (end : List ℕ) → Writes a.packet exit out r end
    → length s ≤ length out → (r ≡ written (length s)) × (end ≡ over s out)
read-into-written = lent-theorems.read-into-written

-- ONE ANSWER

-- For each function, two answers that keep its promise are equal, lent memory too. The first is `judge` of a packet's
-- words.
pub judge-determined : (s : List ℕ) (a b : Verdict) → a ≡ packet_verdict s → b ≡ packet_verdict s → a ≡ b
judge-determined = determined.judge-determined

pub read-determined : (s : List ℕ) (a b : Answer) → Reads s a → Reads s b → a ≡ b
read-determined = determined.read-determined

pub read-rows-determined : (s : List ℕ) (a b : List (List ℕ)) → ReadsRows s a → ReadsRows s b → a ≡ b
read-rows-determined = determined.read-rows-determined

pub read-into-determined : (s : List ℕ) (lent : List (List ℕ)) (a : Answer) (exit : List (List ℕ))
    → (b : Answer) (end : List (List ℕ)) → ReadsInto s lent a exit → ReadsInto s lent b end → (a ≡ b) × (exit ≡ end)
read-into-determined = determined.read-into-determined

-- And that of `judge` in `subtitling_writer`, of a value and the room for it.
pub judge-value-determined : (p : Packet) (rows : List (List ℕ)) (room : ℕ) (a b : Verdict)
    → a ≡ value_verdict (held p rows) room → b ≡ value_verdict (held p rows) room → a ≡ b
judge-value-determined = determined.judge-value-determined

pub write-determined : (p : Packet) (rows : List (List ℕ)) (out : List ℕ) (a : Written) (exit : List ℕ)
    → (b : Written) (end : List ℕ) → Writes p rows out a exit → Writes p rows out b end → (a ≡ b) × (exit ≡ end)
write-determined = determined.write-determined
