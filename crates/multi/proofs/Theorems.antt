-- The theorems of the multipacket (docs/RULES.md, "Demands" and "Multipacket").
-- How to read it: docs/NOTATION.md.
--
-- What they speak of is defined in specs/: a value and when it is legal in Value; its words in Layout, without the
-- reader; all checks in the order of RULES, as one list for reading and one for writing, in Order; what reading answers
-- in Reading, and writing in Writing; how a value is told by heads and words in Lent; where things stand in a
-- multipacket, and what a refusal tells of its place, in Places.
--
-- `ReadsInto s lent r exit` is the promise of `read_into` (crate multi_reader): to the words s it answers r, and in a
-- lent array that held `lent` it leaves `exit`. `Hands s i r` is that of `inner` (multi_reader): of the words s it
-- hands out r for inner packet i. `Writes t out r exit` is that of `write_from` (crate multi_writer): writing what is
-- told by t to an output that held `out` answers r and leaves `exit`. So each theorem speaks of every call.
-- Assumes nothing.
use Prim.Native.Nat.{ℕ, ◌+◌, ◌≤◌, ◌<◌}
use mathlib.Core.Path.{◌≡◌}
use mathlib.Core.Logic.{◌↔◌}
use mathlib.Core.Bool.{Bool}
use mathlib.Core.List.{List, [], map}
use lib.ListN.{length, get_or, take}
use Rattle.lists.specs.Bytes.{Bytes}
use Rattle.lists.specs.Room.{filled, over}
use Rattle.refusal.specs.Verdict.{Verdict}
use Rattle.refusal.specs.Verdict.{Accepted}
use Rattle.refusal.specs.declared.Written.{Written}
use Rattle.refusal.specs.Checks.{first}
use Rattle.refusal.specs.Numbers.{refusal_of}
use Rattle.refusal.specs.Answers.{accepted, refused, written}
use Rattle.multi.specs.declared.Answer.{Answer}
use Rattle.multi.specs.Value.{Inner, Multi, LegalInner, Legal, with_bytes, inner_words, user_count}
use Rattle.multi.specs.Layout.{layout_inner, layout}
use Rattle.multi.specs.Order.{subtitling_id, unplaced, reading_checks, writing_checks}
use Rattle.multi.specs.Reading.{multi_verdict}
use Rattle.multi.specs.Lent.{heads_of, no_head, Told, stored, held, LegalTold, ReadsInto, Hands}
use Rattle.multi.specs.Writing.{value_verdict, Writes, ValueRefused}
use Rattle.multi.specs.Places.{Stands, FixedWords}
use Rattle.multi.proofs.Inner as inner_laws
use Rattle.multi.proofs.Whole as whole
use Rattle.multi.proofs.Lending as lending
use Rattle.multi.proofs.Accepting as accepting
use Rattle.multi.proofs.Placed as placed
use Rattle.multi.proofs.Writing as writing
use Rattle.multi.proofs.BothWays as both_ways
use Rattle.multi.proofs.Determined as determined

-- READING

-- The answer to a legal value's words is that value: the priority, how many inner packets there are, and a head for
-- each in the lent array, zeros behind them. A head says where the user words stand in the words that were read.
pub the-answer : (v : Multi) → Legal v
    → (lent : List (List ℕ)) (r : Answer) (exit : List (List ℕ)) → ReadsInto (layout v) lent r exit
    → (r ≡ record { refusal = accepted; priority = v.priority; n = length v.inners })
    × (exit ≡ filled (heads_of 7 v.inners) 50 no_head)
the-answer = accepting.the-answer

-- Words are accepted exactly when some legal value has them as its layout.
pub accepted-exactly : (s : List ℕ) (lent : List (List ℕ)) (r : Answer) (exit : List (List ℕ))
    → ReadsInto s lent r exit → r.refusal.number ≡ 0 ↔ ((v : Multi) × Legal v × (layout v ≡ s))
accepted-exactly = accepting.accepted-exactly

-- That value is the only one,
pub only_one : (v w : Multi) → Legal v → Legal w → layout v ≡ layout w → v ≡ w
only_one = accepting.only_one

-- its heads and its words tell it again,
pub stored-held : (v : Multi) → Legal v → held (stored v) ≡ v
stored-held = lending.stored-held

-- and so told it is legal.
pub stored-legal : (v : Multi) → Legal v → LegalTold (stored v)
stored-legal = lending.stored-legal

-- What is not a subtitling packet's is carried: with any other bytes such an inner packet is as legal.
pub any-bytes : (x : Inner) (bytes : List ℕ) → Bytes bytes → (x.did ≡ 0x43 → x.sdid ≡ 0x02 → ⊥)
    → LegalInner x → LegalInner (with_bytes x bytes)
any-bytes = accepting.any-bytes

-- Of an accepted multipacket inner packet i is handed out whole, from LINE/FIELD to NCS, and nothing behind the last;
pub handed-inner : (v : Multi) → Legal v → (i : ℕ) (r : List ℕ) → Hands (layout v) i r
    → r ≡ get_or (map layout_inner v.inners) i []
handed-inner = accepting.handed-inner

-- of any other nothing is.
pub handed-refused : (s : List ℕ) (i : ℕ) (r : List ℕ) → Hands s i r → (multi_verdict s ≡ Accepted → ⊥) → r ≡ []
handed-refused = accepting.handed-refused

-- The checks are made in the order of RULES, one line of `reading_checks` (specs/Order) each: the first that finds a
-- fault decides,
pub reading-order : (s : List ℕ) → multi_verdict s ≡ first (reading_checks s)
reading-order = accepting.reading-order

-- and the answer tells its number and place.
pub read_first : (s : List ℕ) (lent : List (List ℕ)) (r : Answer) (exit : List (List ℕ)) → ReadsInto s lent r exit
    → r.refusal ≡ refusal_of (first (reading_checks s))
read_first = accepting.read_first

-- A refusal comes without inner packets: the numbers are zero, and the lent array is as it was.
pub refused-zero : (s : List ℕ) (lent : List (List ℕ)) (r : Answer) (exit : List (List ℕ)) → ReadsInto s lent r exit
    → (r.refusal.number ≡ 0 → ⊥) → (r.priority ≡ 0) × (r.n ≡ 0) × (exit ≡ lent)
refused-zero = accepting.refused-zero

-- WHAT STANDS AT THE PLACE

-- The place of a refusal is the word at which the failing item begins: there stands what `Stands` (specs/Places) says
-- of its number.
pub place-means : (s : List ℕ) (lent : List (List ℕ)) (r : Answer) (exit : List (List ℕ)) → ReadsInto s lent r exit
    → (r.refusal.number ≡ 0 → ⊥) → Stands s r.refusal.number r.refusal.place
place-means = placed.place-means

-- Each case is a fault: where one stands, at any word, the multipacket is refused.
pub stands-refused : (s : List ℕ) (lent : List (List ℕ)) (r : Answer) (exit : List (List ℕ)) → ReadsInto s lent r exit
    → (number word : ℕ) → Stands s number word → r.refusal.number ≡ 0 → ⊥
stands-refused = placed.stands-refused

-- WHAT THE LAYOUT HAS THERE

-- In the layout of every legal value the flag, DID and SDID stand at their words; and in each inner packet b6 and b7 of
-- LINE/FIELD are zero, and NCS is CS over the words from NDID to the last user word.
pub layout-fixed : (v : Multi) → Legal v → FixedWords (layout v)
layout-fixed = placed.layout-fixed

-- SIZES

-- A value takes seven words beside its user words, the priority among these,
pub layout-size : (v : Multi) → length (layout v) ≡ 7 + user_count v
layout-size = whole.length-multi

-- an inner packet five beside its own user words,
pub inner-size : (x : Inner) → length (layout_inner x) ≡ inner_words x
inner-size = inner_laws.length-inner

-- and a legal value has 50 inner packets at the most.
pub most-inners : (v : Multi) → Legal v → length v.inners ≤ 50
most-inners = accepting.most-inners

-- WRITING

-- Writing succeeds exactly when the value is legal and the result fits the buffer.
pub writes-exactly : (t : Told) (out : List ℕ) (r : Written) (exit : List ℕ) → Writes t out r exit
    → r.refusal.number ≡ 0 ↔ (LegalTold t × (length (layout (held t)) ≤ length out))
writes-exactly = writing.writes-exactly

-- Then exactly the layout stands at the front of the buffer, and nothing else changed.
pub written-front : (t : Told) (out : List ℕ) (r : Written) (exit : List ℕ) → Writes t out r exit
    → r.refusal.number ≡ 0 → (r ≡ written (length (layout (held t)))) × (exit ≡ over (layout (held t)) out)
written-front = writing.written-front

-- The checks are made in the order of RULES, one line of `writing_checks` (specs/Order) each: the first that finds a
-- fault decides,
pub writing-order : (t : Told) (room : ℕ)
    → value_verdict t room ≡ first (writing_checks t.priority t.heads t.words (held t) room)
writing-order = writing.writing-order

-- and the answer tells its number.
pub write-first : (t : Told) (out : List ℕ) (r : Written) (exit : List ℕ) → Writes t out r exit
    → r.refusal ≡ refusal_of (first (writing_checks t.priority t.heads t.words (held t) (length out)))
write-first = writing.write-first

-- A value that is not legal is refused with one of 5, 6, 7, 11, 12, 13, 15, 20 and 26, whatever the buffer,
pub illegal-refused : (t : Told) (out : List ℕ) (r : Written) (exit : List ℕ) → Writes t out r exit
    → (LegalTold t → ⊥) → ValueRefused r.refusal
illegal-refused = writing.illegal-refused

-- and a legal one with 14, where the buffer is too short.
pub no-room-refused : (t : Told) (out : List ℕ) (r : Written) (exit : List ℕ) → Writes t out r exit
    → LegalTold t → length out < length (layout (held t)) → r.refusal ≡ refused 14 0
no-room-refused = writing.no-room-refused

-- Writing has no place to tell: it is 0, whatever the answer.
pub write-place : (t : Told) (out : List ℕ) (r : Written) (exit : List ℕ) → Writes t out r exit
    → r.refusal.place ≡ 0
write-place = writing.write-place

-- A refused call counted nothing and changed nothing.
pub refused-untouched : (t : Told) (out : List ℕ) (r : Written) (exit : List ℕ) → Writes t out r exit
    → (r.refusal.number ≡ 0 → ⊥) → (r.len ≡ 0) × (exit ≡ out)
refused-untouched = writing.refused-untouched

-- BOTH WAYS

-- Reading what was written gives the value back: its priority, and for each inner packet that was told a head with the
-- same numbers, which says where its user words stand now.
pub written_read : (t : Told) (out : List ℕ) (w : Written) (end : List ℕ) → Writes t out w end → w.refusal.number ≡ 0
    → (lent : List (List ℕ)) (r : Answer) (exit : List (List ℕ)) → ReadsInto (take w.len end) lent r exit
    → (r ≡ record { refusal = accepted; priority = t.priority; n = length t.heads })
    × (exit ≡ filled (heads_of 7 (held t).inners) 50 no_head)
written_read = both_ways.written_read

-- Writing what was read, with its heads and the very words that were read, gives these words back.
pub read-written : (s : List ℕ) (lent : List (List ℕ)) (a : Answer) (exit : List (List ℕ)) → ReadsInto s lent a exit
    → a.refusal.number ≡ 0
    → (out : List ℕ) (r : Written) (end : List ℕ)
    → Writes (record { priority = a.priority; heads = take a.n exit; words = s }) out r end
    → length s ≤ length out → (r ≡ written (length s)) × (end ≡ over s out)
read-written = both_ways.read-written

-- ONE ANSWER

-- For each function, two answers that keep its promise are equal, lent memory too: those of multi_reader and
-- multi_writer,
pub read-into-determined : (s : List ℕ) (lent : List (List ℕ)) (a : Answer) (exit : List (List ℕ))
    (b : Answer) (end : List (List ℕ))
    → ReadsInto s lent a exit → ReadsInto s lent b end → (a ≡ b) × (exit ≡ end)
read-into-determined = determined.read-into-determined

pub inner-determined : (s : List ℕ) (i : ℕ) (a b : List ℕ) → Hands s i a → Hands s i b → a ≡ b
inner-determined = determined.inner-determined

pub write-determined : (t : Told) (out : List ℕ) (a : Written) (exit : List ℕ) (b : Written) (end : List ℕ)
    → Writes t out a exit → Writes t out b end → (a ≡ b) × (exit ≡ end)
write-determined = determined.write-determined

-- of multi_judge,
pub judge-determined : (s : List ℕ) (a b : Verdict) → a ≡ multi_verdict s → b ≡ multi_verdict s → a ≡ b
judge-determined = determined.judge-determined

-- and of multi.
pub is-subtitling-determined : (did sdid : ℕ) (a b : Bool)
    → a ≡ subtitling_id did sdid → b ≡ subtitling_id did sdid → a ≡ b
is-subtitling-determined = determined.is-subtitling-determined

pub unplaced-determined : (verdict a b : Verdict) → a ≡ unplaced verdict → b ≡ unplaced verdict → a ≡ b
unplaced-determined = determined.unplaced-determined
