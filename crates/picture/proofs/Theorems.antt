-- The theorems of the picture area (docs/RULES.md, "Demands", "Picture area", "GA94"): what a signer for areas signs.
-- Each holds for both kinds of caption unit, SCTE 20 and GA94: `k` is the kind. How to read it: docs/NOTATION.md.
--
-- What they speak of is defined in specs/: in Kinds, for each kind, its content, which crates `scte20` and `ga94`
-- define (their pages have the sizes and the zero run); an area's value, when it is legal, its bytes, and the value
-- with another caption unit in Value, without the reader; what reading answers in Reading, and in a lent array in Lent;
-- what writing and replacing answer and leave in Writing; all checks in the order of RULES, as one list for each of the
-- three, in Order. Which units are ours stands in crate `kind`; units and start codes in `units`.
--
-- `Reads k s r` is the promise of `read`, which is there for SCTE 20: r is the answer to the bytes s. `Writes k u out r
-- exit` is that of writing: writing the unit u to an output that held `out` answers r and leaves `exit`. `Replaces k s
-- u out r exit` says the same of replacing, which puts u into the area s. So each theorem speaks of every call.
-- `write_from` and `replace_from` of crates `picture_writer` and, for GA94, `ga94_picture_writer` promise `Writes` and
-- `Replaces` of the value that they are lent (`unit_in`), and `read_into` and `ga94_read_into` promise `ReadsInto`,
-- which gives what reading answers (`read-into-as-read`): the theorems speak of them too. Assumes nothing.
use Prim.Native.Nat.{ℕ, ◌*◌, ◌≤◌, ◌<◌}
use mathlib.Core.Path.{◌≡◌}
use mathlib.Core.Logic.{◌↔◌}
use mathlib.Core.Bool.{true, false}
use mathlib.Core.List.{List, [], ◌∷◌, ◌++◌}
use lib.ListN.{length, get_or, take, drop}
use Rattle.lists.specs.Each.{Each}
use Rattle.lists.specs.Bytes.{Bytes}
use Rattle.lists.specs.Room.{filled, over}
use Rattle.refusal.specs.declared.Reason.{Reason}
use Rattle.refusal.specs.declared.Item.{Item}
use Rattle.refusal.specs.declared.Item.TheVariants.{Bit}
use Rattle.refusal.specs.Verdict.{Accepted, Refused}
use Rattle.refusal.specs.declared.Written.{Written}
use Rattle.refusal.specs.Numbers.{number_of, refusal_of}
use Rattle.refusal.specs.Checks.{first}
use Rattle.refusal.specs.Answers.{accepted, refused, written}
use Rattle.bits.specs.Bits.{bits_of}
use Rattle.units.specs.Layout.{Clean, start_code}
use Rattle.units.specs.Layout as units
use Rattle.units.specs.Split.{bodies_of, of_kind}
use Rattle.kind.specs.declared.Kind.{Kind}
use Rattle.kind.specs.declared.Kind.TheVariants.{Scte20}
use Rattle.kind.specs.Ours.{group_type, grouped, ours}
use Rattle.scte20.specs.Value.{flag_byte}
use Rattle.picture.specs.Kinds.{Content, LegalContent, none, body_of, content_verdict, Stands}
use Rattle.picture.specs.Kinds.{CaptionUnit, stored, held, LegalCaptionUnit, stuffing, whole_verdict, write_verdict}
use Rattle.picture.specs.Kinds.{ForValue, Numbers, count, width, places, unit_in, bytes_of}
use Rattle.picture.specs.Value.{Area, uncaptioned, captioned, bodies, layout, Foreign, Legal, replaced, foreign_of}
use Rattle.picture.specs.Reading.{area_verdict, Answer, shown, Reads, Alike}
use Rattle.picture.specs.Lent.{Head, head_of, ReadsInto}
use Rattle.picture.specs.declared.Old.{Old}
use Rattle.picture.specs.Inside.{ReadsOld}
use Rattle.picture.specs.Writing.{unit_bytes, Writes, replace_verdict, Replaces}
use Rattle.picture.specs.Places.{area_bit, InUnit}
use Rattle.picture.specs.Order.{reading_checks, writing_checks, replacing_checks}
use Rattle.picture.proofs.Accepting as accepting
use Rattle.picture.proofs.Unique as unique
use Rattle.picture.proofs.Sequence as sequence
use Rattle.picture.proofs.Refusing as refusing
use Rattle.picture.proofs.Standing as standing
use Rattle.picture.proofs.Contents as contents
use Rattle.picture.proofs.CleanBody as clean-body
use Rattle.picture.proofs.Writing as writing
use Rattle.picture.proofs.Replaced as value-replaced
use Rattle.picture.proofs.Replacing as replacing
use Rattle.picture.proofs.Beside as beside
use Rattle.picture.proofs.Groups as groups
use Rattle.picture.proofs.LentBack as lent_back
use Rattle.picture.proofs.Determined as determined

-- ACCEPTED EXACTLY WHEN

-- Bytes are accepted exactly when foreign units and at most one legal caption unit have them as their layout.
pub accepted-exactly : (k : Kind) (s : List ℕ) (r : Answer k) → Reads k s r
    → r.refusal.number ≡ 0 ↔ ((v : Area k) × Legal k v × (layout k v ≡ s))
accepted-exactly = accepting.accepted-exactly

-- That value, each foreign unit's bytes among it, is the only one,
pub only_one : (k : Kind) (v w : Area k) → Legal k v → Legal k w → layout k v ≡ layout k w → v ≡ w
only_one = unique.only_one

-- and the answer shows it: its caption unit, or that there is none.
pub the-answer : (k : Kind) (v : Area k) → Legal k v → (r : Answer k) → Reads k (layout k v) r → r ≡ shown k v
the-answer = accepting.the-answer

-- Both at once, of bytes that were accepted.
pub the_value : (k : Kind) (s : List ℕ) (r : Answer k) → Reads k s r → r.refusal.number ≡ 0
    → (v : Area k) × Legal k v × (layout k v ≡ s) × (r ≡ shown k v)
the_value = accepting.the_value

-- WHICH REFUSAL

-- A refusal tells the verdict of all checks,
pub refused-in-order : (k : Kind) (s : List ℕ) (r : Answer k) → Reads k s r → r.refusal ≡ refusal_of (area_verdict k s)
refused-in-order = accepting.refused-in-order

-- which stand in the order of RULES, one line of `reading_checks` (specs/Order) each: 1, 2, 3, 4, then those of the
-- caption content, as the pages of scte20 and ga94 have them. The first that finds a fault decides,
pub reading-order : (k : Kind) (s : List ℕ) → area_verdict k s ≡ first (reading_checks k s)
reading-order = sequence.reading-order

-- the answer tells its number and place,
pub read_first : (k : Kind) (s : List ℕ) (r : Answer k) → Reads k s r
    → r.refusal ≡ refusal_of (first (reading_checks k s))
read_first = accepting.read_first

-- and comes without records: all else in it is zero.
pub refused-zero : (k : Kind) (s : List ℕ) (r : Answer k) → Reads k s r → (r.refusal.number ≡ 0 → ⊥)
    → (r.present ≡ false) × (r.unit ≡ stored k (none k))
refused-zero = refusing.refused-zero

-- 1: longer than 16,384 bytes, whatever they are.
pub refused-1 : (k : Kind) (s : List ℕ) (r : Answer k) → Reads k s r → 16384 < length s → r.refusal ≡ refused 1 0
refused-1 = refusing.refused-1

-- 2: a non-empty area that does not begin 00 00 01 B2.
pub refused-2 : (k : Kind) (s : List ℕ) (r : Answer k) → Reads k s r → length s ≤ 16384
    → 0 < length s → (take 4 s ≡ start_code → ⊥) → r.refusal ≡ refused 2 0
refused-2 = refusing.refused-2

-- 3: 00 00 01 anywhere, also at the very end, that is not followed by B2.
pub refused-3 : (k : Kind) (s front rest : List ℕ) (r : Answer k) → Reads k s r → length s ≤ 16384
    → take 4 s ≡ start_code → s ≡ front ++ (0 ∷ 0 ∷ 1 ∷ rest) → (take 1 rest ≡ 0xB2 ∷ [] → ⊥) → r.refusal ≡ refused 3 0
refused-3 = refusing.refused-3

-- 4: two caption units or more, whatever they hold.
pub refused-4 : (k : Kind) (bs : List (List ℕ)) (r : Answer k) → Reads k (units.layout bs) r → Each Clean bs
    → length (units.layout bs) ≤ 16384 → 2 ≤ length (of_kind (ours k) bs) → r.refusal ≡ refused 4 0
refused-4 = refusing.refused-4

-- 5 on: the caption unit's own, at the bit of the area where the failing element of its body begins, and there stands
-- what `Stands` (specs/Kinds) says of the number.
pub refused-content : (k : Kind) (before : List (List ℕ)) (body : List ℕ) (after : List (List ℕ)) (r : Answer k)
    → Reads k (units.layout (before ++ (body ∷ after))) r
    → Each (Foreign k) before → Clean body → ours k body ≡ true → Each (Foreign k) after
    → length (units.layout (before ++ (body ∷ after))) ≤ 16384
    → (reason : Reason) (item : Item) → content_verdict k body ≡ Refused reason item
    → (bit : ℕ) × (r.refusal ≡ refused (number_of reason) (area_bit before bit)) × (item ≡ Bit bit)
    × Stands k body (number_of reason) bit
refused-content = refusing.refused-content

-- WHAT STANDS AT THE PLACE

-- 1 to 4 have place 0.
pub place-outside : (k : Kind) (s : List ℕ) (r : Answer k) → Reads k s r
    → r.refusal.number ≤ 4 → r.refusal.place ≡ 0
place-outside = standing.place-outside

-- Every other refusal comes from inside the body of the only caption unit. The place is a bit of that body, counted
-- from the area's first, and there stands what is wrong (`InUnit`, specs/Places): for each number, from the bits alone,
-- what `Stands` of crates `scte20` and `ga94` says. 6 is not among them.
pub place_inside : (k : Kind) (s : List ℕ) (r : Answer k) → Reads k s r
    → 5 ≤ r.refusal.number → InUnit k s r.refusal.number r.refusal.place
place_inside = standing.place_inside

-- Each case is a fault: where one stands, at any bit of the caption unit's body, the area is refused.
pub stands-refused : (k : Kind) (s : List ℕ) (r : Answer k) → Reads k s r
    → (number place : ℕ) → InUnit k s number place → r.refusal.number ≡ 0 → ⊥
stands-refused = standing.stands-refused

-- From that place on the area has the bits of the body from that bit on, and then those of the units behind it.
pub area-bits : (before : List (List ℕ)) (body : List ℕ) (after : List (List ℕ)) (bit : ℕ) → bit ≤ 8 * length body
    → drop (area_bit before bit) (bits_of (units.layout (before ++ (body ∷ after))))
    ≡ drop bit (bits_of body) ++ bits_of (units.layout after)
area-bits = standing.area-bits

-- NO START CODE IS MADE

-- No legal caption unit's body, stuffing too, holds 00 00 01, so that in an area it is one unit and the units around it
-- are what they were.
pub legal-clean : (k : Kind) (c : Content k) → LegalContent k c → Clean (body_of k c)
legal-clean = clean-body.legal-clean

-- And it is of its kind: no legal value's layout is foreign.
pub caption-ours : (k : Kind) (c : Content k) → LegalContent k c → ours k (body_of k c) ≡ true
caption-ours = contents.caption-ours

-- WRITING A UNIT

-- Writing succeeds exactly when the value is legal and the unit, with its start code and its stuffing, fits limit and
-- buffer.
pub writes-exactly : (k : Kind) (u : CaptionUnit k) (out : List ℕ) (r : Written) (exit : List ℕ) → Writes k u out r exit
    → r.refusal.number ≡ 0
    ↔ (LegalCaptionUnit k u
    × (length (unit_bytes k (held k u)) ≤ 16384)
    × (length (unit_bytes k (held k u)) ≤ length out))
writes-exactly = writing.writes-exactly

-- Then exactly the unit stands at the front of the buffer, and nothing else changed.
pub written-front : (k : Kind) (u : CaptionUnit k) (out : List ℕ) (r : Written) (exit : List ℕ) → Writes k u out r exit
    → r.refusal.number ≡ 0
    → (r ≡ written (length (unit_bytes k (held k u)))) × (exit ≡ over (unit_bytes k (held k u)) out)
written-front = writing.written-front

-- A refusal tells the verdict of all checks.
pub write-in-order : (k : Kind) (u : CaptionUnit k) (out : List ℕ) (r : Written) (exit : List ℕ) → Writes k u out r exit
    → r.refusal ≡ refusal_of (write_verdict k u (length (unit_bytes k (held k u))) (length out))
write-in-order = writing.write-in-order

-- These stand in the order of RULES, one line of `writing_checks` each. The first that finds a fault decides,
pub writing-order : (k : Kind) (u : CaptionUnit k) (room : ℕ)
    → write_verdict k u (length (unit_bytes k (held k u))) room ≡ first (writing_checks k u room)
writing-order = sequence.writing-order

-- and the answer tells its number,
pub write-first : (k : Kind) (u : CaptionUnit k) (out : List ℕ) (r : Written) (exit : List ℕ) → Writes k u out r exit
    → r.refusal ≡ refusal_of (first (writing_checks k u (length out)))
write-first = writing.write-first

-- with place 0, whatever the value:
pub write-place : (k : Kind) (u : CaptionUnit k) (out : List ℕ) (r : Written) (exit : List ℕ) → Writes k u out r exit
    → r.refusal.place ≡ 0
write-place = writing.write-place

-- 15 for a fault of the whole value, whatever the records;
pub write-15 : (k : Kind) (u : CaptionUnit k) (out : List ℕ) (r : Written) (exit : List ℕ) → Writes k u out r exit
    → (whole_verdict k u ≡ Accepted → ⊥) → r.refusal ≡ refused 15 0
write-15 = writing.write-15

-- 15, 7, 8 or 9 for an SCTE 20 value that is not legal, 15 or 16 for one of GA94;
pub illegal-refused : (k : Kind) (u : CaptionUnit k) (out : List ℕ) (r : Written) (exit : List ℕ)
    → Writes k u out r exit → (LegalCaptionUnit k u → ⊥) → ForValue k r.refusal
illegal-refused = writing.illegal-refused

-- 1 for a legal one that is too long, whatever the buffer;
pub write-1 : (k : Kind) (u : CaptionUnit k) (out : List ℕ) (r : Written) (exit : List ℕ) → Writes k u out r exit
    → LegalCaptionUnit k u → stuffing k u ≤ 16384 → 16384 < length (unit_bytes k (held k u)) → r.refusal ≡ refused 1 0
write-1 = writing.write-1

-- 14 where the buffer is too short.
pub write-14 : (k : Kind) (u : CaptionUnit k) (out : List ℕ) (r : Written) (exit : List ℕ) → Writes k u out r exit
    → LegalCaptionUnit k u → length (unit_bytes k (held k u)) ≤ 16384 → length out < length (unit_bytes k (held k u))
    → r.refusal ≡ refused 14 0
write-14 = writing.write-14

-- A refused call counted nothing and changed nothing.
pub write-untouched : (k : Kind) (u : CaptionUnit k) (out : List ℕ) (r : Written) (exit : List ℕ)
    → Writes k u out r exit → (r.refusal.number ≡ 0 → ⊥) → (r.len ≡ 0) × (exit ≡ out)
write-untouched = writing.write-untouched

-- Reading what was written gives the value back.
pub written_read : (k : Kind) (u : CaptionUnit k) (out : List ℕ) (r : Written) (exit : List ℕ) → Writes k u out r exit
    → r.refusal.number ≡ 0
    → (a : Answer k) → Reads k (take r.len exit) a → a ≡ shown k (captioned [] (held k u) [])
written_read = writing.written_read

-- Writing what was read gives the unit's bytes.
pub read-written : (k : Kind) (before : List (List ℕ)) (c : Content k) (after : List (List ℕ))
    → Legal k (captioned before c after)
    → (a : Answer k) → Reads k (layout k (captioned before c after)) a
    → (out : List ℕ) (r : Written) (exit : List ℕ) → Writes k a.unit out r exit → length (unit_bytes k c) ≤ length out
    → (r ≡ written (length (unit_bytes k c))) × (exit ≡ over (unit_bytes k c) out)
read-written = writing.read-written

-- REPLACING

-- A replacement succeeds exactly when the area is accepted, the new value is legal, and the new area fits limit and
-- buffer. So it is refused only where a check of RULES refuses.
pub replaces-exactly : (k : Kind) (s : List ℕ) (u : CaptionUnit k) (out : List ℕ) (r : Written) (exit : List ℕ)
    → Replaces k s u out r exit
    → r.refusal.number ≡ 0
    ↔ ((v : Area k) × Legal k v × (layout k v ≡ s) × LegalCaptionUnit k u
    × (length (layout k (replaced k v (held k u))) ≤ 16384)
    × (length (layout k (replaced k v (held k u))) ≤ length out))
replaces-exactly = replacing.replaces-exactly

-- Then the new area stands at the front of the buffer, and nothing else changed. It has the new caption unit's exact
-- layout in the place of the old one, or, where there was none, behind all units (`replaced`), and it is legal.
pub the-new-area : (k : Kind) (v : Area k) → Legal k v
    → (u : CaptionUnit k) (out : List ℕ) (r : Written) (exit : List ℕ)
    → Replaces k (layout k v) u out r exit → r.refusal.number ≡ 0
    → (r ≡ written (length (layout k (replaced k v (held k u)))))
    × (exit ≡ over (layout k (replaced k v (held k u))) out)
    × Legal k (replaced k v (held k u))
the-new-area = replacing.the-new-area

-- Each foreign unit keeps its bytes and its place in the order.
pub foreign_kept : (k : Kind) (v : Area k) (c : Content k) → foreign_of k (replaced k v c) ≡ foreign_of k v
foreign_kept = value-replaced.foreign_kept

-- So the unit that has number i in the area, where it is foreign, has number i in the new area, byte for byte.
pub foreign-stays : (k : Kind) (s : List ℕ) (u : CaptionUnit k) (out : List ℕ) (r : Written) (exit : List ℕ)
    → Replaces k s u out r exit → r.refusal.number ≡ 0
    → (i : ℕ) → i < length (bodies_of s) → ours k (get_or (bodies_of s) i []) ≡ false
    → (i < length (bodies_of (take r.len exit)))
    × (get_or (bodies_of (take r.len exit)) i [] ≡ get_or (bodies_of s) i [])
foreign-stays = groups.foreign-stays

-- Cut into units, the new area is those of its value.
pub new-units : (k : Kind) (v : Area k) → Legal k v → (u : CaptionUnit k) (out : List ℕ) (r : Written) (exit : List ℕ)
    → Replaces k (layout k v) u out r exit → r.refusal.number ≡ 0
    → bodies_of (take r.len exit) ≡ bodies k (replaced k v (held k u))
new-units = replacing.new-units

-- Reading the new area gives the new value.
pub replaced-read : (k : Kind) (v : Area k) → Legal k v
    → (u : CaptionUnit k) (out : List ℕ) (r : Written) (exit : List ℕ)
    → Replaces k (layout k v) u out r exit → r.refusal.number ≡ 0
    → (a : Answer k) → Reads k (take r.len exit) a → a ≡ shown k (replaced k v (held k u))
replaced-read = replacing.replaced-read

-- Replacing, and putting back what was read before, gives the area byte for byte.
pub put_back : (k : Kind) (v : Area k) → Legal k v → (a : Answer k) → Reads k (layout k v) a → a.present ≡ true
    → (u : CaptionUnit k) (out : List ℕ) (r : Written) (exit : List ℕ)
    → Replaces k (layout k v) u out r exit → r.refusal.number ≡ 0
    → (room : List ℕ) (again : Written) (end : List ℕ)
    → Replaces k (take r.len exit) a.unit room again end → length (layout k v) ≤ length room
    → (again ≡ written (length (layout k v))) × (end ≡ over (layout k v) room)
put_back = replacing.put_back

-- A refusal tells the verdict of all checks.
pub replace-in-order : (k : Kind) (s : List ℕ) (u : CaptionUnit k) (out : List ℕ) (r : Written) (exit : List ℕ)
    → Replaces k s u out r exit → r.refusal ≡ refusal_of (replace_verdict k s u (length out))
replace-in-order = replacing.replace-in-order

-- These stand in the order of RULES: all of reading the area, then all of writing, with 1 and 14 on the whole new area.
-- The first in `replacing_checks` that finds a fault decides,
pub replacing-order : (k : Kind) (s : List ℕ) (u : CaptionUnit k) (room : ℕ)
    → replace_verdict k s u room ≡ first (replacing_checks k s u room)
replacing-order = sequence.replacing-order

-- and the answer tells its number and place:
pub replace-first : (k : Kind) (s : List ℕ) (u : CaptionUnit k) (out : List ℕ) (r : Written) (exit : List ℕ)
    → Replaces k s u out r exit → r.refusal ≡ refusal_of (first (replacing_checks k s u (length out)))
replace-first = replacing.replace-first

-- the one of reading the area, with its place, whatever the new value;
pub refused-as-read : (k : Kind) (s : List ℕ) (u : CaptionUnit k) (out : List ℕ) (r : Written) (exit : List ℕ)
    → Replaces k s u out r exit
    → (a : Answer k) → Reads k s a → (a.refusal.number ≡ 0 → ⊥) → r.refusal ≡ a.refusal
refused-as-read = replacing.refused-as-read

-- behind it, where the area is accepted, none with a place:
pub replace-place : (k : Kind) (s : List ℕ) (u : CaptionUnit k) (out : List ℕ) (r : Written) (exit : List ℕ)
    → Replaces k s u out r exit
    → (a : Answer k) → Reads k s a → a.refusal.number ≡ 0 → r.refusal.place ≡ 0
replace-place = replacing.replace-place

-- then 15 for a fault of the whole value, whatever the records;
pub replace-15 : (k : Kind) (v : Area k) → Legal k v → (u : CaptionUnit k) (out : List ℕ) (r : Written) (exit : List ℕ)
    → Replaces k (layout k v) u out r exit → (whole_verdict k u ≡ Accepted → ⊥) → r.refusal ≡ refused 15 0
replace-15 = replacing.replace-15

-- 15, 7, 8 or 9 for an SCTE 20 value that is not legal, 15 or 16 for one of GA94;
pub replace-illegal : (k : Kind) (v : Area k) → Legal k v
    → (u : CaptionUnit k) (out : List ℕ) (r : Written) (exit : List ℕ)
    → Replaces k (layout k v) u out r exit → (LegalCaptionUnit k u → ⊥) → ForValue k r.refusal
replace-illegal = replacing.replace-illegal

-- then 1 where the new area is too long, whatever the buffer,
pub replace-1 : (k : Kind) (v : Area k) → Legal k v → (u : CaptionUnit k) (out : List ℕ) (r : Written) (exit : List ℕ)
    → Replaces k (layout k v) u out r exit → LegalCaptionUnit k u → stuffing k u ≤ 16384
    → 16384 < length (layout k (replaced k v (held k u))) → r.refusal ≡ refused 1 0
replace-1 = replacing.replace-1

-- and 14 where the buffer is too short.
pub replace-14 : (k : Kind) (v : Area k) → Legal k v → (u : CaptionUnit k) (out : List ℕ) (r : Written) (exit : List ℕ)
    → Replaces k (layout k v) u out r exit → LegalCaptionUnit k u → length (layout k (replaced k v (held k u))) ≤ 16384
    → length out < length (layout k (replaced k v (held k u))) → r.refusal ≡ refused 14 0
replace-14 = replacing.replace-14

-- A refused call counted nothing and changed nothing.
pub replace-untouched : (k : Kind) (s : List ℕ) (u : CaptionUnit k) (out : List ℕ) (r : Written) (exit : List ℕ)
    → Replaces k s u out r exit → (r.refusal.number ≡ 0 → ⊥) → (r.len ≡ 0) × (exit ≡ out)
replace-untouched = replacing.replace-untouched

-- DATA GROUPS

-- A unit whose body begins 03 09 or 03 0A (`grouped`, crate `kind`) is a foreign unit, to either kind.
pub group-foreign : (k : Kind) (s : List ℕ) → Bytes s → Clean s → grouped s ≡ true → Foreign k s
group-foreign = groups.group-foreign

-- Wherever it stands, it passes through every replacement, byte for byte, and keeps its number.
pub group-stays : (k : Kind) (s : List ℕ) (u : CaptionUnit k) (out : List ℕ) (r : Written) (exit : List ℕ)
    → Replaces k s u out r exit → r.refusal.number ≡ 0
    → (i : ℕ) → i < length (bodies_of s) → grouped (get_or (bodies_of s) i []) ≡ true
    → (i < length (bodies_of (take r.len exit)))
    × (get_or (bodies_of (take r.len exit)) i [] ≡ get_or (bodies_of s) i [])
group-stays = groups.group-stays

-- An area whose only units that begin 03 are data groups reads as one without a caption unit.
pub group-none : (bs : List (List ℕ)) → Each Clean bs → length (units.layout bs) ≤ 16384
    → Each (λ (s : List ℕ). get_or s 0 0 ≡ 3 → grouped s ≡ true) bs
    → (r : Answer Scte20) → Reads Scte20 (units.layout bs) r → r ≡ shown Scte20 (uncaptioned bs)
group-none = groups.group-none

-- Anywhere in an area it is neither read nor counted: without it the answer is the same, but for a refusal's place.
pub group-alike : (k : Kind) (before : List (List ℕ)) (s : List ℕ) (after : List (List ℕ))
    → Each Clean before → Clean s → Each Clean after → grouped s ≡ true
    → length (units.layout (before ++ (s ∷ after))) ≤ 16384
    → (a b : Answer k) → Reads k (units.layout (before ++ (s ∷ after))) a → Reads k (units.layout (before ++ after)) b
    → Alike k a b
group-alike = groups.group-alike

-- A value whose reserved bits and flag would make 09 or 0A is refused with 15, whatever else is wrong with it, written
pub write-group : (u : CaptionUnit Scte20) (out : List ℕ) (r : Written) (exit : List ℕ) → Writes Scte20 u out r exit
    → group_type (flag_byte u.reserved u.vbi_data_flag) ≡ true → r.refusal ≡ refused 15 0
write-group = groups.write-group

-- or put into a legal area.
pub replace-group : (v : Area Scte20) → Legal Scte20 v
    → (u : CaptionUnit Scte20) (out : List ℕ) (r : Written) (exit : List ℕ)
    → Replaces Scte20 (layout Scte20 v) u out r exit
    → group_type (flag_byte u.reserved u.vbi_data_flag) ≡ true → r.refusal ≡ refused 15 0
replace-group = groups.replace-group

-- TWO KINDS IN ONE AREA

-- A unit that is ours of one kind is a foreign unit to the other kind, byte for byte,
pub other-foreign : (k other : Kind) → (k ≡ other → ⊥) → (s : List ℕ) → Bytes s → Clean s → ours k s ≡ true
    → Foreign other s
other-foreign = beside.other-foreign

-- each legal caption unit among them.
pub caption-foreign : (k other : Kind) → (k ≡ other → ⊥) → (c : Content k) → LegalContent k c
    → Foreign other (body_of k c)
caption-foreign = beside.caption-foreign

-- So a replacement of one kind leaves the other kind's answer as it was: in a refusal the number, and where it is
-- accepted all of it. Only the place of a refusal moves, with the unit that is at fault.
pub other-kept : (k other : Kind) → (k ≡ other → ⊥)
    → (s : List ℕ) (u : CaptionUnit k) (out : List ℕ) (r : Written) (exit : List ℕ)
    → Replaces k s u out r exit → r.refusal.number ≡ 0
    → (a b : Answer other) → Reads other s a → Reads other (take r.len exit) b
    → Alike other b a × (a.refusal.number ≡ 0 → b ≡ a)
other-kept = beside.other-kept

-- The same of the functions that read into a lent array.
pub other-kept-into : (k other : Kind) → (k ≡ other → ⊥)
    → (s : List ℕ) (u : CaptionUnit k) (out : List ℕ) (r : Written) (exit : List ℕ)
    → Replaces k s u out r exit → r.refusal.number ≡ 0
    → (lent : List ℕ) (a : Head other) (kept : List ℕ) (b : Head other) (end : List ℕ)
    → ReadsInto other s lent a kept → ReadsInto other (take r.len exit) lent b end
    → (b.refusal.number ≡ a.refusal.number) × (b.present ≡ a.present) × (b.numbers ≡ a.numbers) × (end ≡ kept)
other-kept-into = beside.other-kept-into

-- LENT RECORDS

-- The same of the functions that C calls, of the bytes in lent arrays. By its type such an array has 155 bytes for SCTE
-- 20, and 124 for GA94.

-- What `read_into` answers is what `read` does. The array then holds all records of that answer, zeros beyond n and
-- where no caption unit stands; in a refusal it is as it was.
pub read-into-as-read : (k : Kind) (s lent : List ℕ) (r : Head k) (exit : List ℕ) → ReadsInto k s lent r exit
    → (a : Answer k) → Reads k s a
    → (r ≡ head_of k a)
    × (a.refusal.number ≡ 0 → exit ≡ bytes_of k a.unit)
    × ((a.refusal.number ≡ 0 → ⊥) → exit ≡ lent)
read-into-as-read = lent_back.read-into-as-read

-- So it accepts the same bytes.
pub into-exactly : (k : Kind) (s lent : List ℕ) (r : Head k) (exit : List ℕ) → ReadsInto k s lent r exit
    → r.refusal.number ≡ 0 ↔ ((v : Area k) × Legal k v × (layout k v ≡ s))
into-exactly = lent_back.into-exactly

-- And the place of a refusal means the same.
pub into-place : (k : Kind) (s lent : List ℕ) (r : Head k) (exit : List ℕ) → ReadsInto k s lent r exit
    → (r.refusal.number ≤ 4 → r.refusal.place ≡ 0)
    × (5 ≤ r.refusal.number → InUnit k s r.refusal.number r.refusal.place)
into-place = lent_back.into-place

-- Reading into a lent array what `write_from` wrote gives the same numbers and the same bytes, with zeros behind the n
-- records.
pub written-read-into : (k : Kind) (v : Numbers k) (records out : List ℕ) (w : Written) (end : List ℕ)
    → Writes k (unit_in k v records) out w end → w.refusal.number ≡ 0 → length records ≡ places k
    → (lent : List ℕ) (r : Head k) (exit : List ℕ) → ReadsInto k (take w.len end) lent r exit
    → (r ≡ record { refusal = accepted; present = true; numbers = v })
    × (exit ≡ filled (take (width k * count k v) records) (places k) 0)
written-read-into = lent_back.written-read-into

-- `write_from` of what was read into a lent array gives the unit's bytes.
pub read-into-written : (k : Kind) (before : List (List ℕ)) (c : Content k) (after : List (List ℕ))
    → Legal k (captioned before c after)
    → (lent : List ℕ) (a : Head k) (kept : List ℕ) → ReadsInto k (layout k (captioned before c after)) lent a kept
    → (out : List ℕ) (r : Written) (exit : List ℕ) → Writes k (unit_in k a.numbers kept) out r exit
    → length (unit_bytes k c) ≤ length out
    → (r ≡ written (length (unit_bytes k c))) × (exit ≡ over (unit_bytes k c) out)
read-into-written = lent_back.read-into-written

-- Reading into a lent array what `replace_from` wrote gives the new unit's numbers and bytes.
pub replaced-read-into : (k : Kind) (v : Area k) → Legal k v
    → (x : Numbers k) (records out : List ℕ) (w : Written) (end : List ℕ)
    → Replaces k (layout k v) (unit_in k x records) out w end → w.refusal.number ≡ 0 → length records ≡ places k
    → (lent : List ℕ) (r : Head k) (exit : List ℕ) → ReadsInto k (take w.len end) lent r exit
    → (r ≡ record { refusal = accepted; present = true; numbers = x })
    × (exit ≡ filled (take (width k * count k x) records) (places k) 0)
replaced-read-into = lent_back.replaced-read-into

-- Replacing, and putting back what was read into a lent array before, gives the area byte for byte.
pub put-back-into : (k : Kind) (v : Area k) → Legal k v
    → (lent : List ℕ) (a : Head k) (kept : List ℕ) → ReadsInto k (layout k v) lent a kept → a.present ≡ true
    → (u : CaptionUnit k) (out : List ℕ) (r : Written) (exit : List ℕ)
    → Replaces k (layout k v) u out r exit → r.refusal.number ≡ 0
    → (room : List ℕ) (again : Written) (end : List ℕ)
    → Replaces k (take r.len exit) (unit_in k a.numbers kept) room again end → length (layout k v) ≤ length room
    → (again ≡ written (length (layout k v))) × (end ≡ over (layout k v) room)
put-back-into = lent_back.put-back-into

-- ONE ANSWER

-- For each function, two answers that keep its promise are equal, lent memory too: reading,
pub read-determined : (k : Kind) (s : List ℕ) (a b : Answer k) → Reads k s a → Reads k s b → a ≡ b
read-determined = determined.read-determined

-- reading into a lent array,
pub read-into-determined : (k : Kind) (s lent : List ℕ) (a : Head k) (exit : List ℕ) (b : Head k) (end : List ℕ)
    → ReadsInto k s lent a exit → ReadsInto k s lent b end → (a ≡ b) × (exit ≡ end)
read-into-determined = determined.read-into-determined

-- reading an area that is to be changed,
pub read-old-determined : (k : Kind) (s : List ℕ) (a b : Old) → ReadsOld k s a → ReadsOld k s b → a ≡ b
read-old-determined = determined.read-old-determined

-- writing a unit,
pub write-determined : (k : Kind) (u : CaptionUnit k) (out : List ℕ) (a : Written) (exit : List ℕ)
    → (b : Written) (end : List ℕ) → Writes k u out a exit → Writes k u out b end → (a ≡ b) × (exit ≡ end)
write-determined = determined.write-determined

-- and replacing one.
pub replace-determined : (k : Kind) (s : List ℕ) (u : CaptionUnit k) (out : List ℕ) (a : Written) (exit : List ℕ)
    → (b : Written) (end : List ℕ) → Replaces k s u out a exit → Replaces k s u out b end → (a ≡ b) × (exit ≡ end)
replace-determined = determined.replace-determined
