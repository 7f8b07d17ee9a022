-- The theorems of the user words of a subtitling packet (docs/RULES.md, "Demands", "Subtitling packet" and "Order of
-- checks"), apart from the header and CS around them. What they speak of is defined in specs/: a value and when it is
-- legal in Value; its user bytes in Layout, without the reader; the rules over user bytes and the value that they hold
-- in User; which slots can be written in SlotVerdict and, in the words of RULES, in SlotFaults; the checks of a slot in
-- Order; what stands at the place of a refusal in Places. All checks of reading stand in one list on the page of crate
-- `subtitling` (`reading-order`).
-- How to read it: docs/NOTATION.md.
-- Assumes nothing.
use Prim.Native.Nat.{ℕ, ◌%◌, ◌<◌}
use mathlib.Core.Path.{◌≡◌}
use mathlib.Core.Logic.{◌↔◌}
use mathlib.Core.List.{List, map}
use lib.ListN.{length, get_or}
use Rattle.lists.specs.Bytes.{Bytes}
use Rattle.lists.specs.Sum.{sum}
use Rattle.refusal.specs.declared.Reason.{Reason}
use Rattle.refusal.specs.declared.Item.{Item}
use Rattle.refusal.specs.declared.Item.TheVariants.{Word}
use Rattle.refusal.specs.Verdict.{Verdict}
use Rattle.refusal.specs.Verdict.{Accepted, Refused}
use Rattle.refusal.specs.Numbers.{number_of, refusal_of}
use Rattle.refusal.specs.Answers.{refused}
use Rattle.refusal.specs.Checks.{first}
use Rattle.anc.specs.Words.{byte_of}
use Rattle.sdp.specs.declared.Slot.{Slot}
use Rattle.sdp.specs.declared.Packet.{Packet}
use Rattle.sdp.specs.Value.{SlotRow, Sdp, FullSlot, LegalSlot, Legal, Row, descriptor, together}
use Rattle.sdp.specs.Layout.{descriptors_of, count, user_length, user_bytes}
use Rattle.sdp.specs.User.{line_verdict, user_verdict, slot_of, user_value}
use Rattle.sdp.specs.SlotVerdict.{slot_verdict}
use Rattle.sdp.specs.SlotFaults.{Holdable, Unwritable, NoLine}
use Rattle.sdp.specs.Order.{slot_checks}
use Rattle.sdp.specs.Places.{Constant, constant_at, constant_byte, OpensRight, UserStands}
use Rattle.sdp.proofs.Numbers as numbers
use Rattle.sdp.proofs.Rules as rules
use Rattle.sdp.proofs.Accepting as accepting
use Rattle.sdp.proofs.Placed as placed
use Rattle.sdp.proofs.RightPlaces as right-places
use Rattle.sdp.proofs.Sequence as sequence
use Rattle.sdp.proofs.Fifteen as fifteen
use Rattle.sdp.proofs.Determined as determined

-- READING

-- User bytes are accepted exactly when they are those of some legal value.
pub accepted-exactly : (dc : ℕ) (u : List ℕ) → Bytes u
    → user_verdict dc u ≡ Accepted ↔ ((v : Sdp) × Legal v × (user_bytes v ≡ u))
accepted-exactly = accepting.accepted-exactly

-- That value is what they are read as,
pub the_value : (v : Sdp) → Legal v → user_value (user_bytes v) ≡ v
the_value = rules.user-value

-- and the only one.
pub only_one : (v w : Sdp) → Legal v → Legal w → user_bytes v ≡ user_bytes w → v ≡ w
only_one = accepting.only_one

-- With k structures DC and LENGTH are 13 + 45k, the number of the user bytes, and these add up to 0 modulo 256.
pub user-size : (v : Sdp) → Legal v → length (user_bytes v) ≡ user_length (count (descriptors_of v.slots))
user-size = numbers.user-size

pub user-sum : (v : Sdp) → Legal v → sum (user_bytes v) % 256 ≡ 0
user-sum = rules.user-sum

-- A slot is empty exactly when its descriptor is 0; 80 (line 0, odd field) is a full one.
pub empty-exactly : (x : SlotRow) → LegalSlot x → (x.slot.full ≡ 0) ↔ (descriptor x.slot ≡ 0)
empty-exactly = accepting.empty-exactly

-- Any 42 bytes do: with another row a full slot is as legal.
pub any-row : (x : SlotRow) (row : List ℕ) → Row row → FullSlot x → FullSlot (together x.slot row)
any-row = accepting.any-row

-- WHAT STANDS AT THE PLACE

-- A refusal of user bytes tells a word, and what is wrong at that word is a case of `UserStands` with its number, told
-- of the bytes alone. `dc` is the word of the packet in which DC stands.
pub place-means : (dc : ℕ) (u : List ℕ) (reason : Reason) (item : Item) → user_verdict dc u ≡ Refused reason item
    → (word : ℕ) × (item ≡ Word word) × UserStands dc u (number_of reason) word
place-means = placed.place-means

-- Each case is a fault: where one stands, at any word, the bytes are not accepted.
pub stands-refused : (dc : ℕ) (u : List ℕ) (number word : ℕ) → UserStands dc u number word
    → user_verdict dc u ≡ Accepted → ⊥
stands-refused = right-places.stands-refused

-- Among a legal value's user bytes the identifiers, the format code and the footer ID are what `UserStands` asks for,
pub layout-constant : (v : Sdp) → Legal v → (c : Constant)
    → get_or (user_bytes v) (constant_at (length (user_bytes v)) c) 0 ≡ constant_byte c
layout-constant = right-places.layout-constant

-- and each of its k structures begins with run-in and framing code.
pub layout-run-in : (v : Sdp) → Legal v → (j : ℕ) → j < count (descriptors_of v.slots) → OpensRight (user_bytes v) j 3
layout-run-in = right-places.layout-run-in

-- WRITING

-- The checks of a slot let through exactly the legal ones, a row being 42 bytes.
pub slot-exactly : (x : SlotRow) → Row x.row → slot_verdict x ≡ Accepted ↔ LegalSlot x
slot-exactly = accepting.slot-exactly

-- Its checks are made in the order of RULES: the first in `slot_checks` (specs/Order) that finds a fault decides.
pub slot-order : (x : SlotRow) → slot_verdict x ≡ first (slot_checks x)
slot-order = sequence.slot-order

-- A slot gets 15 exactly where one of its numbers cannot be held or it is unwritable,
pub slot-15 : (x : SlotRow) → refusal_of (slot_verdict x) ≡ refused 15 0 ↔ (Holdable x → ⊥)
slot-15 = fifteen.slot-15

-- and else 7 exactly where its line is 1 to 5 or 23 to 31.
pub slot-7 : (x : SlotRow) → refusal_of (slot_verdict x) ≡ refused 7 0 ↔ (Holdable x × NoLine x.slot.line)
slot-7 = fifteen.slot-7

-- An unwritable slot gives 15: one that is full and has descriptor 0, and one that is empty and holds something.
pub unwritable-15 : (x : SlotRow) → Row x.row → Unwritable x → refusal_of (slot_verdict x) ≡ refused 15 0
unwritable-15 = fifteen.unwritable-15

-- ONE ANSWER

-- For each function, two answers that keep its promise are equal.
pub judge-user-determined : (dc : ℕ) (user : List ℕ) (a b : Verdict)
    → a ≡ user_verdict dc (map byte_of user) → b ≡ user_verdict dc (map byte_of user) → a ≡ b
judge-user-determined = determined.judge-user-determined

pub judge-line-determined : (item : Item) (line : ℕ) (a b : Verdict)
    → a ≡ line_verdict item line → b ≡ line_verdict item line → a ≡ b
judge-line-determined = determined.judge-line-determined

pub byte-sum-determined : (words : List ℕ) (a b : ℕ)
    → a ≡ sum (map byte_of words) % 256 → b ≡ sum (map byte_of words) % 256 → a ≡ b
byte-sum-determined = determined.byte-sum-determined

pub slot-of-determined : (d : ℕ) (a b : Slot) → a ≡ slot_of d → b ≡ slot_of d → a ≡ b
slot-of-determined = determined.slot-of-determined

pub judge-slot-determined : (s : Slot) (row : List ℕ) (a b : Verdict)
    → a ≡ slot_verdict (together s row) → b ≡ slot_verdict (together s row) → a ≡ b
judge-slot-determined = determined.judge-slot-determined

pub descriptor-determined : (s : Slot) (a b : ℕ) → a ≡ descriptor s → b ≡ descriptor s → a ≡ b
descriptor-determined = determined.descriptor-determined

pub count-determined : (p : Packet) (a b : ℕ)
    → a ≡ count (map descriptor p.slots) → b ≡ count (map descriptor p.slots) → a ≡ b
count-determined = determined.count-determined
