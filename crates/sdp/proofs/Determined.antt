-- Each function's promise fixes its answer.
-- Assumes nothing.
use Prim.Native.Nat.{ℕ, ◌%◌}
use mathlib.Core.Path.{◌≡◌, ◌∙◌, sym}
use mathlib.Core.List.{List, map}
use Rattle.lists.specs.Sum.{sum}
use Rattle.refusal.specs.declared.Item.{Item}
use Rattle.refusal.specs.Verdict.{Verdict}
use Rattle.anc.specs.Words.{byte_of}
use Rattle.sdp.specs.declared.Slot.{Slot}
use Rattle.sdp.specs.declared.Packet.{Packet}
use Rattle.sdp.specs.Value.{descriptor, together}
use Rattle.sdp.specs.Layout.{count}
use Rattle.sdp.specs.User.{line_verdict, user_verdict, slot_of}
use Rattle.sdp.specs.SlotVerdict.{slot_verdict}

pub judge-user-determined : (dc : ℕ) (user : List ℕ) (a b : Verdict)
    → a ≡ user_verdict dc (map byte_of user) → b ≡ user_verdict dc (map byte_of user) → a ≡ b
judge-user-determined dc user a b ea eb = ea ∙ sym eb

pub judge-line-determined : (item : Item) (line : ℕ) (a b : Verdict)
    → a ≡ line_verdict item line → b ≡ line_verdict item line → a ≡ b
judge-line-determined item line a b ea eb = ea ∙ sym eb

pub byte-sum-determined : (words : List ℕ) (a b : ℕ)
    → a ≡ sum (map byte_of words) % 256 → b ≡ sum (map byte_of words) % 256 → a ≡ b
byte-sum-determined words a b ea eb = ea ∙ sym eb

pub slot-of-determined : (d : ℕ) (a b : Slot) → a ≡ slot_of d → b ≡ slot_of d → a ≡ b
slot-of-determined d a b ea eb = ea ∙ sym eb

pub judge-slot-determined : (s : Slot) (row : List ℕ) (a b : Verdict)
    → a ≡ slot_verdict (together s row) → b ≡ slot_verdict (together s row) → a ≡ b
judge-slot-determined s row a b ea eb = ea ∙ sym eb

pub descriptor-determined : (s : Slot) (a b : ℕ) → a ≡ descriptor s → b ≡ descriptor s → a ≡ b
descriptor-determined s a b ea eb = ea ∙ sym eb

pub count-determined : (p : Packet) (a b : ℕ)
    → a ≡ count (map descriptor p.slots) → b ≡ count (map descriptor p.slots) → a ≡ b
count-determined p a b ea eb = ea ∙ sym eb
