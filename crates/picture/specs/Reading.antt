-- What reading a picture area for one kind of caption unit answers, for every list of bytes. RULES, "Order of checks":
-- 1, 2, 3, 4, then the caption content.
use Rattle.std.specs.Prelude.{ℕ, ◌+◌, ◌*◌, ◌≡◌, Bool, true, false, List, [], ◌∷◌}
use Rattle.lists.specs.Bytes.{Bytes}
use Rattle.lists.specs.Part.{part}
use Rattle.refusal.specs.declared.Refusal.{Refusal}
use Rattle.refusal.specs.Verdict.{Verdict}
use Rattle.refusal.specs.Verdict.{Accepted, Refused}
use Rattle.refusal.specs.declared.Reason.TheVariants.{SecondUnit}
use Rattle.refusal.specs.declared.Item.{Item}
use Rattle.refusal.specs.declared.Item.TheVariants.{Whole, Bit, Body, Word, Byte, Length}
use Rattle.refusal.specs.Numbers.{refusal_of}
use Rattle.refusal.specs.Answers.{accepted}
use Rattle.kind.specs.declared.Kind.{Kind}
use Rattle.kind.specs.Ours.{ours}
use Rattle.units.specs.declared.Found.{Found}
use Rattle.units.specs.declared.Found.TheVariants as found
use Rattle.units.specs.Split.{scan_of}
use Rattle.picture.specs.Kinds.{Content, CaptionUnit, none, stored, content_verdict, value_of}
use Rattle.picture.specs.Value.{Area, uncaptioned, captioned}

-- an item of a body, in the area whose unit at `unit` has that body: the bit is counted from the area's first
abbrev pub placed_item : ℕ → Item → Item
placed_item unit Whole = Whole
placed_item unit (Bit bit) = Body unit (8 * (unit + 4) + bit)
placed_item unit (Body other bit) = Body other bit
placed_item unit (Word w) = Word w
placed_item unit (Byte b) = Byte b
placed_item unit (Length n) = Length n

abbrev pub placed : ℕ → Verdict → Verdict
placed unit Accepted = Accepted
placed unit (Refused reason item) = Refused reason (placed_item unit item)

-- what the search for caption units of the kind finds
abbrev pub captions_in : Kind → List ℕ → Found
captions_in k s = scan_of (ours k) s

abbrev pub found_verdict : Kind → Found → List ℕ → Verdict
found_verdict k (found.NotUnits reason item) s = Refused reason item
found_verdict k found.Nowhere s = Accepted
found_verdict k (found.At unit end) s = placed unit (content_verdict k (part (unit + 4) end s))
found_verdict k (found.Many n) s = Refused SecondUnit Whole

abbrev pub area_verdict : Kind → List ℕ → Verdict
area_verdict k s = found_verdict k (captions_in k s) s

-- the caption unit's value, where there is one
abbrev pub found_content : (k : Kind) → Found → List ℕ → List (Content k)
found_content k (found.NotUnits reason item) s = []
found_content k found.Nowhere s = []
found_content k (found.At unit end) s = value_of k (part (unit + 4) end s) ∷ []
found_content k (found.Many n) s = []

-- an answer: a refusal; whether a caption unit stands in the area, and its value
pub record Answer (k : Kind) : Type 0 where
  pub refusal : Refusal
  pub present : Bool
  pub unit : CaptionUnit k

-- in a refusal, and where no caption unit stands, the unit is all zero
abbrev pub answer_of : (k : Kind) → Verdict → List (Content k) → Answer k
answer_of k (Refused reason item) cs =
    record { refusal = refusal_of (Refused reason item); present = false; unit = stored k (none k) }
answer_of k Accepted [] = record { refusal = accepted; present = false; unit = stored k (none k) }
answer_of k Accepted (c ∷ cs) = record { refusal = accepted; present = true; unit = stored k c }

abbrev pub read_of : (k : Kind) → List ℕ → Answer k
read_of k s = answer_of k (area_verdict k s) (found_content k (captions_in k s) s)

-- the answer that shows a value
abbrev pub shown : (k : Kind) → Area k → Answer k
shown k (uncaptioned foreign) = answer_of k Accepted []
shown k (captioned before c after) = answer_of k Accepted (c ∷ [])

-- the promise of reading. By its type its input is a list of bytes; the code shows that too, so that the theorems assume
-- nothing
pub record Reads (k : Kind) (s : List ℕ) (r : Answer k) : Type 0 where
  pub bytes : Bytes s
  pub answer : r ≡ read_of k s

-- two answers that tell the same, but for the place of a refusal
abbrev pub Alike : (k : Kind) → Answer k → Answer k → Type 0
Alike k a b = (a.refusal.number ≡ b.refusal.number) × (a.present ≡ b.present) × (a.unit ≡ b.unit)
