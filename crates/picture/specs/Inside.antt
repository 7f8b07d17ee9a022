-- What functions promise each other on the way to an answer. A signer may pass it over.
use Rattle.std.specs.Prelude.{ℕ, ◌+◌, Ok, Err, ◌≤◌, ◌≡◌, List, length}
use Rattle.lists.specs.Bytes.{Bytes}
use Rattle.refusal.specs.declared.Written.{Written}
use Rattle.refusal.specs.declared.Item.{Item}
use Rattle.refusal.specs.declared.Item.TheVariants.{Whole, Bit, Body, Word, Byte, Length}
use Rattle.refusal.specs.Verdict.{Verdict}
use Rattle.refusal.specs.Verdict.{Accepted, Refused}
use Rattle.refusal.specs.Answers.{Wrote, Judged, judged_as, lent_of, laid_of, body_left}
use Rattle.kind.specs.declared.Kind.{Kind}
use Rattle.units.specs.declared.Found.{Found}
use Rattle.units.specs.declared.Found.TheVariants.{NotUnits, Nowhere, At, Many}
use Rattle.picture.specs.declared.Old.{Old}
use Rattle.picture.specs.declared.Spot.{Spot}
use Rattle.picture.specs.Kinds.{CaptionUnit, Numbers, numbers_of, bytes_of, body_of, stored, held, Typed, content_verdict, value_of, write_verdict}
use Rattle.picture.specs.Reading.{captions_in, area_verdict}
use Rattle.around.specs.Around.{exchanged}
use Rattle.picture.specs.Writing.{unit_bytes}

-- an item that begins not far behind the end of a body, so that its bit in an area is a number that the code holds
abbrev pub Near : Item → Type 0
Near Whole = Unit {0}
Near (Bit bit) = bit ≤ 1048576
Near (Body other bit) = Unit {0}
Near (Word w) = Unit {0}
Near (Byte b) = Unit {0}
Near (Length n) = Unit {0}

-- where the new unit goes: in the place of the only one that was found, else behind the last byte
abbrev pub spot_of : Found → ℕ → Spot
spot_of (NotUnits reason item) len = record { start = len; end = len }
spot_of Nowhere len = record { start = len; end = len }
spot_of (At unit end) len = record { start = unit; end = end }
spot_of (Many n) len = record { start = len; end = len }

abbrev pub NearVerdict : Verdict → Type 0
NearVerdict Accepted = Unit {0}
NearVerdict (Refused reason item) = Near item

-- an answer whose value is told in another way
abbrev pub told_as : {A B : Type 0} → (A → B) → Judged A → Judged B
told_as f (Ok value) = Ok (f value)
told_as f (Err why) = Err why

-- the promise of a kind's reader
pub record ReadsContent (k : Kind) (body lent : List ℕ) (r : Judged (Numbers k)) (exit : List ℕ) : Type 0 where
  pub answer : r ≡ judged_as (content_verdict k body) (numbers_of k (stored k (value_of k body)))
  pub left : exit ≡ lent_of (content_verdict k body) (bytes_of k (stored k (value_of k body))) lent

-- and of its writer: the body with so many bytes before and after it
pub record WritesBody (k : Kind) (u : CaptionUnit k) (before after : ℕ) (out : List ℕ) (answer : Judged ℕ) (exit : List ℕ)
    : Type 0 where
  pub typed : Typed k u
  pub counted :
      answer
      ≡ laid_of (write_verdict k u (before + length (body_of k (held k u)) + after) (length out)) (body_of k (held k u))
  pub left :
      exit
      ≡ body_left (write_verdict k u (before + length (body_of k (held k u)) + after) (length out)) before
      (body_of k (held k u)) out

-- the promise of reading an area in which a unit is to be replaced: the verdict, and the place of the new unit
pub record ReadsOld (k : Kind) (s : List ℕ) (r : Old) : Type 0 where
  pub bytes : Bytes s
  pub verdict : r.verdict ≡ area_verdict k s
  pub place : r.spot ≡ spot_of (captions_in k s) (length s)

-- what `exchange` answers and leaves: the new area is judged as a whole
pub record Exchanges (k : Kind) (s : List ℕ) (start end : ℕ) (u : CaptionUnit k) (out : List ℕ) (r : Written)
    (exit : List ℕ) : Type 0 where
  pub typed : Typed k u
  pub wrote :
      let new = exchanged s start end (unit_bytes k (held k u)) in
      Wrote (write_verdict k u (length new) (length out)) new out r exit
