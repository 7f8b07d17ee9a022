-- What functions promise each other on the way to an answer. A signer may pass it over: a picture that is gathered is one
-- whose verdict is Accepted.
use Rattle.std.specs.Prelude.{ℕ, ◌≤◌, ◌<◌, ◌≡◌, Bool, true, List, get_or, Option, IfSome}
use Rattle.refusal.specs.Verdict.{Accepted}
use Rattle.scte20.specs.declared.Record.{Record}
use Rattle.scte20.specs.declared.CaptionUnit.{CaptionUnit}
use Rattle.scte20.specs.Value.{blank, field_of, held}
use Rattle.scte20.specs.Lent.{lent_records}
use Rattle.film.specs.Slot.{Slot}
use Rattle.film.specs.Slot.{Invalid, Pair}
use Rattle.film.specs.declared.Shown.{Shown}
use Rattle.film.specs.Display.{pick, slot_of}
use Rattle.film.specs.Frames.{half_of}
use Rattle.film.specs.Calls.{picture_verdict}
use Rattle.film_value.specs.declared.Halves.{Halves}

-- record i of the first n, which a lent array holds, is one of this display field, which is shown, and on this line
pub record Stands (shown : Bool) (field line n i : ℕ) (s : List ℕ) : Type 0 where
  pub is_shown : shown ≡ true
  pub here : i < n
  pub priority : (get_or (lent_records s) i blank).cc_priority ≤ 3
  pub of_field : field_of (get_or (lent_records s) i blank) ≡ field
  pub on_line : (get_or (lent_records s) i blank).line_offset ≡ line

-- the slot of a display field, whose record is this one where there is one
abbrev pub slot_if : Bool → Record → Slot
slot_if there r = pick there (Pair r.cc_data_1 r.cc_data_2) Invalid

-- the picture is carried, and these are the slots of its display fields
pub record Brings (how : Shown) (u : CaptionUnit) (r : Halves) : Type 0 where
  pub verdict : picture_verdict how u ≡ Accepted
  pub first : r.one ≡ half_of (slot_of how.line_offset 1 (held u).records)
  pub second : r.two ≡ half_of (slot_of how.line_offset 2 (held u).records)
  pub third : r.three ≡ half_of (slot_of how.line_offset 3 (held u).records)

-- the promise of `gather`
abbrev pub Gathers : Shown → CaptionUnit → Option Halves → Type 0
Gathers how u r = IfSome r (Brings how u)
