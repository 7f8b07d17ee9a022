-- What a call answers, for every state and every picture. RULES, "Film" and "Order of checks".
use Rattle.std.specs.Prelude.{ℕ, ◌+◌, ◌≡◌, Bool, not, ◌&&◌, List, [], ◌∷◌, ◌++◌, eqb, ltb}
use Rattle.refusal.specs.Verdict.{Verdict}
use Rattle.refusal.specs.Verdict.{Accepted, Refused}
use Rattle.refusal.specs.declared.Reason.TheVariants.{Unholdable, NotShown, OtherLine}
use Rattle.refusal.specs.declared.Excess.TheVariants.{SetLine}
use Rattle.refusal.specs.declared.Item.TheVariants.{Whole, Bit}
use Rattle.refusal.specs.declared.Refusal.{Refusal}
use Rattle.refusal.specs.Numbers.{refusal_of}
use Rattle.refusal.specs.Checks.{refuse_if, and_then, first}
use Rattle.scte20.specs.declared.Record.{Record}
use Rattle.scte20.specs.declared.CaptionUnit.{CaptionUnit}
use Rattle.scte20.specs.Value.{field_of, held, Typed}
use Rattle.scte20.specs.Writing.{value_verdict}
use Rattle.line21.specs.declared.AccessUnit.{AccessUnit}
use Rattle.film.specs.State.{State}
use Rattle.film.specs.declared.Shown.{Shown}
use Rattle.film.specs.declared.Sent.{Sent}
use Rattle.film.specs.declared.Sent.TheVariants as sent
use Rattle.film.specs.declared.Answer.{Answer}
use Rattle.film.specs.Display.{Event, closing, picture_events}
use Rattle.film.specs.Frames.{units_of, waiting_of, pending}

-- 21: a record of display field 3, where the first is not repeated. The first construct begins at bit `at`
abbrev pub repeat_verdict : Bool → ℕ → List Record → Verdict
repeat_verdict repeat at [] = Accepted
repeat_verdict repeat at (r ∷ rs) =
    and_then (refuse_if (eqb (field_of r) 3 && not repeat) NotShown (Bit (at + 2))) (repeat_verdict repeat (at + 26) rs)

-- 22: a record on another line
abbrev pub line_verdict : ℕ → ℕ → List Record → Verdict
line_verdict line at [] = Accepted
line_verdict line at (r ∷ rs) =
    and_then (refuse_if (not (eqb r.line_offset line)) OtherLine (Bit (at + 4))) (line_verdict line (at + 26) rs)

-- 15 of the set line; the unit's own 15, 7, 8, 9; 21 of every record; then 22
unfoldable pub picture_verdict : Shown → CaptionUnit → Verdict
picture_verdict how u =
    first
    (refuse_if (ltb 31 how.line_offset) (Unholdable SetLine) Whole
    ∷ value_verdict u
    ∷ repeat_verdict how.repeat_first_field 21 (held u).records
    ∷ line_verdict how.line_offset 21 (held u).records
    ∷ [])

-- the access units of an answer, in the order sent
abbrev pub units_sent : Sent → List AccessUnit
units_sent sent.None = []
units_sent (sent.One a) = a ∷ []
units_sent (sent.Two a b) = a ∷ b ∷ []

-- what an answer says
pub record Told : Type 0 where
  pub refusal : Refusal
  pub units : List AccessUnit
  pub state : State

abbrev pub told : Answer → Told
told r = record { refusal = r.refusal; units = units_sent r.sent; state = r.state }

-- an accepted call sends what the rule says of the slot that waits and of what comes after it. A refused one sends
-- nothing, and what waits goes on waiting
abbrev pub told_of : Verdict → State → List Event → Told
told_of Accepted state es =
    record { refusal = refusal_of Accepted; units = units_of (pending state ++ es); state = waiting_of (pending state ++ es) }
told_of (Refused reason item) state es =
    record { refusal = refusal_of (Refused reason item); units = []; state = state }

-- the promise of `picture`, of the struct that it is told by numbers and a lent array (`unit_in`). By its type the data
-- bytes are bytes; the code shows that too
pub record Shows (state : State) (how : Shown) (u : CaptionUnit) (r : Answer) : Type 0 where
  pub typed : Typed u
  pub answer : told r ≡ told_of (picture_verdict how u) state (picture_events how (held u).records)

-- the promise of `close`
abbrev pub Closes : State → Answer → Type 0
Closes state r = told r ≡ told_of Accepted state (closing ∷ [])
