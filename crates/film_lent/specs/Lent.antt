-- Film's state as four bytes that the caller keeps, and the access units of a call in a lent array of two places: what
-- the C interface lends and is lent. RULES, "Film".
use Rattle.std.specs.Prelude.{ℕ, min, ◌≡◌, Bool, true, false, ◌&&◌, List, [], ◌∷◌, eqb, ltb, length, get_or}
use Rattle.lists.specs.Room.{filled}
use Rattle.refusal.specs.Verdict.{Verdict}
use Rattle.refusal.specs.Verdict.{Accepted, Refused}
use Rattle.refusal.specs.declared.Reason.TheVariants.{Unholdable}
use Rattle.refusal.specs.declared.Excess.TheVariants.{FilmState, PictureFlag}
use Rattle.refusal.specs.declared.Item.TheVariants.{Whole}
use Rattle.refusal.specs.Numbers.{refusal_of}
use Rattle.refusal.specs.Checks.{refuse_if, first}
use Rattle.scte20.specs.declared.CaptionUnit.{CaptionUnit}
use Rattle.scte20.specs.Value.{held, Typed}
use Rattle.line21.specs.declared.AccessUnit.{AccessUnit}
use Rattle.line21.specs.Lent.{access_units_bytes}
use Rattle.film.specs.Slot.{Invalid, Pair}
use Rattle.film.specs.State.{State}
use Rattle.film.specs.State.{Nothing, Waiting}
use Rattle.film.specs.declared.Shown.{Shown}
use Rattle.film.specs.declared.Half.{Half}
use Rattle.film.specs.Display.{closing, picture_events}
use Rattle.film.specs.Frames.{half_of}
use Rattle.film.specs.Calls.{picture_verdict, Told, told_of}
use Rattle.film_lent.specs.declared.Head.{Head}
use Rattle.film_lent.specs.Kept.{Kept}
use Rattle.film_lent.specs.Kept as kept

abbrev pub half_bytes : Half → List ℕ
half_bytes h = h.cc_valid ∷ h.data_1 ∷ h.data_2 ∷ []

-- a state: whether a slot waits, then that slot
abbrev pub state_bytes : State → List ℕ
state_bytes Nothing = 0 ∷ half_bytes (half_of Invalid)
state_bytes (Waiting slot) = 1 ∷ half_bytes (half_of slot)

abbrev pub chosen : Bool → Kept → Kept → Kept
chosen true this other = this
chosen false this other = other

-- the state that has these four bytes. Most are no state's: that this is the one, and when there is none, is proved
unfoldable pub state_from : ℕ → ℕ → ℕ → ℕ → Kept
state_from waiting valid a b =
    chosen (eqb waiting 1 && eqb valid 1) (kept.State (Waiting (Pair a b)))
    (chosen (eqb valid 0 && (eqb a 0 && eqb b 0))
    (chosen (eqb waiting 0) (kept.State Nothing) (chosen (eqb waiting 1) (kept.State (Waiting Invalid)) kept.None))
    kept.None)

abbrev pub state_in : List ℕ → Kept
state_in s = state_from (get_or s 0 0) (get_or s 1 0) (get_or s 2 0) (get_or s 3 0)

-- the units of a call, and zeros beyond them
abbrev pub sent_bytes : List AccessUnit → List ℕ
sent_bytes us = filled (access_units_bytes us) 14 0

-- the flags and the line as numbers. A line that a byte cannot hold is 255, which is no line: it is refused with 15
abbrev pub shown_in : ℕ → ℕ → ℕ → Shown
shown_in top repeat line =
    record { top_field_first = eqb top 1; repeat_first_field = eqb repeat 1; line_offset = min line 255 }

-- 15: a flag that is no bit
abbrev pub flags_verdict : ℕ → ℕ → Verdict
flags_verdict top repeat =
    first
    (refuse_if (ltb 1 top) (Unholdable PictureFlag) Whole
    ∷ refuse_if (ltb 1 repeat) (Unholdable PictureFlag) Whole
    ∷ [])

-- 15: bytes that are no state's
abbrev pub kept_verdict : Kept → Verdict
kept_verdict (kept.State s) = Accepted
kept_verdict kept.None = Refused (Unholdable FilmState) Whole

-- nothing waits where the bytes are no state's
abbrev pub kept_state : Kept → State
kept_state (kept.State s) = s
kept_state kept.None = Nothing

-- the checks of a call for a picture: those of the arguments, all 15, then the picture's own
unfoldable pub into_verdict : Kept → ℕ → ℕ → ℕ → CaptionUnit → Verdict
into_verdict k top repeat line u =
    first (kept_verdict k ∷ flags_verdict top repeat ∷ picture_verdict (shown_in top repeat line) u ∷ [])

-- what a call leaves: its answer, the state, and the lent array
pub record Left : Type 0 where
  pub head : Head
  pub film : List ℕ
  pub units : List ℕ

-- an accepted call stores the new state and all places of the array. A refused one stores nothing
abbrev pub left_of : Verdict → Told → List ℕ → List ℕ → Left
left_of Accepted t film lent =
    record {
      head = record { refusal = refusal_of Accepted; m = length t.units };
      film = state_bytes t.state;
      units = sent_bytes t.units;
    }
left_of (Refused reason item) t film lent =
    record { head = record { refusal = refusal_of (Refused reason item); m = 0 }; film = film; units = lent }

-- the promise of `picture_into`
pub record PictureInto (film : List ℕ) (top repeat line : ℕ) (u : CaptionUnit) (lent : List ℕ)
    (r : Head) (exit : List ℕ) (end : List ℕ) : Type 0 where
  pub typed : Typed u
  pub left :
      ◌≡◌ {A = Left} (record { head = r; film = exit; units = end })
      (left_of (into_verdict (state_in film) top repeat line u)
      (told_of Accepted (kept_state (state_in film)) (picture_events (shown_in top repeat line) (held u).records)) film lent)

-- the promise of `close_into`
abbrev pub CloseInto : List ℕ → List ℕ → Head → List ℕ → List ℕ → Type 0
CloseInto film lent r exit end =
    ◌≡◌ {A = Left} (record { head = r; film = exit; units = end })
    (left_of (kept_verdict (state_in film)) (told_of Accepted (kept_state (state_in film)) (closing ∷ [])) film lent)
