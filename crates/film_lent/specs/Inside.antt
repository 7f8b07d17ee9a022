-- What functions promise each other on the way to an answer. A signer may pass it over.
use Rattle.std.specs.Prelude.{ℕ, ◌≡◌, Bool, true, false, List, [], ◌∷◌, ◌++◌, length, get_or}
use Rattle.refusal.specs.Verdict.{Verdict}
use Rattle.refusal.specs.Numbers.{refusal_of}
use Rattle.line21.specs.declared.AccessUnit.{AccessUnit}
use Rattle.film.specs.Slot.{Slot}
use Rattle.film.specs.State.{State}
use Rattle.film.specs.declared.Half.{Half}
use Rattle.film.specs.declared.Answer.{Answer}
use Rattle.film.specs.Display.{Event, odd, even}
use Rattle.film.specs.Frames.{units_of, waiting_of, pending, half_of}
use Rattle.film.specs.Calls.{units_sent}
use Rattle.film_lent.specs.declared.Head.{Head}
use Rattle.film_lent.specs.Lent.{state_bytes, sent_bytes, Left}

abbrev pub refused_head : Verdict → Head
refused_head v = record { refusal = refusal_of v; m = 0 }

-- what storing an answer leaves: nothing is stored where it is a refusal
pub record Stores (answer : Answer) (film lent : List ℕ) (r : Head) (exit end : List ℕ) : Type 0 where
  pub refused : (answer.refusal.number ≡ 0 → ⊥)
      → ◌≡◌ {A = Left} (record { head = r; film = exit; units = end })
      (record { head = record { refusal = answer.refusal; m = 0 }; film = film; units = lent })
  pub accepted : answer.refusal.number ≡ 0
      → ◌≡◌ {A = Left} (record { head = r; film = exit; units = end })
      (record {
        head = record { refusal = answer.refusal; m = length (units_sent answer.sent) };
        film = state_bytes answer.state;
        units = sent_bytes (units_sent answer.sent);
      })

abbrev pub four_in : List ℕ → List ℕ
four_in film = get_or film 0 0 ∷ get_or film 1 0 ∷ get_or film 2 0 ∷ get_or film 3 0 ∷ []

-- the slot that waits, as the bytes of a state have it
abbrev pub half_in : List ℕ → Half
half_in film = record { cc_valid = get_or film 1 0; data_1 = get_or film 2 0; data_2 = get_or film 3 0 }

-- these units were stored, and counted
abbrev pub Puts : List AccessUnit → ℕ → List ℕ → Type 0
Puts us r end = (r ≡ length us) × (end ≡ sent_bytes us)

-- the promise of `put_odd_first`, whichever state and slots these are
abbrev pub PutsOddFirst : ℕ → Half → Half → Half → ℕ → List ℕ → Type 0
PutsOddFirst waiting half one two r end =
    (s : State) (a b : Slot) → waiting ≡ get_or (state_bytes s) 0 0 → half ≡ half_in (state_bytes s) → one ≡ half_of a → two ≡ half_of b
    → Puts (units_of (pending s ++ (odd a ∷ even b ∷ []))) r end

-- a picture whose display fields have these slots
abbrev pub slot_events : Bool → Bool → Slot → Slot → Slot → List Event
slot_events true false a b c = odd a ∷ even b ∷ []
slot_events true true a b c = odd a ∷ even b ∷ odd c ∷ []
slot_events false false a b c = even a ∷ odd b ∷ []
slot_events false true a b c = even a ∷ odd b ∷ even c ∷ []

-- what a row of slots leaves
pub record Leaves (row : List Event) (r : ℕ) (exit end : List ℕ) : Type 0 where
  pub puts : Puts (units_of row) r end
  pub waits : exit ≡ state_bytes (waiting_of row)

-- the promise of `put_frames`, whichever state and slots these are
abbrev pub PutsFrames : Bool → Bool → Half → Half → Half → List ℕ → ℕ → List ℕ → List ℕ → Type 0
PutsFrames top repeat one two three film r exit end =
    (s : State) (a b c : Slot) → state_bytes s ≡ four_in film → one ≡ half_of a → two ≡ half_of b → three ≡ half_of c
    → Leaves (pending s ++ slot_events top repeat a b c) r exit end
