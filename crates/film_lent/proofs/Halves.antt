-- What the halves of a picture's slots leave: the same as the slots, with and without a slot that waits.
-- Assumes nothing.
use Prim.Native.Nat.{ℕ, min}
use mathlib.Core.Path.{◌≡◌, ◌∙◌, ap, ap₂, subst, sym, refl}
use mathlib.Core.Bool.{Bool, true, false}
use mathlib.Core.List.{List, [], ◌∷◌, ◌++◌}
use lib.Dec.{eqb}
use lib.ListN.{length}
use Rattle.refusal.specs.Verdict.{Verdict}
use Rattle.refusal.specs.Verdict.{Accepted}
use Rattle.refusal.specs.declared.Refusal.{Refusal}
use Rattle.refusal.specs.Numbers.{refusal_of}
use Rattle.scte20.specs.declared.Record.{Record}
use Rattle.scte20.specs.declared.CaptionUnit.{CaptionUnit}
use Rattle.scte20.specs.Value.{held}
use Rattle.line21.specs.declared.AccessUnit.{AccessUnit}
use Rattle.film.specs.Slot.{Slot}
use Rattle.film.specs.State.{State}
use Rattle.film.specs.State.{Nothing, Waiting}
use Rattle.film.specs.Display.{Event, odd, even, slot_of, picture_events}
use Rattle.film.specs.Frames.{units_of, waiting_of, pending}
use Rattle.film.specs.Calls.{told_of}
use Rattle.film_lent.specs.Kept as kept
use Rattle.film_lent.specs.Lent.{state_bytes, state_in, shown_in, kept_state, into_verdict, Left, left_of}
use Rattle.film_lent.specs.Inside.{Puts, slot_events, Leaves}

-- the first display field is odd
module _ (s : State) (a b c : Slot) (r : ℕ) (exit end : List ℕ) where
  odd-three : (s : State) → (units_of (pending s ++ (odd a ∷ even b ∷ [])) ≡ units_of (pending s ++ slot_events true true a b c))
      × (Waiting c ≡ waiting_of (pending s ++ slot_events true true a b c))
  odd-three Nothing = (refl, refl)
  odd-three (Waiting x) = (refl, refl)

  pub leaves-odd-three : Puts (units_of (pending s ++ (odd a ∷ even b ∷ []))) r end → exit ≡ state_bytes (Waiting c)
      → Leaves (pending s ++ slot_events true true a b c) r exit end
  leaves-odd-three puts e =
      record {
        puts = subst (λ (us : List AccessUnit). Puts us r end) (odd-three s).0 puts;
        waits = e ∙ ap state_bytes (odd-three s).1;
      }

-- the flags as they were asked
pub leaves-as : (s : State) (a b c : Slot) (r : ℕ) (exit end : List ℕ) (top repeat asked-top asked-repeat : Bool) → asked-top ≡ top → asked-repeat ≡ repeat
    → Leaves (pending s ++ slot_events top repeat a b c) r exit end → Leaves (pending s ++ slot_events asked-top asked-repeat a b c) r exit end
leaves-as s a b c r exit end top repeat asked-top asked-repeat e f =
    subst (λ (row : List Event). Leaves (pending s ++ row) r exit end) (ap₂ (λ (t u : Bool). slot_events t u a b c) (sym e) (sym f))

-- a picture, by the slots of its display fields
pub picture-slots : (top repeat : Bool) (line : ℕ) (rs : List Record)
    → slot_events top repeat (slot_of line 1 rs) (slot_of line 2 rs) (slot_of line 3 rs)
    ≡ picture_events (record { top_field_first = top; repeat_first_field = repeat; line_offset = line }) rs
picture-slots true true line rs = refl
picture-slots true false line rs = refl
picture-slots false true line rs = refl
picture-slots false false line rs = refl

-- all that a row leaves, and the answer
head-left : ℕ → List ℕ → List ℕ → Left
head-left m exit end = record { head = record { refusal = refusal_of Accepted; m = m }; film = exit; units = end }

module _ (film lent : List ℕ) (s : State) (is-state : state_in film ≡ kept.State s) (refusal : Refusal) (accepted : refusal ≡ refusal_of Accepted)
    (r : ℕ) (exit end : List ℕ) where
  leaves-left : (row : List Event) → Leaves (pending s ++ row) r exit end
      → ◌≡◌ {A = Left} (record { head = record { refusal = refusal; m = r }; film = exit; units = end }) (left_of Accepted (told_of Accepted s row) film lent)
  unfolding head-left
  leaves-left row leaves =
      ap (λ (q : Refusal). record { head = record { refusal = q; m = r }; film = exit; units = end }) accepted
      ∙ ap (λ (m : ℕ). head-left m exit end) leaves.puts.0
      ∙ ap₂ (λ (x y : List ℕ). head-left (length (units_of (pending s ++ row))) x y) leaves.waits leaves.puts.1

  pub picture-left : (top repeat line : ℕ) (u : CaptionUnit) → into_verdict (state_in film) top repeat line u ≡ Accepted
      → Leaves
      (pending s ++ slot_events (eqb top 1) (eqb repeat 1) (slot_of (min line 255) 1 (held u).records) (slot_of (min line 255) 2 (held u).records) (slot_of (min line 255) 3 (held u).records))
      r exit end
      → ◌≡◌ {A = Left} (record { head = record { refusal = refusal; m = r }; film = exit; units = end })
      (left_of (into_verdict (state_in film) top repeat line u)
      (told_of Accepted (kept_state (state_in film)) (picture_events (shown_in top repeat line) (held u).records)) film lent)
  picture-left top repeat line u verdict leaves =
      let row = picture_events (shown_in top repeat line) (held u).records in
      leaves-left row
      (subst (λ (es : List Event). Leaves (pending s ++ es) r exit end) (picture-slots (eqb top 1) (eqb repeat 1) (min line 255) (held u).records) leaves)
      ∙ ap₂ (λ (v : Verdict) (k : State). left_of v (told_of Accepted k row) film lent) (sym verdict) (ap kept_state (sym is-state))
