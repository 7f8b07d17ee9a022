-- Runs: whatever the answers, if they keep the promises, all that was sent is what the one rule says of the whole row.
-- Assumes nothing.
use Prim.Native.Nat.{ℕ, zero, suc}
use mathlib.Core.Path.{◌≡◌, ◌∙◌, ap, ap₂, subst, sym, refl}
use mathlib.Core.List.{List, [], ◌∷◌, ◌++◌, map, append_assoc}
use Rattle.refusal.specs.Verdict.{Verdict}
use Rattle.refusal.specs.Verdict.{Accepted, Refused}
use Rattle.scte20.specs.declared.Record.{Record}
use Rattle.fields.specs.Sides.{side}
use Rattle.scte20.specs.Value.{held}
use Rattle.line21.specs.declared.AccessUnit.{AccessUnit}
use Rattle.film.specs.Slot.{Slot}
use Rattle.film.specs.State.{State}
use Rattle.film.specs.State.{Nothing}
use Rattle.film.specs.declared.Shown.{Shown}
use Rattle.film.specs.declared.Answer.{Answer}
use Rattle.film.specs.Display.{Event, slot_of, on_side, field_event, fields_shown, picture_events}
use Rattle.film.specs.Frames.{Frame, frames_of, waiting_of, pending, unit_of, units_of, slots_sent, slots_of}
use Rattle.film.specs.Calls.{picture_verdict, units_sent, Told, told, told_of}
use Rattle.film.specs.Runs.{Call, shows, closes, Step, Keeps, Run, sent_in, after, call_verdict, call_events, brought, row_of, shown_in, displayed, kept_if, accepted_of}
use Rattle.film.proofs.Rows.{waiting-cut, units-cut, units-none, waiting_none, slots_kept, slots-append}

-- what a call's promise says, whichever it is
pub kept-told : (s : State) (call : Call) (r : Answer) → Keeps s call r → told r ≡ told_of (call_verdict call) s (call_events call)
kept-told s (shows how u) r keeps = keeps.answer
kept-told s closes r keeps = keeps

-- a call sends what the rule says of what waits and of what it brings
module _ (s : State) (es : List Event) where
  step-told : (verdict : Verdict) → ((told_of verdict s es).units ≡ units_of (pending s ++ brought verdict es)) × ((told_of verdict s es).state ≡ waiting_of (pending s ++ brought verdict es))
  step-told Accepted = (refl, refl)
  step-told (Refused reason item) = (sym (units-none s), sym (waiting_none s))

module _ (s : State) (call : Call) (r : Answer) (keeps : Keeps s call r) where
  abbrev brings : List Event
  brings = brought (call_verdict call) (call_events call)

  step-sends : (units_sent r.sent ≡ units_of (pending s ++ brings)) × (r.state ≡ waiting_of (pending s ++ brings))
  step-sends =
      let step = step-told s (call_events call) (call_verdict call) in
      (ap (λ (t : Told). t.units) (kept-told s call r keeps) ∙ step.0, ap (λ (t : Told). t.state) (kept-told s call r keeps) ∙ step.1)

-- from any state
pub run-from : (s : State) (steps : List Step) → Run s steps
    → (sent_in steps ≡ units_of (pending s ++ row_of steps)) × (after s steps ≡ waiting_of (pending s ++ row_of steps))
run-from s [] run = (sym (units-none s), sym (waiting_none s))
run-from s (step ∷ rest) run =
    let here = step-sends s step.call step.answer run.0 in
    let row = pending s ++ brings s step.call step.answer run.0 in
    let on = run-from step.answer.state rest run.1 in
    let joined = append_assoc (pending s) (brings s step.call step.answer run.0) (row_of rest) in (
      ap₂ (λ (a b : List AccessUnit). a ++ b) here.0 (on.0 ∙ ap (λ (w : State). units_of (pending w ++ row_of rest)) here.1)
          ∙ sym (units-cut row (row_of rest)) ∙ ap units_of joined,
      on.1 ∙ ap (λ (w : State). waiting_of (pending w ++ row_of rest)) here.1 ∙ sym (waiting-cut row (row_of rest)) ∙ ap waiting_of joined,
    )

pub run-sends : (steps : List Step) → Run Nothing steps → (sent_in steps ≡ units_of (row_of steps)) × (after Nothing steps ≡ waiting_of (row_of steps))
run-sends = run-from Nothing

-- a picture brings slots only
side-slot : (side : ℕ) (slot : Slot) → slots_of (on_side side slot ∷ []) ≡ on_side side slot ∷ []
side-slot zero slot = refl
side-slot (suc n) slot = refl

slots-all : (how : Shown) (rs : List Record) (fields : List ℕ) → slots_of (map (field_event how rs) fields) ≡ map (field_event how rs) fields
slots-all how rs [] = refl
slots-all how rs (f ∷ fields) =
    slots-append (field_event how rs f ∷ []) (map (field_event how rs) fields)
    ∙ ap₂ (λ (a b : List Event). a ++ b) (side-slot (side how.top_field_first f) (slot_of how.line_offset f rs)) (slots-all how rs fields)

brought-slots : (verdict : Verdict) (how : Shown) (rs : List Record) → slots_of (brought verdict (picture_events how rs)) ≡ brought verdict (picture_events how rs)
brought-slots Accepted how rs = slots-all how rs (fields_shown how.repeat_first_field)
brought-slots (Refused reason item) how rs = refl

call-slots : (call : Call) → slots_of (brought (call_verdict call) (call_events call)) ≡ shown_in call
call-slots (shows how u) = brought-slots (picture_verdict how u) how (held u).records
call-slots closes = refl

row-slots : (steps : List Step) → slots_of (row_of steps) ≡ displayed steps
row-slots [] = refl
row-slots (step ∷ rest) =
    slots-append (brought (call_verdict step.call) (call_events step.call)) (row_of rest)
    ∙ ap₂ (λ (a b : List Event). a ++ b) (call-slots step.call) (row-slots rest)

pub run-slots : (steps : List Step) → Run Nothing steps
    → (frames : List Frame) × (sent_in steps ≡ map unit_of frames) × (slots_sent frames ++ pending (after Nothing steps) ≡ displayed steps)
run-slots steps run =
    let sends = run-sends steps run in
    let row = row_of steps in (
      frames_of row,
      sends.0,
      ap (λ (w : State). slots_sent (frames_of row) ++ pending w) sends.1 ∙ slots_kept row ∙ row-slots steps,
    )

-- without its refused calls
module _ (s : State) (step : Step) (rest : List Step) where
  Same : List Step → Type 0
  Same kept = Run s kept × (sent_in kept ≡ sent_in (step ∷ rest)) × (after s kept ≡ after s (step ∷ rest))

refused-step : (verdict : Verdict) (s : State) (es : List Event) (step : Step) (kept rest : List Step)
    → told step.answer ≡ told_of verdict s es
    → Keeps s step.call step.answer
    → Run step.answer.state kept → sent_in kept ≡ sent_in rest → after step.answer.state kept ≡ after step.answer.state rest
    → Same s step rest (kept_if verdict step kept)
unfolding Same
refused-step Accepted s es step kept rest e keeps run sent end =
    ((keeps, run), ap (λ (us : List AccessUnit). units_sent step.answer.sent ++ us) sent, end)
refused-step (Refused reason item) s es step kept rest e keeps run sent end =
    let state : step.answer.state ≡ s = ap (λ (t : Told). t.state) e in
    let nothing : units_sent step.answer.sent ≡ [] = ap (λ (t : Told). t.units) e in (
      subst (λ (w : State). Run w kept) state run,
      sent ∙ ap (λ (us : List AccessUnit). us ++ sent_in rest) (sym nothing),
      ap (λ (w : State). after w kept) (sym state) ∙ end,
    )

pub run-refused : (s : State) (steps : List Step) → Run s steps
    → Run s (accepted_of steps) × (sent_in (accepted_of steps) ≡ sent_in steps) × (after s (accepted_of steps) ≡ after s steps)
unfolding Same
run-refused s [] run = (tt, refl, refl)
run-refused s (step ∷ rest) run =
    let on = run-refused step.answer.state rest run.1 in
    refused-step (call_verdict step.call) s (call_events step.call) step (accepted_of rest) rest (kept-told s step.call step.answer run.0) run.0
    on.0 on.1 on.2
