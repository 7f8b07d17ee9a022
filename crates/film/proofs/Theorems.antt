-- The theorems of film (docs/RULES.md, "Demands" and "Film"). What they speak of is defined in specs/: what a picture
-- shows, from its value alone, in Display; which access units go out for a row of slots, and which slot waits, in
-- Frames; what one call answers in Calls; its checks, as one list, and when a picture is carried, in Order; a run of
-- calls in Runs. Which side a display field has is said in crate `fields`. How to read it: docs/NOTATION.md.
--
-- The contract of `picture` (crate film_picture) is the promise `Shows`, and that of `close` is `Closes`.
-- `Shows s how u r`: in state s, to a picture with the caption unit u that is shown as `how` says, the answer is r.
-- `Closes s r`: closing in state s answers r. So each theorem speaks of every call, and those over runs of every list
-- of calls with answers that keep these promises. Assumes nothing.
use Prim.Native.Nat.{ℕ, ◌≤◌}
use mathlib.Core.Path.{◌≡◌}
use mathlib.Core.Logic.{◌↔◌}
use mathlib.Core.List.{List, [], ◌∷◌, ◌++◌, map}
use lib.ListN.{length}
use Rattle.lists.specs.Each.{Each}
use Rattle.refusal.specs.Verdict.{Verdict}
use Rattle.refusal.specs.Checks.{first}
use Rattle.refusal.specs.Numbers.{refusal_of}
use Rattle.refusal.specs.Answers.{accepted}
use Rattle.scte20.specs.declared.Record.{Record}
use Rattle.scte20.specs.declared.CaptionUnit.{CaptionUnit}
use Rattle.scte20.specs.Value.{field_of, held}
use Rattle.line21.specs.declared.AccessUnit.{AccessUnit}
use Rattle.line21.specs.Value.{LegalAccessUnit}
use Rattle.film.specs.Slot.{Slot}
use Rattle.film.specs.Slot.{Pair}
use Rattle.film.specs.State.{State}
use Rattle.film.specs.State.{Nothing}
use Rattle.film.specs.declared.Shown.{Shown}
use Rattle.film.specs.declared.Sent.TheVariants.{None}
use Rattle.film.specs.declared.Half.{Half}
use Rattle.film.specs.declared.Passing.{Passing}
use Rattle.film.specs.declared.Answer.{Answer}
use Rattle.film.specs.Display.{closing, fields_shown, slot_of, picture_events}
use Rattle.film.specs.Frames.{Frame, both, odd_alone, even_alone, waiting_of, pending, half_of, access_unit, unit_of}
use Rattle.film.specs.Frames.{field_one, field_two, blank, units_of, slots_sent}
use Rattle.film.specs.Calls.{picture_verdict, units_sent, Shows, Closes}
use Rattle.film.specs.Inside.{passed}
use Rattle.film.specs.Order.{picture_checks, ForPicture, Carried}
use Rattle.film.specs.Runs.{Step, Run, sent_in, after, row_of, displayed, accepted_of}
use Rattle.film.proofs.Sequence as sequence
use Rattle.film.proofs.Answering as answering
use Rattle.film.proofs.Carrying as carrying
use Rattle.film.proofs.Sides as sides
use Rattle.film.proofs.Running as running
use Rattle.film.proofs.Legal as legal
use Rattle.film.proofs.Determined as determined

-- ONE CALL

-- A picture is accepted exactly when it can be carried: the set line is one, the caption unit's value is legal, and
-- each record is of a field that is shown and on that line.
pub picture-exactly : (s : State) (how : Shown) (u : CaptionUnit) (r : Answer) → Shows s how u r
    → r.refusal.number ≡ 0 ↔ Carried how u
picture-exactly = carrying.picture-exactly

-- The checks are made in the order of RULES, one line of `picture_checks` each: the first that finds a fault decides,
pub picture-order : (how : Shown) (u : CaptionUnit) → picture_verdict how u ≡ first (picture_checks how u)
picture-order = sequence.picture-order

-- and the answer tells its number and place.
pub picture-first : (s : State) (how : Shown) (u : CaptionUnit) (r : Answer) → Shows s how u r
    → r.refusal ≡ refusal_of (first (picture_checks how u))
picture-first = answering.picture-first

-- A refusal is 15, 7, 8, 9, 21 or 22, at 0.
pub picture-numbers : (s : State) (how : Shown) (u : CaptionUnit) (r : Answer) → Shows s how u r
    → (r.refusal.number ≡ 0 → ⊥) → ForPicture r.refusal
picture-numbers = answering.picture-numbers

-- A refused call sends nothing, and what waits goes on waiting.
pub refused-keeps : (s : State) (how : Shown) (u : CaptionUnit) (r : Answer) → Shows s how u r
    → (r.refusal.number ≡ 0 → ⊥) → (r.sent ≡ None) × (r.state ≡ s)
refused-keeps = answering.refused-keeps

-- An accepted one sends what the rule says of the slot that waits and of those of the picture, in display order,
pub picture-sends : (s : State) (how : Shown) (u : CaptionUnit) (r : Answer) → Shows s how u r
    → r.refusal.number ≡ 0
    → (units_sent r.sent ≡ units_of (pending s ++ picture_events how (held u).records))
    × (r.state ≡ waiting_of (pending s ++ picture_events how (held u).records))
picture-sends = answering.picture-sends

-- which is two access units at the most.
pub at_most_two : (s : State) (how : Shown) (rs : List Record)
    → length (units_of (pending s ++ picture_events how rs)) ≤ 2
at_most_two = answering.at_most_two

-- Closing is never refused. It sends what waits, by the rule, and then nothing waits.
pub close-sends : (s : State) (r : Answer) → Closes s r
    → (r.refusal ≡ accepted) × (units_sent r.sent ≡ units_of (pending s ++ (closing ∷ []))) × (r.state ≡ Nothing)
close-sends = answering.close-sends

-- WHICH RECORD GOES INTO WHICH SLOT

-- In a picture that is carried each record is the slot of its display field, so that none is lost,
pub record-carried : (how : Shown) (u : CaptionUnit) → Carried how u
    → Each
    (λ (r : Record). slot_of how.line_offset (field_of r) (held u).records ≡ Pair r.cc_data_1 r.cc_data_2)
    (held u).records
record-carried = carrying.record-carried

-- and that field is one of those that are shown.
pub fields-carried : (how : Shown) (u : CaptionUnit) → Carried how u
    → Each (λ (r : Record). (1 ≤ field_of r) × (field_of r ≤ length (fields_shown how.repeat_first_field)))
    (held u).records
fields-carried = carrying.fields-carried

-- A slot that holds a pair holds that of a record, of that field and on that line: no pair is invented or moved.
pub slot-found : (line field a b : ℕ) (rs : List Record) → slot_of line field rs ≡ Pair a b
    → (before : List Record) × (r : Record) × (after : List Record)
    × (rs ≡ before ++ (r ∷ after)) × (field_of r ≡ field) × (r.line_offset ≡ line)
    × (Pair r.cc_data_1 r.cc_data_2 ≡ Pair a b)
slot-found = carrying.slot-found

-- FRAMES

-- Field 1 of an access unit is the odd slot, and field 2 the even one.
pub frame-both : (a b : Slot) → (field_one (unit_of (both a b)) ≡ half_of a) × (field_two (unit_of (both a b)) ≡ half_of b)
frame-both = sides.frame-both

-- Beside a slot that goes out alone stands one that is invalid and zero, and only opposite,
pub frame-odd : (a : Slot) → (field_one (unit_of (odd_alone a)) ≡ half_of a) × (field_two (unit_of (odd_alone a)) ≡ blank)
frame-odd = sides.frame-odd

pub frame-even : (b : Slot) → (field_one (unit_of (even_alone b)) ≡ blank) × (field_two (unit_of (even_alone b)) ≡ half_of b)
frame-even = sides.frame-even

-- and the padding is 0.
pub frame-padding : (f : Frame) → (unit_of f).padding ≡ 0
frame-padding = sides.frame-padding

-- RUNS

-- Over any run from the start, closings and refused calls among its calls, all that is sent, and what waits at the end,
-- is what the one rule says of the whole row: the slots of the accepted pictures in display order, and the closings.
pub run-sends : (steps : List Step) → Run Nothing steps
    → (sent_in steps ≡ units_of (row_of steps)) × (after Nothing steps ≡ waiting_of (row_of steps))
run-sends = running.run-sends

-- So no slot is lost, doubled, turned or moved to the other side: there are frames, which are what was sent, whose
-- slots in the order sent, and behind them the one that waits, are exactly those of the accepted pictures in display
-- order.
pub run-slots : (steps : List Step) → Run Nothing steps
    → (frames : List Frame) × (sent_in steps ≡ map unit_of frames)
    × (slots_sent frames ++ pending (after Nothing steps) ≡ displayed steps)
run-slots = running.run-slots

-- Without its refused calls a run is a run still, sends the same, and ends in the same state.
pub run-refused : (s : State) (steps : List Step) → Run s steps
    → Run s (accepted_of steps) × (sent_in (accepted_of steps) ≡ sent_in steps)
    × (after s (accepted_of steps) ≡ after s steps)
run-refused = running.run-refused

-- Every access unit that a run sends is a legal one, so that a payload can hold it.
pub run-legal : (steps : List Step) → Run Nothing steps → Each LegalAccessUnit (sent_in steps)
run-legal = legal.run-legal

-- ONE ANSWER

-- For each function, two answers that keep its promise are equal, the state too: of film_picture and film_value,
pub picture-determined : (s : State) (how : Shown) (u : CaptionUnit) (a b : Answer)
    → Shows s how u a → Shows s how u b → a ≡ b
picture-determined = determined.picture-determined

pub judge-determined : (how : Shown) (u : CaptionUnit) (a b : Verdict)
    → a ≡ picture_verdict how u → b ≡ picture_verdict how u → a ≡ b
judge-determined = determined.judge-determined

-- and of film.
pub close-determined : (s : State) (a b : Answer) → Closes s a → Closes s b → a ≡ b
close-determined = determined.close-determined

pub pass-determined : (s : State) (side : ℕ) (slot : Slot) (a b : Passing)
    → a ≡ passed s side slot → b ≡ passed s side slot → a ≡ b
pass-determined = determined.pass-determined

pub frame-determined : (odd even : Slot) (a b : AccessUnit) → a ≡ access_unit odd even → b ≡ access_unit odd even → a ≡ b
frame-determined = determined.frame-determined

pub half-of-determined : (slot : Slot) (a b : Half) → a ≡ half_of slot → b ≡ half_of slot → a ≡ b
half-of-determined = determined.half-of-determined
