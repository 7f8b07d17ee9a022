-- A run: calls one after the other, each with the state that the one before it answered; and what was shown in it, from
-- the pictures alone. RULES, "Film".
use Rattle.std.specs.Prelude.{List, [], ◌∷◌, ◌++◌}
use Rattle.refusal.specs.Verdict.{Verdict}
use Rattle.refusal.specs.Verdict.{Accepted, Refused}
use Rattle.scte20.specs.declared.CaptionUnit.{CaptionUnit}
use Rattle.scte20.specs.Value.{held}
use Rattle.line21.specs.declared.AccessUnit.{AccessUnit}
use Rattle.film.specs.State.{State}
use Rattle.film.specs.declared.Shown.{Shown}
use Rattle.film.specs.declared.Answer.{Answer}
use Rattle.film.specs.Display.{Event, closing, picture_events}
use Rattle.film.specs.Calls.{picture_verdict, units_sent, Shows, Closes}

pub data Call : Type 0 where
  shows : Shown → CaptionUnit → Call
  closes : Call

-- a call and its answer
pub record Step : Type 0 where
  pub call : Call
  pub answer : Answer

-- the answer keeps the promise of its call
abbrev pub Keeps : State → Call → Answer → Type 0
Keeps s (shows how u) r = Shows s how u r
Keeps s closes r = Closes s r

-- from this state on, any answers that keep the promises
abbrev pub Run : State → List Step → Type 0
Run s [] = Unit {0}
Run s (step ∷ rest) = Keeps s step.call step.answer × Run step.answer.state rest

-- all access units, in the order sent
abbrev pub sent_in : List Step → List AccessUnit
sent_in [] = []
sent_in (step ∷ rest) = units_sent step.answer.sent ++ sent_in rest

-- the state at the end
abbrev pub after : State → List Step → State
after s [] = s
after s (step ∷ rest) = after step.answer.state rest

abbrev pub call_verdict : Call → Verdict
call_verdict (shows how u) = picture_verdict how u
call_verdict closes = Accepted

abbrev pub call_events : Call → List Event
call_events (shows how u) = picture_events how (held u).records
call_events closes = closing ∷ []

-- what an accepted call brings; a refused one brings nothing
abbrev pub brought : Verdict → List Event → List Event
brought Accepted es = es
brought (Refused reason item) es = []

-- the row of the whole run, from the calls alone
abbrev pub row_of : List Step → List Event
row_of [] = []
row_of (step ∷ rest) = brought (call_verdict step.call) (call_events step.call) ++ row_of rest

-- the slots of the accepted pictures, in display order
abbrev pub shown_in : Call → List Event
shown_in (shows how u) = brought (picture_verdict how u) (picture_events how (held u).records)
shown_in closes = []

abbrev pub displayed : List Step → List Event
displayed [] = []
displayed (step ∷ rest) = shown_in step.call ++ displayed rest

-- the run without its refused calls
abbrev pub kept_if : Verdict → Step → List Step → List Step
kept_if Accepted step rest = step ∷ rest
kept_if (Refused reason item) step rest = rest

abbrev pub accepted_of : List Step → List Step
accepted_of [] = []
accepted_of (step ∷ rest) = kept_if (call_verdict step.call) step (accepted_of rest)
