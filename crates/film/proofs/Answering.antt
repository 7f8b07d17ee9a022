-- What an answer tells, from the promise of its call.
-- Assumes nothing.
use Prim.Native.Nat.{◌≤◌}
use native.Mathlib.Omega.{arith}
use mathlib.Core.Path.{◌≡◌, ◌∙◌, ap, subst, sym, refl}
use mathlib.Core.Logic.{⊎_elim}
use mathlib.Core.Bool.{Bool, true, false}
use mathlib.Core.List.{List, [], ◌∷◌, ◌++◌}
use lib.ListN.{length}
use Rattle.refusal.specs.Verdict.{Verdict}
use Rattle.refusal.specs.Verdict.{Accepted, Refused}
use Rattle.refusal.specs.declared.Refusal.{Refusal}
use Rattle.refusal.specs.Checks.{first}
use Rattle.refusal.specs.Numbers.{refusal_of}
use Rattle.refusal.specs.Answers.{accepted}
use Rattle.refusal.proofs.Acceptance.{told-accepted}
use Rattle.scte20.specs.declared.Record.{Record}
use Rattle.scte20.specs.declared.CaptionUnit.{CaptionUnit}
use Rattle.scte20.specs.Value.{held}
use Rattle.line21.specs.declared.AccessUnit.{AccessUnit}
use Rattle.film.specs.State.{State}
use Rattle.film.specs.State.{Nothing, Waiting}
use Rattle.film.specs.declared.Shown.{Shown}
use Rattle.film.specs.declared.Sent.{Sent}
use Rattle.film.specs.declared.Sent.TheVariants as sent
use Rattle.film.specs.declared.Answer.{Answer}
use Rattle.film.specs.Display.{Event, closing, picture_events}
use Rattle.film.specs.Frames.{units_of, waiting_of, pending}
use Rattle.film.specs.Calls.{picture_verdict, units_sent, Told, told, told_of, Shows, Closes}
use Rattle.film.specs.Order.{picture_checks, ForPicture}
use Rattle.film.proofs.Passages.{two_sent, three_sent, two-shown, three-shown}
use Rattle.film.proofs.Sequence.{picture-order, picture-gives}

refusal-of : (verdict : Verdict) (s : State) (es : List Event) → (told_of verdict s es).refusal ≡ refusal_of verdict
refusal-of Accepted s es = refl
refusal-of (Refused reason item) s es = refl

kept_of : (verdict : Verdict) (s : State) (es : List Event) → ((refusal_of verdict).number ≡ 0 → ⊥) → ((told_of verdict s es).units ≡ []) × ((told_of verdict s es).state ≡ s)
kept_of Accepted s es n = absurd (n refl)
kept_of (Refused reason item) s es n = (refl, refl)

-- no units, no answer but that one
sent-none : (x : Sent) → units_sent x ≡ [] → x ≡ sent.None
sent-none sent.None e = refl
sent-none (sent.One a) e = let f : ⊥ = omega (arith, ap (λ (us : List AccessUnit). length us) e) in absurd f
sent-none (sent.Two a b) e = let f : ⊥ = omega (arith, ap (λ (us : List AccessUnit). length us) e) in absurd f

pub sent-few : (x : Sent) → length (units_sent x) ≤ 2
sent-few sent.None = omega arith
sent-few (sent.One a) = omega arith
sent-few (sent.Two a b) = omega arith

-- any call
module _ (verdict : Verdict) (s : State) (es : List Event) (r : Answer) (answer : told r ≡ told_of verdict s es) where
  pub told-refusal : r.refusal ≡ refusal_of verdict
  told-refusal = ap (λ (t : Told). t.refusal) answer ∙ refusal-of verdict s es

  pub told-verdict : r.refusal.number ≡ 0 → verdict ≡ Accepted
  told-verdict e = told-accepted verdict (ap (λ (q : Refusal). q.number) (sym told-refusal) ∙ e)

  pub verdict-told : verdict ≡ Accepted → r.refusal.number ≡ 0
  verdict-told e = ap (λ (q : Refusal). q.number) (told-refusal ∙ ap refusal_of e)

  pub told-keeps : (r.refusal.number ≡ 0 → ⊥) → (r.sent ≡ sent.None) × (r.state ≡ s)
  told-keeps n =
      let kept = kept_of verdict s es (λ zero. n (ap (λ (q : Refusal). q.number) told-refusal ∙ zero)) in
      (sent-none r.sent (ap (λ (t : Told). t.units) answer ∙ kept.0), ap (λ (t : Told). t.state) answer ∙ kept.1)

  pub told-sends : verdict ≡ Accepted → (units_sent r.sent ≡ units_of (pending s ++ es)) × (r.state ≡ waiting_of (pending s ++ es))
  told-sends e =
      let accepts : told r ≡ told_of Accepted s es = answer ∙ ap (λ (v : Verdict). told_of v s es) e in
      (ap (λ (t : Told). t.units) accepts, ap (λ (t : Told). t.state) accepts)

-- a picture
module _ (s : State) (how : Shown) (u : CaptionUnit) (r : Answer) (shows : Shows s how u r) where
  abbrev asked : Verdict
  asked = picture_verdict how u

  abbrev row : List Event
  row = picture_events how (held u).records

  pub picture-first : r.refusal ≡ refusal_of (first (picture_checks how u))
  picture-first = told-refusal asked s row r shows.answer ∙ ap refusal_of (picture-order how u)

  pub refused-keeps : (r.refusal.number ≡ 0 → ⊥) → (r.sent ≡ sent.None) × (r.state ≡ s)
  refused-keeps = told-keeps asked s row r shows.answer

  pub picture-sends : r.refusal.number ≡ 0
      → (units_sent r.sent ≡ units_of (pending s ++ picture_events how (held u).records))
      × (r.state ≡ waiting_of (pending s ++ picture_events how (held u).records))
  picture-sends e = told-sends asked s row r shows.answer (told-verdict asked s row r shows.answer e)

  pub picture-numbers : (r.refusal.number ≡ 0 → ⊥) → ForPicture r.refusal
  picture-numbers n =
      subst ForPicture (sym (told-refusal asked s row r shows.answer))
      (⊎_elim (λ e. absurd (n (verdict-told asked s row r shows.answer e))) (λ p. p) (picture-gives how u))

few-sent : (repeat : Bool) (s : State) (how : Shown) (rs : List Record) → how.repeat_first_field ≡ repeat → length (units_of (pending s ++ picture_events how rs)) ≤ 2
few-sent false s how rs e = subst (λ (us : List AccessUnit). length us ≤ 2) (two-shown s how rs e).0 (sent-few (two_sent s how rs))
few-sent true s how rs e = subst (λ (us : List AccessUnit). length us ≤ 2) (three-shown s how rs e).0 (sent-few (three_sent s how rs))

pub at_most_two : (s : State) (how : Shown) (rs : List Record) → length (units_of (pending s ++ picture_events how rs)) ≤ 2
at_most_two s how rs = few-sent how.repeat_first_field s how rs refl

-- a closing
closed-state : (s : State) → waiting_of (pending s ++ (closing ∷ [])) ≡ Nothing
closed-state Nothing = refl
closed-state (Waiting a) = refl

pub close-sends : (s : State) (r : Answer) → Closes s r
    → (r.refusal ≡ accepted) × (units_sent r.sent ≡ units_of (pending s ++ (closing ∷ []))) × (r.state ≡ Nothing)
close-sends s r closes =
    let sends = told-sends Accepted s (closing ∷ []) r closes refl in
    (told-refusal Accepted s (closing ∷ []) r closes, sends.0, sends.1 ∙ closed-state s)
