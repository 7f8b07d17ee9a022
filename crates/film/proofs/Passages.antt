-- What a call answers, as the code has it: slot after slot sends what the rule says of the whole row.
-- Assumes nothing.
use Prim.Native.Nat.{ℕ, ◌≤◌}
use mathlib.Core.Path.{◌≡◌, ◌∙◌, ap, ap₂, subst, sym, refl}
use mathlib.Core.Bool.{Bool, true, false, false≢true}
use mathlib.Core.List.{List, [], ◌++◌, map}
use Rattle.std.specs.Result.{is_err}
use Rattle.refusal.specs.Verdict.{Verdict}
use Rattle.refusal.specs.Verdict.{Accepted, Refused}
use Rattle.refusal.specs.declared.Refusal.{Refusal}
use Rattle.refusal.specs.Numbers.{refusal_of}
use Rattle.refusal.proofs.Checks.{accepted-and_then, accepted-within}
use Rattle.scte20.specs.declared.Record.{Record}
use Rattle.scte20.specs.declared.CaptionUnit.{CaptionUnit}
use Rattle.scte20.specs.Value.{held}
use Rattle.scte20.specs.Writing.{value_verdict}
use Rattle.line21.specs.declared.AccessUnit.{AccessUnit}
use Rattle.film.specs.State.{State}
use Rattle.film.specs.State.{Nothing, Waiting}
use Rattle.film.specs.declared.Shown.{Shown}
use Rattle.film.specs.declared.Sent.{Sent}
use Rattle.film.specs.declared.Sent.TheVariants as sent
use Rattle.film.specs.declared.Passing.{Passing}
use Rattle.film.specs.Display.{Event, fields_shown, field_event, picture_events}
use Rattle.film.specs.Frames.{units_of, waiting_of, pending}
use Rattle.film.specs.Calls.{repeat_verdict, line_verdict, picture_verdict, units_sent, told, told_of}
use Rattle.film.specs.Inside.{shown_field, added}

-- what the checks let through
pub record Checked (how : Shown) (u : CaptionUnit) : Type 0 where
  pub line : how.line_offset ≤ 31
  pub value : value_verdict u ≡ Accepted
  pub repeat : repeat_verdict how.repeat_first_field 21 (held u).records ≡ Accepted
  pub lines : line_verdict how.line_offset 21 (held u).records ≡ Accepted

pub accepted-checked : (how : Shown) (u : CaptionUnit) → picture_verdict how u ≡ Accepted → Checked how u
unfolding picture_verdict
accepted-checked how u e =
    let line = accepted-and_then _ _ e in
    let value = accepted-and_then _ _ line.1 in
    let repeat = accepted-and_then _ _ value.1 in
    let lines = accepted-and_then _ _ repeat.1 in
    record {
      line = accepted-within 31 how.line_offset _ _ line.0;
      value = value.0;
      repeat = repeat.0;
      lines = lines.0;
    }

-- a picture's fields, with and without a slot that waits, are few enough to be gone through one by one
module _ (s : State) (how : Shown) (rs : List Record) where
  abbrev pub first_shown : Passing
  first_shown = shown_field s 1 how rs

  abbrev pub second_shown : Passing
  second_shown = shown_field first_shown.state 2 how rs

  abbrev pub third_shown : Passing
  third_shown = shown_field second_shown.state 3 how rs

  abbrev pub two_sent : Sent
  two_sent = added (added sent.None first_shown.gone) second_shown.gone

  abbrev pub three_sent : Sent
  three_sent = added two_sent third_shown.gone

  -- what is sent, and what waits, is what the rule says of the row
  abbrev Right : List Event → Sent → State → Type 0
  Right row out end = (units_sent out ≡ units_of (pending s ++ row)) × (end ≡ waiting_of (pending s ++ row))

each_two : (s : State) (top repeat : Bool) (line : ℕ) (rs : List Record)
    → let how : Shown = record { top_field_first = top; repeat_first_field = repeat; line_offset = line } in
    Right s how rs (map (field_event how rs) (fields_shown false)) (two_sent s how rs) (second_shown s how rs).state
each_two Nothing true repeat line rs = (refl, refl)
each_two Nothing false repeat line rs = (refl, refl)
each_two (Waiting a) true repeat line rs = (refl, refl)
each_two (Waiting a) false repeat line rs = (refl, refl)

each_three : (s : State) (top repeat : Bool) (line : ℕ) (rs : List Record)
    → let how : Shown = record { top_field_first = top; repeat_first_field = repeat; line_offset = line } in
    Right s how rs (map (field_event how rs) (fields_shown true)) (three_sent s how rs) (third_shown s how rs).state
each_three Nothing true repeat line rs = (refl, refl)
each_three Nothing false repeat line rs = (refl, refl)
each_three (Waiting a) true repeat line rs = (refl, refl)
each_three (Waiting a) false repeat line rs = (refl, refl)

module _ (s : State) (how : Shown) (rs : List Record) where
  shown-as : (repeat : Bool) (out : Sent) (end : State) → how.repeat_first_field ≡ repeat
      → Right s how rs (map (field_event how rs) (fields_shown repeat)) out end → Right s how rs (picture_events how rs) out end
  shown-as repeat out end e right = subst (λ (t : Bool). Right s how rs (map (field_event how rs) (fields_shown t)) out end) (sym e) right

  pub two-shown : how.repeat_first_field ≡ false → Right s how rs (picture_events how rs) (two_sent s how rs) (second_shown s how rs).state
  two-shown e = shown-as false (two_sent s how rs) (second_shown s how rs).state e (each_two s how.top_field_first how.repeat_first_field how.line_offset rs)

  pub three-shown : how.repeat_first_field ≡ true → Right s how rs (picture_events how rs) (three_sent s how rs) (third_shown s how rs).state
  three-shown e = shown-as true (three_sent s how rs) (third_shown s how rs).state e (each_three s how.top_field_first how.repeat_first_field how.line_offset rs)

-- the answer of a refused call
pub refuses : (verdict : Verdict) (refusal : Refusal) (s : State) (es : List Event) → refusal ≡ refusal_of verdict → is_err verdict ≡ true
    → told (record { refusal = refusal; sent = sent.None; state = s }) ≡ told_of verdict s es
refuses Accepted refusal s es e refused = absurd (false≢true refused)
refuses (Refused reason item) refusal s es e refused = ap (λ (r : Refusal). record { refusal = r; units = []; state = s }) e

-- and of an accepted one
pub accepts : (verdict : Verdict) (refusal : Refusal) (s : State) (es : List Event) (out : Sent) (end : State)
    → refusal ≡ refusal_of verdict → verdict ≡ Accepted
    → units_sent out ≡ units_of (pending s ++ es) → end ≡ waiting_of (pending s ++ es)
    → told (record { refusal = refusal; sent = out; state = end }) ≡ told_of verdict s es
accepts verdict refusal s es out end e ok units state =
    ap (λ (r : Refusal). record { refusal = r; units = units_sent out; state = end }) (e ∙ ap refusal_of ok)
    ∙ ap₂ (λ (us : List AccessUnit) (w : State). record { refusal = refusal_of Accepted; units = us; state = w }) units state
    ∙ ap (λ (v : Verdict). told_of v s es) (sym ok)
