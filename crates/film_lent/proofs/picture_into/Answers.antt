-- `film_lent::picture_into` meets its contract: what no state and no flag can be is refused, the frames of a picture that was gathered are those of
-- its slots, and else film's answer is stored.
use Prim.Native.Nat.{ℕ}
use mathlib.Core.Path.{◌≡◌, ◌∙◌, ap, ap₂, subst, sym, refl}
use lib.Dec.{eqb}
use Rattle.refusal.specs.Verdict.{Verdict}
use Rattle.refusal.specs.Verdict.{Accepted}
use Rattle.scte20.specs.Value.{held}
use Rattle.scte20.specs.Lent.{unit_in}
use Rattle.film.specs.State.{State}
use Rattle.film.specs.declared.Shown.{Shown}
use Rattle.film.specs.Display.{slot_of, picture_events}
use Rattle.film.specs.Calls.{picture_verdict, told_of}
use Rattle.film.proofs.Records.{array-typed}
use Rattle.film_value.specs.Inside.{Brings}
use Rattle.film_lent.specs.Kept as kept
use Rattle.film_lent.specs.Lent.{state_in, shown_in, kept_state, left_of}
use Rattle.film_lent.proofs.Left.{refused-left, stores-left, into-none, into-top, into-repeat, into-picture}
use Rattle.film_lent.proofs.States.{state-four}
use Rattle.film_lent.proofs.Halves.{picture-left}
use Rattle.film_lent.proofs.picture_into.Goals.{then-top_field_first-gt1-via-then-top_field_first-gt1, then-top_field_first-gt1-via-else-top_field_first-gt1+then-repeat_first_field-gt1}
use Rattle.film_lent.proofs.picture_into.Goals as goal

-- the flags beside a line
shown : ℕ → ℕ → ℕ → Shown
shown top repeat line = record { top_field_first = eqb top 1; repeat_first_field = eqb repeat 1; line_offset = line }

pub returns-in_default : goal.returns-in_default
returns-in_default c =
    let args = c.args in
    record {
      typed = array-typed args.v args.records.now c.fits-records c.told-records;
      left =
          refused-left _ _ _ _ _ args.film.now args.units.now c.refused.result
          (into-none _ _ _ _ _ (sym c.state_in.ensures ∙ c.in_default.is)) refl c.refused.ensures;
    }

pub returns-then-top_field_first-gt1 : goal.returns-then-top_field_first-gt1
returns-then-top_field_first-gt1 c =
    let args = c.args in
    let is : state_in args.film.now ≡ kept.State c.in-Some.state = sym c.state_in.ensures ∙ c.in-Some.is in
    record {
      typed = array-typed args.v args.records.now c.fits-records c.told-records;
      left =
          refused-left _ _ _ _ _ args.film.now args.units.now c.refused-then-top_field_first-gt1.result
          (elim c.then-top_field_first-gt1.branch [
            | then-top_field_first-gt1-via-then-top_field_first-gt1 w ↦ into-top _ _ _ _ _ _ is w.if-top_field_first-gt1.true
            | then-top_field_first-gt1-via-else-top_field_first-gt1+then-repeat_first_field-gt1 w ↦
                into-repeat _ _ _ _ _ _ is w.if-top_field_first-gt1.false w.if-repeat_first_field-gt1.true
          ]) refl c.refused-then-top_field_first-gt1.ensures;
    }

pub returns-in-Some-gather : goal.returns-in-Some-gather
unfolding shown
returns-in-Some-gather c =
    let args = c.args in
    let film = args.film.now in
    let u = unit_in args.v args.records.now in
    let how = shown_in args.top_field_first args.repeat_first_field args.line_offset in
    let rs = (held u).records in
    let is : state_in film ≡ kept.State c.in-Some.state = sym c.state_in.ensures ∙ c.in-Some.is in
    let brings =
    subst (λ (line : ℕ). Brings (shown args.top_field_first args.repeat_first_field line) u c.in-Some-gather.halves) c.narrow.ensures c.in-Some-gather.ensures in
    record {
      typed = array-typed args.v args.records.now c.fits-records c.told-records;
      left =
          picture-left film args.units.now _ is c.from.result c.from.ensures _ _ _ args.top_field_first args.repeat_first_field args.line_offset u
          (into-picture _ _ _ _ _ _ is c.if-top_field_first-gt1.false c.if-repeat_first_field-gt1.false ∙ brings.verdict)
          (c.put_frames.ensures _ (slot_of how.line_offset 1 rs) (slot_of how.line_offset 2 rs) (slot_of how.line_offset 3 rs) (state-four _ film is) brings.first brings.second brings.third);
    }

pub returns : goal.returns
unfolding shown
returns c =
    let args = c.args in
    let u = unit_in args.v args.records.now in
    let how = shown_in args.top_field_first args.repeat_first_field args.line_offset in
    let state = c.in-Some.state in
    let is : state_in args.film.now ≡ kept.State state = sym c.state_in.ensures ∙ c.in-Some.is in
    let rs = (held u).records in
    let same = ap (shown args.top_field_first args.repeat_first_field) c.narrow.ensures in
    record {
      typed = array-typed args.v args.records.now c.fits-records c.told-records;
      left =
          stores-left (picture_verdict how u) state (picture_events how rs) c.picture.result args.film.now args.units.now _ _ _
          (c.picture.ensures.answer ∙ ap (λ (h : Shown). told_of (picture_verdict h u) state (picture_events h rs)) same)
          c.store.ensures
          ∙ ap₂ (λ (v : Verdict) (s : State). left_of v (told_of Accepted s (picture_events how rs)) args.film.now args.units.now)
          (sym (into-picture _ _ _ _ _ state is c.if-top_field_first-gt1.false c.if-repeat_first_field-gt1.false))
          (ap kept_state (sym is));
    }
