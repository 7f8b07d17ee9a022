-- `pes_writer::write_from` meets its contract: it stores where the verdict accepts.
use Prim.Native.Nat.{ℕ, ◌+◌, ◌-◌, ◌*◌, ◌≤◌, ◌<◌}
use native.Mathlib.Omega.{arith}
use mathlib.Core.Path.{◌≡◌, ◌∙◌, ap, sym, subst, subst₃, refl}
use mathlib.Core.Bool.{true≢false}
use mathlib.Core.List.{List, [], ◌∷◌}
use borrow.Rule.Slice.PartMut.{put_mid}
use lib.ListN.{length, set, take, drop, length-set}
use Rattle.lists.specs.Flat.{taken}
use Rattle.lists.specs.Room.{over}
use Rattle.lists.proofs.Each.{each-of}
use Rattle.lists.proofs.Lay.{length_rest, sets-over_at, laid_more}
use Rattle.refusal.specs.declared.Refusal.{Refusal}
use Rattle.std.specs.Result.{is_err}
use Rattle.std.proofs.Common.{rules}
use Rattle.refusal.specs.Verdict.{Verdict}
use Rattle.refusal.specs.Verdict.{Accepted}
use Rattle.refusal.specs.Numbers.{refusal_of}
use Rattle.refusal.specs.Answers.{Wrote}
use Rattle.refusal.proofs.Acceptance.{told-accepted}
use Rattle.refusal.proofs.Outputs.{wrote_nothing, wrote-laid}
use Rattle.pes.specs.Value.{DataUnit, Told, Typed, held}
use Rattle.pes.specs.Layout.{layout, layout_units}
use Rattle.pes.specs.Writing.{written_units, value_verdict}
use Rattle.pes.specs.Lent.{unit_in, field_in}
use Rattle.pes.proofs.Lending.{lent-typed, front-taken, length_front}
use Rattle.pes.proofs.Writable.{Writable, accepted-value}
use Rattle.pes_writer.proofs.write_from.Goals.{After-from-refusal, Else-is_err}
use Rattle.pes_writer.proofs.write_from.Goals as goal

module _ (c : After-from-refusal) where
  abbrev value : Told
  value = field_in c.args.data_identifier c.args.n c.args.units.now

  types : Typed value
  types =
      let units = c.args.units.now in
      lent-typed c.args.data_identifier c.args.n units (each-of (λ (b : ℕ). b < 256) 0 units (λ i h. c.fits-units i)) c.told-units

  told : c.from-refusal.result ≡ refusal_of (value_verdict value (length c.args.out.now))
  told = c.from-refusal.ensures ∙ ap refusal_of c.judge_value-verdict.ensures

pub returns-then-is_err : goal.returns-then-is_err
returns-then-is_err c =
    let at = (goal.at.returns-then-is_err c).After-from-refusal in
    let out = c.args.out.now in
    let verdict = value_verdict (value at) (length out) in
    let laid = layout (held (value at)) in
    record {
      typed = types at;
      wrote =
          subst (λ (r : Refusal). Wrote verdict laid out (record { refusal = r; len = 0 }) out) (sym (told at))
          (wrote_nothing verdict laid out (λ e. true≢false (c.if-is_err.ensures.value ∙ ap is_err (c.judge_value-verdict.ensures ∙ told-accepted verdict e))));
    }

-- past the test the value is accepted
module _ (c : Else-is_err) where
  abbrev id : ℕ
  id = c.args.data_identifier

  abbrev n : ℕ
  n = c.args.n

  abbrev units : List ℕ
  units = c.args.units.now

  abbrev out : List ℕ
  out = c.args.out.now

  abbrev stated : Told
  stated = field_in id n units

  abbrev verdict : Verdict
  verdict = value_verdict stated (length out)

  accepted : verdict ≡ Accepted
  accepted = sym c.judge_value-verdict.ensures ∙ search rules

  writable : Writable stated (length out)
  writable = accepted-value stated (length out) accepted

  abbrev us : List DataUnit
  us = taken unit_in 45 n units

  same : (held stated).units ≡ us
  same = front-taken n units writable.few

  long : length (layout (held stated)) ≡ 1 + 46 * n
  long = length_front id n units writable.few c.told-units

  room : 1 + 46 * n ≤ length out
  room = omega (arith, long, writable.fits)

  -- behind data_identifier
  abbrev one : List ℕ
  one = set out 0 id

  one-laid : one ≡ over (id ∷ []) out
  one-laid = sets-over_at 0 (id ∷ []) out (omega (arith, room))

  stored : (rest : List ℕ) → rest ≡ over (layout_units us) (take (length one - 1) (drop 1 one))
      → put_mid 1 (length one - 1) one rest ≡ over (layout (held stated)) out
  stored rest laid =
      laid_more (id ∷ []) (layout_units us) out one rest 1 one-laid refl laid
      ∙ ap (λ (xs : List DataUnit). over (id ∷ layout_units xs) out) (sym same)

pub overflow_cast-out : goal.overflow_cast-out
overflow_cast-out c = omega (arith, (writable (goal.at.overflow_cast-out c).Else-is_err).identifier)

pub bounds-out-0 : goal.bounds-out-0
bounds-out-0 c = omega (arith, room (goal.at.bounds-out-0 c).Else-is_err)

pub slice_bounds-put_units-count : goal.slice_bounds-put_units-count
slice_bounds-put_units-count c = simp length-set (omega (arith, room (goal.at.slice_bounds-put_units-count c).Else-is_err))

pub slice_bounds-put_units-start : goal.slice_bounds-put_units-start
slice_bounds-put_units-start c = simp length-set (omega (arith, room (goal.at.slice_bounds-put_units-start c).Else-is_err))

pub put_units-requires : goal.put_units-requires
put_units-requires c =
    let past = (goal.at.put_units-requires c).Else-is_err in
    let few = (writable past).few in
    record {
      n_in_bounds = omega (arith, c.told-units, few);
      n_in_bounds_2 = omega (arith, length_rest (one past) 1, length-set c.args.out.now 0 c.args.data_identifier, room past);
      units_value = ap written_units (sym (same past)) ∙ (writable past).units;
    }

pub overflow_mul-result : goal.overflow_mul-result
overflow_mul-result c = omega (arith, (writable (goal.at.overflow_mul-result c).Else-is_err).few)

pub overflow_add-result : goal.overflow_add-result
overflow_add-result c = omega (arith, (writable (goal.at.overflow_add-result c).Else-is_err).few)

pub returns : goal.returns
returns c =
    let at = (goal.at.returns c).After-from-refusal in
    let past = (goal.at.returns c).Else-is_err in
    let laid = layout (held (value at)) in
    record {
      typed = types at;
      wrote =
          subst₃ (λ (r : Refusal) (k : ℕ) (exit : List ℕ). Wrote (verdict past) laid c.args.out.now (record { refusal = r; len = k }) exit)
          (sym (told at))
          (long past)
          (sym (stored past c.put_units.new.out c.put_units.ensures))
          (wrote-laid (verdict past) laid c.args.out.now (ap (λ (v : Verdict). (refusal_of v).number) (accepted past)));
    }
