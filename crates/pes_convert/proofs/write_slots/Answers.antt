-- `pes_convert::write_slots` meets its contract: it stores where the verdict accepts, and what is stored is the layout.
use Prim.Native.Nat.{ℕ, ◌+◌, ◌-◌, ◌≤◌}
use native.Mathlib.Omega.{arith}
use mathlib.Core.Path.{◌≡◌, ◌∙◌, ap, sym, subst, subst₃, refl}
use mathlib.Core.Bool.{true≢false}
use mathlib.Core.List.{List, [], ◌∷◌}
use borrow.Rule.Slice.PartMut.{put_mid}
use lib.Dec.{ltb}
use lib.ListN.{length, take, drop, set, length-set}
use lib.Seq.{sets-eq}
use Rattle.std.specs.Result.{is_err}
use Rattle.std.proofs.Common.{rules}
use Rattle.lists.specs.Room.{over}
use Rattle.lists.proofs.Lay.{laid_more, length_rest}
use Rattle.refusal.specs.declared.Refusal.{Refusal}
use Rattle.refusal.specs.Verdict.{Verdict}
use Rattle.refusal.specs.Verdict.{Accepted}
use Rattle.refusal.specs.declared.Reason.TheVariants.{NoRoom}
use Rattle.refusal.specs.declared.Item.TheVariants.{Whole}
use Rattle.refusal.specs.Checks.{refuse_if, first}
use Rattle.refusal.specs.Numbers.{refusal_of}
use Rattle.refusal.specs.Answers.{Wrote}
use Rattle.refusal.proofs.Acceptance.{told-accepted}
use Rattle.refusal.proofs.Checks.{accepted-all, accepted-within}
use Rattle.refusal.proofs.Outputs.{wrote_nothing, wrote-laid}
use Rattle.sdp.specs.declared.Packet.{Packet}
use Rattle.sdp.specs.Value.{Sdp, Typed, Legal, held}
use Rattle.sdp.proofs.Numbers.{checked-legal}
use Rattle.subtitling.specs.Writing.{value_verdict}
use Rattle.subtitling.proofs.Numbers.{accepted-value}
use Rattle.pes.specs.Layout.{layout_units, layout}
use Rattle.pes_convert.specs.Converting.{full_units, lines_checks, converted, convert_verdict}
use Rattle.pes_convert.proofs.write_slots.Goals.{Else-is_err}
use Rattle.pes_convert.proofs.write_slots.Goals as goal

legal : (p : Packet) (rows : List (List ℕ)) → Typed p rows → value_verdict (held p rows) 245 ≡ Accepted → Legal (held p rows)
legal p rows types accepted =
    let ok = accepted-value (held p rows) 245 accepted in
    checked-legal p rows types ok.few ok.each

-- what is accepted finds room
fits : (v : Sdp) (room : ℕ) → convert_verdict Accepted v room ≡ Accepted → length (layout (converted v)) ≤ room
unfolding convert_verdict
fits v room e =
    let check = refuse_if (ltb room (length (layout (converted v)))) NoRoom Whole in
    let each = accepted-all (Accepted ∷ first (lines_checks v.slots) ∷ check ∷ []) e in
    accepted-within room (length (layout (converted v))) _ _ each.1.1.0

-- what was stored is the layout
module _ (v : Sdp) (out : List ℕ) (room : length (layout (converted v)) ≤ length out) where
  abbrev one : List ℕ
  one = set out 0 0x10

  laid : (rest : List ℕ) → rest ≡ over (layout_units (full_units v.slots)) (take (length one - 1) (drop 1 one))
      → put_mid 1 (length one - 1) one rest ≡ over (layout (converted v)) out
  laid rest e =
      laid_more (0x10 ∷ []) (layout_units (full_units v.slots)) out one rest 1
      (sets-eq (0x10 ∷ []) out 0 (omega (arith, room)))
      refl
      e

pub returns-then-is_err : goal.returns-then-is_err
returns-then-is_err c =
    let v = held c.args.p c.args.rows.now in
    let out = c.args.out.now in
    let verdict = convert_verdict Accepted v (length out) in
    subst (λ (r : Refusal). Wrote verdict (layout (converted v)) out (record { refusal = r; len = 0 }) out)
    (sym (c.from-refusal.ensures ∙ ap refusal_of c.judge_slots-verdict.ensures))
    (wrote_nothing verdict (layout (converted v)) out
    (λ e. true≢false (c.if-is_err.ensures.value ∙ ap is_err (c.judge_slots-verdict.ensures ∙ told-accepted verdict e))))

-- it accepts
module _ (c : Else-is_err) where
  abbrev v : Sdp
  v = held c.args.p c.args.rows.now

  abbrev verdict : Verdict
  verdict = convert_verdict Accepted v (length c.args.out.now)

  accepted : verdict ≡ Accepted
  accepted = sym c.judge_slots-verdict.ensures ∙ search rules

  room : length (layout (converted v)) ≤ length c.args.out.now
  room = fits v (length c.args.out.now) accepted

pub bounds-out-0 : goal.bounds-out-0
bounds-out-0 c = omega (arith, room (goal.at.bounds-out-0 c).Else-is_err)

pub slice_bounds-put_slots-count : goal.slice_bounds-put_slots-count
slice_bounds-put_slots-count c = simp length-set (omega (arith, room (goal.at.slice_bounds-put_slots-count c).Else-is_err))

pub slice_bounds-put_slots-start : goal.slice_bounds-put_slots-start
slice_bounds-put_slots-start c = simp length-set (omega (arith, room (goal.at.slice_bounds-put_slots-start c).Else-is_err))

pub put_slots-units-requires : goal.put_slots-units-requires
put_slots-units-requires c =
    let past = (goal.at.put_slots-units-requires c).Else-is_err in
    let out = c.args.out.now in
    record {
      typed = c.by_types.ensures;
      each = (legal c.args.p c.args.rows.now c.by_types.ensures c.requires).each;
      in_bounds = omega (arith, room past, length_rest (set out 0 0x10) 1, length-set out 0 0x10);
    }

pub returns : goal.returns
returns c =
    let past = (goal.at.returns c).Else-is_err in
    let out = c.args.out.now in
    let laid-out = layout (converted (v past)) in
    let counted : length laid-out ≡ 1 + c.put_slots-units.result = omega (arith, c.put_slots-units.ensures.value) in
    subst₃ (λ (r : Refusal) (k : ℕ) (exit : List ℕ). Wrote (verdict past) laid-out out (record { refusal = r; len = k }) exit)
    (sym (c.from-refusal.ensures ∙ ap refusal_of c.judge_slots-verdict.ensures))
    counted
    (sym (laid (v past) out (room past) c.put_slots-units.new.out c.put_slots-units.ensures.out_after))
    (wrote-laid (verdict past) laid-out out (ap (λ (w : Verdict). (refusal_of w).number) (accepted past)))
