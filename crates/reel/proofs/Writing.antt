-- When writing a reel succeeds, which number it refuses with, and what it leaves in the output.
-- Assumes nothing.
use Prim.Native.Nat.{ℕ, ◌+◌, ◌-◌, ◌*◌, ◌≤◌, ◌<◌}
use native.Mathlib.Omega.{arith}
use mathlib.Core.Path.{◌≡◌, ◌∙◌, ap, sym, subst, refl}
use mathlib.Core.Logic.{◌↔◌}
use mathlib.Core.List.{List, [], ◌∷◌, ◌++◌, map}
use lib.ListN.{length, drop, length-append, length-drop}
use Rattle.lists.specs.Each.{Each}
use Rattle.lists.specs.Room.{over}
use Rattle.lists.proofs.Each.{each_map}
use Rattle.refusal.specs.Verdict.{Verdict}
use Rattle.refusal.specs.Verdict.{Accepted}
use Rattle.refusal.specs.declared.Written.{Written}
use Rattle.refusal.specs.Checks.{and_then}
use Rattle.refusal.specs.Numbers.{refusal_of}
use Rattle.refusal.specs.Answers.{refused, written}
use Rattle.refusal.proofs.Checks.{accepted-and_then, and_then-accepted, and_then-refused, accepted-each, each-accepted}
use Rattle.refusal.proofs.Outputs.{wrote-refusal, wrote-accepted, accepted-wrote, success-left, refusal-left}
use Rattle.line21.specs.declared.AccessUnit.{AccessUnit}
use Rattle.line21.specs.Value.{Line21, LegalAccessUnit, stored}
use Rattle.line21.specs.Layout.{layout}
use Rattle.line21.specs.Writing.{unit_verdict, units_verdict, value_verdict, Writes}
use Rattle.line21.proofs.Answers.{stored-units, stored-held}
use Rattle.line21.proofs.Layouts.{length-layout_units}
use Rattle.line21.proofs.Numbers.{accepted-value, value-accepted, units-accepted, accepted-units}
use Rattle.reel.specs.Cut.{cut, joined}
use Rattle.reel.specs.Writing.{payload, reel, reel_layout, size_verdict, reel_verdict, WritesReel}
use Rattle.reel.proofs.Cutting.{cut-joined, cut-sized, sized-few, sized-count, each-joined, joined-each}
use Rattle.reel.proofs.Judging.{accepted-size, size-accepted, size-15}

-- EACH PAYLOAD

abbrev Few : Line21 → Type 0
Few v = length v.units ≤ 291

abbrev Passes : Line21 → Type 0
Passes v = units_verdict v.units ≡ Accepted

-- payloads are let through one by one exactly where their units are, and all of them fit
accepted-reel : (vs : List Line21) (room : ℕ) → reel_verdict vs room ≡ Accepted → Each Passes vs × (length (reel_layout vs) ≤ room)
accepted-reel [] room e = (tt, omega arith)
accepted-reel (v ∷ vs) room e =
    let both = accepted-and_then _ _ e in
    let here = accepted-value (stored v) room both.0 in
    let rest = accepted-reel vs (room - length (layout v)) both.1 in
    let long = ap (λ (w : Line21). length (layout w)) (stored-held v) in
    let all = length-append (layout v) (reel_layout vs) in
    ((sym (ap units_verdict (stored-units v)) ∙ here.each, rest.0), omega (arith, here.fits, rest.1))

pub reel-accepted : (vs : List Line21) (room : ℕ) → Each Few vs → Each Passes vs → length (reel_layout vs) ≤ room → reel_verdict vs room ≡ Accepted
reel-accepted [] room few pass fits = refl
reel-accepted (v ∷ vs) room few pass fits =
    let long = ap (λ (w : Line21). length (layout w)) (stored-held v) in
    let all = length-append (layout v) (reel_layout vs) in
    let count = length-layout_units v.units in
    and_then-accepted _ _
    (value-accepted (stored v) room
    (record {
      few = few.0;
      each = ap units_verdict (stored-units v) ∙ pass.0;
      short = omega (arith, few.0);
      fits = omega arith;
    }))
    (reel-accepted vs (room - length (layout v)) few.1 pass.1 (omega arith))

-- THE RUN

module _ (flags : ℕ) where
  pub each-payload : (P : Line21 → Type 0) (ps : List (List AccessUnit)) → Each (λ (us : List AccessUnit). P (payload flags us)) ps → Each P (map (payload flags) ps)
  each-payload P [] h = tt
  each-payload P (us ∷ ps) h = (h.0, each-payload P ps h.1)

  payload-each : (P : Line21 → Type 0) (ps : List (List AccessUnit)) → Each P (map (payload flags) ps) → Each (λ (us : List AccessUnit). P (payload flags us)) ps
  payload-each P [] h = tt
  payload-each P (us ∷ ps) h = (h.0, payload-each P ps h.1)

  -- a flags byte for each payload, and five bytes for each unit
  long : (ps : List (List AccessUnit)) → length (reel_layout (map (payload flags) ps)) ≡ length ps + 5 * length (joined ps)
  long [] = refl
  long (us ∷ ps) =
      omega (arith, length-append (layout (payload flags us)) (reel_layout (map (payload flags) ps)), length-layout_units us, long ps, length-append us (joined ps))

module _ (flags size : ℕ) (us : List AccessUnit) (some : 1 ≤ size) where
  pub reel-length : length (reel_layout (reel flags size us)) ≡ length (cut size us) + 5 * length us
  reel-length = long flags (cut size us) ∙ ap (λ (xs : List AccessUnit). length (cut size us) + 5 * length xs) (cut-joined size some us)

  pub payload-count : (length us ≤ size * length (cut size us)) × (size * length (cut size us) < length us + size)
  payload-count =
      subst (λ (xs : List AccessUnit). (length xs ≤ size * length (cut size us)) × (size * length (cut size us) < length xs + size)) (cut-joined size some us)
      (sized-count size some (cut size us) (cut-sized size some us))

  pub few-each : size ≤ 291 → Each Few (reel flags size us)
  few-each h =
      each-payload flags Few (cut size us)
      (each_map (λ (xs : List AccessUnit). length xs ≤ size) (λ (xs : List AccessUnit). length xs ≤ 291) (λ xs few. omega arith) (cut size us)
      (sized-few size some (cut size us) (cut-sized size some us)))

  -- every unit is one of a payload
  units-pass : Each Passes (reel flags size us) → units_verdict us ≡ Accepted
  units-pass h =
      let each = each_map (λ (xs : List AccessUnit). units_verdict xs ≡ Accepted) (λ (xs : List AccessUnit). Each (λ (u : AccessUnit). unit_verdict u ≡ Accepted) xs)
      (λ xs e. accepted-each unit_verdict xs e)
      (cut size us)
      (payload-each flags Passes (cut size us) h)
      in
      each-accepted unit_verdict us
      (subst (λ (xs : List AccessUnit). Each (λ (u : AccessUnit). unit_verdict u ≡ Accepted) xs) (cut-joined size some us)
      (each-joined (λ (u : AccessUnit). unit_verdict u ≡ Accepted) (cut size us) each))

  pub pass-units : units_verdict us ≡ Accepted → Each Passes (reel flags size us)
  pass-units e =
      let each = subst (λ (xs : List AccessUnit). Each (λ (u : AccessUnit). unit_verdict u ≡ Accepted) xs) (sym (cut-joined size some us)) (accepted-each unit_verdict us e) in
      each-payload flags Passes (cut size us)
      (each_map (λ (xs : List AccessUnit). Each (λ (u : AccessUnit). unit_verdict u ≡ Accepted) xs) (λ (xs : List AccessUnit). units_verdict xs ≡ Accepted)
      (λ xs h. each-accepted unit_verdict xs h)
      (cut size us)
      (joined-each (λ (u : AccessUnit). unit_verdict u ≡ Accepted) (cut size us) each))

-- THE CALL

-- what a success needs, and no more
pub record Fits (flags size : ℕ) (us : List AccessUnit) (out : List ℕ) : Type 0 where
  pub some : 1 ≤ size
  pub few : size ≤ 291
  pub legal : Each LegalAccessUnit us
  pub room : length (reel_layout (reel flags size us)) ≤ length out

module _ (flags size : ℕ) (us : List AccessUnit) (out : List ℕ) (r : Written) (exit : List ℕ) (w : WritesReel flags size us out r exit) where
  accepts : r.refusal.number ≡ 0 → (size_verdict size ≡ Accepted) × (reel_verdict (reel flags size us) (length out) ≡ Accepted)
  accepts e = accepted-and_then _ _ (wrote-accepted _ _ _ _ _ w.wrote e)

  pub fits-exactly : r.refusal.number ≡ 0 ↔ Fits flags size us out
  fits-exactly = (
    λ e.
        let both = accepts e in
        let sized = accepted-size size both.0 in
        let each = accepted-reel (reel flags size us) (length out) both.1 in
        record {
          some = sized.0;
          few = sized.1;
          legal = accepted-units us w.bytes (units-pass flags size us sized.0 each.0);
          room = each.1;
        },
    λ h.
        accepted-wrote _ _ _ _ _ w.wrote
        (and_then-accepted _ _ (size-accepted size h.some h.few)
        (reel-accepted (reel flags size us) (length out) (few-each flags size us h.some h.few) (pass-units flags size us h.some (units-accepted us h.legal)) h.room)),
  )

  pub writes-exactly : r.refusal.number ≡ 0
      ↔ ((1 ≤ size) × (size ≤ 291) × Each LegalAccessUnit us × (length (reel_layout (reel flags size us)) ≤ length out))
  writes-exactly = (
    λ e. let h = fits-exactly.0 e in (h.some, h.few, h.legal, h.room),
    λ h. fits-exactly.1 (record { some = h.0; few = h.1; legal = h.2; room = h.3 }),
  )

  pub written-front : r.refusal.number ≡ 0
      → (r ≡ written (length (reel_layout (reel flags size us)))) × (exit ≡ over (reel_layout (reel flags size us)) out)
  written-front e = success-left _ _ _ _ _ w.wrote (wrote-accepted _ _ _ _ _ w.wrote e)

  pub refused-untouched : (r.refusal.number ≡ 0 → ⊥) → (r.len ≡ 0) × (exit ≡ out)
  refused-untouched h = refusal-left _ _ _ _ _ w.wrote h

  -- the size is judged before all else
  pub size-refused : ((1 ≤ size) × (size ≤ 291) → ⊥) → r.refusal ≡ refused 15 0
  size-refused h = wrote-refusal _ _ _ _ _ w.wrote ∙ size-15 size (reel_verdict (reel flags size us) (length out)) (λ e. h (accepted-size size e))

  -- the payloads before it are let through, and the next one's own writer refuses it
  module _ (some : 1 ≤ size) (few : size ≤ 291) (before : List Line21) (v : Line21) (behind : List Line21)
      (run : reel flags size us ≡ before ++ (v ∷ behind)) where
    reached : (vs : List Line21) (room : ℕ) → reel_verdict vs room ≡ Accepted
        → reel_verdict (vs ++ (v ∷ behind)) room ≡ reel_verdict (v ∷ behind) (room - length (reel_layout vs))
    reached [] room e = ap (reel_verdict (v ∷ behind)) (let all : room ≡ room - 0 = omega arith in all)
    reached (p ∷ ps) room e =
        let both = accepted-and_then (value_verdict (stored p) room) (reel_verdict ps (room - length (layout p))) e in
        let gone : room - length (layout p) - length (reel_layout ps) ≡ room - length (reel_layout (p ∷ ps)) = omega (arith, length-append (layout p) (reel_layout ps)) in
        ap (λ (check : Verdict). and_then check (reel_verdict (ps ++ (v ∷ behind)) (room - length (layout p)))) both.0
        ∙ reached ps (room - length (layout p)) both.1
        ∙ ap (reel_verdict (v ∷ behind)) gone

    pub first-refused : reel_verdict before (length out) ≡ Accepted
        → (one : Written) (end : List ℕ) → Writes (stored v) (drop (length (reel_layout before)) out) one end
        → (one.refusal.number ≡ 0 → ⊥)
        → r.refusal ≡ one.refusal
    first-refused pass one end single bad =
        let left = length-drop (length (reel_layout before)) out in
        let stops = and_then-refused _ (reel_verdict behind (length out - length (reel_layout before) - length (layout v)))
        (λ (e : value_verdict (stored v) (length out - length (reel_layout before)) ≡ Accepted). bad (accepted-wrote _ _ _ _ _ single.wrote (ap (value_verdict (stored v)) left ∙ e)))
        in
        wrote-refusal _ _ _ _ _ w.wrote
        ∙ ap (λ (check : Verdict). refusal_of (and_then check (reel_verdict (reel flags size us) (length out)))) (size-accepted size some few)
        ∙ ap (λ (vs : List Line21). refusal_of (reel_verdict vs (length out))) run
        ∙ ap refusal_of (reached before (length out) pass ∙ stops)
        ∙ sym (wrote-refusal _ _ _ _ _ single.wrote ∙ ap (λ (room : ℕ). refusal_of (value_verdict (stored v) room)) left)

pub empty-written : (flags size : ℕ) (out : List ℕ) (r : Written) (exit : List ℕ) → WritesReel flags size [] out r exit
    → 1 ≤ size → size ≤ 291 → (r ≡ written 0) × (exit ≡ out)
empty-written flags size out r exit w some few = success-left _ _ _ _ _ w.wrote (ap (λ (v : Verdict). and_then v Accepted) (size-accepted size some few))
