-- Replacing the caption unit of an area: when it succeeds, what the output then holds, what a refusal tells and leaves, and that putting the old value
-- back gives the area.
-- Assumes nothing.
use Prim.Native.Nat.{ℕ, ◌≤◌, ◌<◌}
use native.Mathlib.Omega.{arith}
use mathlib.Core.Path.{◌≡◌, ◌∙◌, ap, sym, subst, refl}
use mathlib.Core.Logic.{◌↔◌}
use mathlib.Core.Bool.{true, true≢false}
use mathlib.Core.List.{List, [], ◌∷◌}
use lib.ListN.{length, take}
use Rattle.lists.specs.Room.{over}
use Rattle.refusal.specs.declared.Refusal.{Refusal}
use Rattle.refusal.specs.Verdict.{Verdict}
use Rattle.refusal.specs.Verdict.{Accepted}
use Rattle.refusal.specs.declared.Written.{Written}
use Rattle.refusal.specs.Numbers.{refusal_of}
use Rattle.refusal.specs.Checks.{and_then, first}
use Rattle.refusal.specs.Answers.{refused, written}
use Rattle.refusal.proofs.Checks.{accepted-and_then, and_then-accepted, and_then-refused}
use Rattle.refusal.proofs.Outputs.{wrote-accepted, accepted-wrote, wrote-refusal, success-left, refusal-left}
use Rattle.units.specs.Split.{bodies_of}
use Rattle.units.proofs.Splits.{layout-bodies}
use Rattle.kind.specs.declared.Kind.{Kind}
use Rattle.picture.specs.Kinds.{Content, CaptionUnit, stored, held, LegalCaptionUnit, stuffing, whole_verdict, write_verdict, ForValue}
use Rattle.picture.specs.Value.{Area, uncaptioned, captioned, bodies, layout, Legal, replaced}
use Rattle.picture.specs.Reading.{area_verdict, Answer, answer_of, shown, Reads}
use Rattle.picture.specs.Writing.{replaced_of, replace_verdict, Replaces}
use Rattle.picture.specs.Order.{replacing_checks}
use Rattle.picture.proofs.Contents.{stored-held, stored-legal, legal-held, accepted-write, write-accepted, stuffing-within, write-unplaced, whole-15, illegal-value, long-refused, no-room-refused}
use Rattle.picture.proofs.Areas.{accepted-back, legal-verdict}
use Rattle.picture.proofs.Unique.{bodies-clean}
use Rattle.picture.proofs.Accepting.{the-answer, refused-in-order, zero-accepted, other-refused}
use Rattle.picture.proofs.Sequence.{replacing-order}
use Rattle.picture.proofs.Replaced.{replaced-layout, replaced-legal, replaced-long, value-next, written-bytes}

module _ (k : Kind) where
  -- OF ANY BYTES

  module _ (s : List ℕ) (u : CaptionUnit k) (out : List ℕ) (r : Written) (exit : List ℕ) (p : Replaces k s u out r exit) where
    pub replaces-exactly : r.refusal.number ≡ 0
        ↔ ((v : Area k) × Legal k v × (layout k v ≡ s) × LegalCaptionUnit k u × (length (layout k (replaced k v (held k u))) ≤ 16384) × (length (layout k (replaced k v (held k u))) ≤ length out))
    replaces-exactly = (
      λ e.
          let ok = accepted-and_then (area_verdict k s) _ (wrote-accepted _ _ _ _ _ p.wrote e) in
          let back = accepted-back k s p.bytes ok.0 in
          let v = back.value in
          let new : replaced_of k s (held k u) ≡ layout k (replaced k v (held k u)) = ap (λ (t : List ℕ). replaced_of k t (held k u)) (sym back.same) ∙ replaced-layout k v (held k u) back.legal in
          let fits = accepted-write k u _ _ p.typed ok.1 in
          (v, back.legal, back.same, fits.0, subst (λ (t : List ℕ). length t ≤ 16384) new fits.1, subst (λ (t : List ℕ). length t ≤ length out) new fits.2),
      λ w.
          let v = w.0 in
          let area : area_verdict k s ≡ Accepted = subst (λ (t : List ℕ). area_verdict k t ≡ Accepted) w.2 (legal-verdict k v w.1) in
          let new : replaced_of k s (held k u) ≡ layout k (replaced k v (held k u)) = ap (λ (t : List ℕ). replaced_of k t (held k u)) (sym w.2) ∙ replaced-layout k v (held k u) w.1 in
          let value = write-accepted k u (length (layout k (replaced k v (held k u)))) (length out) p.typed w.3 (replaced-long k v (held k u)) w.4 w.5 in
          accepted-wrote _ _ _ _ _ p.wrote (and_then-accepted (area_verdict k s) _ area (ap (λ (t : List ℕ). write_verdict k u (length t) (length out)) new ∙ value)),
    )

    pub replace-in-order : r.refusal ≡ refusal_of (replace_verdict k s u (length out))
    replace-in-order = wrote-refusal _ _ _ _ _ p.wrote

    pub replace-first : r.refusal ≡ refusal_of (first (replacing_checks k s u (length out)))
    replace-first = replace-in-order ∙ ap refusal_of (replacing-order k s u (length out))

    pub refused-as-read : (a : Answer k) → Reads k s a → (a.refusal.number ≡ 0 → ⊥) → r.refusal ≡ a.refusal
    refused-as-read a read h =
        replace-in-order ∙ ap refusal_of (and_then-refused (area_verdict k s) _ (other-refused k s a read h)) ∙ sym (refused-in-order k s a read)

    pub replace-place : (a : Answer k) → Reads k s a → a.refusal.number ≡ 0 → r.refusal.place ≡ 0
    replace-place a read e =
        ap (λ (x : Refusal). x.place) replace-in-order
        ∙ ap (λ (v : Verdict). (refusal_of (and_then v (write_verdict k u (length (replaced_of k s (held k u))) (length out)))).place) (zero-accepted k s a read e)
        ∙ write-unplaced k u (length (replaced_of k s (held k u))) (length out)

    pub replace-untouched : (r.refusal.number ≡ 0 → ⊥) → (r.len ≡ 0) × (exit ≡ out)
    replace-untouched h = refusal-left _ _ _ _ _ p.wrote h

  -- OF A LEGAL AREA

  -- the new caption unit is what it shows
  pub shown-replaced : (v : Area k) (c : Content k) → shown k (replaced k v c) ≡ answer_of k Accepted (c ∷ [])
  shown-replaced (uncaptioned us) c = refl
  shown-replaced (captioned before d after) c = refl

  module _ (v : Area k) (h : Legal k v) (u : CaptionUnit k) (out : List ℕ) (r : Written) (exit : List ℕ) (p : Replaces k (layout k v) u out r exit) where
    pub the-new-area : r.refusal.number ≡ 0
        → (r ≡ written (length (layout k (replaced k v (held k u))))) × (exit ≡ over (layout k (replaced k v (held k u))) out) × Legal k (replaced k v (held k u))
    the-new-area e =
        let done = success-left _ _ _ _ _ p.wrote (wrote-accepted _ _ _ _ _ p.wrote e) in
        let new = replaced-layout k v (held k u) h in
        let ok = accepted-and_then (area_verdict k (layout k v)) _ (wrote-accepted _ _ _ _ _ p.wrote e) in
        let fits = accepted-write k u _ _ p.typed ok.1 in (
          done.0 ∙ ap (λ (t : List ℕ). written (length t)) new,
          done.1 ∙ ap (λ (t : List ℕ). over t out) new,
          replaced-legal k v (held k u) h (legal-held k u fits.0) (subst (λ (t : List ℕ). length t ≤ 16384) new fits.1),
        )

    -- what was counted as written is the new area
    pub new-bytes : r.refusal.number ≡ 0 → take r.len exit ≡ layout k (replaced k v (held k u))
    new-bytes e = let new = the-new-area e in written-bytes (layout k (replaced k v (held k u))) out r exit (new.0, new.1)

    pub new-units : r.refusal.number ≡ 0 → bodies_of (take r.len exit) ≡ bodies k (replaced k v (held k u))
    new-units e = ap bodies_of (new-bytes e) ∙ layout-bodies _ (bodies-clean k (replaced k v (held k u)) (the-new-area e).2.units)

    pub replaced-read : r.refusal.number ≡ 0 → (a : Answer k) → Reads k (take r.len exit) a → a ≡ shown k (replaced k v (held k u))
    replaced-read e a read = the-answer k (replaced k v (held k u)) (the-new-area e).2 a (subst (λ (s : List ℕ). Reads k s a) (new-bytes e) read)

    -- the value decides, once the area is accepted
    told-next : r.refusal ≡ refusal_of (write_verdict k u (length (layout k (replaced k v (held k u)))) (length out))
    told-next = replace-in-order (layout k v) u out r exit p ∙ ap refusal_of (value-next k v h u (length out))

    pub replace-15 : (whole_verdict k u ≡ Accepted → ⊥) → r.refusal ≡ refused 15 0
    replace-15 illegal = told-next ∙ whole-15 k u (length (layout k (replaced k v (held k u)))) (length out) illegal

    pub replace-illegal : (LegalCaptionUnit k u → ⊥) → ForValue k r.refusal
    replace-illegal illegal =
        subst (ForValue k) (sym told-next) (illegal-value k u (length (layout k (replaced k v (held k u)))) (length out) p.typed illegal)

    pub replace-1 : LegalCaptionUnit k u → stuffing k u ≤ 16384 → 16384 < length (layout k (replaced k v (held k u))) → r.refusal ≡ refused 1 0
    replace-1 legal z long = told-next ∙ ap refusal_of (long-refused k u _ _ p.typed legal z long)

    pub replace-14 : LegalCaptionUnit k u → length (layout k (replaced k v (held k u))) ≤ 16384 → length out < length (layout k (replaced k v (held k u)))
        → r.refusal ≡ refused 14 0
    replace-14 legal short room =
        let z = stuffing-within k u (omega (arith, replaced-long k v (held k u))) in
        told-next ∙ ap refusal_of (no-room-refused k u _ _ p.typed legal z short room)

  -- PUTTING IT BACK

  put-around : (before : List (List ℕ)) (c : Content k) (after : List (List ℕ)) → Legal k (captioned before c after)
      → (a : Answer k) → Reads k (layout k (captioned before c after)) a
      → (u : CaptionUnit k) (out : List ℕ) (r : Written) (exit : List ℕ) → Replaces k (layout k (captioned before c after)) u out r exit → r.refusal.number ≡ 0
      → (room : List ℕ) (again : Written) (end : List ℕ) → Replaces k (take r.len exit) a.unit room again end
      → length (layout k (captioned before c after)) ≤ length room
      → (again ≡ written (length (layout k (captioned before c after)))) × (end ≡ over (layout k (captioned before c after)) room)
  put-around before c after h a read u out r exit p e room again end q fits =
      let v : Area k = captioned before c after in
      let w : Area k = captioned before (held k u) after in
      let legal : Legal k w = (the-new-area v h u out r exit p e).2 in
      let same : a.unit ≡ stored k c = ap (λ (x : Answer k). x.unit) (the-answer k v h a read) in
      let second : Replaces k (layout k w) (stored k c) room again end =
      subst (λ (s : List ℕ). Replaces k s (stored k c) room again end) (new-bytes v h u out r exit p e)
      (subst (λ (x : CaptionUnit k). Replaces k (take r.len exit) x room again end) same q) in
      let back : layout k (captioned before (held k (stored k c)) after) ≡ layout k v = ap (λ (d : Content k). layout k (captioned before d after)) (stored-held k c) in
      let ok = (replaces-exactly (layout k w) (stored k c) room again end second).1 (
        w,
        legal,
        refl,
        stored-legal k c h.units.1,
        omega (arith, ap length back, h.short),
        omega (arith, ap length back, fits),
      ) in
      let done = the-new-area w legal (stored k c) room again end second ok in
      (done.0 ∙ ap (λ (t : List ℕ). written (length t)) back, done.1 ∙ ap (λ (t : List ℕ). over t room) back)

  pub put_back : (v : Area k) → Legal k v → (a : Answer k) → Reads k (layout k v) a → a.present ≡ true
      → (u : CaptionUnit k) (out : List ℕ) (r : Written) (exit : List ℕ) → Replaces k (layout k v) u out r exit → r.refusal.number ≡ 0
      → (room : List ℕ) (again : Written) (end : List ℕ) → Replaces k (take r.len exit) a.unit room again end → length (layout k v) ≤ length room
      → (again ≡ written (length (layout k v))) × (end ≡ over (layout k v) room)
  put_back (captioned before c after) h a read there = put-around before c after h a read
  put_back (uncaptioned us) h a read there =
      absurd (true≢false (sym there ∙ ap (λ (x : Answer k). x.present) (the-answer k (uncaptioned us) h a read)))
