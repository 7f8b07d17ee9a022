-- Writing a caption unit: when it succeeds, what the output then holds, what a refusal tells and leaves, and both ways with reading.
-- Assumes nothing.
use Prim.Native.Nat.{ℕ, ◌≤◌, ◌<◌}
use native.Mathlib.Omega.{arith}
use mathlib.Core.Path.{◌≡◌, ◌∙◌, ap, sym, subst}
use mathlib.Core.Logic.{◌↔◌}
use mathlib.Core.List.{List, [], append-nil}
use lib.ListN.{length, take}
use Rattle.lists.specs.Room.{over}
use Rattle.refusal.specs.declared.Refusal.{Refusal}
use Rattle.refusal.specs.Verdict.{Accepted}
use Rattle.refusal.specs.declared.Written.{Written}
use Rattle.refusal.specs.Numbers.{refusal_of}
use Rattle.refusal.specs.Checks.{first}
use Rattle.refusal.specs.Answers.{refused, written}
use Rattle.refusal.proofs.Outputs.{wrote-accepted, accepted-wrote, wrote-refusal, success-left, refusal-left}
use Rattle.units.proofs.Splits.{length-around}
use Rattle.kind.specs.declared.Kind.{Kind}
use Rattle.picture.specs.Kinds.{Content, body_of, CaptionUnit, stored, held, LegalCaptionUnit, stuffing, whole_verdict, write_verdict, ForValue}
use Rattle.picture.specs.Value.{Area, captioned, layout, Legal}
use Rattle.picture.specs.Reading.{Answer, shown, Reads}
use Rattle.picture.specs.Writing.{unit_bytes, Writes}
use Rattle.picture.specs.Order.{writing_checks}
use Rattle.picture.proofs.Contents.{stored-held, stored-legal, legal-held, accepted-write, write-accepted, stuffing-within, write-unplaced, whole-15, illegal-value, long-refused, no-room-refused}
use Rattle.picture.proofs.Accepting.{the-answer}
use Rattle.picture.proofs.Sequence.{writing-order}
use Rattle.picture.proofs.Replaced.{written-bytes}

module _ (k : Kind) where
  module _ (u : CaptionUnit k) (out : List ℕ) (r : Written) (exit : List ℕ) (w : Writes k u out r exit) where
    -- WHEN, AND WHAT THEN STANDS THERE

    pub writes-exactly : r.refusal.number ≡ 0 ↔ (LegalCaptionUnit k u × (length (unit_bytes k (held k u)) ≤ 16384) × (length (unit_bytes k (held k u)) ≤ length out))
    writes-exactly = (
      λ e. accepted-write k u _ _ w.typed (wrote-accepted _ _ _ _ _ w.wrote e),
      λ h. accepted-wrote _ _ _ _ _ w.wrote (write-accepted k u _ _ w.typed h.0 (omega arith) h.1 h.2),
    )

    pub written-front : r.refusal.number ≡ 0 → (r ≡ written (length (unit_bytes k (held k u)))) × (exit ≡ over (unit_bytes k (held k u)) out)
    written-front e = success-left _ _ _ _ _ w.wrote (wrote-accepted _ _ _ _ _ w.wrote e)

    -- WHICH REFUSAL

    pub write-in-order : r.refusal ≡ refusal_of (write_verdict k u (length (unit_bytes k (held k u))) (length out))
    write-in-order = wrote-refusal _ _ _ _ _ w.wrote

    pub write-first : r.refusal ≡ refusal_of (first (writing_checks k u (length out)))
    write-first = write-in-order ∙ ap refusal_of (writing-order k u (length out))

    pub write-place : r.refusal.place ≡ 0
    write-place = ap (λ (a : Refusal). a.place) write-in-order ∙ write-unplaced k u (length (unit_bytes k (held k u))) (length out)

    pub write-15 : (whole_verdict k u ≡ Accepted → ⊥) → r.refusal ≡ refused 15 0
    write-15 h = write-in-order ∙ whole-15 k u (length (unit_bytes k (held k u))) (length out) h

    pub illegal-refused : (LegalCaptionUnit k u → ⊥) → ForValue k r.refusal
    illegal-refused h =
        subst (ForValue k) (sym write-in-order) (illegal-value k u (length (unit_bytes k (held k u))) (length out) w.typed h)

    pub write-1 : LegalCaptionUnit k u → stuffing k u ≤ 16384 → 16384 < length (unit_bytes k (held k u)) → r.refusal ≡ refused 1 0
    write-1 h z long = write-in-order ∙ ap refusal_of (long-refused k u _ _ w.typed h z long)

    pub write-14 : LegalCaptionUnit k u → length (unit_bytes k (held k u)) ≤ 16384 → length out < length (unit_bytes k (held k u)) → r.refusal ≡ refused 14 0
    write-14 h short room =
        let z = stuffing-within k u (omega arith) in
        write-in-order ∙ ap refusal_of (no-room-refused k u _ _ w.typed h z short room)

    pub write-untouched : (r.refusal.number ≡ 0 → ⊥) → (r.len ≡ 0) × (exit ≡ out)
    write-untouched h = refusal-left _ _ _ _ _ w.wrote h

    -- BOTH WAYS

    pub written_read : r.refusal.number ≡ 0 → (a : Answer k) → Reads k (take r.len exit) a → a ≡ shown k (captioned [] (held k u) [])
    written_read e a read =
        let ok = writes-exactly.0 e in
        let alone : Area k = captioned [] (held k u) [] in
        let laid : layout k alone ≡ unit_bytes k (held k u) = append-nil (unit_bytes k (held k u)) in
        let legal : Legal k alone = record { units = (tt, legal-held k u ok.0, tt); short = omega (arith, ap length laid, ok.1) } in
        the-answer k alone legal a (subst (λ (s : List ℕ). Reads k s a) (written-bytes (unit_bytes k (held k u)) out r exit (written-front e) ∙ sym laid) read)

  pub read-written : (before : List (List ℕ)) (c : Content k) (after : List (List ℕ)) → Legal k (captioned before c after)
      → (a : Answer k) → Reads k (layout k (captioned before c after)) a
      → (out : List ℕ) (r : Written) (exit : List ℕ) → Writes k a.unit out r exit → length (unit_bytes k c) ≤ length out
      → (r ≡ written (length (unit_bytes k c))) × (exit ≡ over (unit_bytes k c) out)
  read-written before c after h a read out r exit w room =
      let u = stored k c in
      let same : a.unit ≡ u = ap (λ (x : Answer k). x.unit) (the-answer k (captioned before c after) h a read) in
      let wrote : Writes k u out r exit = subst (λ (x : CaptionUnit k). Writes k x out r exit) same w in
      let value : held k u ≡ c = stored-held k c in
      let short : length (unit_bytes k c) ≤ 16384 = omega (arith, length-around before (body_of k c) after, h.short) in
      let ok = (writes-exactly u out r exit wrote).1 (
        stored-legal k c h.units.1,
        subst (λ (d : Content k). length (unit_bytes k d) ≤ 16384) (sym value) short,
        subst (λ (d : Content k). length (unit_bytes k d) ≤ length out) (sym value) room,
      ) in
      subst (λ (d : Content k). (r ≡ written (length (unit_bytes k d))) × (exit ≡ over (unit_bytes k d) out)) value (written-front u out r exit wrote ok)
