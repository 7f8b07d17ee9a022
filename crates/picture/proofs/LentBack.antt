-- Reading into a lent array answers what reading does, with the records in the array; and what is read into one, and written from one, comes back.
-- Assumes nothing.
use Prim.Native.Nat.{ℕ, ◌*◌, ◌≤◌}
use mathlib.Core.Path.{◌≡◌, ◌∙◌, ap, ap₂, sym, subst, refl}
use mathlib.Core.Logic.{◌↔◌}
use mathlib.Core.Bool.{true}
use mathlib.Core.List.{List, [], ◌∷◌}
use lib.ListN.{length, take}
use Rattle.lists.specs.Room.{filled, over}
use Rattle.refusal.specs.Verdict.{Verdict}
use Rattle.refusal.specs.Verdict.{Accepted}
use Rattle.refusal.specs.declared.Written.{Written}
use Rattle.refusal.specs.Answers.{accepted, written, lent_of}
use Rattle.refusal.proofs.Outputs.{refused-lent}
use Rattle.kind.specs.declared.Kind.{Kind}
use Rattle.picture.specs.Kinds.{Content, CaptionUnit, held, Numbers, count, width, places, unit_in, bytes_of}
use Rattle.picture.specs.Value.{Area, captioned, layout, Legal}
use Rattle.picture.specs.Reading.{area_verdict, Answer, answer_of, read_of, Reads}
use Rattle.picture.specs.Lent.{Head, head_of, ReadsInto}
use Rattle.picture.specs.Writing.{unit_bytes, Writes, Replaces}
use Rattle.picture.specs.Places.{InUnit}
use Rattle.picture.proofs.Contents.{lent-unit, legal-few, lent-numbers, lent-front}
use Rattle.picture.proofs.Areas.{legal-verdict}
use Rattle.picture.proofs.Lending.{answer-places}
use Rattle.picture.proofs.Accepting.{zero-accepted, other-refused, accepted-exactly}
use Rattle.picture.proofs.Standing.{place-outside, place_inside}
use Rattle.picture.proofs.Writing.{writes-exactly, written_read, read-written}
use Rattle.picture.proofs.Replacing.{replaces-exactly, shown-replaced, replaced-read, put_back}

module _ (k : Kind) where
  -- WHAT IS ANSWERED

  module _ (s lent : List ℕ) (r : Head k) (exit : List ℕ) (p : ReadsInto k s lent r exit) where
    pub read-into-as-read : (a : Answer k) → Reads k s a
        → (r ≡ head_of k a) × (a.refusal.number ≡ 0 → exit ≡ bytes_of k a.unit) × ((a.refusal.number ≡ 0 → ⊥) → exit ≡ lent)
    read-into-as-read a read = (
      p.answer ∙ ap (head_of k) (sym read.answer),
      λ e. p.left ∙ ap₂ (λ (v : Verdict) (x : Answer k). lent_of v (bytes_of k x.unit) lent) (zero-accepted k s a read e) (sym read.answer),
      λ h. p.left ∙ refused-lent (area_verdict k s) (bytes_of k (read_of k s).unit) lent (other-refused k s a read h),
    )

    pub into-place : (r.refusal.number ≤ 4 → r.refusal.place ≡ 0) × (5 ≤ r.refusal.number → InUnit k s r.refusal.number r.refusal.place)
    into-place =
        let read : Reads k s (read_of k s) = record { bytes = p.bytes; answer = refl } in
        subst (λ (h : Head k). (h.refusal.number ≤ 4 → h.refusal.place ≡ 0) × (5 ≤ h.refusal.number → InUnit k s h.refusal.number h.refusal.place))
        (sym p.answer) (place-outside k s (read_of k s) read, place_inside k s (read_of k s) read)

    -- what reading would answer
    as_read : Reads k s (read_of k s)
    as_read = record { bytes = p.bytes; answer = refl }

    pub into-exactly : r.refusal.number ≡ 0 ↔ ((v : Area k) × Legal k v × (layout k v ≡ s))
    into-exactly = subst (λ (h : Head k). h.refusal.number ≡ 0 ↔ ((v : Area k) × Legal k v × (layout k v ≡ s))) (sym p.answer) (accepted-exactly k s (read_of k s) as_read)

    left : area_verdict k s ≡ Accepted → exit ≡ bytes_of k (read_of k s).unit
    left ok = p.left ∙ ap (λ (v : Verdict). lent_of v (bytes_of k (read_of k s).unit) lent) ok

    -- what was read into an array, where it is accepted, tells the struct that `read` answers
    into-told : area_verdict k s ≡ Accepted → unit_in k r.numbers exit ≡ (read_of k s).unit
    into-told ok =
        ap₂ (λ (h : Head k) (bytes : List ℕ). unit_in k h.numbers bytes) p.answer (left ok)
        ∙ lent-unit k (read_of k s).unit (answer-places k s p.bytes (area_verdict k s) refl)

    -- where the answer shows a value that numbers and an array told, these come back, with zeros behind the n records
    into_back : (v : Numbers k) (records : List ℕ) → count k v ≤ 31 → length records ≡ places k → read_of k s ≡ answer_of k Accepted (held k (unit_in k v records) ∷ [])
        → (r ≡ record { refusal = accepted; present = true; numbers = v }) × (exit ≡ filled (take (width k * count k v) records) (places k) 0)
    into_back v records few long e = (
      p.answer ∙ ap (head_of k) e ∙ ap (λ (x : Numbers k). record { refusal = accepted; present = true; numbers = x }) (lent-numbers k v records few),
      left (zero-accepted k s (read_of k s) as_read (ap (λ (a : Answer k). a.refusal.number) e))
          ∙ ap (λ (a : Answer k). bytes_of k a.unit) e
          ∙ lent-front k v records few long,
    )

  -- BOTH WAYS

  pub written-read-into : (v : Numbers k) (records out : List ℕ) (w : Written) (end : List ℕ) → Writes k (unit_in k v records) out w end → w.refusal.number ≡ 0
      → length records ≡ places k → (lent : List ℕ) (r : Head k) (exit : List ℕ) → ReadsInto k (take w.len end) lent r exit
      → (r ≡ record { refusal = accepted; present = true; numbers = v }) × (exit ≡ filled (take (width k * count k v) records) (places k) 0)
  written-read-into v records out w end wrote e long lent r exit into =
      let s = take w.len end in
      let few = legal-few k v records ((writes-exactly k (unit_in k v records) out w end wrote).0 e).0 in
      into_back s lent r exit into v records few long (written_read k (unit_in k v records) out w end wrote e (read_of k s) (as_read s lent r exit into))

  pub read-into-written : (before : List (List ℕ)) (c : Content k) (after : List (List ℕ)) → Legal k (captioned before c after)
      → (lent : List ℕ) (a : Head k) (kept : List ℕ) → ReadsInto k (layout k (captioned before c after)) lent a kept
      → (out : List ℕ) (r : Written) (exit : List ℕ) → Writes k (unit_in k a.numbers kept) out r exit → length (unit_bytes k c) ≤ length out
      → (r ≡ written (length (unit_bytes k c))) × (exit ≡ over (unit_bytes k c) out)
  read-into-written before c after h lent a kept into out r exit w =
      let v : Area k = captioned before c after in
      read-written k before c after h (read_of k (layout k v)) (as_read (layout k v) lent a kept into) out r exit
      (subst (λ (u : CaptionUnit k). Writes k u out r exit) (into-told (layout k v) lent a kept into (legal-verdict k v h)) w)

  pub replaced-read-into : (v : Area k) → Legal k v → (x : Numbers k) (records out : List ℕ) (w : Written) (end : List ℕ) → Replaces k (layout k v) (unit_in k x records) out w end
      → w.refusal.number ≡ 0 → length records ≡ places k → (lent : List ℕ) (r : Head k) (exit : List ℕ) → ReadsInto k (take w.len end) lent r exit
      → (r ≡ record { refusal = accepted; present = true; numbers = x }) × (exit ≡ filled (take (width k * count k x) records) (places k) 0)
  replaced-read-into v h x records out w end p e long lent r exit into =
      let s = take w.len end in
      let few = legal-few k x records ((replaces-exactly k (layout k v) (unit_in k x records) out w end p).0 e).3 in
      into_back s lent r exit into x records few long
      (replaced-read k v h (unit_in k x records) out w end p e (read_of k s) (as_read s lent r exit into) ∙ shown-replaced k v (held k (unit_in k x records)))

  pub put-back-into : (v : Area k) → Legal k v → (lent : List ℕ) (a : Head k) (kept : List ℕ) → ReadsInto k (layout k v) lent a kept → a.present ≡ true
      → (u : CaptionUnit k) (out : List ℕ) (r : Written) (exit : List ℕ) → Replaces k (layout k v) u out r exit → r.refusal.number ≡ 0
      → (room : List ℕ) (again : Written) (end : List ℕ) → Replaces k (take r.len exit) (unit_in k a.numbers kept) room again end
      → length (layout k v) ≤ length room → (again ≡ written (length (layout k v))) × (end ≡ over (layout k v) room)
  put-back-into v h lent a kept into there u out r exit p e room again end q =
      put_back k v h (read_of k (layout k v)) (as_read (layout k v) lent a kept into) (sym (ap (λ (x : Head k). x.present) into.answer) ∙ there)
      u out r exit p e room again end
      (subst (λ (x : CaptionUnit k). Replaces k (take r.len exit) x room again end) (into-told (layout k v) lent a kept into (legal-verdict k v h)) q)
