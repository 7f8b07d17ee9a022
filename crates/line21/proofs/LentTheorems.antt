-- Reading into a lent array and writing from one: the same as with structs, and both ways.
-- Assumes nothing.
use Prim.Native.Nat.{ℕ, ◌*◌, ◌≤◌}
use mathlib.Core.Path.{◌≡◌, ◌∙◌, ap, sym, subst, refl}
use mathlib.Core.Logic.{◌↔◌}
use mathlib.Core.List.{List}
use lib.ListN.{length, take}
use Rattle.lists.specs.Room.{filled, over}
use Rattle.refusal.specs.declared.Written.{Written}
use Rattle.refusal.specs.Verdict.{Verdict}
use Rattle.refusal.specs.Answers.{lent_of, accepted, written}
use Rattle.line21.specs.declared.Payload.{Payload}
use Rattle.line21.specs.declared.Answer.{Answer}
use Rattle.line21.specs.declared.Head.{Head}
use Rattle.line21.specs.Value.{Line21, Legal}
use Rattle.line21.specs.Layout.{layout}
use Rattle.line21.specs.Reading.{length_verdict, value_of, read_of, head_of, Reads}
use Rattle.line21.specs.Writing.{Writes}
use Rattle.line21.specs.Places.{Stands}
use Rattle.line21.specs.Lent.{access_units_bytes, payload_in, ReadsInto}
use Rattle.line21.proofs.Answers.{accepted-verdict}
use Rattle.line21.proofs.LentUnits.{refused-lent}
use Rattle.line21.proofs.LentBack.{lent-count, lent-front, into-told}
use Rattle.line21.proofs.Accepting.{accepted-exactly}
use Rattle.line21.proofs.Placed.{place-means}
use Rattle.line21.proofs.Writing.{writes-exactly}
use Rattle.line21.proofs.BothWays.{written_read, read-written}

pub read-into-as-read : (s lent : List ℕ) (r : Head) (exit : List ℕ) → ReadsInto s lent r exit → (a : Answer)
    → Reads s a
    → (r ≡ head_of a) × (a.refusal.number ≡ 0 → exit ≡ access_units_bytes a.payload.units)
    × ((a.refusal.number ≡ 0 → ⊥) → exit ≡ lent)
read-into-as-read s lent r exit into a read =
    let same = read.answer in (
      into.answer ∙ ap head_of (sym same),
      λ e.
          into.left
          ∙ ap (λ (v : Verdict). lent_of v (access_units_bytes (read_of s).payload.units) lent) (accepted-verdict s (sym (ap (λ (x : Answer). x.refusal.number) same) ∙ e))
          ∙ ap (λ (x : Answer). access_units_bytes x.payload.units) (sym same),
      λ h. into.left ∙ refused-lent (length_verdict (length s)) (value_of s) _ lent (λ e. h (ap (λ (x : Answer). x.refusal.number) same ∙ e)),
    )

pub into-exactly : (s lent : List ℕ) (r : Head) (exit : List ℕ) → ReadsInto s lent r exit
    → r.refusal.number ≡ 0 ↔ ((v : Line21) × Legal v × (layout v ≡ s))
into-exactly s lent r exit p =
    subst (λ (h : Head). h.refusal.number ≡ 0 ↔ ((v : Line21) × Legal v × (layout v ≡ s))) (sym p.answer) (accepted-exactly s (read_of s) (record { bytes = p.bytes; answer = refl }))

pub into-place : (s lent : List ℕ) (r : Head) (exit : List ℕ) → ReadsInto s lent r exit
    → (r.refusal.number ≡ 0 → ⊥) → Stands s r.refusal.number r.refusal.place
into-place s lent r exit p =
    subst (λ (h : Head). (h.refusal.number ≡ 0 → ⊥) → Stands s h.refusal.number h.refusal.place) (sym p.answer) (place-means s (read_of s) (record { bytes = p.bytes; answer = refl }))

pub written-read-into : (flags m : ℕ) (units out : List ℕ) (w : Written) (end : List ℕ)
    → Writes (payload_in flags m units) out w end → w.refusal.number ≡ 0
    → length units ≡ 2037 → (lent : List ℕ) (r : Head) (exit : List ℕ) → ReadsInto (take w.len end) lent r exit
    → (r ≡ record { refusal = accepted; flags = flags; m = m }) × (exit ≡ filled (take (7 * m) units) 2037 0)
written-read-into flags m units out w end wrote e long lent r exit into =
    let s = take w.len end in
    let read : Reads s (read_of s) = record { bytes = into.bytes; answer = refl } in
    let same = written_read (payload_in flags m units) out w end wrote e (read_of s) read in
    let few = ((writes-exactly (payload_in flags m units) out w end wrote).0 e).0.few in
    let all = read-into-as-read s lent r exit into (read_of s) read in (
      all.0 ∙ ap head_of same ∙ ap (λ (k : ℕ). record { refusal = accepted; flags = flags; m = k }) (lent-count flags m units few),
      all.1 (ap (λ (a : Answer). a.refusal.number) same) ∙ ap (λ (a : Answer). access_units_bytes a.payload.units) same ∙ lent-front flags m units few long,
    )

pub read-into-written : (s lent : List ℕ) (a : Head) (exit : List ℕ) → ReadsInto s lent a exit → a.refusal.number ≡ 0
    → (out : List ℕ) (r : Written) (end : List ℕ) → Writes (payload_in a.flags a.m exit) out r end
    → length s ≤ length out
    → (r ≡ written (length s)) × (end ≡ over s out)
read-into-written s lent a exit into e out r end w fits =
    let zero : (read_of s).refusal.number ≡ 0 = sym (ap (λ (h : Head). h.refusal.number) into.answer) ∙ e in
    read-written s (read_of s) (record { bytes = into.bytes; answer = refl }) zero out r end
    (subst (λ (p : Payload). Writes p out r end) (into-told s lent a exit into e) w) fits
