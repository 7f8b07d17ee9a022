-- Reading into lent rows and writing from them: the same as with rows by value, and both ways.
-- Assumes nothing.
use Prim.Native.Nat.{ℕ, ◌≤◌}
use mathlib.Core.Path.{◌≡◌, ◌∙◌, ap, sym, refl}
use mathlib.Core.Logic.{◌↔◌}
use mathlib.Core.List.{List}
use lib.ListN.{length, take}
use Rattle.lists.specs.Room.{over}
use Rattle.refusal.specs.declared.Written.{Written}
use Rattle.refusal.specs.Verdict.{Verdict}
use Rattle.refusal.specs.Verdict.{Accepted, Refused}
use Rattle.refusal.specs.Numbers.{refusal_of}
use Rattle.refusal.specs.Answers.{lent_of, accepted, written}
use Rattle.sdp.specs.declared.Packet.{Packet}
use Rattle.subtitling.specs.declared.Answer.{Answer}
use Rattle.sdp.specs.Value.{Sdp, Legal}
use Rattle.subtitling.specs.Layout.{layout}
use Rattle.subtitling.specs.Reading.{packet_verdict, read_rows_of, Reads, ReadsRows, ReadsInto}
use Rattle.subtitling.specs.Writing.{Writes}
use Rattle.subtitling.specs.Places.{Stands}
use Rattle.subtitling.proofs.Accepting.{accepted-verdict, accepted-exactly}
use Rattle.subtitling.proofs.Placed.{place-means}
use Rattle.subtitling.proofs.BothWays.{written_read, read-written}

refused-lent : (verdict : Verdict) (new lent : List (List ℕ)) → ((refusal_of verdict).number ≡ 0 → ⊥)
    → lent_of verdict new lent ≡ lent
refused-lent Accepted new lent h = absurd (h refl)
refused-lent (Refused reason item) new lent h = refl

pub read-into-as-read : (s : List ℕ) (lent : List (List ℕ)) (r : Answer) (exit : List (List ℕ))
    → ReadsInto s lent r exit
    → (a : Answer) (rows : List (List ℕ)) → Reads s a → ReadsRows s rows
    → (r ≡ a) × (a.refusal.number ≡ 0 → exit ≡ rows) × ((a.refusal.number ≡ 0 → ⊥) → exit ≡ lent)
read-into-as-read s lent r exit i a rows p q = (
  i.answer ∙ sym p,
  (λ e. i.left ∙ ap (λ (verdict : Verdict). lent_of verdict (read_rows_of s) lent) (accepted-verdict s a p e) ∙ sym q),
  (λ h. i.left ∙ refused-lent (packet_verdict s) (read_rows_of s) lent (λ e. h (ap (λ (x : Answer). x.refusal.number) p ∙ e))),
)

pub into-exactly : (s : List ℕ) (lent : List (List ℕ)) (r : Answer) (exit : List (List ℕ)) → ReadsInto s lent r exit
    → r.refusal.number ≡ 0 ↔ ((v : Sdp) × Legal v × (layout v ≡ s))
into-exactly s lent r exit i = accepted-exactly s r i.answer

pub into-place : (s : List ℕ) (lent : List (List ℕ)) (r : Answer) (exit : List (List ℕ)) → ReadsInto s lent r exit
    → (r.refusal.number ≡ 0 → ⊥) → Stands s r.refusal.number r.refusal.place
into-place s lent r exit i = place-means s r i.answer

pub written-read-into : (p : Packet) (rows : List (List ℕ)) (out : List ℕ) (w : Written) (end : List ℕ)
    → Writes p rows out w end → w.refusal.number ≡ 0
    → (lent : List (List ℕ)) (r : Answer) (exit : List (List ℕ)) → ReadsInto (take w.len end) lent r exit
    → (r ≡ record { refusal = accepted; packet = p }) × (exit ≡ rows)
written-read-into p rows out w end wrote e lent r exit i =
    let s = take w.len end in
    let same = written_read p rows out w end wrote e r (read_rows_of s) i.answer refl in
    let all = read-into-as-read s lent r exit i r (read_rows_of s) i.answer refl in
    (same.0, all.1 (ap (λ (a : Answer). a.refusal.number) same.0) ∙ same.1)

pub read-into-written : (s : List ℕ) (lent : List (List ℕ)) (a : Answer) (exit : List (List ℕ))
    → ReadsInto s lent a exit → a.refusal.number ≡ 0
    → (out : List ℕ) (r : Written) (end : List ℕ) → Writes a.packet exit out r end → length s ≤ length out
    → (r ≡ written (length s)) × (end ≡ over s out)
read-into-written s lent a exit i e =
    read-written s a exit i.answer ((read-into-as-read s lent a exit i a (read_rows_of s) i.answer refl).1 e) e
