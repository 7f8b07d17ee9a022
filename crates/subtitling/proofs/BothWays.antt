-- What was written reads back, and what was read writes back.
-- Assumes nothing.
use Prim.Native.Nat.{ℕ, ◌≤◌}
use native.Mathlib.Omega.{arith}
use mathlib.Core.Path.{◌≡◌, ◌∙◌, ap, ap₂, sym, subst}
use mathlib.Core.List.{List}
use lib.ListN.{length, take, drop}
use lib.Seq.{take-append_seam}
use Rattle.lists.specs.Room.{over}
use Rattle.refusal.specs.declared.Written.{Written}
use Rattle.refusal.specs.Verdict.{Verdict}
use Rattle.refusal.specs.Answers.{accepted, written}
use Rattle.sdp.specs.declared.Packet.{Packet}
use Rattle.subtitling.specs.declared.Answer.{Answer}
use Rattle.sdp.specs.Value.{Legal, held, numbers_of, rows_of}
use Rattle.subtitling.specs.Layout.{layout}
use Rattle.subtitling.specs.Reading.{value_of, found, Reads, ReadsRows}
use Rattle.subtitling.specs.Writing.{Writes}
use Rattle.sdp.proofs.Beside.{held-together, held-numbers, held_rows}
use Rattle.subtitling.proofs.Back.{accepted-legal}
use Rattle.subtitling.proofs.Accepting.{the-answer, the-rows, accepted-verdict}
use Rattle.subtitling.proofs.Writing.{writes-exactly, written-front, legal-short}

pub written_read : (p : Packet) (rows : List (List ℕ)) (out : List ℕ) (r : Written) (exit : List ℕ)
    → Writes p rows out r exit → r.refusal.number ≡ 0
    → (a : Answer) (back : List (List ℕ)) → Reads (take r.len exit) a → ReadsRows (take r.len exit) back
    → (a ≡ record { refusal = accepted; packet = p }) × (back ≡ rows)
written_read p rows out r exit w e a back read readRows =
    let v = held p rows in
    let wrote = written-front p rows out r exit w e in
    let legal = ((writes-exactly p rows out r exit w).0 e).0 in
    let front : take r.len exit ≡ layout v =
    ap₂ (λ (n : ℕ) (words : List ℕ). take n words) (ap (λ (x : Written). x.len) wrote.0) wrote.1
    ∙ take-append_seam (layout v) (drop (length (layout v)) out) in (
      the-answer v legal a (subst (λ (s : List ℕ). Reads s a) front read) ∙ ap answered (held-numbers p rows w.typed),
      the-rows v legal back (subst (λ (s : List ℕ). ReadsRows s back) front readRows) ∙ held_rows p rows w.typed,
    )
  where
    answered : Packet → Answer
    answered packet = record { refusal = accepted; packet = packet }

pub read-written : (s : List ℕ) (a : Answer) (rows : List (List ℕ)) → Reads s a → ReadsRows s rows
    → a.refusal.number ≡ 0
    → (out : List ℕ) (r : Written) (exit : List ℕ) → Writes a.packet rows out r exit → length s ≤ length out
    → (r ≡ written (length s)) × (exit ≡ over s out)
read-written s a rows read readRows e out r exit w fits =
    let yes = accepted-verdict s a read e in
    let back = accepted-legal s yes in
    let same : held a.packet rows ≡ value_of s =
    ap₂ held
    (ap (λ (x : Answer). x.packet) read ∙ ap (λ (verdict : Verdict). numbers_of (found verdict (value_of s))) yes)
    (readRows ∙ ap (λ (verdict : Verdict). rows_of (found verdict (value_of s))) yes)
    ∙ held-together (value_of s) in
    let laid : layout (held a.packet rows) ≡ s = ap layout same ∙ back.same in
    let legal = subst Legal (sym same) back.legal in
    let room : length (layout (held a.packet rows)) ≤ length out = omega (arith, ap length laid) in
    let ok = (writes-exactly a.packet rows out r exit w).1 (legal, legal-short (held a.packet rows) legal, room) in
    let wrote = written-front a.packet rows out r exit w ok in
    (wrote.0 ∙ ap (λ (n : ℕ). written n) (ap length laid), wrote.1 ∙ ap (λ (words : List ℕ). over words out) laid)
