-- What was written reads back, and what was read writes back.
-- Assumes nothing.
use Prim.Native.Nat.{ℕ, ◌≤◌}
use native.Mathlib.Omega.{arith}
use mathlib.Core.Path.{◌≡◌, ◌∙◌, ap, ap₂}
use mathlib.Core.List.{List}
use lib.ListN.{length, take, drop}
use lib.Seq.{take-append_seam}
use Rattle.lists.specs.Room.{over}
use Rattle.refusal.specs.declared.Written.{Written}
use Rattle.refusal.specs.Answers.{accepted, written}
use Rattle.line21.specs.declared.Payload.{Payload}
use Rattle.line21.specs.declared.Answer.{Answer}
use Rattle.line21.specs.Value.{stored, held}
use Rattle.line21.specs.Layout.{layout}
use Rattle.line21.specs.Reading.{read_of, Reads}
use Rattle.line21.specs.Writing.{Writes}
use Rattle.line21.proofs.Back.{layout-read, read-stored}
use Rattle.line21.proofs.Writing.{writes-exactly, written-front, legal-short}

pub written_read : (p : Payload) (out : List ℕ) (r : Written) (exit : List ℕ) → Writes p out r exit
    → r.refusal.number ≡ 0
    → (a : Answer) → Reads (take r.len exit) a → a ≡ record { refusal = accepted; payload = stored (held p) }
written_read p out r exit w e a read =
    let wrote = written-front p out r exit w e in
    read.answer
    ∙ ap₂ (λ (n : ℕ) (bytes : List ℕ). read_of (take n bytes)) (ap (λ (x : Written). x.len) wrote.0) wrote.1
    ∙ ap read_of (take-append_seam (layout (held p)) (drop (length (layout (held p))) out))
    ∙ layout-read (held p) ((writes-exactly p out r exit w).0 e).0.value

pub read-written : (s : List ℕ) (a : Answer) → Reads s a → a.refusal.number ≡ 0
    → (out : List ℕ) (r : Written) (exit : List ℕ) → Writes a.payload out r exit → length s ≤ length out
    → (r ≡ written (length s)) × (exit ≡ over s out)
read-written s a read e out r exit w fits =
    let back = read-stored s a read e in
    let laid = back.same in
    let room : length (layout (held a.payload)) ≤ length out = omega (arith, ap length laid) in
    let ok = (writes-exactly a.payload out r exit w).1 (back.legal, legal-short (held a.payload) back.legal.value, room) in
    let wrote = written-front a.payload out r exit w ok in
    (wrote.0 ∙ ap (λ (n : ℕ). written n) (ap length laid), wrote.1 ∙ ap (λ (bytes : List ℕ). over bytes out) laid)
