-- When writing succeeds, which number it refuses with, and what it leaves in the output.
-- Assumes nothing.
use Prim.Native.Nat.{ℕ, ◌≤◌, ◌<◌}
use native.Mathlib.Omega.{arith}
use mathlib.Core.Path.{◌≡◌, ◌∙◌, ap, sym, subst}
use mathlib.Core.Logic.{◌⊎◌, ◌↔◌}
use mathlib.Core.List.{List}
use borrow.Author.Tests.{lt-ltb, le-ltb}
use lib.ListN.{length}
use Rattle.lists.specs.Room.{over}
use Rattle.refusal.specs.declared.Refusal.{Refusal}
use Rattle.refusal.specs.declared.Written.{Written}
use Rattle.refusal.specs.Checks.{first}
use Rattle.refusal.specs.Numbers.{refusal_of}
use Rattle.refusal.specs.Answers.{refused, written}
use Rattle.refusal.proofs.Outputs.{wrote-accepted, accepted-wrote, wrote-refusal, success-left, refusal-left}
use Rattle.sdp.specs.declared.Packet.{Packet}
use Rattle.sdp.specs.Value.{Sdp, Legal, held}
use Rattle.subtitling.specs.Layout.{layout}
use Rattle.subtitling.specs.Writing.{value_verdict, Writes}
use Rattle.subtitling.specs.Order.{writing_checks}
use Rattle.sdp.proofs.Numbers.{slots-accepted, checked-legal}
use Rattle.subtitling.proofs.Numbers.{accepted-value, value-accepted}
use Rattle.subtitling.proofs.Illegal.{illegal-15-or-7}
use Rattle.subtitling.proofs.Sequence.{writing-order}
use Rattle.subtitling.proofs.Accepting.{layout-size}

pub writes-exactly : (p : Packet) (rows : List (List ℕ)) (out : List ℕ) (r : Written) (exit : List ℕ)
    → Writes p rows out r exit
    → r.refusal.number ≡ 0
    ↔ (Legal (held p rows) × (length (layout (held p rows)) ≤ 245) × (length (layout (held p rows)) ≤ length out))
writes-exactly p rows out r exit w = (
  λ e.
      let ok = accepted-value (held p rows) (length out) (wrote-accepted _ _ _ _ _ w.wrote e) in
      (checked-legal p rows w.typed ok.few ok.each, ok.short, ok.fits),
  λ h.
      let v = held p rows in
      let few : v.counter ≤ 65535 = omega (arith, h.0.count) in
      accepted-wrote _ _ _ _ _ w.wrote
      (value-accepted v (length out) (record { few = few; each = slots-accepted v.slots h.0.each; short = h.1; fits = h.2 })),
)

pub written-front : (p : Packet) (rows : List (List ℕ)) (out : List ℕ) (r : Written) (exit : List ℕ)
    → Writes p rows out r exit → r.refusal.number ≡ 0
    → (r ≡ written (length (layout (held p rows)))) × (exit ≡ over (layout (held p rows)) out)
written-front p rows out r exit w e = success-left _ _ _ _ _ w.wrote (wrote-accepted _ _ _ _ _ w.wrote e)

pub write-first : (p : Packet) (rows : List (List ℕ)) (out : List ℕ) (r : Written) (exit : List ℕ)
    → Writes p rows out r exit
    → r.refusal ≡ refusal_of (first (writing_checks (held p rows) (length out)))
write-first p rows out r exit w = wrote-refusal _ _ _ _ _ w.wrote ∙ ap refusal_of (writing-order (held p rows) (length out))

pub illegal-refused : (p : Packet) (rows : List (List ℕ)) (out : List ℕ) (r : Written) (exit : List ℕ)
    → Writes p rows out r exit → (Legal (held p rows) → ⊥)
    → (r.refusal ≡ refused 15 0) ⊎ (r.refusal ≡ refused 7 0)
illegal-refused p rows out r exit w h =
    subst (λ (x : Refusal). (x ≡ refused 15 0) ⊎ (x ≡ refused 7 0)) (sym (wrote-refusal _ _ _ _ _ w.wrote))
    (illegal-15-or-7 p rows (length out) w.typed h)

pub legal-short : (v : Sdp) → Legal v → length (layout v) ≤ 245
legal-short v h = let size = layout-size v h in omega (arith, size.0, size.1)

pub no-room-refused : (p : Packet) (rows : List (List ℕ)) (out : List ℕ) (r : Written) (exit : List ℕ)
    → Writes p rows out r exit → Legal (held p rows)
    → length out < length (layout (held p rows)) → r.refusal ≡ refused 14 0
unfolding value_verdict
no-room-refused p rows out r exit w h short =
    let v = held p rows in
    let few : v.counter ≤ 65535 = omega (arith, h.count) in
    let each = slots-accepted v.slots h.each in
    wrote-refusal _ _ _ _ _ w.wrote
    ∙ simp (le-ltb 65535 v.counter few, each, le-ltb 245 (length (layout v)) (legal-short v h), lt-ltb (length out) (length (layout v)) short)

pub refused-untouched : (p : Packet) (rows : List (List ℕ)) (out : List ℕ) (r : Written) (exit : List ℕ)
    → Writes p rows out r exit
    → (r.refusal.number ≡ 0 → ⊥) → (r.len ≡ 0) × (exit ≡ out)
refused-untouched p rows out r exit w h = refusal-left _ _ _ _ _ w.wrote h
