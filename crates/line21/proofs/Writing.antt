-- When writing succeeds, which number it refuses with, and what it leaves in the output.
-- Assumes nothing.
use Prim.Native.Nat.{ℕ, ◌≤◌, ◌<◌}
use native.Mathlib.Omega.{arith}
use mathlib.Core.Path.{◌≡◌, ◌∙◌, ap}
use mathlib.Core.Logic.{◌↔◌}
use mathlib.Core.List.{List}
use borrow.Author.Tests.{lt-ltb, le-ltb}
use lib.ListN.{length}
use Rattle.lists.specs.Room.{over}
use Rattle.refusal.specs.declared.Written.{Written}
use Rattle.refusal.specs.Checks.{first}
use Rattle.refusal.specs.Numbers.{refusal_of}
use Rattle.refusal.specs.Answers.{refused, written}
use Rattle.refusal.proofs.Outputs.{wrote-accepted, accepted-wrote, wrote-refusal, success-left, refusal-left}
use Rattle.line21.specs.declared.Payload.{Payload}
use Rattle.line21.specs.Value.{Line21, Legal, LegalPayload, held}
use Rattle.line21.specs.Layout.{layout}
use Rattle.line21.specs.Writing.{value_verdict, Writes}
use Rattle.line21.specs.Order.{writing_checks}
use Rattle.line21.proofs.Back.{length-layout}
use Rattle.line21.proofs.Numbers.{accepted-value, value-accepted, units-accepted, checked-legal, legal-writable}
use Rattle.line21.proofs.Fifteen.{illegal-15}
use Rattle.line21.proofs.Sequence.{writing-order}

pub writes-exactly : (p : Payload) (out : List ℕ) (r : Written) (exit : List ℕ) → Writes p out r exit
    → r.refusal.number ≡ 0
    ↔ (LegalPayload p × (length (layout (held p)) ≤ 1456) × (length (layout (held p)) ≤ length out))
writes-exactly p out r exit w = (
  λ e.
      let ok = accepted-value p (length out) (wrote-accepted _ _ _ _ _ w.wrote e) in
      (checked-legal p w.typed ok.few ok.each, ok.short, ok.fits),
  λ h. accepted-wrote _ _ _ _ _ w.wrote (value-accepted p (length out) (legal-writable p (length out) h.0 h.1 h.2)),
)

pub written-front : (p : Payload) (out : List ℕ) (r : Written) (exit : List ℕ) → Writes p out r exit
    → r.refusal.number ≡ 0
    → (r ≡ written (length (layout (held p)))) × (exit ≡ over (layout (held p)) out)
written-front p out r exit w e = success-left _ _ _ _ _ w.wrote (wrote-accepted _ _ _ _ _ w.wrote e)

pub write-first : (p : Payload) (out : List ℕ) (r : Written) (exit : List ℕ) → Writes p out r exit
    → r.refusal ≡ refusal_of (first (writing_checks p (length out)))
write-first p out r exit w = wrote-refusal _ _ _ _ _ w.wrote ∙ ap refusal_of (writing-order p (length out))

pub illegal-refused : (p : Payload) (out : List ℕ) (r : Written) (exit : List ℕ) → Writes p out r exit
    → (LegalPayload p → ⊥) → r.refusal ≡ refused 15 0
illegal-refused p out r exit w h = wrote-refusal _ _ _ _ _ w.wrote ∙ illegal-15 p (length out) w.typed h

pub legal-short : (v : Line21) → Legal v → length (layout v) ≤ 1456
legal-short v h = omega (arith, length-layout v, h.count)

pub no-room-refused : (p : Payload) (out : List ℕ) (r : Written) (exit : List ℕ) → Writes p out r exit → LegalPayload p
    → length out < length (layout (held p)) → r.refusal ≡ refused 14 0
unfolding value_verdict
no-room-refused p out r exit w h short =
    let few = le-ltb 291 p.m h.few in
    let each = units-accepted (held p).units h.value.each in
    let within = le-ltb 1456 (length (layout (held p))) (legal-short (held p) h.value) in
    wrote-refusal _ _ _ _ _ w.wrote ∙ simp (few, each, within, lt-ltb (length out) (length (layout (held p))) short)

pub refused-untouched : (p : Payload) (out : List ℕ) (r : Written) (exit : List ℕ) → Writes p out r exit
    → (r.refusal.number ≡ 0 → ⊥)
    → (r.len ≡ 0) × (exit ≡ out)
refused-untouched p out r exit w h = refusal-left _ _ _ _ _ w.wrote h
