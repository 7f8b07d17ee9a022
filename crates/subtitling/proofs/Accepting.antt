-- Reading accepts exactly the layouts of legal values, each the layout of one value only, and how long they are.
-- Assumes nothing.
use Prim.Native.Nat.{ℕ, ◌+◌, ◌*◌, ◌≤◌}
use mathlib.Core.Path.{◌≡◌, ◌∙◌, ap, ap₂, sym, subst}
use mathlib.Core.Logic.{◌↔◌}
use mathlib.Core.List.{List}
use lib.ListN.{length}
use Rattle.refusal.specs.Verdict.{Verdict}
use Rattle.refusal.specs.Verdict.{Accepted}
use Rattle.refusal.specs.Numbers.{refusal_of}
use Rattle.refusal.specs.Answers.{accepted}
use Rattle.refusal.proofs.Acceptance.{told-accepted}
use Rattle.subtitling.specs.declared.Answer.{Answer}
use Rattle.sdp.specs.Value.{Sdp, Legal, numbers_of, rows_of}
use Rattle.sdp.specs.Layout.{descriptors_of, count}
use Rattle.subtitling.specs.Layout.{layout}
use Rattle.subtitling.specs.Reading.{packet_verdict, value_of, found, Reads, ReadsRows}
use Rattle.sdp.proofs.LegalBytes.{few}
use Rattle.subtitling.proofs.Numbers.{length-layout}
use Rattle.subtitling.proofs.Back.{layout-accepted, layout-value, accepted-legal}

pub the-answer : (v : Sdp) → Legal v → (r : Answer) → Reads (layout v) r
    → r ≡ record { refusal = accepted; packet = numbers_of v }
the-answer v h r p =
    p ∙ ap₂ answered (layout-accepted v h) (layout-value v h)
  where
    answered : Verdict → Sdp → Answer
    answered verdict value = record { refusal = refusal_of verdict; packet = numbers_of (found verdict value) }

pub the-rows : (v : Sdp) → Legal v → (rows : List (List ℕ)) → ReadsRows (layout v) rows → rows ≡ rows_of v
the-rows v h rows p = p ∙ ap₂ (λ (verdict : Verdict) (value : Sdp). rows_of (found verdict value)) (layout-accepted v h) (layout-value v h)

-- an answer of number 0 is an acceptance
pub accepted-verdict : (s : List ℕ) (r : Answer) → Reads s r → r.refusal.number ≡ 0 → packet_verdict s ≡ Accepted
accepted-verdict s r p e = told-accepted (packet_verdict s) (sym (ap (λ (a : Answer). a.refusal.number) p) ∙ e)

pub accepted-exactly : (s : List ℕ) (r : Answer) → Reads s r
    → r.refusal.number ≡ 0 ↔ ((v : Sdp) × Legal v × (layout v ≡ s))
accepted-exactly s r p = (
  λ e. let back = accepted-legal s (accepted-verdict s r p e) in (value_of s, back.legal, back.same),
  λ w. ap (λ (a : Answer). a.refusal.number) (the-answer w.0 w.1 r (subst (λ (t : List ℕ). Reads t r) (sym w.2) p)),
)

pub only_one : (v w : Sdp) → Legal v → Legal w → layout v ≡ layout w → v ≡ w
only_one v w hv hw e = sym (layout-value v hv) ∙ ap value_of e ∙ layout-value w hw

pub layout-size : (v : Sdp) → Legal v
    → (length (layout v) ≡ 20 + 45 * count (descriptors_of v.slots)) × (count (descriptors_of v.slots) ≤ 5)
layout-size v h = (length-layout v h, few v h)

pub accepted-size : (s : List ℕ) (r : Answer) → Reads s r → r.refusal.number ≡ 0
    → (k : ℕ) × (k ≤ 5) × (length s ≡ 20 + 45 * k)
accepted-size s r p e =
    let back = accepted-legal s (accepted-verdict s r p e) in
    let size = layout-size (value_of s) back.legal in
    (count (descriptors_of (value_of s).slots), size.1, sym (ap length back.same) ∙ size.0)
