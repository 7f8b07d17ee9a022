-- Which words are accepted, and with which answer.
-- Assumes nothing.
use Prim.Native.Nat.{ℕ, ◌≤◌}
use native.Mathlib.Omega.{arith}
use mathlib.Core.Path.{◌≡◌, ◌∙◌, ap, sym, refl}
use mathlib.Core.Logic.{◌↔◌}
use mathlib.Core.List.{List, [], map}
use lib.ListN.{length, get_or}
use Rattle.lists.specs.Bytes.{Bytes}
use Rattle.lists.specs.Room.{filled}
use Rattle.refusal.specs.declared.Refusal.{Refusal}
use Rattle.refusal.specs.Verdict.{Verdict}
use Rattle.refusal.specs.Verdict.{Accepted, Refused}
use Rattle.refusal.specs.Checks.{first}
use Rattle.refusal.specs.Numbers.{refusal_of}
use Rattle.refusal.specs.Answers.{accepted, lent_of}
use Rattle.refusal.proofs.Acceptance.{told-accepted}
use Rattle.multi.specs.declared.Answer.{Answer}
use Rattle.multi.specs.Value.{Inner, Multi, Legal, LegalInner, with_bytes}
use Rattle.multi.specs.Layout.{layout_inner, layout}
use Rattle.multi.specs.Order.{reading_checks}
use Rattle.multi.specs.Reading.{multi_verdict, cut, value_of}
use Rattle.multi.specs.Lent.{heads_of, no_head, answer_of, handed_of, ReadsInto, Hands}
use Rattle.multi.proofs.Inners.{few-inners, cut-back}
use Rattle.multi.proofs.Whole.{short, multi-accepted, value-back, layout-inners, accepted-multi}

pub reading-order : (s : List ℕ) → multi_verdict s ≡ first (reading_checks s)
unfolding multi_verdict
reading-order s = refl

answer-refusal : (verdict : Verdict) (v : Multi) → (answer_of verdict v).refusal ≡ refusal_of verdict
answer-refusal Accepted v = refl
answer-refusal (Refused reason item) v = refl

module _ (s : List ℕ) (lent : List (List ℕ)) (r : Answer) (exit : List (List ℕ)) (reads : ReadsInto s lent r exit) where
  pub told : r.refusal ≡ refusal_of (multi_verdict s)
  told = ap (λ (h : Answer). h.refusal) reads.answer ∙ answer-refusal (multi_verdict s) (value_of s)

  pub verdict-accepted : r.refusal.number ≡ 0 → multi_verdict s ≡ Accepted
  verdict-accepted e = told-accepted (multi_verdict s) (sym (ap (λ (x : Refusal). x.number) told) ∙ e)

  accepted-number : multi_verdict s ≡ Accepted → r.refusal.number ≡ 0
  accepted-number e = ap (λ (x : Refusal). x.number) told ∙ ap (λ (v : Verdict). (refusal_of v).number) e

  -- an acceptance answers the value
  pub answered : multi_verdict s ≡ Accepted → (r ≡ answer_of Accepted (value_of s)) × (exit ≡ filled (heads_of 7 (value_of s).inners) 50 no_head)
  answered e = (
    reads.answer ∙ ap (λ (v : Verdict). answer_of v (value_of s)) e,
    reads.left ∙ ap (λ (v : Verdict). lent_of v (filled (heads_of 7 (value_of s).inners) 50 no_head) lent) e,
  )

  pub accepted-exactly : r.refusal.number ≡ 0 ↔ ((v : Multi) × Legal v × (layout v ≡ s))
  accepted-exactly = (
    λ e. let h = accepted-multi s (verdict-accepted e) in (value_of s, h.legal, h.same),
    λ w. accepted-number (ap multi_verdict (sym w.2) ∙ multi-accepted w.0 w.1),
  )

  pub read_first : r.refusal ≡ refusal_of (first (reading_checks s))
  read_first = told ∙ ap refusal_of (reading-order s)

  refused-by : (verdict : Verdict) → multi_verdict s ≡ verdict → ((refusal_of verdict).number ≡ 0 → ⊥) → (r.priority ≡ 0) × (r.n ≡ 0) × (exit ≡ lent)
  refused-by Accepted e h = absurd (h refl)
  refused-by (Refused reason item) e h = (
    ap (λ (x : Answer). x.priority) reads.answer ∙ ap (λ (v : Verdict). (answer_of v (value_of s)).priority) e,
    ap (λ (x : Answer). x.n) reads.answer ∙ ap (λ (v : Verdict). (answer_of v (value_of s)).n) e,
    reads.left ∙ ap (λ (v : Verdict). lent_of v (filled (heads_of 7 (value_of s).inners) 50 no_head) lent) e,
  )

  pub refused-zero : (r.refusal.number ≡ 0 → ⊥) → (r.priority ≡ 0) × (r.n ≡ 0) × (exit ≡ lent)
  refused-zero h = refused-by (multi_verdict s) refl (λ e. h (ap (λ (x : Refusal). x.number) told ∙ e))

pub the-answer : (v : Multi) → Legal v → (lent : List (List ℕ)) (r : Answer) (exit : List (List ℕ)) → ReadsInto (layout v) lent r exit
    → (r ≡ record { refusal = accepted; priority = v.priority; n = length v.inners })
    × (exit ≡ filled (heads_of 7 v.inners) 50 no_head)
the-answer v h lent r exit reads =
    let both = answered (layout v) lent r exit reads (multi-accepted v h) in
    (both.0 ∙ ap (answer_of Accepted) (value-back v h), both.1 ∙ ap (λ (w : Multi). filled (heads_of 7 w.inners) 50 no_head) (value-back v h))

pub only_one : (v w : Multi) → Legal v → Legal w → layout v ≡ layout w → v ≡ w
only_one v w h g e = sym (value-back v h) ∙ ap value_of e ∙ value-back w g

-- what is not a subtitling packet's is carried
pub any-bytes : (x : Inner) (bytes : List ℕ) → Bytes bytes → (x.did ≡ 0x43 → x.sdid ≡ 0x02 → ⊥) → LegalInner x → LegalInner (with_bytes x bytes)
any-bytes x bytes b other h =
    record { line = h.line; field = h.field; did = h.did; sdid = h.sdid; bytes = b; subtitles = λ e f. absurd (other e f) }

pub most-inners : (v : Multi) → Legal v → length v.inners ≤ 50
most-inners v h = omega (arith, few-inners v.inners, h.fits)

-- INNER PACKETS THAT ARE HANDED OUT

pub handed-inner : (v : Multi) → Legal v → (i : ℕ) (r : List ℕ) → Hands (layout v) i r → r ≡ get_or (map layout_inner v.inners) i []
handed-inner v h i r hands =
    hands
    ∙ ap (λ (verdict : Verdict). handed_of verdict i (layout v)) (multi-accepted v h)
    ∙ ap (λ (u : List ℕ). get_or (cut (length u) u) i []) (layout-inners v h)
    ∙ ap (λ (ps : List (List ℕ)). get_or ps i []) (cut-back v.inners h.each (short v h))

handed-by : (verdict : Verdict) (s : List ℕ) (i : ℕ) → (verdict ≡ Accepted → ⊥) → handed_of verdict i s ≡ []
handed-by Accepted s i h = absurd (h refl)
handed-by (Refused reason item) s i h = refl

pub handed-refused : (s : List ℕ) (i : ℕ) (r : List ℕ) → Hands s i r → (multi_verdict s ≡ Accepted → ⊥) → r ≡ []
handed-refused s i r hands h = hands ∙ handed-by (multi_verdict s) s i h
