-- What reading an area answers: a legal value's bytes are accepted and no others, and what the answer then shows.
-- Assumes nothing.
use Prim.Native.Nat.{ℕ}
use mathlib.Core.Path.{◌≡◌, ◌∙◌, ap, sym, subst, refl}
use mathlib.Core.Logic.{◌↔◌}
use mathlib.Core.List.{List, [], ◌∷◌}
use Rattle.refusal.specs.declared.Refusal.{Refusal}
use Rattle.refusal.specs.Verdict.{Verdict}
use Rattle.refusal.specs.Verdict.{Accepted, Refused}
use Rattle.refusal.specs.Numbers.{refusal_of}
use Rattle.refusal.specs.Checks.{first}
use Rattle.refusal.proofs.Acceptance.{told-accepted}
use Rattle.kind.specs.declared.Kind.{Kind}
use Rattle.picture.specs.Kinds.{Content}
use Rattle.picture.specs.Value.{Area, uncaptioned, captioned, layout, Legal}
use Rattle.picture.specs.Reading.{captions_in, area_verdict, found_content, Answer, answer_of, shown, Reads}
use Rattle.picture.specs.Order.{reading_checks}
use Rattle.picture.proofs.Areas.{accepted-back, legal-read}
use Rattle.picture.proofs.Sequence.{reading-order}

module _ (k : Kind) where
  pub the-answer : (v : Area k) → Legal k v → (r : Answer k) → Reads k (layout k v) r → r ≡ shown k v
  the-answer v h r p = p.answer ∙ legal-read k v h

  -- what the verdict makes of an answer
  told-refusal : (verdict : Verdict) (cs : List (Content k)) → (answer_of k verdict cs).refusal ≡ refusal_of verdict
  told-refusal Accepted [] = refl
  told-refusal Accepted (c ∷ cs) = refl
  told-refusal (Refused reason item) cs = refl

  shown-accepted : (v : Area k) → (shown k v).refusal.number ≡ 0
  shown-accepted (uncaptioned us) = refl
  shown-accepted (captioned before c after) = refl

  module _ (s : List ℕ) (r : Answer k) (p : Reads k s r) where
    pub refused-in-order : r.refusal ≡ refusal_of (area_verdict k s)
    refused-in-order = ap (λ (a : Answer k). a.refusal) p.answer ∙ told-refusal (area_verdict k s) (found_content k (captions_in k s) s)

    pub read_first : r.refusal ≡ refusal_of (first (reading_checks k s))
    read_first = refused-in-order ∙ ap refusal_of (reading-order k s)

    -- number 0 is an acceptance, and any other is none
    pub zero-accepted : r.refusal.number ≡ 0 → area_verdict k s ≡ Accepted
    zero-accepted e = told-accepted (area_verdict k s) (sym (ap (λ (a : Refusal). a.number) refused-in-order) ∙ e)

    pub other-refused : (r.refusal.number ≡ 0 → ⊥) → area_verdict k s ≡ Accepted → ⊥
    other-refused h e = h (ap (λ (a : Refusal). a.number) (refused-in-order ∙ ap refusal_of e))

    pub the_value : r.refusal.number ≡ 0 → (v : Area k) × Legal k v × (layout k v ≡ s) × (r ≡ shown k v)
    the_value e = let back = accepted-back k s p.bytes (zero-accepted e) in (back.value, back.legal, back.same, p.answer ∙ back.told)

    pub accepted-exactly : r.refusal.number ≡ 0 ↔ ((v : Area k) × Legal k v × (layout k v ≡ s))
    accepted-exactly = (
      λ e. let w = the_value e in (w.0, w.1, w.2),
      λ w.
          ap (λ (a : Answer k). a.refusal.number) (the-answer w.0 w.1 r (subst (λ (t : List ℕ). Reads k t r) (sym w.2) p))
          ∙ shown-accepted w.0,
    )
