-- What a writer's answer tells of its output, whatever is written.
-- Assumes nothing.
use Prim.Native.Nat.{ℕ}
use mathlib.Core.Path.{◌≡◌, ◌∙◌, ap, sym, refl}
use mathlib.Core.List.{List}
use lib.ListN.{length}
use Rattle.lists.specs.Room.{over}
use Rattle.refusal.specs.declared.Refusal.{Refusal}
use Rattle.refusal.specs.Verdict.{Verdict}
use Rattle.refusal.specs.Verdict.{Accepted, Refused}
use Rattle.refusal.specs.declared.Written.{Written}
use Rattle.refusal.specs.Numbers.{refusal_of}
use Rattle.refusal.specs.Answers.{written, counted_of, left_of, Wrote, lent_of, verdict_of, len_of, judged_as, laid_of, body_left}
use Rattle.refusal.proofs.Acceptance.{told-accepted}
use Rattle.refusal.proofs.Checks.{refused-not-accepted}

counted-refusal : (verdict : Verdict) (laid : List ℕ) → (counted_of verdict laid).refusal ≡ refusal_of verdict
counted-refusal Accepted laid = refl
counted-refusal (Refused reason item) laid = refl

refused-left : (verdict : Verdict) (laid out : List ℕ) → ((counted_of verdict laid).refusal.number ≡ 0 → ⊥) → ((counted_of verdict laid).len ≡ 0) × (left_of verdict laid out ≡ out)
refused-left Accepted laid out h = absurd (h refl)
refused-left (Refused reason item) laid out h = (refl, refl)

-- what the verdict makes of an answer, of that of a body's writer, and of what this leaves
pub judged-verdict : {A : Type 0} (verdict : Verdict) (value : A) → verdict_of (judged_as verdict value) ≡ verdict
judged-verdict Accepted value = refl
judged-verdict (Refused reason item) value = refl

pub laid-verdict : (verdict : Verdict) (laid : List ℕ) → verdict_of (laid_of verdict laid) ≡ verdict
laid-verdict verdict laid = judged-verdict verdict (length laid)

pub refused-laid : (verdict : Verdict) (at : ℕ) (laid out : List ℕ) → (verdict ≡ Accepted → ⊥) → (len_of (laid_of verdict laid) ≡ 0) × (body_left verdict at laid out ≡ out)
refused-laid Accepted at laid out h = absurd (h refl)
refused-laid (Refused reason item) at laid out h = (refl, refl)

-- and what a refusal leaves in a lent array
pub refused-lent : {A : Type 0} (verdict : Verdict) (new lent : List A) → (verdict ≡ Accepted → ⊥) → lent_of verdict new lent ≡ lent
refused-lent Accepted new lent h = absurd (h refl)
refused-lent (Refused reason item) new lent h = refl

-- the two ways to keep the promise
pub wrote_nothing : (verdict : Verdict) (laid out : List ℕ) → ((refusal_of verdict).number ≡ 0 → ⊥) → Wrote verdict laid out (record { refusal = refusal_of verdict; len = 0 }) out
wrote_nothing Accepted laid out h = absurd (h refl)
wrote_nothing (Refused reason item) laid out h = record { counted = refl; left = refl }

pub wrote-laid : (verdict : Verdict) (laid out : List ℕ) → (refusal_of verdict).number ≡ 0 → Wrote verdict laid out (record { refusal = refusal_of verdict; len = length laid }) (over laid out)
wrote-laid Accepted laid out e = record { counted = refl; left = refl }
wrote-laid (Refused reason item) laid out e = refused-not-accepted reason item (told-accepted (Refused reason item) e)

module _ (verdict : Verdict) (laid out : List ℕ) (answer : Written) (exit : List ℕ) (wrote : Wrote verdict laid out answer exit) where
  -- the refusal told is the verdict's
  pub wrote-refusal : answer.refusal ≡ refusal_of verdict
  wrote-refusal = ap (λ (w : Written). w.refusal) wrote.counted ∙ counted-refusal verdict laid

  number : answer.refusal.number ≡ (refusal_of verdict).number
  number = ap (λ (r : Refusal). r.number) wrote-refusal

  -- an answer of number 0 is an acceptance, and an acceptance has number 0
  pub wrote-accepted : answer.refusal.number ≡ 0 → verdict ≡ Accepted
  wrote-accepted e = told-accepted verdict (sym number ∙ e)

  pub accepted-wrote : verdict ≡ Accepted → answer.refusal.number ≡ 0
  accepted-wrote e = number ∙ ap (λ (v : Verdict). (refusal_of v).number) e

  -- a success counts what it laid, and changes nothing else
  pub success-left : verdict ≡ Accepted → (answer ≡ written (length laid)) × (exit ≡ over laid out)
  success-left e = (wrote.counted ∙ ap (λ (v : Verdict). counted_of v laid) e, wrote.left ∙ ap (λ (v : Verdict). left_of v laid out) e)

  -- a refusal counts nothing, and changes nothing
  pub refusal-left : (answer.refusal.number ≡ 0 → ⊥) → (answer.len ≡ 0) × (exit ≡ out)
  refusal-left h =
      let same = refused-left verdict laid out (λ e. h (ap (λ (w : Written). w.refusal.number) wrote.counted ∙ e)) in
      (ap (λ (w : Written). w.len) wrote.counted ∙ same.0, wrote.left ∙ same.1)

  -- any other answer and output that keep the promise are these
  pub wrote-determined : (other : Written) (end : List ℕ) → Wrote verdict laid out other end → (answer ≡ other) × (exit ≡ end)
  wrote-determined other end w = (wrote.counted ∙ sym w.counted, wrote.left ∙ sym w.left)
