-- Which number reading refuses with, and that a refusal holds nothing.
-- Assumes nothing.
use Prim.Native.Nat.{ℕ, ◌-◌, ◌%◌, ◌≤◌, ◌<◌}
use native.Mathlib.Omega.{arith}
use mathlib.Core.Path.{◌≡◌, ◌∙◌, ap}
use mathlib.Core.List.{List}
use borrow.Author.Tests.{eq-eqb, ne_eqb, lt-ltb, le-ltb}
use lib.ListN.{length}
use Rattle.refusal.specs.Checks.{first}
use Rattle.refusal.specs.Numbers.{refusal_of}
use Rattle.refusal.specs.Answers.{accepted, refused}
use Rattle.line21.specs.declared.Answer.{Answer}
use Rattle.line21.specs.Value.{none, stored}
use Rattle.line21.specs.Reading.{length_verdict, value_of, Reads}
use Rattle.line21.specs.Order.{reading_checks}
use Rattle.line21.proofs.Answers.{answer-refusal, refused-nothing}
use Rattle.line21.proofs.Sequence.{reading-order}

pub refused-2 : (s : List ℕ) (r : Answer) → Reads s r → length s ≡ 0 → r.refusal ≡ refused 2 (length s)
unfolding length_verdict
refused-2 s r p e = ap (λ (a : Answer). a.refusal) p.answer ∙ simp (eq-eqb (length s) 0 e)

pub refused-1 : (s : List ℕ) (r : Answer) → Reads s r → 1456 < length s → r.refusal ≡ refused 1 (length s)
unfolding length_verdict
refused-1 s r p h = ap (λ (a : Answer). a.refusal) p.answer ∙ simp (ne_eqb (length s) 0 (omega arith), lt-ltb 1456 (length s) h)

pub refused-13 : (s : List ℕ) (r : Answer) → Reads s r → 0 < length s → length s ≤ 1456 → ((length s - 1) % 5 ≡ 0 → ⊥)
    → r.refusal ≡ refused 13 (length s)
unfolding length_verdict
refused-13 s r p some within h =
    ap (λ (a : Answer). a.refusal) p.answer
    ∙ simp (ne_eqb (length s) 0 (omega arith), le-ltb 1456 (length s) within, ne_eqb ((length s - 1) % 5) 0 h)

pub accepted-whole-units : (s : List ℕ) (r : Answer) → Reads s r → 0 < length s → length s ≤ 1456
    → (length s - 1) % 5 ≡ 0 → r.refusal ≡ accepted
unfolding length_verdict
accepted-whole-units s r p some within whole =
    ap (λ (a : Answer). a.refusal) p.answer
    ∙ simp (ne_eqb (length s) 0 (omega arith), le-ltb 1456 (length s) within, eq-eqb ((length s - 1) % 5) 0 whole)

pub read_first : (s : List ℕ) (r : Answer) → Reads s r → r.refusal ≡ refusal_of (first (reading_checks s))
read_first s r p = ap (λ (a : Answer). a.refusal) p.answer ∙ answer-refusal (length_verdict (length s)) (value_of s) ∙ ap refusal_of (reading-order s)

pub refused-zero : (s : List ℕ) (r : Answer) → Reads s r → (r.refusal.number ≡ 0 → ⊥) → r.payload ≡ stored none
refused-zero s r p h =
    ap (λ (a : Answer). a.payload) p.answer
    ∙ refused-nothing (length_verdict (length s)) (value_of s) (λ e. h (ap (λ (a : Answer). a.refusal.number) p.answer ∙ e))
