-- Where bits that must be zero are refused: at the first that is 1.
-- Assumes nothing.
use Prim.Native.Nat.{ℕ, zero, suc, ◌+◌, ◌-◌, ◌≤◌, ◌<◌}
use native.Mathlib.Nat.{eq-or-lt_of_le}
use native.Mathlib.Omega.{arith}
use mathlib.Core.Path.{◌≡◌, ◌∙◌, ap, sym, subst, refl}
use mathlib.Core.Logic.{⊎_elim}
use mathlib.Core.List.{List, [], ◌∷◌}
use lib.ListN.{length, get_or, drop}
use lib.Seq.{get_or-drop}
use Rattle.refusal.specs.declared.Fixed.{Fixed}
use Rattle.refusal.specs.declared.Reason.TheVariants.{Unfixed}
use Rattle.refusal.specs.declared.Item.TheVariants.{Bit}
use Rattle.refusal.specs.Numbers.{number_of}
use Rattle.refusal.specs.Answers.{AtBit}
use Rattle.refusal.proofs.Only.{Only, accepted-only, refused-only}
use Rattle.bits.specs.Bits.{zeros}
use Rattle.bits.proofs.Numbers.{AreBits, are-drop}
use Rattle.bits.proofs.Runs.{zeros-le}
use Rattle.stuffing.specs.Zeros.{zero_verdict, FirstOne}
use Rattle.stuffing.proofs.Zeros.{zero-none, zero-some}

-- bits that must be zero, the first of them bit `at`: all are, or P holds at the first that is not
module _ (limit : ℕ) (P : ℕ → ℕ → Type 0) (which : Fixed) (at : ℕ) (bs : List ℕ) where
  pub zero-only : (zeros bs < length bs → at + zeros bs ≤ limit) → (zeros bs < length bs → P (number_of (Unfixed which)) (at + zeros bs))
      → Only (AtBit limit P) (zero_verdict which at bs)
  zero-only within stands =
      let some : zeros bs < length bs → Only (AtBit limit P) (zero_verdict which at bs) =
      λ h. subst (Only (AtBit limit P)) (sym (zero-some which at bs h))
      (refused-only (AtBit limit P) (Unfixed which) (Bit (at + zeros bs))
      (record { bit = at + zeros bs; here = refl; within = within h; stands = stands h })) in
      let none : zeros bs ≡ length bs → Only (AtBit limit P) (zero_verdict which at bs) =
      λ e. subst (Only (AtBit limit P)) (sym (zero-none which at bs e)) (accepted-only (AtBit limit P)) in
      ⊎_elim none some (eq-or-lt_of_le (zeros-le bs))

-- the bits before the end of a run are 0, and the one there is 1
zeros-before : (bs : List ℕ) (i : ℕ) → i < zeros bs → get_or bs i 0 ≡ 0
zeros-before [] i h = let f : ⊥ = omega arith in absurd f
zeros-before (zero ∷ bs) zero h = refl
zeros-before (zero ∷ bs) (suc i) h = zeros-before bs i (omega arith)
zeros-before (suc b ∷ bs) i h = let f : ⊥ = omega arith in absurd f

zeros-end : (bs : List ℕ) → AreBits bs → zeros bs < length bs → get_or bs (zeros bs) 0 ≡ 1
zeros-end [] h some = let f : ⊥ = omega arith in absurd f
zeros-end (zero ∷ bs) h some = zeros-end bs h.1 (omega arith)
zeros-end (suc b ∷ bs) h some = omega (arith, h.0)

pub first_one : (xs : List ℕ) (from : ℕ) → AreBits xs → zeros (drop from xs) < length (drop from xs) → FirstOne xs from (from + zeros (drop from xs))
first_one xs from h some =
    record {
      behind = omega arith;
      zeros = λ i low high.
          let there : from + (i - from) ≡ i = omega arith in
          let near : i - from < zeros (drop from xs) = omega arith in
          ap (λ (j : ℕ). get_or xs j 0) (sym there) ∙ sym (get_or-drop from xs (i - from) 0) ∙ zeros-before (drop from xs) (i - from) near;
      one = sym (get_or-drop from xs (zeros (drop from xs)) 0) ∙ zeros-end (drop from xs) (are-drop from xs h) some;
    }
