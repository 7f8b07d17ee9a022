-- A row is all zero exactly where no bit is set in its bytes together.
-- Assumes nothing.
use Prim.Native.Nat.{ℕ, zero, suc, ◌+◌, ◌<◌}
use native.Mathlib.Numerals.{add-one}
use native.Mathlib.Omega.{arith}
use mathlib.Core.Path.{◌≡◌, ◌∙◌, ap, sym, refl}
use mathlib.Core.Bool.{Bool, ◌&&◌}
use mathlib.Core.List.{List, [], ◌∷◌, ◌++◌}
use borrow.Author.Tests.{ne_eqb}
use lib.Bits.{bit_or, or_zero_l, or_add_and, and_le_r}
use lib.Dec.{eqb}
use lib.ListN.{length, get_or, take}
use lib.Seq.{take-suc}
use Rattle.sdp.specs.SlotVerdict.{all_zero}

or-blank : (a b : ℕ) → eqb (bit_or a b) 0 ≡ (eqb a 0 && eqb b 0)
or-blank zero b = ap (λ (n : ℕ). eqb n 0) (or_zero_l b)
or-blank (suc a) b =
    let some : suc a ≡ 0 → ⊥ = λ e. omega arith in
    ne_eqb (bit_or (suc a) b) 0 (λ e. omega (arith, or_add_and (suc a) b, and_le_r (suc a) b)) ∙ ap (λ (t : Bool). t && eqb b 0) (sym (ne_eqb (suc a) 0 some))

blank-append : (row : List ℕ) (x : ℕ) → all_zero (row ++ (x ∷ [])) ≡ (all_zero row && eqb x 0)
blank-append [] zero = refl
blank-append [] (suc x) = let some : suc x ≡ 0 → ⊥ = λ e. omega arith in sym (ne_eqb (suc x) 0 some)
blank-append (zero ∷ row) x = blank-append row x
blank-append (suc b ∷ row) x = refl

-- one byte more
pub blank-more : (row : List ℕ) (j any : ℕ) → j < length row → eqb any 0 ≡ all_zero (take j row) → eqb (bit_or any (get_or row j 0)) 0 ≡ all_zero (take (j + 1) row)
blank-more row j any inside e =
    let x = get_or row j 0 in
    or-blank any x
    ∙ ap (λ (t : Bool). t && eqb x 0) e
    ∙ sym (blank-append (take j row) x)
    ∙ ap all_zero (sym (ap (λ (k : ℕ). take k row) (add-one j) ∙ take-suc row j 0 inside))

-- for a function's tactics
pub ruleset blanks = (blank-more)
