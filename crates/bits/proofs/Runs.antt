-- Runs of zeros: how many bits, and how many bytes, stand before the first that is not 0.
-- Assumes nothing.
use Prim.Native.Nat.{ℕ, zero, suc, ◌+◌, ◌*◌, ◌/◌, ◌%◌, ◌^◌, ◌≤◌, ◌<◌}
use native.Mathlib.Nat.{mod-lt, mul-mod_left, zero-div}
use native.Mathlib.Numerals.{add-one, one-add}
use native.Mathlib.Omega.{arith}
use mathlib.Core.Path.{◌≡◌, ◌∙◌, ap, ap₂, sym, subst, refl}
use mathlib.Core.List.{List, [], ◌∷◌, ◌++◌}
use lib.ListN.{length, get_or, drop, replicate, drop_of_length-le}
use lib.Pow.{pow_pos, shl-shr, shr_lt, split}
use lib.Seq.{drop-cons}
use Rattle.lists.specs.Bytes.{Bytes}
use Rattle.bits.specs.Bits.{bits, bits_of, zeros}
use Rattle.bits.specs.Peek.{zero_bytes, first_set, leading_of}
use Rattle.bits.proofs.Numbers.{bits-mod, bits-add}

pub zeros-le : (xs : List ℕ) → zeros xs ≤ length xs
zeros-le [] = omega arith
zeros-le (zero ∷ xs) = omega (arith, zeros-le xs)
zeros-le (suc b ∷ xs) = omega arith

pub zeros-replicate : (n : ℕ) → zeros (replicate n 0) ≡ n
zeros-replicate zero = refl
zeros-replicate (suc n) = ap suc (zeros-replicate n)

-- every bit of a run is 0, and so is what is taken for one beyond it
pub zeros-at : (n i : ℕ) → get_or {A = ℕ} (replicate n 0) i 0 ≡ 0
zeros-at zero i = refl
zeros-at (suc n) zero = refl
zeros-at (suc n) (suc i) = zeros-at n i

-- a run that ends within xs
pub zeros-stop : (xs ys : List ℕ) → zeros xs < length xs → zeros (xs ++ ys) ≡ zeros xs
zeros-stop [] ys h = let f : ⊥ = omega arith in absurd f
zeros-stop (zero ∷ xs) ys h = ap suc (zeros-stop xs ys (omega arith))
zeros-stop (suc b ∷ xs) ys h = refl

-- a run that goes on
pub zeros-on : (n : ℕ) (ys : List ℕ) → zeros (replicate n 0 ++ ys) ≡ n + zeros ys
zeros-on zero ys = omega arith
zeros-on (suc n) ys = omega (arith, zeros-on n ys)

pub bits-zero : (w : ℕ) → bits w 0 ≡ replicate w 0
bits-zero zero = refl
bits-zero (suc w) = ap₂ (λ (b : ℕ) (bs : List ℕ). b % 2 ∷ bs) (zero-div (2 ^ w)) (bits-zero w)

-- a number whose bit w is 0 has no more than w bits
narrower : (w x : ℕ) → x < 2 ^ suc w → x / 2 ^ w % 2 ≡ 0 → x < 2 ^ w
narrower w x h e =
    let high : x / 2 ^ w < 2 = shr_lt 1 w (subst (λ (n : ℕ). x < 2 ^ n) (sym (one-add w)) h) in
    let none : x / 2 ^ w ≡ 0 = omega arith in
    let low : x % 2 ^ w ≡ x = omega (arith, ap (λ (q : ℕ). q * 2 ^ w + x % 2 ^ w) (sym none) ∙ split x w) in
    subst (λ (n : ℕ). n < 2 ^ w) low (mod-lt x (pow_pos w))

-- some bit of a number that is not 0 is not 0
pub zeros-some : (w x : ℕ) → x < 2 ^ w → 0 < x → zeros (bits w x) < w
zeros-some zero x h some = let f : ⊥ = omega arith in absurd f
zeros-some (suc w) x h some = go (x / 2 ^ w % 2) refl (λ small. zeros-some w x small some)
  where
    go : (b : ℕ) → x / 2 ^ w % 2 ≡ b → (x < 2 ^ w → zeros (bits w x) < w) → zeros (b ∷ bits w x) < suc w
    go zero e rest = let less : zeros (bits w x) < w = rest (narrower w x h e) in omega arith
    go (suc b) e rest = omega arith

pub bits-shifted : (w j x : ℕ) → bits (w + j) (x * 2 ^ j) ≡ bits w x ++ replicate j 0
bits-shifted w j x =
    let low : bits j (x * 2 ^ j) ≡ replicate j 0 = sym (bits-mod j (x * 2 ^ j)) ∙ ap (bits j) (mul-mod_left x (2 ^ j)) ∙ bits-zero j in
    bits-add w j (x * 2 ^ j) ∙ ap₂ (λ (n : ℕ) (ys : List ℕ). bits w n ++ ys) (shl-shr x j) low

set_here : (b : ℕ) (s : List ℕ) → 0 < b → zero_bytes (b ∷ s) ≡ 0
set_here zero s h = let f : ⊥ = omega arith in absurd f
set_here (suc b) s h = refl

pub zero_bytes-le : (s : List ℕ) → zero_bytes s ≤ length s
zero_bytes-le [] = omega arith
zero_bytes-le (zero ∷ s) = omega (arith, zero_bytes-le s)
zero_bytes-le (suc b ∷ s) = omega arith

-- the search for a byte that is not 0, step by step
module _ (s : List ℕ) (from : ℕ) where
  pub first_set-end : length s ≤ from → first_set s from ≡ from
  unfolding first_set
  first_set-end h = omega (arith, ap zero_bytes (drop_of_length-le s h))

  pub first_set-here : from < length s → 0 < get_or s from 0 → first_set s from ≡ from
  unfolding first_set
  first_set-here inside h = omega (arith, ap zero_bytes (drop-cons s from 0 inside) ∙ set_here (get_or s from 0) (drop (suc from) s) h)

  pub first_set-next : from < length s → get_or s from 0 ≡ 0 → first_set s from ≡ first_set s (from + 1)
  unfolding first_set
  first_set-next inside e =
      let step : drop from s ≡ 0 ∷ drop (from + 1) s = drop-cons s from 0 inside ∙ ap₂ (λ (b n : ℕ). b ∷ drop n s) e (sym (add-one from)) in
      omega (arith, ap zero_bytes step)

-- the bits of bytes begin with those of the zero bytes, then with those that lead the first other byte
pub zeros-bytes : (s : List ℕ) → Bytes s → zero_bytes s < length s → zeros (bits_of s) ≡ 8 * zero_bytes s + leading_of (get_or s (zero_bytes s) 0)
unfolding leading_of
zeros-bytes [] h some = let f : ⊥ = omega arith in absurd f
zeros-bytes (zero ∷ s) h some = omega (arith, zeros-bytes s h.1 (omega arith))
zeros-bytes (suc b ∷ s) h some =
    let lead : zeros (bits 8 (suc b)) < 8 = zeros-some 8 (suc b) h.0 (omega arith) in
    omega (arith, zeros-stop (bits 8 (suc b)) (bits_of s) lead)

-- and with nothing but zeros where there is no other byte
pub zeros-none : (s : List ℕ) → zero_bytes s ≡ length s → zeros (bits_of s) ≡ 8 * length s
zeros-none [] e = refl
zeros-none (zero ∷ s) e = omega (arith, zeros-none s (omega arith))
zeros-none (suc b ∷ s) e = let f : ⊥ = omega arith in absurd f
