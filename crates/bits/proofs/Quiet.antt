-- The longest run of zero bits, and bits in which no 1 stands behind 23 zeros, as it does in 00 00 01.
-- Assumes nothing.
use Prim.Native.Nat.{ℕ, zero, suc, ◌+◌, ◌≤◌, ◌<◌}
use native.Mathlib.Omega.{arith}
use mathlib.Core.Path.{◌≡◌, refl}
use mathlib.Core.Bool.{Bool, true, ◌&&◌, and-eq-true_iff}
use mathlib.Core.List.{List, [], ◌∷◌, ◌++◌}
use lib.Dec.{ltb}
use lib.ListN.{length, replicate}
use borrow.Author.Tests.{ltb-true, lt-ltb}
use Rattle.bits.specs.Bits.{longest_from}

-- a run is no longer than the bits there are
pub longest-length : (run : ℕ) (xs : List ℕ) → longest_from run xs ≤ run + length xs
longest-length run [] = omega arith
longest-length run (zero ∷ xs) = omega (arith, longest-length (suc run) xs)
longest-length run (suc b ∷ xs) = omega (arith, longest-length 0 xs)

module _ (n : ℕ) where
  -- a run that begins before xs, or in it, ends at the 1 behind it
  pub longest-one : (run : ℕ) (xs rest : List ℕ) → run + length xs ≤ n → longest_from 0 rest ≤ n → longest_from run (xs ++ (1 ∷ rest)) ≤ n
  longest-one run [] rest h g = omega arith
  longest-one run (zero ∷ xs) rest h g = longest-one (suc run) xs rest (omega arith) g
  longest-one run (suc b ∷ xs) rest h g = omega (arith, longest-one 0 xs rest (omega arith) g)

  -- a run of at most k goes on behind xs
  pub longest-after : (k : ℕ) → k ≤ n → (run : ℕ) (xs rest : List ℕ) → run + length xs ≤ k → ((j : ℕ) → j ≤ k → longest_from j rest ≤ n)
      → longest_from run (xs ++ rest) ≤ n
  longest-after k small run [] rest h g = g run (omega arith)
  longest-after k small run (zero ∷ xs) rest h g = longest-after k small (suc run) xs rest (omega arith) g
  longest-after k small run (suc b ∷ xs) rest h g = omega (arith, longest-after k small 0 xs rest (omega arith) g)

-- each 1 stands behind fewer than 23 zeros, with so many of them just before the bits
abbrev pub quiet : ℕ → List ℕ → Bool
quiet run [] = true
quiet run (zero ∷ bs) = quiet (suc run) bs
quiet run (suc b ∷ bs) = ltb run 23 && quiet 0 bs

-- bits are as quiet behind fewer zeros
pub quiet-less : (a b : ℕ) (xs : List ℕ) → a ≤ b → quiet b xs ≡ true → quiet a xs ≡ true
quiet-less a b [] h q = refl
quiet-less a b (zero ∷ xs) h q = quiet-less (suc a) (suc b) xs (omega arith) q
quiet-less a b (suc x ∷ xs) h q =
    let parts : (ltb b 23 ≡ true) × (quiet 0 xs ≡ true) = (and-eq-true_iff (ltb b 23) (quiet 0 xs)).0 q in
    let less : a < 23 = omega (arith, ltb-true b 23 parts.0) in
    simp (lt-ltb a 23 less, parts.1)

-- and from any bit on
pub quiet-behind : (run : ℕ) (xs ys : List ℕ) → quiet run (xs ++ ys) ≡ true → quiet 0 ys ≡ true
quiet-behind run [] ys q = quiet-less 0 run ys (omega arith) q
quiet-behind run (zero ∷ xs) ys q = quiet-behind (suc run) xs ys q
quiet-behind run (suc x ∷ xs) ys q = quiet-behind 0 xs ys ((and-eq-true_iff (ltb run 23) (quiet 0 (xs ++ ys))).0 q).1

pub quiet-zeros : (run m : ℕ) → quiet run (replicate m 0) ≡ true
quiet-zeros run zero = refl
quiet-zeros run (suc m) = quiet-zeros (suc run) m

-- bits without a run of 23 zeros, and zeros behind them
pub longest-quiet : (run : ℕ) (xs : List ℕ) (m : ℕ) → longest_from run xs ≤ 22 → quiet run (xs ++ replicate m 0) ≡ true
longest-quiet run [] m h = quiet-zeros run m
longest-quiet run (zero ∷ xs) m h = longest-quiet (suc run) xs m h
longest-quiet run (suc x ∷ xs) m h =
    let short : run < 23 = omega arith in
    simp (lt-ltb run 23 short, longest-quiet 0 xs m (omega arith))
