-- Rules of the numbers below a bound: one that is proved of all of them by one test that antt computes, one number after the other; and one that holds of one
-- number more.
-- Assumes nothing.
use Prim.Native.Nat.{ℕ, zero, suc, ◌<◌}
use native.Mathlib.Nat.{le_of_suc-le-suc, not-suc-le-zero}
use native.Mathlib.Omega.{arith}
use borrow.Author.Count.{below_more}
use mathlib.Core.Bool.{Bool, true, false, ◌&&◌}
use lib.Dec.{T}

both : (a b : Bool) → T (a && b) → T a × T b
both true b t = (tt, t)
both false b t = absurd t

-- the test passes at each number below n
abbrev pub all : (ℕ → Bool) → ℕ → Bool
all test zero = true
all test (suc n) = test zero && all (λ (k : ℕ). test (suc k)) n

-- then it passes at any one of them
pub below : (test : ℕ → Bool) (n : ℕ) → T (all test n) → (k : ℕ) → k < n → T (test k)
below test zero t k h = absurd (not-suc-le-zero h)
below test (suc n) t zero h = (both (test zero) (all (λ (k : ℕ). test (suc k)) n) t).0
below test (suc n) t (suc k) h =
    below (λ (k : ℕ). test (suc k)) n (both (test zero) (all (λ (k : ℕ). test (suc k)) n) t).1 k (le_of_suc-le-suc h)

-- what holds below n and at n holds below its successor, as a recursion counts
pub below_next : (P : ℕ → Type 0) (n : ℕ) → ((i : ℕ) → i < n → P i) → P n → (i : ℕ) → i < suc n → P i
below_next P n before here i low = below_more P n before here i (omega arith)
