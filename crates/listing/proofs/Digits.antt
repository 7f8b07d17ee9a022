-- A number's digits: how many there are, and that 20 are enough for every number of the code.
-- Assumes nothing.
use Prim.Native.Nat.{ℕ, zero, suc, ◌^◌, ◌/◌, ◌%◌, ◌≤◌, ◌<◌}
use native.Mathlib.Omega.{arith}
use native.Mathlib.Nat.{pow-suc}
use mathlib.Core.Path.{◌≡◌, ap, ap₂, refl}
use mathlib.Core.Bool.{Bool, true, false}
use mathlib.Core.List.{List, [], ◌∷◌, ◌++◌}
use borrow.Author.Tests.{lt-ltb, le-ltb}
use lib.Dec.{ltb}
use lib.ListN.{length, length-append}
use Rattle.listing.specs.Texts.{decimal, digit, digits_before, digits_of}

-- without its last digit a number has one digit less
shorter : (k n : ℕ) → n < 10 ^ suc k → n / 10 < 10 ^ k
shorter k n h = omega (arith, pow-suc 10 k)

-- a number below 10 ^ (k + 1) has at most k + 1 digits
pub digits-few : (m k n : ℕ) → n < 10 ^ suc k → length (digits_of m n) ≤ suc k
digits-few zero k n h = omega arith
digits-few (suc m) zero n h =
    let low : ltb n 10 ≡ true = lt-ltb n 10 (omega arith) in
    rw low (omega arith)
digits-few (suc m) (suc k) n h = go (ltb n 10) (digits-few m k (n / 10) (shorter (suc k) n h))
  where
    go : (b : Bool) → length (digits_of m (n / 10)) ≤ suc k → length (digits_before b (digits_of m (n / 10)) (digit (n % 10) ∷ [])) ≤ suc (suc k)
    go true few = omega arith
    go false few = simp length-append (omega arith)

-- where k + 1 digits are enough, room for another changes nothing
digits-enough : (k n : ℕ) → n < 10 ^ suc k → digits_of (suc k) n ≡ digits_of (suc (suc k)) n
digits-enough zero n h =
    let low : ltb n 10 ≡ true = lt-ltb n 10 (omega arith) in
    rw low refl
digits-enough (suc k) n h =
    ap (λ (more : List ℕ). digits_before (ltb n 10) more (digit (n % 10) ∷ [])) (digits-enough k (n / 10) (shorter (suc k) n h))

-- there are no more digits than there may be
digits-most : (k n : ℕ) → length (digits_of k n) ≤ k
digits-most zero n = omega arith
digits-most (suc k) n = go (ltb n 10) (digits-most k (n / 10))
  where
    go : (b : Bool) → length (digits_of k (n / 10)) ≤ k → length (digits_before b (digits_of k (n / 10)) (digit (n % 10) ∷ [])) ≤ suc k
    go true most = omega arith
    go false most = simp length-append (omega arith)

-- a number in decimal, from its last digit
pub decimal-short : (n : ℕ) → n < 10 → decimal n ≡ digit (n % 10) ∷ []
unfolding decimal
decimal-short n h = ap (λ (b : Bool). digits_before b (digits_of 19 (n / 10)) (digit (n % 10) ∷ [])) (lt-ltb n 10 h)

pub decimal-long : (n : ℕ) → n < 2 ^ 64 → 10 ≤ n → decimal n ≡ decimal (n / 10) ++ (digit (n % 10) ∷ [])
unfolding decimal
decimal-long n h long =
    let low : n / 10 < 10 ^ 19 = omega arith in
    ap₂ (λ (b : Bool) (more : List ℕ). digits_before b more (digit (n % 10) ∷ [])) (le-ltb n 10 long) (digits-enough 18 (n / 10) low)

-- how many digits a byte has, and any number
pub decimal-byte : (n : ℕ) → n < 256 → length (decimal n) ≤ 3
unfolding decimal
decimal-byte n h = digits-few 20 2 n (omega arith)

pub decimal-number : (n : ℕ) → length (decimal n) ≤ 20
unfolding decimal
decimal-number n = digits-most 20 n
