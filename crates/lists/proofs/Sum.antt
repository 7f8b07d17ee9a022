-- Sums of lists that are put together, of a front that grows, and of remainders.
-- Assumes nothing.
use Prim.Native.Nat.{ℕ, ◌+◌, ◌*◌, ◌%◌, ◌<◌}
use native.Mathlib.Omega.{arith}
use native.Mathlib.Nat.{mod-add-mod, add-mod-mod, mod-mod_of_dvd, dvd-mul_right}
use native.Mathlib.Numerals.{add-one}
use mathlib.Core.Path.{◌≡◌, ◌∙◌, ap, sym, refl}
use mathlib.Core.List.{List, [], ◌∷◌, ◌++◌, map}
use lib.ListN.{length, get_or, take}
use lib.Seq.{take-suc}
use Rattle.lists.specs.Sum.{sum}

pub sum-append : (xs ys : List ℕ) → sum (xs ++ ys) ≡ sum xs + sum ys
sum-append [] ys = omega arith
sum-append (x ∷ xs) ys = omega (arith, sum-append xs ys)

-- the first i numbers and the next
pub sum_more : (xs : List ℕ) (i : ℕ) → i < length xs → sum (take (i + 1) xs) ≡ sum (take i xs) + get_or xs i 0
sum_more xs i h =
    let next : take (i + 1) xs ≡ take i xs ++ (get_or xs i 0 ∷ []) = rw (add-one, take-suc xs i 0) in
    omega (arith, ap sum next, sum-append (take i xs) (get_or xs i 0 ∷ []))

-- modulo m, the remainders make the sum that the numbers make
sum-mod : (m : ℕ) (xs : List ℕ) → sum (map (λ (x : ℕ). x % m) xs) % m ≡ sum xs % m
sum-mod m [] = refl
sum-mod m (x ∷ xs) =
    let rest = sum (map (λ (x : ℕ). x % m) xs) in
    mod-add-mod x m rest
    ∙ sym (add-mod-mod x rest m)
    ∙ ap (λ (r : ℕ). (x + r) % m) (sum-mod m xs)
    ∙ add-mod-mod x (sum xs) m

-- so the sum modulo a multiple of m tells the sum of the remainders
pub sum_low : (m k : ℕ) (xs : List ℕ) → sum xs % (m * k) % m ≡ sum (map (λ (x : ℕ). x % m) xs) % m
sum_low m k xs = mod-mod_of_dvd m (sum xs) (dvd-mul_right m k) ∙ sym (sum-mod m xs)
