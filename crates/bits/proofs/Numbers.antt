-- The bits of a number and the number that bits write: each undoes the other.
-- Assumes nothing.
use Prim.Native.Nat.{ℕ, zero, suc, ◌+◌, ◌*◌, ◌/◌, ◌%◌, ◌^◌, ◌<◌}
use native.Mathlib.Nat.{add_assoc, add-mul, mod-eq_of_lt, mod-one, mul_assoc, one-mul, pow-succ', suc-add, zero-add}
use native.Mathlib.Numerals.{one-add}
use native.Mathlib.Omega.{arith}
use mathlib.Core.Path.{◌≡◌, ◌∙◌, ap, ap₂, sym, subst, refl}
use mathlib.Core.List.{List, [], ◌∷◌, ◌++◌}
use lib.Arith.{digits_lt}
use lib.ListN.{length, take, drop, replicate, length-append}
use lib.Pow.{pow-add, high, low, mod-pow-add, mod-mod-pow, shr-shr}
use lib.Pow as pow
use Rattle.lists.specs.Each.{Each}
use Rattle.lists.proofs.Each.{each_take, each-drop, each_append, each-replicate}
use Rattle.bits.specs.Bits.{bits, num}

-- a list that holds nothing but bits
abbrev pub AreBits : List ℕ → Type 0
AreBits xs = Each (λ (b : ℕ). b < 2) xs

pub length-bits : (w x : ℕ) → length (bits w x) ≡ w
length-bits zero x = refl
length-bits (suc w) x = ap suc (length-bits w x)

pub bits_are : (w x : ℕ) → AreBits (bits w x)
bits_are zero x = tt
bits_are (suc w) x = (omega arith, bits_are w x)

pub are-take : (k : ℕ) (xs : List ℕ) → AreBits xs → AreBits (take k xs)
are-take = each_take (λ (b : ℕ). b < 2)

pub are-drop : (k : ℕ) (xs : List ℕ) → AreBits xs → AreBits (drop k xs)
are-drop = each-drop (λ (b : ℕ). b < 2)

pub are-append : (xs ys : List ℕ) → AreBits xs → AreBits ys → AreBits (xs ++ ys)
are-append = each_append (λ (b : ℕ). b < 2)

pub are-zeros : (n : ℕ) → AreBits (replicate n 0)
are-zeros n = each-replicate (λ (b : ℕ). b < 2) n 0 (omega arith)

pub num-bits : (w x : ℕ) → num (bits w x) ≡ x % 2 ^ w
num-bits zero x = sym (mod-one x)
num-bits (suc w) x =
    ap₂ (λ (n m : ℕ). x / 2 ^ w % 2 * 2 ^ n + m) (length-bits w x) (num-bits w x)
    ∙ sym (mod-pow-add x 1 w)
    ∙ ap (λ (n : ℕ). x % 2 ^ n) (one-add w)

pub num-bits-small : (w x : ℕ) → x < 2 ^ w → num (bits w x) ≡ x
num-bits-small w x h = num-bits w x ∙ mod-eq_of_lt h

pub num-lt : (xs : List ℕ) → AreBits xs → num xs < 2 ^ length xs
num-lt [] h = omega arith
num-lt (b ∷ bs) h = rw pow-succ' (digits_lt h.0 (num-lt bs h.1))

pub num-append : (xs ys : List ℕ) → num (xs ++ ys) ≡ num xs * 2 ^ length ys + num ys
num-append [] ys = omega arith
num-append (x ∷ xs) ys =
    let n = length xs in
    let m = length ys in
    ap₂ (λ (p k : ℕ). x * p + k) (ap (λ (k : ℕ). 2 ^ k) (length-append xs ys) ∙ pow-add 2 n m) (num-append xs ys)
    ∙ sym (add_assoc (x * (2 ^ n * 2 ^ m)) (num xs * 2 ^ m) (num ys))
    ∙ ap (λ (k : ℕ). k + num xs * 2 ^ m + num ys) (sym (mul_assoc x (2 ^ n) (2 ^ m)))
    ∙ ap (λ (k : ℕ). k + num ys) (sym (add-mul (x * 2 ^ n) (num xs) (2 ^ m)))

-- more bits than w are of no account
bits-mod-more : (w j x : ℕ) → bits w (x % 2 ^ (j + w)) ≡ bits w x
bits-mod-more zero j x = refl
bits-mod-more (suc w) j x =
    let more : j + suc w ≡ j + 1 + w = omega arith in
    let first : x % 2 ^ (j + 1 + w) / 2 ^ w % 2 ≡ x / 2 ^ w % 2 = ap (λ (n : ℕ). n % 2) (pow.field x (j + 1) w) ∙ mod-mod-pow (x / 2 ^ w) j 1 in
    ap (λ (n : ℕ). bits (suc w) (x % 2 ^ n)) more
    ∙ ap₂ (λ (b : ℕ) (bs : List ℕ). b ∷ bs) first (bits-mod-more w (j + 1) x)

-- a number's bits in front of others
pub num-front : (w x : ℕ) (ys : List ℕ) (y : ℕ) → x < 2 ^ w → num ys ≡ y → num (bits w x ++ ys) ≡ x * 2 ^ length ys + y
num-front w x ys y small e = num-append (bits w x) ys ∙ ap₂ (λ (a b : ℕ). a * 2 ^ length ys + b) (num-bits-small w x small) e

pub bits-mod : (w x : ℕ) → bits w (x % 2 ^ w) ≡ bits w x
bits-mod w x = ap (λ (n : ℕ). bits w (x % 2 ^ n)) (sym (zero-add w)) ∙ bits-mod-more w 0 x

pub bits-num : (xs : List ℕ) → AreBits xs → bits (length xs) (num xs) ≡ xs
bits-num [] h = refl
bits-num (b ∷ bs) h =
    let n = length bs in
    let small : num bs < 2 ^ n = num-lt bs h.1 in
    let first : (b * 2 ^ n + num bs) / 2 ^ n % 2 ≡ b = ap (λ (k : ℕ). k % 2) (high b n small) ∙ mod-eq_of_lt h.0 in
    let rest : bits n (b * 2 ^ n + num bs) ≡ bs = sym (bits-mod n (b * 2 ^ n + num bs)) ∙ ap (bits n) (low b n small) ∙ bits-num bs h.1 in
    ap₂ (λ (b : ℕ) (bs : List ℕ). b ∷ bs) first rest

-- the high bits, then the w low ones
pub bits-add : (j w x : ℕ) → bits (j + w) x ≡ bits j (x / 2 ^ w) ++ bits w x
bits-add zero w x = ap (λ (n : ℕ). bits n x) (zero-add w)
bits-add (suc j) w x =
    let first : x / 2 ^ (j + w) % 2 ≡ x / 2 ^ w / 2 ^ j % 2 = ap (λ (n : ℕ). n % 2) (ap (λ (n : ℕ). x / 2 ^ n) (omega arith) ∙ sym (shr-shr x w j)) in
    ap (λ (n : ℕ). bits n x) (suc-add j w) ∙ ap₂ (λ (b : ℕ) (bs : List ℕ). b ∷ bs) first (bits-add j w x)

-- the code's `1u64 << w`
pub one_shifted : (w : ℕ) → w < 64 → 1 * 2 ^ w % 18446744073709551616 ≡ 2 ^ w
one_shifted w h = ap (λ (n : ℕ). n % 2 ^ 64) (one-mul (2 ^ w)) ∙ mod-eq_of_lt (pow.pow-lt h)

pub one-shifted-pos : (w : ℕ) → w < 64 → 0 < 1 * 2 ^ w % 18446744073709551616
one-shifted-pos w h = subst (λ (n : ℕ). 0 < n) (sym (one_shifted w h)) (pow.pow_pos w)
