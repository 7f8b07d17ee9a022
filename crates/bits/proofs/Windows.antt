-- The five bytes that a peek looks at: what they write, and where its bits stand in that number.
-- Assumes nothing.
use Prim.Native.Nat.{ℕ, zero, suc, ◌+◌, ◌-◌, ◌*◌, ◌/◌, ◌%◌, ◌^◌, ◌≤◌, ◌<◌}
use native.Mathlib.Nat.{add-zero, zero-add}
use native.Mathlib.Omega.{arith}
use mathlib.Core.Path.{◌≡◌, ◌∙◌, ap, ap₂, sym, refl}
use mathlib.Core.List.{List, [], ◌∷◌, ◌++◌}
use lib.ListN.{length, drop, get_or, replicate, length-append, length-replicate}
use lib.Seq.{length-take-le, take-nil, drop-nil, drop-drop, get_or-drop}
use Rattle.bits.specs.Bits.{bits, num, bits_of, field}
use Rattle.bits.specs.Peek.{peek_of}
use Rattle.bits.proofs.Numbers.{are-drop, are-append, are-zeros, num-append, num-bits-small}
use Rattle.bits.proofs.Stream.{bits_of-are, drop-bits_of}
use Rattle.bits.proofs.Fields.{field-within}

-- zeros write 0
zeros-num : (w at m : ℕ) → field (replicate m 0) at w ≡ 0
zeros-num w zero zero = ap num (take-nil w)
zeros-num zero zero (suc m) = refl
zeros-num (suc w) zero (suc m) = omega (arith, zeros-num w zero m)
zeros-num w (suc at) zero = ap num (take-nil w)
zeros-num w (suc at) (suc m) = zeros-num w at m

-- w zeros make a list w long
long : (xs : List ℕ) (m w : ℕ) → w ≤ m → w ≤ length (xs ++ replicate m 0)
long xs m w h = let z : ℕ = 0 in omega (arith, length-append xs (replicate m 0), length-replicate m z)

-- w bits from `at` on: the bits before these may go, and of the zeros behind there need be no more than w
pub padded : (xs : List ℕ) (at w m n : ℕ) → w ≤ m → w ≤ n → field (xs ++ replicate m 0) at w ≡ field (drop at xs ++ replicate n 0) 0 w
padded [] at w m n h g = zeros-num w at m ∙ sym (ap (λ (ys : List ℕ). field (ys ++ replicate n 0) 0 w) (drop-nil at) ∙ zeros-num w 0 n)
padded (x ∷ xs) (suc at) w m n h g = padded xs at w m n h g
padded (x ∷ xs) zero zero m n h g = refl
padded (x ∷ xs) zero (suc w) m n h g =
    let less : w ≤ m = omega arith in
    let few : w ≤ n = omega arith in
    ap₂ (λ (k r : ℕ). x * 2 ^ k + r)
    (length-take-le w (xs ++ replicate m 0) (long xs m w less) ∙ sym (length-take-le w (xs ++ replicate n 0) (long xs n w few)))
    (padded xs zero w m n less few)

-- w bits that stand in the 40 from byte k on
pub peek-window : (s : List ℕ) (k j w : ℕ) → j + w ≤ 40 → peek_of s (8 * k + j) w ≡ peek_of s (8 * k) 40 / 2 ^ (40 - (j + w)) % 2 ^ w
unfolding peek_of
peek-window s k j w h =
    let xs = drop (8 * k) (bits_of s) in
    let ys = xs ++ replicate 40 0 in
    let small : w ≤ 40 = omega arith in
    let same : w ≤ w = omega arith in
    let whole : 40 ≤ 40 = omega arith in
    let fits : 0 + 40 ≤ length ys = omega (arith, long xs 40 40 whole) in
    padded (bits_of s) (8 * k + j) w w w same same
    ∙ ap (λ (zs : List ℕ). field (zs ++ replicate w 0) 0 w) (sym (drop-drop j (8 * k) (bits_of s)))
    ∙ sym (padded xs j w 40 w small same)
    ∙ ap (λ (n : ℕ). field ys n w) (sym (zero-add j))
    ∙ field-within ys 0 40 j w (are-append xs (replicate 40 0) (are-drop (8 * k) (bits_of s) (bits_of-are s)) (are-zeros 40)) fits h
    ∙ ap (λ (n : ℕ). n / 2 ^ (40 - (j + w)) % 2 ^ w) (sym (padded (bits_of s) (8 * k) 40 40 40 whole whole))

-- the first five bytes, 0 where there is none
five : (s : List ℕ) → field (bits_of s ++ replicate 40 0) 0 40 ≡ num (bits_of (get_or s 0 0 ∷ get_or s 1 0 ∷ get_or s 2 0 ∷ get_or s 3 0 ∷ get_or s 4 0 ∷ []))
five [] = refl
five (a ∷ []) = refl
five (a ∷ b ∷ []) = refl
five (a ∷ b ∷ c ∷ []) = refl
five (a ∷ b ∷ c ∷ d ∷ []) = refl
five (a ∷ b ∷ c ∷ d ∷ e ∷ s) = refl

-- the five bytes from byte k on
pub window_bytes : (s : List ℕ) (k : ℕ) {a b c d e r : ℕ} → a ≡ get_or s k 0 → b ≡ get_or s (k + 1) 0 → c ≡ get_or s (k + 2) 0 → d ≡ get_or s (k + 3) 0 → e ≡ get_or s (k + 4) 0
    → r ≡ num (bits_of (a ∷ b ∷ c ∷ d ∷ e ∷ [])) → r ≡ peek_of s (8 * k) 40
unfolding peek_of
window_bytes s k {a} {b} {c} {d} {e} ea eb ec ed ee er =
    let whole : 40 ≤ 40 = omega arith in
    let t = drop k s in
    let first : a ≡ get_or t 0 0 = ea ∙ sym (get_or-drop k s 0 0 ∙ ap (λ (i : ℕ). get_or s i 0) (add-zero k)) in
    let bytes : ◌≡◌ {A = List ℕ} (a ∷ b ∷ c ∷ d ∷ e ∷ []) (get_or t 0 0 ∷ get_or t 1 0 ∷ get_or t 2 0 ∷ get_or t 3 0 ∷ get_or t 4 0 ∷ []) =
    cc (get_or-drop k s 1 0, get_or-drop k s 2 0, get_or-drop k s 3 0, get_or-drop k s 4 0) in
    er
    ∙ sym
    (padded (bits_of s) (8 * k) 40 40 40 whole whole
    ∙ ap (λ (xs : List ℕ). field (xs ++ replicate 40 0) 0 40) (drop-bits_of k s)
    ∙ five t
    ∙ ap (λ (bs : List ℕ). num (bits_of bs)) (sym bytes))

-- a byte before others
num-byte : (b : ℕ) (s : List ℕ) → b < 256 → num (bits_of (b ∷ s)) ≡ b * 2 ^ length (bits_of s) + num (bits_of s)
num-byte b s h = num-append (bits 8 b) (bits_of s) ∙ ap (λ (n : ℕ). n * 2 ^ length (bits_of s) + num (bits_of s)) (num-bits-small 8 b h)

-- the number that five bytes write
pub bytes-number : (a b c d e : ℕ) → a < 256 → b < 256 → c < 256 → d < 256 → e < 256
    → num (bits_of (a ∷ b ∷ c ∷ d ∷ e ∷ [])) ≡ (a * 16777216 + b * 65536 + c * 256 + d) * 256 + e
bytes-number a b c d e ha hb hc hd he =
    num-byte a (b ∷ c ∷ d ∷ e ∷ []) ha
    ∙ ap (λ (n : ℕ). a * 4294967296 + n) (num-byte b (c ∷ d ∷ e ∷ []) hb)
    ∙ ap (λ (n : ℕ). a * 4294967296 + (b * 16777216 + n)) (num-byte c (d ∷ e ∷ []) hc)
    ∙ ap (λ (n : ℕ). a * 4294967296 + (b * 16777216 + (c * 65536 + n))) (num-byte d (e ∷ []) hd)
    ∙ ap (λ (n : ℕ). a * 4294967296 + (b * 16777216 + (c * 65536 + (d * 256 + n)))) (num-byte e [] he)
    ∙ omega arith
