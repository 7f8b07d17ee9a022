-- The number that some bits of a list write: its size, where it stands, and how it is read out of a longer one, byte by byte too.
-- Assumes nothing.
use Prim.Native.Nat.{ℕ, zero, suc, ◌+◌, ◌-◌, ◌*◌, ◌/◌, ◌%◌, ◌^◌, ◌≤◌, ◌<◌}
use native.Mathlib.Nat.{lt_of_lt_of_le, zero-add}
use native.Mathlib.Omega.{arith}
use mathlib.Core.Path.{◌≡◌, ◌∙◌, ap, ap₂, sym, refl}
use mathlib.Core.List.{List, [], ◌∷◌}
use lib.ListN.{length, get_or, take, drop, length-take, length-drop, take-append-drop}
use lib.Pow.{pow_mono, high, low}
use lib.Seq.{length-take-le, take-length, take-add, drop-drop, drop-cons}
use Rattle.lists.specs.Bytes.{Bytes}
use Rattle.lists.proofs.Each.{each_at}
use Rattle.bits.specs.Bits.{bits, num, bits_of, bytes_of, field}
use Rattle.bits.proofs.Numbers.{AreBits, are-take, are-drop, num-lt, num-append, num-bits-small, bits-num}
use Rattle.bits.proofs.Stream.{length-bits_of, bits_of-are, drop-bits_of}

pub field_lt : (xs : List ℕ) (at w : ℕ) → AreBits xs → field xs at w < 2 ^ w
field_lt xs at w h =
    let cut = take w (drop at xs) in
    let short : length cut ≤ w = omega (arith, length-take w (drop at xs)) in
    lt_of_lt_of_le (num-lt cut (are-take w (drop at xs) (are-drop at xs h))) (pow_mono short)

pub field-bits : (xs : List ℕ) (at w : ℕ) → AreBits xs → at + w ≤ length xs → bits w (field xs at w) ≡ take w (drop at xs)
field-bits xs at w h fits =
    let cut = take w (drop at xs) in
    let long : length cut ≡ w = length-take-le w (drop at xs) (omega (arith, length-drop at xs)) in
    ap (λ (n : ℕ). bits n (num cut)) (sym long) ∙ bits-num cut (are-take w (drop at xs) (are-drop at xs h))

-- j bits before it and k behind it
num-within : (xs : List ℕ) (j m k : ℕ) → AreBits xs → j + m + k ≤ length xs → num (take m (drop j xs)) ≡ num (take (j + m + k) xs) / 2 ^ k % 2 ^ m
num-within xs j m k h fits =
    let a = take j xs in
    let b = take m (drop j xs) in
    let c = take k (drop (j + m) xs) in
    let long-b : length b ≡ m = length-take-le m (drop j xs) (omega (arith, length-drop j xs)) in
    let long-c : length c ≡ k = length-take-le k (drop (j + m) xs) (omega (arith, length-drop (j + m) xs)) in
    let small_b : num b < 2 ^ m = field_lt xs j m h in
    let small-c : num c < 2 ^ k = field_lt xs (j + m) k h in
    let ab : num (take (j + m) xs) ≡ num a * 2 ^ m + num b = ap num (take-add j m xs) ∙ num-append a b ∙ ap (λ (n : ℕ). num a * 2 ^ n + num b) long-b in
    let abc : num (take (j + m + k) xs) ≡ num (take (j + m) xs) * 2 ^ k + num c = ap num (take-add (j + m) k xs) ∙ num-append (take (j + m) xs) c ∙ ap (λ (n : ℕ). num (take (j + m) xs) * 2 ^ n + num c) long-c in
    sym
    (ap (λ (n : ℕ). n / 2 ^ k % 2 ^ m) abc
    ∙ ap (λ (n : ℕ). n % 2 ^ m) (high (num (take (j + m) xs)) k small-c ∙ ab)
    ∙ low (num a) m small_b)

-- m bits of a field, from its bit j on
pub field-within : (xs : List ℕ) (at w j m : ℕ) → AreBits xs → at + w ≤ length xs → j + m ≤ w → field xs (at + j) m ≡ field xs at w / 2 ^ (w - (j + m)) % 2 ^ m
field-within xs at w j m h fits inside =
    let k = w - (j + m) in
    let whole : j + m + k ≡ w = omega arith in
    ap (λ (ys : List ℕ). num (take m ys)) (sym (drop-drop j at xs))
    ∙ num-within (drop at xs) j m k (are-drop at xs h) (omega (arith, length-drop at xs))
    ∙ ap (λ (n : ℕ). num (take n (drop at xs)) / 2 ^ k % 2 ^ m) whole

-- all eight bits of a byte
pub field-whole : (s : List ℕ) (k : ℕ) → Bytes s → k < length s → field (bits_of s) (8 * k) 8 ≡ get_or s k 0
field-whole s k h inside =
    ap (λ (xs : List ℕ). num (take 8 xs)) (drop-bits_of k s ∙ ap bits_of (drop-cons s k 0 inside))
    ∙ num-bits-small 8 (get_or s k 0) (each_at (λ (b : ℕ). b < 256) 0 s h k inside)

-- some of them
pub field-byte : (s : List ℕ) (k j w : ℕ) → Bytes s → k < length s → j + w ≤ 8 → field (bits_of s) (8 * k + j) w ≡ get_or s k 0 / 2 ^ (8 - (j + w)) % 2 ^ w
field-byte s k j w h inside fits =
    field-within (bits_of s) (8 * k) 8 j w (bits_of-are s) (omega (arith, length-bits_of s)) fits
    ∙ ap (λ (b : ℕ). b / 2 ^ (8 - (j + w)) % 2 ^ w) (field-whole s k h inside)

-- k bytes of a number of n bits, from bit `at` on
abbrev pub bytes_at : ℕ → ℕ → ℕ → ℕ → List ℕ
bytes_at zero at n x = []
bytes_at (suc k) at n x = x / 2 ^ (n - (at + 8)) % 256 ∷ bytes_at k (at + 8) n x

byte_at : (at : ℕ) (xs : List ℕ) → AreBits xs → at + 8 ≤ length xs → num (take 8 (drop at xs)) ≡ num xs / 2 ^ (length xs - (at + 8)) % 256
byte_at at xs h fits =
    let n = length xs in
    ap (λ (i : ℕ). field xs i 8) (sym (zero-add at))
    ∙ field-within xs 0 n at 8 h (omega arith) (omega arith)
    ∙ ap (λ (ys : List ℕ). num ys / 2 ^ (n - (at + 8)) % 256) (take-length xs)

pub bytes-at : (k at : ℕ) (xs : List ℕ) → AreBits xs → at + 8 * k ≤ length xs → bytes_of k (drop at xs) ≡ bytes_at k at (length xs) (num xs)
bytes-at zero at xs h fits = refl
bytes-at (suc k) at xs h fits =
    ap₂
    (λ (b : ℕ) (bs : List ℕ). b ∷ bs)
    (byte_at at xs h (omega arith))
    (ap (bytes_of k) (drop-drop 8 at xs) ∙ bytes-at k (at + 8) xs h (omega arith))

-- what is left behind them
pub rest_at : (at : ℕ) (xs : List ℕ) → AreBits xs → at ≤ length xs → num (drop at xs) ≡ num xs % 2 ^ (length xs - at)
rest_at at xs h fits =
    let front = take at xs in
    let rest = drop at xs in
    let small : num rest < 2 ^ length rest = num-lt rest (are-drop at xs h) in
    sym
    (ap₂ (λ (a b : ℕ). a % 2 ^ b) (ap num (sym (take-append-drop at xs)) ∙ num-append front rest) (sym (length-drop at xs))
    ∙ low (num front) (length rest) small)
