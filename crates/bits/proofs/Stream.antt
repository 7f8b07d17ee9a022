-- The bits of bytes and the bytes that bits write: each undoes the other.
-- Assumes nothing.
use Prim.Native.Nat.{ℕ, zero, suc, ◌+◌, ◌*◌, ◌≤◌}
use native.Mathlib.Nat.{lt_of_lt_of_le}
use native.Mathlib.Omega.{arith}
use mathlib.Core.Path.{◌≡◌, ◌∙◌, ap, ap₂, sym, refl}
use mathlib.Core.List.{List, [], ◌∷◌, ◌++◌}
use lib.ListN.{length, take, drop, replicate, length-take, length-drop, take-append-drop, replicate-append-replicate}
use lib.Pow.{pow_mono}
use lib.Seq.{take-append-le, drop-append-le, drop-append-add, drop-drop, drop-nil, length-take-le}
use Rattle.lists.specs.Bytes.{Bytes}
use Rattle.bits.specs.Bits.{bits, num, bits_of, bytes_of}
use Rattle.bits.proofs.Numbers.{AreBits, bits_are, are-take, are-drop, are-append, num-bits-small, num-lt, bits-num}

pub length-bits_of : (s : List ℕ) → length (bits_of s) ≡ 8 * length s
length-bits_of [] = refl
length-bits_of (b ∷ s) = omega (arith, length-bits_of s)

pub bits_of-are : (s : List ℕ) → AreBits (bits_of s)
bits_of-are [] = tt
bits_of-are (b ∷ s) = are-append (bits 8 b) (bits_of s) (bits_are 8 b) (bits_of-are s)

pub bits_of-append : (s t : List ℕ) → bits_of (s ++ t) ≡ bits_of s ++ bits_of t
bits_of-append [] t = refl
bits_of-append (b ∷ s) t = ap (λ (r : List ℕ). bits 8 b ++ r) (bits_of-append s t)

pub drop-bits_of : (k : ℕ) (s : List ℕ) → drop (8 * k) (bits_of s) ≡ bits_of (drop k s)
drop-bits_of zero s = refl
drop-bits_of (suc k) [] = drop-nil (8 * suc k)
drop-bits_of (suc k) (b ∷ s) =
    let more : 8 * suc k ≡ 8 + 8 * k = omega arith in
    ap (λ (n : ℕ). drop n (bits_of (b ∷ s))) more ∙ drop-append-add (bits 8 b) (bits_of s) (8 * k) ∙ drop-bits_of k s

pub bits_of-zeros : (z : ℕ) → bits_of (replicate z 0) ≡ replicate (8 * z) 0
bits_of-zeros zero = refl
bits_of-zeros (suc z) =
    let more : 8 + 8 * z ≡ 8 * suc z = omega arith in
    ap (λ (r : List ℕ). replicate 8 0 ++ r) (bits_of-zeros z)
    ∙ replicate-append-replicate 8 (8 * z) 0
    ∙ ap (λ (n : ℕ). replicate n 0) more

pub length-bytes_of : (k : ℕ) (xs : List ℕ) → length (bytes_of k xs) ≡ k
length-bytes_of zero xs = refl
length-bytes_of (suc k) xs = ap suc (length-bytes_of k (drop 8 xs))

pub bytes_of-bytes : (k : ℕ) (xs : List ℕ) → AreBits xs → Bytes (bytes_of k xs)
bytes_of-bytes zero xs h = tt
bytes_of-bytes (suc k) xs h =
    let short : length (take 8 xs) ≤ 8 = omega (arith, length-take 8 xs) in (
      lt_of_lt_of_le (num-lt (take 8 xs) (are-take 8 xs h)) (pow_mono short),
      bytes_of-bytes k (drop 8 xs) (are-drop 8 xs h),
    )

pub bits_of-bytes_of : (k : ℕ) (xs : List ℕ) → length xs ≡ 8 * k → AreBits xs → bits_of (bytes_of k xs) ≡ xs
bits_of-bytes_of zero [] e h = refl
bits_of-bytes_of zero (x ∷ xs) e h = let f : ⊥ = omega arith in absurd f
bits_of-bytes_of (suc k) xs e h =
    let eight : length (take 8 xs) ≡ 8 = length-take-le 8 xs (omega arith) in
    let left : length (drop 8 xs) ≡ 8 * k = omega (arith, length-drop 8 xs) in
    let byte : bits 8 (num (take 8 xs)) ≡ take 8 xs = ap (λ (n : ℕ). bits n (num (take 8 xs))) (sym eight) ∙ bits-num (take 8 xs) (are-take 8 xs h) in
    ap₂ (λ (a r : List ℕ). a ++ r) byte (bits_of-bytes_of k (drop 8 xs) left (are-drop 8 xs h))
    ∙ take-append-drop 8 xs

pub bytes_of-bits_of : (s : List ℕ) → Bytes s → bytes_of (length s) (bits_of s) ≡ s
bytes_of-bits_of [] h = refl
bytes_of-bits_of (b ∷ s) h = ap₂ (λ (x : ℕ) (xs : List ℕ). x ∷ xs) (num-bits-small 8 b h.0) (bytes_of-bits_of s h.1)

-- bytes with the same bits are the same
pub bits_of-same : (s t : List ℕ) → Bytes s → Bytes t → bits_of s ≡ bits_of t → s ≡ t
bits_of-same s t h g e =
    let long : length s ≡ length t = omega (arith, length-bits_of s, length-bits_of t, ap length e) in
    sym (bytes_of-bits_of s h) ∙ ap₂ (λ (n : ℕ) (xs : List ℕ). bytes_of n xs) long e ∙ bytes_of-bits_of t g

-- the first k bytes, then m more
pub bytes_of-add : (k m : ℕ) (xs : List ℕ) → bytes_of (k + m) xs ≡ bytes_of k xs ++ bytes_of m (drop (8 * k) xs)
bytes_of-add zero m xs = let none : zero + m ≡ m = omega arith in ap (λ (n : ℕ). bytes_of n xs) none
bytes_of-add (suc k) m xs =
    let next : suc k + m ≡ suc (k + m) = omega arith in
    let more : 8 + 8 * k ≡ 8 * suc k = omega arith in
    ap (λ (n : ℕ). bytes_of n xs) next
    ∙ ap (λ (bs : List ℕ). num (take 8 xs) ∷ bs)
    (bytes_of-add k m (drop 8 xs)
    ∙ ap (λ (ys : List ℕ). bytes_of k (drop 8 xs) ++ bytes_of m ys) (drop-drop (8 * k) 8 xs ∙ ap (λ (n : ℕ). drop n xs) more))

-- they are of the bits in front
pub bytes_of-front : (k : ℕ) (xs ys : List ℕ) → 8 * k ≤ length xs → bytes_of k (xs ++ ys) ≡ bytes_of k xs
bytes_of-front zero xs ys h = refl
bytes_of-front (suc k) xs ys h =
    let eight : 8 ≤ length xs = omega arith in
    let less : 8 * k ≤ length (drop 8 xs) = omega (arith, length-drop 8 xs) in
    ap₂ (λ (a b : List ℕ). num a ∷ bytes_of k b) (take-append-le 8 xs ys eight) (drop-append-le 8 xs ys eight)
    ∙ ap (λ (bs : List ℕ). num (take 8 xs) ∷ bs) (bytes_of-front k (drop 8 xs) ys less)
