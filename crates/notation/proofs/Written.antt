-- Numbers as `cclist` prints them, read as words: each is one word, and writes its number.
-- Assumes nothing.
use Prim.Native.Nat.{ℕ, zero, suc, ◌+◌, ◌-◌, ◌*◌, ◌^◌, ◌/◌, ◌%◌, ◌≤◌, ◌<◌, min}
use native.Mathlib.Nat.{min-eq_left, pow-suc}
use native.Mathlib.Omega.{arith}
use mathlib.Core.Bool.{Bool, true, false, not, ◌&&◌, ◌||◌, and-eq-true_iff}
use mathlib.Core.List.{List, [], ◌∷◌, ◌++◌}
use mathlib.Core.Path.{◌≡◌, ◌∙◌, ap, ap₂, refl}
use borrow.Author.Tests.{eqb-true, le-ltb, ltb-true, ne_eqb, not-true}
use lib.Dec.{T, eqb, ltb}
use lib.ListN.{length, length-append}
use Rattle.lists.specs.Each.{Each}
use Rattle.lists.proofs.Below.{below}
use Rattle.listing.specs.Texts.{decimal, digit, digits_before, digits_of, hex}
use Rattle.notation.specs.Value.{all_digits, capped_byte_of, capped_of, decimal_from, decimal_of, hex_digit, hex_of, is_decimal, is_digit, is_hex}
use Rattle.notation.specs.Words.{is_space, words_of}
use Rattle.notation.proofs.Cutting.{cut-space, words-space, words-word}
use Rattle.notation.proofs.Digits.{between-bounds}

-- a word, and a space behind it
words-next : (word : List ℕ) (s : ℕ) (rest : List ℕ) → 1 ≤ length word → Each (λ (c : ℕ). is_space c ≡ false) word → is_space s ≡ true
    → words_of (word ++ (s ∷ rest)) ≡ word ∷ words_of rest
words-next [] s rest some h e = let f : ⊥ = omega arith in absurd f
words-next (c ∷ word) s rest some h e =
    words-word (c ∷ word) (s ∷ rest) h (cut-space s rest e) ∙ ap (λ (words : List (List ℕ)). (c ∷ word) ∷ words) (words-space s rest e)

-- the characters of digits, one after the other
is_true : (t : Bool) → T t → t ≡ true
is_true true h = refl
is_true false h = absurd h

digit-is : (d : ℕ) → d < 10 → is_digit (digit d) ≡ true
digit-is d h = is_true _ (below (λ (k : ℕ). is_digit (digit k)) 10 tt d h)

digit-value : (d : ℕ) → d < 10 → digit d - 0x30 ≡ d
digit-value d h = eqb-true _ _ (is_true _ (below (λ (k : ℕ). eqb (digit k - 0x30) k) 10 tt d h))

hex-value : (d : ℕ) → d < 16 → hex_digit (digit d) ≡ d
unfolding hex_digit
hex-value d h = eqb-true _ _ (is_true _ (below (λ (k : ℕ). eqb (hex_digit (digit k)) k) 16 tt d h))

hex-space : (d : ℕ) → d < 16 → is_space (digit d) ≡ false
hex-space d h = not-true _ (is_true _ (below (λ (k : ℕ). not (is_space (digit k))) 16 tt d h))

-- digits behind digits
digits_append : (xs ys : List ℕ) → all_digits xs ≡ true → all_digits ys ≡ true → all_digits (xs ++ ys) ≡ true
digits_append [] ys h g = g
digits_append (x ∷ xs) ys h g =
    let both = (and-eq-true_iff (is_digit x) (all_digits xs)).0 h in
    (and-eq-true_iff (is_digit x) (all_digits (xs ++ ys))).1 (both.0, digits_append xs ys both.1 g)

decimal-append : (n c : ℕ) (xs : List ℕ) → decimal_from n (xs ++ (c ∷ [])) ≡ decimal_from n xs * 10 + (c - 0x30)
decimal-append n c [] = refl
decimal-append n c (x ∷ xs) = decimal-append (n * 10 + (x - 0x30)) c xs

-- a number's digits are digits
digits_are : (k n : ℕ) → all_digits (digits_of k n) ≡ true
digits_are zero n = refl
digits_are (suc k) n = go (ltb n 10) (digits_are k (n / 10))
  where
    last : all_digits (digit (n % 10) ∷ []) ≡ true
    last = ap (λ (t : Bool). t && true) (digit-is (n % 10) (omega arith))

    go : (b : Bool) → all_digits (digits_of k (n / 10)) ≡ true → all_digits (digits_before b (digits_of k (n / 10)) (digit (n % 10) ∷ [])) ≡ true
    go true before = last
    go false before = digits_append (digits_of k (n / 10)) (digit (n % 10) ∷ []) before last

-- and write it
digits-write : (k n : ℕ) → n < 10 ^ k → decimal_of (digits_of k n) ≡ n
digits-write zero n h = omega arith
digits-write (suc k) n h = go (ltb n 10) refl (digits-write k (n / 10) (omega (arith, pow-suc 10 k)))
  where
    last : digit (n % 10) - 0x30 ≡ n % 10
    last = digit-value (n % 10) (omega arith)

    go : (b : Bool) → ltb n 10 ≡ b → decimal_of (digits_of k (n / 10)) ≡ n / 10 → decimal_of (digits_before b (digits_of k (n / 10)) (digit (n % 10) ∷ [])) ≡ n
    go true e before = omega (arith, last, ltb-true n 10 e)
    go false e before = omega (arith, last, before, decimal-append 0 (digit (n % 10)) (digits_of k (n / 10)))

-- there is one at least
digits-some : (k n : ℕ) → 1 ≤ length (digits_of (suc k) n)
digits-some k n = go (ltb n 10)
  where
    go : (b : Bool) → 1 ≤ length (digits_before b (digits_of k (n / 10)) (digit (n % 10) ∷ []))
    go true = omega arith
    go false = simp length-append (omega arith)

-- digits are no spaces
digit-space : (c : ℕ) → is_digit c ≡ true → is_space c ≡ false
digit-space c is =
    let bounds = between-bounds 0x30 0x39 c is in
    ap₂ (λ (a b : Bool). a || b)
    (ap₂ (λ (a b : Bool). a || b) (ne_eqb c 0x20 (λ e. omega arith)) (ne_eqb c 0x09 (λ e. omega arith)))
    (ne_eqb c 0x0A (λ e. omega arith))

digits-spaces : (word : List ℕ) → all_digits word ≡ true → Each (λ (c : ℕ). is_space c ≡ false) word
digits-spaces [] h = tt
digits-spaces (c ∷ word) h = let both = (and-eq-true_iff (is_digit c) (all_digits word)).0 h in (digit-space c both.0, digits-spaces word both.1)

-- a number of at most nine digits
module _ (n : ℕ) (h : n < 1000000000) where
  pub decimal-is : is_decimal (decimal n) ≡ true
  unfolding is_decimal decimal
  decimal-is = ap₂ (λ (a b : Bool). a && not b) (digits_are 20 n) (le-ltb (length (digits_of 20 n)) 1 (digits-some 19 n))

  decimal-number : decimal_of (decimal n) ≡ n
  unfolding decimal
  decimal-number = digits-write 20 n (omega arith)

  pub decimal-value : capped_of (decimal n) ≡ n
  decimal-value =
      let small : n ≤ 999999999 = omega arith in
      ap (λ (m : ℕ). min m 999999999) decimal-number ∙ min-eq_left small

  pub decimal-next : (s : ℕ) (rest : List ℕ) → is_space s ≡ true → words_of (decimal n ++ (s ∷ rest)) ≡ decimal n ∷ words_of rest
  unfolding decimal
  decimal-next s rest e = words-next (decimal n) s rest (digits-some 19 n) (digits-spaces (decimal n) (digits_are 20 n)) e

pub byte-is : (n : ℕ) → n < 256 → is_decimal (decimal n) ≡ true
byte-is n h = decimal-is n (omega arith)

pub byte-value : (n : ℕ) → n < 256 → capped_byte_of (decimal n) ≡ n
byte-value n h =
    let small : n ≤ 255 = omega arith in
    ap (λ (m : ℕ). min m 255) (decimal-number n (omega arith)) ∙ min-eq_left small

pub byte_next : (n : ℕ) → n < 256 → (s : ℕ) (rest : List ℕ) → is_space s ≡ true → words_of (decimal n ++ (s ∷ rest)) ≡ decimal n ∷ words_of rest
byte_next n h s rest e = decimal-next n (omega arith) s rest e

-- a byte in hex
module _ (b : ℕ) (h : b < 256) where
  high : b / 16 < 16
  high = omega arith

  low : b % 16 < 16
  low = omega arith

  pub hex-is : is_hex (hex b) ≡ true
  hex-is =
      ap₂ (λ (x y : Bool). not x && not y)
      (le-ltb 15 (hex_digit (digit (b / 16))) (omega (arith, hex-value (b / 16) high)))
      (le-ltb 15 (hex_digit (digit (b % 16))) (omega (arith, hex-value (b % 16) low)))

  pub hex-number : hex_of (hex b) ≡ b
  hex-number = omega (arith, hex-value (b / 16) high, hex-value (b % 16) low)

  pub hex-next : (s : ℕ) (rest : List ℕ) → is_space s ≡ true → words_of (hex b ++ (s ∷ rest)) ≡ hex b ∷ words_of rest
  hex-next s rest e = words-next (hex b) s rest (omega arith) (hex-space (b / 16) high, (hex-space (b % 16) low, tt)) e
