-- Words that write a number: what the code tests of them, character after character.
-- Assumes nothing.
use Prim.Native.Nat.{ℕ, ◌+◌, ◌-◌, ◌*◌, ◌≤◌, ◌<◌, min}
use native.Mathlib.Numerals.{add-one}
use native.Mathlib.Omega.{arith}
use mathlib.Core.Bool.{Bool, true, false, not, ◌&&◌, and-eq-true_iff, and-false}
use mathlib.Core.List.{List, [], ◌∷◌}
use mathlib.Core.Path.{◌≡◌, ◌∙◌, ap, ap₂, sym, refl}
use borrow.Author.Tests.{leb-true, leb-false, ltb-false, lt-ltb, le-ltb, not-true}
use lib.Dec.{leb, ltb}
use lib.ListN.{length, get_or, drop, drop_of_length-le}
use lib.Seq.{drop-cons}
use Rattle.notation.specs.Value.{all_digits, between, capped_of, decimal_from, hex_digit, is_decimal, is_digit, is_hex}

leb-not : (a b : ℕ) → leb a b ≡ not (ltb b a)
leb-not a b = go (leb a b) refl
  where
    go : (t : Bool) → leb a b ≡ t → leb a b ≡ not (ltb b a)
    go true e = e ∙ ap not (sym (le-ltb b a (leb-true a b e)))
    go false e = e ∙ ap not (sym (lt-ltb b a (leb-false a b e)))

-- the code's two tests
pub tests-between : (low high c : ℕ) → low ≤ c → leb c high ≡ between low high c
tests-between low high c h = leb-not c high ∙ ap (λ (t : Bool). not t && not (ltb high c)) (sym (le-ltb c low h))

pub tests_below : (low high c : ℕ) → c < low → leb low c ≡ between low high c
tests_below low high c h =
    let under : ltb c low ≡ true = lt-ltb c low h in
    leb-not low c ∙ ap not under ∙ ap (λ (t : Bool). not t && not (ltb high c)) (sym under)

pub between-bounds : (low high c : ℕ) → between low high c ≡ true → (low ≤ c) × (c ≤ high)
between-bounds low high c e =
    let both = (and-eq-true_iff (not (ltb c low)) (not (ltb high c))).0 e in
    (ltb-false c low (not-true (ltb c low) both.0), ltb-false high c (not-true (ltb high c) both.1))

-- a number that is cut to the cap before a digit goes behind it, or is not
capped-digit : (n d : ℕ) → min (min n 999999999 * 10 + d) 999999999 ≡ min (n * 10 + d) 999999999
capped-digit n d = omega arith

-- or before all digits
capped-from : (n : ℕ) (word : List ℕ) → min (decimal_from (min n 999999999) word) 999999999 ≡ min (decimal_from n word) 999999999
capped-from n [] = omega arith
capped-from n (c ∷ word) =
    let d = c - 0x30 in
    sym (capped-from (min n 999999999 * 10 + d) word)
    ∙ ap (λ (m : ℕ). min (decimal_from m word) 999999999) (capped-digit n d)
    ∙ capped-from (n * 10 + d) word

-- a decimal word, of which the first i characters are read
pub record Read (word : List ℕ) (value i : ℕ) : Type 0 where
  pub inside : i ≤ length word
  pub digits : all_digits word ≡ all_digits (drop i word)
  pub number : capped_of word ≡ min (decimal_from value (drop i word)) 999999999
  pub small : value ≤ 999999999

pub read_none : (word : List ℕ) → Read word 0 0
read_none word = record { inside = omega arith; digits = refl; number = refl; small = omega arith }

module _ (word : List ℕ) (value i : ℕ) (r : Read word value i) where
  module _ (h : i < length word) where
    here : drop i word ≡ get_or word i 0 ∷ drop (i + 1) word
    here = drop-cons word i 0 h ∙ ap (λ (k : ℕ). get_or word i 0 ∷ drop k word) (sym (add-one i))

    -- one digit more
    pub read_more : is_digit (get_or word i 0) ≡ true → Read word (min (value * 10 + (get_or word i 0 - 0x30)) 999999999) (i + 1)
    read_more is =
        record {
          inside = omega arith;
          digits = r.digits ∙ ap all_digits here ∙ ap (λ (t : Bool). t && all_digits (drop (i + 1) word)) is;
          number =
              r.number
              ∙ ap (λ (rest : List ℕ). min (decimal_from value rest) 999999999) here
              ∙ sym (capped-from (value * 10 + (get_or word i 0 - 0x30)) (drop (i + 1) word));
          small = omega arith;
        }

    -- a character that is none
    pub read-other : is_digit (get_or word i 0) ≡ false → is_decimal word ≡ false
    unfolding is_decimal
    read-other other =
        let none : all_digits word ≡ false = r.digits ∙ ap all_digits here ∙ ap (λ (t : Bool). t && all_digits (drop (i + 1) word)) other in
        ap (λ (t : Bool). t && not (ltb (length word) 1)) none

  -- all are read
  module _ (h : length word ≤ i) where
    pub read_all : 1 ≤ length word → is_decimal word ≡ true
    unfolding is_decimal
    read_all one =
        ap₂ (λ (a b : Bool). a && not b) (r.digits ∙ ap all_digits (drop_of_length-le word h)) (le-ltb (length word) 1 one)

    pub read-value : value ≡ capped_of word
    read-value =
        let all = r.number ∙ ap (λ (rest : List ℕ). min (decimal_from value rest) 999999999) (drop_of_length-le word h) in
        omega (arith, all, r.small)

-- no character
pub decimal-empty : (word : List ℕ) → length word < 1 → is_decimal word ≡ false
unfolding is_decimal
decimal-empty word h = ap (λ (t : Bool). all_digits word && not t) (lt-ltb (length word) 1 h) ∙ and-false (all_digits word)

pub decimal-none : is_decimal [] ≡ false
decimal-none = decimal-empty [] (omega arith)

-- a word of other than two characters
pub hex-other : (word : List ℕ) → (length word ≡ 2 → ⊥) → is_hex word ≡ false
hex-other [] h = refl
hex-other (a ∷ []) h = refl
hex-other (a ∷ b ∷ []) h = absurd (h refl)
hex-other (a ∷ b ∷ c ∷ word) h = refl

-- a word of two
pub two : (word : List ℕ) → length word ≡ 2 → word ≡ get_or word 0 0 ∷ get_or word 1 0 ∷ []
two [] h = let f : ⊥ = omega arith in absurd f
two (a ∷ []) h = let f : ⊥ = omega arith in absurd f
two (a ∷ b ∷ []) h = refl
two (a ∷ b ∷ c ∷ word) h = let f : ⊥ = omega arith in absurd f

-- is hex where both are digits
hex-digits : (word : List ℕ) → length word ≡ 2
    → is_hex word ≡ (not (ltb 15 (hex_digit (get_or word 0 0))) && not (ltb 15 (hex_digit (get_or word 1 0))))
hex-digits word h = ap is_hex (two word h)

pub hex-first : (word : List ℕ) → length word ≡ 2 → 15 < hex_digit (get_or word 0 0) → is_hex word ≡ false
hex-first word h other = hex-digits word h ∙ ap (λ (t : Bool). not t && not (ltb 15 (hex_digit (get_or word 1 0)))) (lt-ltb 15 (hex_digit (get_or word 0 0)) other)

pub hex-second : (word : List ℕ) → length word ≡ 2 → 15 < hex_digit (get_or word 1 0) → is_hex word ≡ false
hex-second word h other =
    let first = not (ltb 15 (hex_digit (get_or word 0 0))) in
    hex-digits word h ∙ ap (λ (t : Bool). first && not t) (lt-ltb 15 (hex_digit (get_or word 1 0)) other) ∙ and-false first

pub hex-two : (word : List ℕ) → length word ≡ 2 → hex_digit (get_or word 0 0) ≤ 15 → hex_digit (get_or word 1 0) ≤ 15 → is_hex word ≡ true
hex-two word h high low =
    hex-digits word h
    ∙ ap₂ (λ (s t : Bool). not s && not t) (le-ltb 15 (hex_digit (get_or word 0 0)) high) (le-ltb 15 (hex_digit (get_or word 1 0)) low)
