-- Numbers in four bytes and words in two, the most significant first, and the pattern of an output. Assumes nothing.
use Rattle.std.specs.Prelude.{ℕ, ◌+◌, ◌*◌, ◌/◌, ◌%◌, ◌<◌, ◌≡◌, List, length, get_or, set}

abbrev pub number_in : List ℕ → ℕ
number_in s = (get_or s 0 0 * 256 + get_or s 1 0) * 65536 + (get_or s 2 0 * 256 + get_or s 3 0)

-- a list with the four bytes of n at an index; those that lie beyond the end are left out
abbrev pub number_put : List ℕ → ℕ → ℕ → List ℕ
number_put s at n =
    set (set (set (set s at (n / 16777216 % 256)) (at + 1) (n / 65536 % 256)) (at + 2) (n / 256 % 256)) (at + 3) (n % 256)

-- the word at an index
abbrev pub word_in : List ℕ → ℕ → ℕ
word_in s at = get_or s at 0 * 256 + get_or s (at + 1) 0

-- the number in the four bytes from an index on
abbrev pub long_in : List ℕ → ℕ → ℕ
long_in s at = word_in s at * 65536 + word_in s (at + 2)

-- a list with the two bytes of a word at an index; those that lie beyond the end are left out
abbrev pub word_put : List ℕ → ℕ → ℕ → List ℕ
word_put s at w = set (set s at (w / 256)) (at + 1) (w % 256)

-- the pattern of an output whose elements are numbers below m: 256 for bytes, 65536 for words
abbrev pub pattern_at : ℕ → ℕ → ℕ
pattern_at m i = (i * 37 + 11) % m

-- n elements of that pattern
pub record Patterned (m n : ℕ) (s : List ℕ) : Type 0 where
  pub size : length s ≡ n
  pub each : (k : ℕ) → k < n → get_or s k 0 ≡ pattern_at m k
