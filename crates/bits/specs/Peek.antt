-- What the functions over lent bytes answer, for every input.
use Rattle.std.specs.Prelude.{ℕ, zero, suc, ◌+◌, List, [], ◌∷◌, ◌++◌, drop, replicate}
use Rattle.bits.specs.Bits.{bits, bits_of, field, zeros}

-- the number that w bits from bit `at` on write, with zeros beyond the last byte
unfoldable pub peek_of : List ℕ → ℕ → ℕ → ℕ
peek_of s at w = field (bits_of s ++ replicate w 0) at w

-- how many zero bytes stand at the front
abbrev pub zero_bytes : List ℕ → ℕ
zero_bytes [] = 0
zero_bytes (zero ∷ s) = suc (zero_bytes s)
zero_bytes (suc b ∷ s) = 0

-- where, from index `from` on, the first byte stands that is not 0, or the end
unfoldable pub first_set : List ℕ → ℕ → ℕ
first_set s from = from + zero_bytes (drop from s)

-- how many zero bits a byte begins with
unfoldable pub leading_of : ℕ → ℕ
leading_of b = zeros (bits 8 b)
