-- Lists of bits, 0 or 1 each, as the meaning of bytes. RULES, "Picture area": most significant bit first.
use Rattle.std.specs.Prelude.{ℕ, zero, suc, ◌+◌, ◌*◌, ◌/◌, ◌%◌, ◌^◌, max, List, [], ◌∷◌, ◌++◌, reverse, length, take, drop}

-- the w low bits of a number
abbrev pub bits : ℕ → ℕ → List ℕ
bits zero x = []
bits (suc w) x = x / 2 ^ w % 2 ∷ bits w x

-- the number that a list of bits writes
abbrev pub num : List ℕ → ℕ
num [] = 0
num (b ∷ bs) = b * 2 ^ length bs + num bs

-- the bits of bytes
abbrev pub bits_of : List ℕ → List ℕ
bits_of [] = []
bits_of (b ∷ s) = bits 8 b ++ bits_of s

-- the first k bytes that a list of bits writes
abbrev pub bytes_of : ℕ → List ℕ → List ℕ
bytes_of zero xs = []
bytes_of (suc k) xs = num (take 8 xs) ∷ bytes_of k (drop 8 xs)

-- the number that the w bits from index `at` on write
abbrev pub field : List ℕ → ℕ → ℕ → ℕ
field xs at w = num (take w (drop at xs))

-- a byte with its bits in the other order
unfoldable pub reversed : ℕ → ℕ
reversed b = num (reverse (bits 8 b))

-- how many zero bits stand before the first that is not 0, or before the end
abbrev pub zeros : List ℕ → ℕ
zeros [] = 0
zeros (zero ∷ bs) = suc (zeros bs)
zeros (suc b ∷ bs) = 0

-- the longest run of zeros among bits, with so many zeros just before them
abbrev pub longest_from : ℕ → List ℕ → ℕ
longest_from run [] = run
longest_from run (zero ∷ bs) = longest_from (suc run) bs
longest_from run (suc b ∷ bs) = max run (longest_from 0 bs)

abbrev pub longest : List ℕ → ℕ
longest bs = longest_from 0 bs
