-- Ancillary data words of ten bits, b9 to b0. RULES, "Subtitling packet"; SMPTE 291M.
use Rattle.std.specs.Prelude.{◌≡◌, ℕ, suc, ◌+◌, ◌-◌, ◌*◌, ◌/◌, ◌%◌, ◌<◌, ◌≤◌, not, List, [], ◌∷◌, map, ◌==◌, nat_lt, slice_index}
use Rattle.lists.specs.Sum.{sum}
use Rattle.refusal.specs.Verdict.{Verdict}
use Rattle.refusal.specs.Verdict.{Accepted}
use Rattle.refusal.specs.declared.Reason.TheVariants.{WordRange, WordParity}
use Rattle.refusal.specs.declared.Item.TheVariants.{Word}
use Rattle.refusal.specs.Checks.{refuse_if, and_then, first}

-- 1 where the ones among b7 to b0 are odd in number, so that b8 makes them even
unfoldable pub parity_of : ℕ → ℕ
parity_of b = (b % 2 + b / 2 % 2 + b / 4 % 2 + b / 8 % 2 + b / 16 % 2 + b / 32 % 2 + b / 64 % 2 + b / 128 % 2) % 2

-- the word of a byte: b7 to b0 are the byte, b8 makes the ones even in number, b9 is what b8 is not
unfoldable pub word_of : ℕ → ℕ
word_of b = b + 256 * parity_of b + 512 * (1 - parity_of b)

-- the byte that a word holds
abbrev pub byte_of : ℕ → ℕ
byte_of w = w % 256

-- the words from index `from` up to, not including, index `to` are words of bytes
abbrev pub ByteWords : List ℕ → ℕ → ℕ → Type 0
ByteWords s from to = (i : ℕ) → from ≤ i → i < to → slice_index s i ≡ word_of (byte_of (slice_index s i))

-- 11: a word above 1023, or its parity bits wrong
unfoldable pub word_verdict : ℕ → ℕ → Verdict
word_verdict place w =
    first
    (refuse_if (nat_lt 1023 w) WordRange (Word place)
    ∷ refuse_if (not (w == word_of (byte_of w))) WordParity (Word place)
    ∷ [])

-- the same of words that stand one behind the other, the first at place
abbrev pub words_verdict : ℕ → List ℕ → Verdict
words_verdict place [] = Accepted
words_verdict place (w ∷ ws) = and_then (word_verdict place w) (words_verdict (suc place) ws)

-- the sum of the low nine bits, modulo 512
unfoldable pub nine_bit_sum : List ℕ → ℕ
nine_bit_sum ws = sum (map (λ (w : ℕ). w % 512) ws) % 512

-- CS: that sum in b8 to b0, and b9 the inverse of b8
unfoldable pub checksum_of : List ℕ → ℕ
checksum_of ws = nine_bit_sum ws + 512 * (1 - nine_bit_sum ws / 256)

-- 11 of a CS word: above 1023, or b9 not inverse to b8. Its b8 is a bit of the sum and no parity
unfoldable pub sum_verdict : ℕ → ℕ → Verdict
sum_verdict place w =
    first
    (refuse_if (nat_lt 1023 w) WordRange (Word place)
    ∷ refuse_if (w / 512 == w / 256 % 2) WordParity (Word place)
    ∷ [])
