-- The theorems of ancillary data words (docs/RULES.md, "Subtitling packet", SP-2 and SP-3; SMPTE 291M). What they
-- speak of is defined in specs/Words.
-- How to read it: docs/NOTATION.md.
-- Assumes nothing.
use Rattle.std.proofs.Common.{◌≡◌, ℕ, ◌+◌, ◌/◌, ◌%◌, ◌<◌, List}
use Rattle.lists.specs.Part.{part}
use Rattle.lists.specs.Sum.{sum}
use Rattle.refusal.specs.Verdict.{Verdict}
use Rattle.anc.specs.Words.{parity_of, word_of, words_verdict, nine_bit_sum, checksum_of, sum_verdict}
use Rattle.anc.proofs.Words as word_laws
use Rattle.anc.proofs.Determined as determined

-- In a byte's word the ones among b8 to b0 are even in number, and b9 is the inverse of b8.
pub word_even : (b : ℕ) → b < 256
    → ((parity_of (word_of b % 256) + word_of b / 256 % 2) % 2 ≡ 0) × (word_of b / 512 + word_of b / 256 % 2 ≡ 1)
word_even = word_laws.word_even

-- A CS word has the sum of the low nine bits in b8 to b0, and its b9 is the inverse of its b8.
pub checksum-holds : (ws : List ℕ)
    → (checksum_of ws % 512 ≡ nine_bit_sum ws) × (checksum_of ws / 512 + checksum_of ws / 256 % 2 ≡ 1)
checksum-holds = word_laws.checksum-holds

-- ONE ANSWER

-- For each function, two answers that keep its promise are equal.
pub word-determined : (byte a b : ℕ) → a ≡ word_of byte → b ≡ word_of byte → a ≡ b
word-determined = determined.word-determined

pub judge-words-determined : (words : List ℕ) (from to : ℕ) (a b : Verdict)
    → a ≡ words_verdict from (part from to words) → b ≡ words_verdict from (part from to words) → a ≡ b
judge-words-determined = determined.judge-words-determined

pub judge-part-determined : (words : List ℕ) (place : ℕ) (a b : Verdict)
    → a ≡ words_verdict place words → b ≡ words_verdict place words → a ≡ b
judge-part-determined = determined.judge-part-determined

pub judge-sum-determined : (w place : ℕ) (a b : Verdict) → a ≡ sum_verdict place w → b ≡ sum_verdict place w → a ≡ b
judge-sum-determined = determined.judge-sum-determined

pub checksum-determined : (words : List ℕ) (a b : ℕ) → a ≡ checksum_of words → b ≡ checksum_of words → a ≡ b
checksum-determined = determined.checksum-determined

pub sum-determined : (words : List ℕ) (a b : ℕ) → a ≡ sum words % 65536 → b ≡ sum words % 65536 → a ≡ b
sum-determined = determined.sum-determined
