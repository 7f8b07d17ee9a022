-- The words of bytes hold these bytes, and the checks accept them and no others; a CS word passes its own check.
-- Assumes nothing.
use Rattle.std.proofs.Common.{◌≡◌, ℕ, suc, ◌+◌, ◌-◌, ◌*◌, ◌/◌, ◌%◌, ◌<◌, ◌≤◌, not, eqb, ltb, List, [], ◌∷◌, map, sym, refl, ap, ◌∙◌, ap₂, mod-lt, arith, le-ltb, eq-eqb, ne_eqb}
use borrow.Author.Tests.{eqb-false}
use Rattle.lists.specs.Bytes.{Bytes}
use Rattle.lists.specs.Sum.{sum}
use Rattle.lists.proofs.Sum as sums
use Rattle.refusal.specs.Verdict.{Accepted}
use Rattle.refusal.specs.declared.Reason.TheVariants.{WordRange, WordParity}
use Rattle.refusal.specs.declared.Item.TheVariants.{Word}
use Rattle.refusal.specs.Checks.{refuse_if, and_then}
use Rattle.refusal.proofs.Checks.{accepted-refuse_if, accepted-and_then, and_then-accepted, accepted-equal, accepted-within}
use Rattle.anc.specs.Words.{parity_of, word_of, byte_of, word_verdict, words_verdict, nine_bit_sum, checksum_of, sum_verdict}
use Rattle.anc.specs.Inside.{cs_of}

-- a parity is a bit
pub parity-low : (b : ℕ) → parity_of b < 2
unfolding parity_of
parity-low b = let two : 0 < 2 = omega arith in mod-lt _ two

-- for a function's tactics
pub ruleset parities = (parity-low)

-- a byte's word holds the byte
pub word_byte : (b : ℕ) → b < 256 → byte_of (word_of b) ≡ b
unfolding word_of
word_byte b h = omega (arith, parity-low b)

-- and the words of bytes hold these
pub words-bytes : (bs : List ℕ) → Bytes bs → map byte_of (map word_of bs) ≡ bs
words-bytes [] h = refl
words-bytes (b ∷ bs) h = ap₂ (λ (x : ℕ) (xs : List ℕ). x ∷ xs) (word_byte b h.0) (words-bytes bs h.1)

-- what words hold are bytes
pub bytes-bytes : (ws : List ℕ) → Bytes (map byte_of ws)
bytes-bytes [] = tt
bytes-bytes (w ∷ ws) = (omega arith, bytes-bytes ws)

-- a word fits ten bits
pub word_low : (b : ℕ) → b < 256 → word_of b ≤ 1023
unfolding word_of
word_low b h = omega (arith, parity-low b)

word-accepted : (place b : ℕ) → b < 256 → word_verdict place (word_of b) ≡ Accepted
unfolding word_verdict
word-accepted place b h = simp (le-ltb 1023 (word_of b) (word_low b h), word_byte b h, eq-eqb (word_of b) (word_of b) refl)

bits-word : (w : ℕ) → w / 256 + parity_of (byte_of w) ≡ 2 → word_of (byte_of w) ≡ w
unfolding word_of
bits-word w e = omega (arith, parity-low (byte_of w))

-- bits b9 and b8 that make 2 with the parity are a byte's word's
pub bits-accepted : (place w : ℕ) → w / 256 + parity_of (byte_of w) ≡ 2 → word_verdict place w ≡ Accepted
bits-accepted place w e =
    let byte : byte_of w < 256 = omega arith in
    ap (word_verdict place) (sym (bits-word w e)) ∙ word-accepted place (byte_of w) byte

pub accepted-word : (place w : ℕ) → word_verdict place w ≡ Accepted → word_of (byte_of w) ≡ w
unfolding word_verdict
accepted-word place w e =
    let parity = refuse_if (not (eqb w (word_of (byte_of w)))) WordParity (Word place) in
    let two = accepted-and_then parity Accepted (accepted-and_then (refuse_if (ltb 1023 w) WordRange (Word place)) (and_then parity Accepted) e).1 in
    sym (accepted-equal w (word_of (byte_of w)) WordParity (Word place) two.0)

-- the words of bytes are accepted
pub words-accepted : (place : ℕ) (bs : List ℕ) → Bytes bs → words_verdict place (map word_of bs) ≡ Accepted
words-accepted place [] h = refl
words-accepted place (b ∷ bs) h =
    and_then-accepted (word_verdict place (word_of b)) (words_verdict (suc place) (map word_of bs)) (word-accepted place b h.0) (words-accepted (suc place) bs h.1)

-- and no other words are
pub accepted-words : (place : ℕ) (ws : List ℕ) → words_verdict place ws ≡ Accepted → map word_of (map byte_of ws) ≡ ws
accepted-words place [] e = refl
accepted-words place (w ∷ ws) e =
    let two = accepted-and_then (word_verdict place w) (words_verdict (suc place) ws) e in
    ap₂ (λ (x : ℕ) (xs : List ℕ). x ∷ xs) (accepted-word place w two.0) (accepted-words (suc place) ws two.1)

-- a CS word fits ten bits, and its b9 is not its b8
sum_low : (ws : List ℕ) → checksum_of ws ≤ 1023
unfolding checksum_of nine_bit_sum
sum_low ws = omega arith

sum-inverse : (ws : List ℕ) → checksum_of ws / 512 ≡ checksum_of ws / 256 % 2 → ⊥
unfolding checksum_of nine_bit_sum
sum-inverse ws e = omega arith

-- so it is accepted
pub sum-accepted : (place : ℕ) (ws : List ℕ) → sum_verdict place (checksum_of ws) ≡ Accepted
unfolding sum_verdict
sum-accepted place ws =
    simp (le-ltb 1023 (checksum_of ws) (sum_low ws), ne_eqb (checksum_of ws / 512) (checksum_of ws / 256 % 2) (sum-inverse ws))

-- and what is accepted fits ten bits, and has b9 inverse to b8
pub accepted-sum : (place w : ℕ) → sum_verdict place w ≡ Accepted → (w ≤ 1023) × (w / 512 ≡ w / 256 % 2 → ⊥)
unfolding sum_verdict
accepted-sum place w e =
    let range = accepted-and_then _ _ e in
    let form = accepted-and_then _ _ range.1 in
    (accepted-within 1023 w _ _ range.0, eqb-false (w / 512) (w / 256 % 2) (accepted-refuse_if _ _ _ form.0))

-- in a byte's word the ones among b8 to b0 are even in number, and b9 is the inverse of b8
pub word_even : (b : ℕ) → b < 256
    → ((parity_of (word_of b % 256) + word_of b / 256 % 2) % 2 ≡ 0) × (word_of b / 512 + word_of b / 256 % 2 ≡ 1)
unfolding word_of
word_even b h = (rw (word_byte b h) (omega (arith, parity-low b)), omega (arith, parity-low b))

-- CS has the sum in b8 to b0, and its b9 is the inverse of its b8
pub checksum-holds : (ws : List ℕ)
    → (checksum_of ws % 512 ≡ nine_bit_sum ws) × (checksum_of ws / 512 + checksum_of ws / 256 % 2 ≡ 1)
unfolding checksum_of nine_bit_sum
checksum-holds ws = (omega arith, omega arith)

-- CS of words is that of their sum modulo 65,536
pub checksum-sum : (ws : List ℕ) → checksum_of ws ≡ cs_of (sum ws % 65536)
unfolding checksum_of nine_bit_sum cs_of
checksum-sum ws = ap (λ (s : ℕ). s + 512 * (1 - s / 256)) (sym (sums.sum_low 512 128 ws))

-- for a function's tactics
pub ruleset sums_told = (checksum-sum)
