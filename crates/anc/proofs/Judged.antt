-- The words of a slice from an index on, which a loop judges one after the other, and of a part of something longer.
-- Assumes nothing.
use Rattle.std.proofs.Common.{◌≡◌, ℕ, suc, ◌+◌, ◌/◌, ◌<◌, ◌≤◌, List, length, get_or, drop, sym, ap, ◌∙◌, ap₂, add-one, arith, drop_of_length-le, drop-cons}
use Rattle.lists.specs.Part.{part}
use Rattle.lists.proofs.Part.{part-cons, part_none}
use Rattle.refusal.specs.Verdict.{Verdict}
use Rattle.refusal.specs.Verdict.{Accepted}
use Rattle.refusal.specs.Checks.{and_then}
use Rattle.anc.specs.Words.{parity_of, byte_of, word_verdict, words_verdict}
use Rattle.anc.proofs.Words.{parity-low, bits-accepted, bytes-bytes, words-accepted, accepted-words}

-- the words from index i up to index to
abbrev pub judged : List ℕ → ℕ → ℕ → Verdict
judged ws to i = words_verdict i (part i to ws)

module _ (ws : List ℕ) (to i : ℕ) where
  -- the word at i decides, then those behind it
  pub judged-next : i < to → i < length ws → judged ws to i ≡ and_then (word_verdict i (get_or ws i 0)) (judged ws to (i + 1))
  judged-next more inside =
      ap (words_verdict i) (part-cons ws 0 i to more inside)
      ∙ ap (λ (k : ℕ). and_then (word_verdict i (get_or ws i 0)) (words_verdict k (part (i + 1) to ws))) (sym (add-one i))

  pub judged-none : to ≤ i → judged ws to i ≡ Accepted
  judged-none done = ap (words_verdict i) (part_none ws i to done)

-- WORDS OF WHICH THE FIRST STANDS AT A PLACE

-- the words from index i on
abbrev pub judged_at : List ℕ → ℕ → ℕ → Verdict
judged_at ws place i = words_verdict (place + i) (drop i ws)

module _ (ws : List ℕ) (place i : ℕ) where
  pub judged_at-next : i < length ws → judged_at ws place i ≡ and_then (word_verdict (place + i) (get_or ws i 0)) (judged_at ws place (i + 1))
  judged_at-next inside =
      let next : suc (place + i) ≡ place + (i + 1) = omega arith in
      ap (words_verdict (place + i)) (drop-cons ws i 0 inside)
      ∙ ap₂ (λ (k j : ℕ). and_then (word_verdict (place + i) (get_or ws i 0)) (words_verdict k (drop j ws))) next (sym (add-one i))

  -- where that is accepted, they decide alone,
  pub judged_at-passed : i < length ws → word_verdict (place + i) (get_or ws i 0) ≡ Accepted → judged_at ws place i ≡ judged_at ws place (i + 1)
  judged_at-passed inside right = judged_at-next inside ∙ ap (λ (v : Verdict). and_then v (judged_at ws place (i + 1))) right

  -- as where it is a byte's word
  pub judged_at-right : i < length ws → get_or ws i 0 / 256 + parity_of (byte_of (get_or ws i 0)) ≡ 2 → judged_at ws place i ≡ judged_at ws place (i + 1)
  judged_at-right inside two = judged_at-passed inside (bits-accepted (place + i) (get_or ws i 0) two)

  -- behind the last word there is none
  pub judged_at-past : length ws ≤ i → judged_at ws place i ≡ Accepted
  judged_at-past past = ap (words_verdict (place + i)) (drop_of_length-le ws past)

-- what the loops over words take of them
pub ruleset steps = (parity-low, judged_at-passed, judged_at-right, judged_at-past)
