-- Where the checks of words refuse: at the first word that is no byte's word, and at CS.
-- Assumes nothing.
use Rattle.std.proofs.Common.{◌≡◌, ℕ, zero, suc, ◌+◌, ◌-◌, ◌/◌, ◌%◌, ◌<◌, ◌≤◌, not, eqb, ltb, List, length, get_or, sym, ◌∙◌, subst, ⊎_elim, eq-or-lt_of_le, arith, below_more, ltb-true, eqb-true}
use borrow.Author.Tests.{eqb-false, not-true}
use Rattle.lists.specs.Part.{part}
use Rattle.refusal.specs.declared.Reason.{Reason}
use Rattle.refusal.specs.declared.Reason.TheVariants.{WordRange, WordParity}
use Rattle.refusal.specs.declared.Item.{Item}
use Rattle.refusal.specs.declared.Item.TheVariants.{Word}
use Rattle.refusal.specs.Verdict.{Accepted}
use Rattle.refusal.proofs.Checks.{accepted-and_then}
use Rattle.refusal.proofs.Only.{Only, accepted-only, refuse_if-only, and_then-only}
use Rattle.anc.specs.Words.{word_of, byte_of, ByteWords, word_verdict, words_verdict, sum_verdict}
use Rattle.anc.proofs.Words.{accepted-word}
use Rattle.anc.proofs.Judged.{judged, judged-next, judged-none}

-- one word more
byte-words-more : (s : List ℕ) (from i : ℕ) → ByteWords s from i → get_or s i 0 ≡ word_of (byte_of (get_or s i 0)) → ByteWords s from (i + 1)
byte-words-more s from i before here =
    λ k low below. below_more (λ (n : ℕ). from ≤ n → get_or s n 0 ≡ word_of (byte_of (get_or s n 0))) i (λ n less least. before n least less) (λ least. here) k below low

-- P holds where the first that is no byte's word is above 1023, and where its parity bits are wrong
module _ (P : Reason → Item → Type 0) (s : List ℕ) (from to : ℕ) (ordered : from ≤ to) (inside : to ≤ length s)
    (range : (i : ℕ) → from ≤ i → i < to → ByteWords s from i → 1023 < get_or s i 0 → P WordRange (Word i))
    (parity : (i : ℕ) → from ≤ i → i < to → ByteWords s from i → (get_or s i 0 ≡ word_of (byte_of (get_or s i 0)) → ⊥) → P WordParity (Word i)) where
  word-only : (i : ℕ) → from ≤ i → i < to → ByteWords s from i → Only P (word_verdict i (get_or s i 0))
  unfolding word_verdict
  word-only i low high before =
      let w = get_or s i 0 in
      and_then-only P _ _ (refuse_if-only P (ltb 1023 w) WordRange (Word i) (λ e. range i low high before (ltb-true 1023 w e))) (λ e.
      and_then-only P _ _ (refuse_if-only P (not (eqb w (word_of (byte_of w)))) WordParity (Word i) (λ f. parity i low high before (eqb-false _ _ (not-true _ f)))) (λ f.
      accepted-only P))

  run_only : (n i : ℕ) → i + n ≡ to → from ≤ i → ByteWords s from i → Only P (judged s to i)
  run_only zero i e low before = let done : to ≤ i = omega arith in subst (Only P) (sym (judged-none s to i done)) (accepted-only P)
  run_only (suc n) i e low before =
      let high : i < to = omega arith in
      let there : i < length s = omega arith in
      let next : (i + 1) + n ≡ to = omega arith in
      let least : from ≤ i + 1 = omega arith in
      subst (Only P) (sym (judged-next s to i high there))
      (and_then-only P _ _ (word-only i low high before) (λ ok. run_only n (i + 1) next least (byte-words-more s from i before (sym (accepted-word i (get_or s i 0) ok)))))

  pub words-only : Only P (words_verdict from (part from to s))
  words-only = run_only (to - from) from (omega arith) (omega arith) (λ i low high. let f : ⊥ = omega arith in absurd f)

-- and CS: above 1023, or b9 not inverse to b8
pub sum-only : (P : Reason → Item → Type 0) (place w : ℕ) → (1023 < w → P WordRange (Word place)) → (w / 512 ≡ w / 256 % 2 → P WordParity (Word place))
    → Only P (sum_verdict place w)
unfolding sum_verdict
sum-only P place w range form =
    and_then-only P _ _ (refuse_if-only P (ltb 1023 w) WordRange (Word place) (λ e. range (ltb-true 1023 w e))) (λ e.
    and_then-only P _ _ (refuse_if-only P (eqb (w / 512) (w / 256 % 2)) WordParity (Word place) (λ f. form (eqb-true _ _ f))) (λ f.
    accepted-only P))

-- words that are accepted are words of bytes
module _ (s : List ℕ) (to : ℕ) (inside : to ≤ length s) where
  accepted-run : (n i : ℕ) → i + n ≡ to → judged s to i ≡ Accepted → ByteWords s i to
  accepted-run zero i e accepted k low high = let f : ⊥ = omega arith in absurd f
  accepted-run (suc n) i e accepted k low high =
      let here : i < to = omega arith in
      let there : i < length s = omega arith in
      let next : (i + 1) + n ≡ to = omega arith in
      let both = accepted-and_then (word_verdict i (get_or s i 0)) (judged s to (i + 1)) (sym (judged-next s to i here there) ∙ accepted) in
      ⊎_elim
      (λ same. subst (λ (j : ℕ). get_or s j 0 ≡ word_of (byte_of (get_or s j 0))) same (sym (accepted-word i (get_or s i 0) both.0)))
      (λ less. accepted-run n (i + 1) next both.1 k (let beyond : i + 1 ≤ k = omega arith in beyond) high)
      (eq-or-lt_of_le low)

  pub accepted-byte-words : (from : ℕ) → from ≤ to → words_verdict from (part from to s) ≡ Accepted → ByteWords s from to
  accepted-byte-words from ordered = accepted-run (to - from) from (omega arith)
