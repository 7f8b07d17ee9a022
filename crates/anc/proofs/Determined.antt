-- Each function's promise fixes its answer.
-- Assumes nothing.
use Rattle.std.proofs.Common.{◌≡◌, ℕ, ◌%◌, List, sym, ◌∙◌}
use Rattle.lists.specs.Part.{part}
use Rattle.lists.specs.Sum.{sum}
use Rattle.refusal.specs.Verdict.{Verdict}
use Rattle.anc.specs.Words.{word_of, words_verdict, checksum_of, sum_verdict}

pub word-determined : (byte a b : ℕ) → a ≡ word_of byte → b ≡ word_of byte → a ≡ b
word-determined byte a b ea eb = ea ∙ sym eb

pub judge-words-determined : (words : List ℕ) (from to : ℕ) (a b : Verdict)
    → a ≡ words_verdict from (part from to words) → b ≡ words_verdict from (part from to words) → a ≡ b
judge-words-determined words from to a b ea eb = ea ∙ sym eb

pub judge-part-determined : (words : List ℕ) (place : ℕ) (a b : Verdict)
    → a ≡ words_verdict place words → b ≡ words_verdict place words → a ≡ b
judge-part-determined words place a b ea eb = ea ∙ sym eb

pub judge-sum-determined : (w place : ℕ) (a b : Verdict) → a ≡ sum_verdict place w → b ≡ sum_verdict place w → a ≡ b
judge-sum-determined w place a b ea eb = ea ∙ sym eb

pub checksum-determined : (words : List ℕ) (a b : ℕ) → a ≡ checksum_of words → b ≡ checksum_of words → a ≡ b
checksum-determined words a b ea eb = ea ∙ sym eb

pub sum-determined : (words : List ℕ) (a b : ℕ) → a ≡ sum words % 65536 → b ≡ sum words % 65536 → a ≡ b
sum-determined words a b ea eb = ea ∙ sym eb
