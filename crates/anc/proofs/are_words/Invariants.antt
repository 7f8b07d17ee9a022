-- The loop's invariant: as long as no word was wrong, the words to come decide as all of them do.
use Rattle.std.proofs.Common.{◌≡◌, ℕ, true}
use Rattle.anc.specs.Words.{words_verdict}
use Rattle.anc.proofs.Judged.{judged_at}
use Rattle.anc.proofs.are_words.Given as goal

abbrev pub invariant-loop-w : goal.invariant-loop-w
invariant-loop-w l = l.clean ≡ true → (place : ℕ) → words_verdict place l.words ≡ judged_at l.words place l.w-index
