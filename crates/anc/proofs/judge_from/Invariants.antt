-- A yes of the look vouches for the words, and after a no each is judged. The loop's invariant: the words to come
-- decide as all of them do.
use Rattle.std.proofs.Common.{◌≡◌}
use Rattle.anc.specs.Words.{words_verdict}
use Rattle.anc.proofs.Judged.{judged_at}
use Rattle.anc.proofs.judge_from.Given as goal

abbrev pub invariant-loop-i : goal.invariant-loop-i
invariant-loop-i l = words_verdict l.place l.words ≡ judged_at l.words l.place l.i
