-- The loop's invariant: as long as no word was wrong, the words to come decide as all of them do; total is the
-- sum of the words so far, modulo 65,536.
use Rattle.std.proofs.Common.{◌≡◌, ◌%◌, take, true}
use Rattle.lists.specs.Sum.{sum}
use Rattle.anc.specs.Words.{words_verdict}
use Rattle.anc.proofs.Judged.{judged_at}
use Rattle.anc.proofs.clean_sum.Given as goal

abbrev pub invariant-loop-w : goal.invariant-loop-w
invariant-loop-w l = record {
  right : l.clean ≡ true → words_verdict l.from l.w-items ≡ judged_at l.w-items l.from l.w-index;
  summed : l.total ≡ sum (take l.w-index l.w-items) % 65536;
}
