-- The measure is the number of words that are left: behind an inner packet that is accepted it is less by all of its words.
use lib.ListN.{length}
use Rattle.multi_judge.proofs.+judge_inners.Given as goal

abbrev pub decreases-judge_inners : goal.decreases-judge_inners
decreases-judge_inners l = length l.rest.now
