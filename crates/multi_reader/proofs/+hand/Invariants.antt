-- The measure is the number of words that are left.
use lib.ListN.{length}
use Rattle.multi_reader.proofs.+hand.Given as goal

abbrev pub decreases-hand : goal.decreases-hand
decreases-hand l = length l.rest.now
