-- `listing::with_decimal` calls itself with the digits before the last: the measure is the number.
use Rattle.listing.proofs.+with_decimal.Given as goal

abbrev pub decreases-with_decimal : goal.decreases-with_decimal
decreases-with_decimal l = l.n
