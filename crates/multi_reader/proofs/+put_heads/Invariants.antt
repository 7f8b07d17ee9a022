-- The measure is the number of words that are left.
use Prim.Native.Nat.{◌-◌}
use lib.ListN.{length}
use Rattle.multi_reader.proofs.+put_heads.Given as goal

abbrev pub decreases-put_heads : goal.decreases-put_heads
decreases-put_heads l = length l.words.now - l.at
