-- A byte with its bits in the other order is a byte, and turned once more it is the first. antt computes both for all 256.
-- Assumes nothing.
use Prim.Native.Nat.{ℕ, ◌<◌}
use mathlib.Core.Path.{◌≡◌}
use lib.Dec.{eqb, ltb, eqb→eq, ltb→lt}
use Rattle.lists.proofs.Below.{below}
use Rattle.bits.specs.Bits.{reversed}

pub reversed-lt : (b : ℕ) → b < 256 → reversed b < 256
unfolding reversed
reversed-lt b h = ltb→lt (reversed b) 256 (below (λ (b : ℕ). ltb (reversed b) 256) 256 tt b h)

pub reversed-reversed : (b : ℕ) → b < 256 → reversed (reversed b) ≡ b
unfolding reversed
reversed-reversed b h = eqb→eq (reversed (reversed b)) b (below (λ (b : ℕ). eqb (reversed (reversed b)) b) 256 tt b h)
