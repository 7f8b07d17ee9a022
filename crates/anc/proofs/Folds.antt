-- The folds of a byte leave its parity in the lowest bit, computed for each of the 256 bytes.
-- Assumes nothing.
use Rattle.std.proofs.Common.{◌≡◌, ℕ, ◌/◌, ◌%◌, ◌<◌, eqb, eqb→eq}
use lib.Bits.{bit_xor}
use Rattle.lists.proofs.Below.{below}
use Rattle.anc.specs.Words.{parity_of}

-- a number and what is shifted onto it
abbrev fold : ℕ → ℕ → ℕ
fold by b = bit_xor b (b / by)

pub folded-parity : (b : ℕ) → b < 256 → fold 2 (fold 4 (fold 16 b)) % 2 ≡ parity_of b
unfolding parity_of
folded-parity b h =
    eqb→eq (fold 2 (fold 4 (fold 16 b)) % 2) (parity_of b) (below (λ (b : ℕ). eqb (fold 2 (fold 4 (fold 16 b)) % 2) (parity_of b)) 256 tt b h)

-- for a function's tactics
pub ruleset folds = (folded-parity)
