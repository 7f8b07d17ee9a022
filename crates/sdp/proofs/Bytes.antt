-- The byte at an index of what words hold.
-- Assumes nothing.
use Prim.Native.Nat.{ℕ, ◌+◌, ◌%◌}
use mathlib.Core.Path.{◌≡◌, ◌∙◌, ap}
use mathlib.Core.List.{List, map}
use lib.ListN.{get_or, drop, get_or-map}
use lib.Seq.{get_or-drop}
use Rattle.lists.specs.Sum.{sum}
use Rattle.lists.proofs.Sum.{sum_low}
use Rattle.anc.specs.Words.{byte_of}

pub byte_at : (ws : List ℕ) (i : ℕ) → get_or (map byte_of ws) i 0 ≡ byte_of (get_or ws i 0)
byte_at ws i = get_or-map byte_of ws i 0

-- of those from index i on
pub byte-from : (ws : List ℕ) (i k : ℕ) → get_or (drop i (map byte_of ws)) k 0 ≡ byte_of (get_or ws (i + k) 0)
byte-from ws i k = get_or-drop i (map byte_of ws) k 0 ∙ byte_at ws (i + k)

-- 256 divides 65,536, so that the sum of words tells the sum of their bytes
pub sum-bytes : (r : ℕ) (ws : List ℕ) → r ≡ sum ws % 65536 → r % 256 ≡ sum (map byte_of ws) % 256
sum-bytes r ws e = ap (λ (s : ℕ). s % 256) e ∙ sum_low 256 256 ws

-- for a function's tactics
pub ruleset sums = (sum-bytes)
