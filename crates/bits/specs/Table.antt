-- The table of reversed bytes, which docs/REVERSAL.md prints: the rule for its entries.
use Rattle.std.specs.Prelude.{ℕ, ◌<◌, ◌≡◌, List, length, get_or}
use Rattle.bits.specs.Bits.{reversed}

-- there are 256, and the one at the index of a byte is that byte with its bits in the other order
pub record Reverses (table : List ℕ) : Type 0 where
  pub whole : length table ≡ 256
  pub entry : (b : ℕ) → b < 256 → get_or table b 0 ≡ reversed b

-- what a table has for a byte
abbrev pub found : List ℕ → ℕ → ℕ
found table b = get_or table b 0
