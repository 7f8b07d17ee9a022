-- What a refusal of a payload tells of its place, its length: from the bytes alone, without the reader. RULES, "Line 21
-- payload" and "Refusals"; 004, 3.2.1.
use Rattle.std.specs.Prelude.{ℕ, ◌+◌, ◌*◌, ◌<◌, ◌≡◌, List, length}

-- what is wrong with the length, for each number that reading gives
pub data Stands (s : List ℕ) (number place : ℕ) : Type 0 where
  -- there is no byte at all
  empty_2 : number ≡ 2
      → place ≡ length s → length s ≡ 0
      → Stands s number place
  -- there are more than 1,456 bytes
  long_1 : number ≡ 1
      → place ≡ length s → 1456 < length s
      → Stands s number place
  -- there are not one flags byte and whole access units of 5
  units_13 : number ≡ 13
      → place ≡ length s → ((m : ℕ) → length s ≡ 1 + 5 * m → ⊥)
      → Stands s number place
