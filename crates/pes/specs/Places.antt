-- Where things stand in a data field, and what a refusal tells of its place: from the bytes alone, without the reader.
-- RULES, "PES data field" and "Refusals". Bytes count from 0.
use Rattle.std.specs.Prelude.{ℕ, ◌+◌, ◌*◌, ◌/◌, ◌%◌, ◌≤◌, ◌<◌, ◌≡◌, ◌⊎◌, List, length, get_or}

-- the byte with which unit j begins, j from 0
abbrev pub unit_at : ℕ → ℕ
unit_at j = 1 + 46 * j

-- unit j begins: it is one of the 31 that may be, and its first byte is there
pub record Begins (s : List ℕ) (j : ℕ) : Type 0 where
  pub few : j < 31
  pub there : unit_at j < length s

-- 02 or 03, teletext
abbrev pub Teletexts : List ℕ → ℕ → Type 0
Teletexts s j = (get_or s (unit_at j) 0 ≡ 0x02) ⊎ (get_or s (unit_at j) 0 ≡ 0x03)

-- what unit j has whatever its value is: its length, and where it is teletext the reserved bits and the framing code
pub record FixedAt (s : List ℕ) (j : ℕ) : Type 0 where
  pub size : get_or s (unit_at j + 1) 0 ≡ 0x2C
  pub reserved : Teletexts s j → get_or s (unit_at j + 2) 0 / 64 ≡ 3
  pub framing : Teletexts s j → get_or s (unit_at j + 3) 0 ≡ 0xE4

-- line 1 to 6 or 23 to 31
abbrev pub NoLine : ℕ → Type 0
NoLine l = ((1 ≤ l) × (l ≤ 6)) ⊎ ((23 ≤ l) × (l ≤ 31))

-- what is wrong at a byte, for each number that reading gives
pub data Stands (s : List ℕ) (number byte : ℕ) : Type 0 where
  -- there is no data_identifier
  empty_5 : number ≡ 5 → byte ≡ 0
      → length s ≡ 0
      → Stands s number byte
  -- it is not 10 to 1F
  identifier_6 : number ≡ 6 → byte ≡ 0
      → 0 < length s → (get_or s 0 0 / 16 ≡ 1 → ⊥)
      → Stands s number byte
  -- a byte stands where a 32nd unit would begin
  surplus_24 : number ≡ 24 → byte ≡ unit_at 31
      → byte < length s
      → Stands s number byte
  -- data_unit_id is not 02, 03 or FF
  id_23 : (j : ℕ) → number ≡ 23 → byte ≡ unit_at j → Begins s j
      → (get_or s byte 0 ≡ 0x02 → ⊥) → (get_or s byte 0 ≡ 0x03 → ⊥) → (get_or s byte 0 ≡ 0xFF → ⊥)
      → Stands s number byte
  -- there is no data_unit_length
  length_5 : (j : ℕ) → number ≡ 5 → byte ≡ unit_at j + 1 → Begins s j
      → length s ≤ byte
      → Stands s number byte
  -- it is not 2C
  length_13 : (j : ℕ) → number ≡ 13 → byte ≡ unit_at j + 1 → Begins s j
      → byte < length s → (get_or s byte 0 ≡ 0x2C → ⊥)
      → Stands s number byte
  -- the 44 bytes of stuffing are not all there
  stuffing_5 : (j : ℕ) → number ≡ 5 → byte ≡ unit_at j + 2 → Begins s j → get_or s (unit_at j) 0 ≡ 0xFF
      → length s < byte + 44
      → Stands s number byte
  -- there is no byte of the reserved bits, field_parity and line_offset
  line_5 : (j : ℕ) → number ≡ 5 → byte ≡ unit_at j + 2 → Begins s j → Teletexts s j
      → length s ≤ byte
      → Stands s number byte
  -- the reserved bits are not both ones
  reserved_6 : (j : ℕ) → number ≡ 6 → byte ≡ unit_at j + 2 → Begins s j → Teletexts s j
      → byte < length s → (get_or s byte 0 / 64 ≡ 3 → ⊥)
      → Stands s number byte
  -- no such line
  line_7 : (j : ℕ) → number ≡ 7 → byte ≡ unit_at j + 2 → Begins s j → Teletexts s j
      → byte < length s → NoLine (get_or s byte 0 % 32)
      → Stands s number byte
  -- there is no framing code
  framing_5 : (j : ℕ) → number ≡ 5 → byte ≡ unit_at j + 3 → Begins s j → Teletexts s j
      → length s ≤ byte
      → Stands s number byte
  -- it is not E4
  framing_6 : (j : ℕ) → number ≡ 6 → byte ≡ unit_at j + 3 → Begins s j → Teletexts s j
      → byte < length s → (get_or s byte 0 ≡ 0xE4 → ⊥)
      → Stands s number byte
  -- the 42 bytes of the row are not all there
  row_5 : (j : ℕ) → number ≡ 5 → byte ≡ unit_at j + 4 → Begins s j → Teletexts s j
      → length s < byte + 42
      → Stands s number byte
