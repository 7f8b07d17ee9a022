-- Where things stand among the user words, and what a refusal tells of its place: from the bytes alone, without the
-- reader. RULES, "Subtitling packet" and "Refusals"; 002, 5.1 and 5.5.2.
--
-- `dc` is the word of the packet in which DC stands; the user words follow it.
use Rattle.std.specs.Prelude.{ℕ, ◌+◌, ◌-◌, ◌*◌, ◌%◌, ◌<◌, ◌≡◌, List, [], ◌∷◌, length, get_or}
use Rattle.lists.specs.Sum.{sum}
use Rattle.sdp.specs.Value.{LegalLine}
use Rattle.sdp.specs.Layout.{user_length}
use Rattle.sdp.specs.User.{structures_in}
use Rattle.sdp.specs.SlotFaults.{NoLine}

-- WHERE THINGS STAND

-- the word in which user byte i stands
abbrev pub user_word : ℕ → ℕ → ℕ
user_word dc i = dc + 1 + i

-- the bytes that stand once in a packet and are the same in all: IDENTIFIER, its two, FORMAT CODE and FOOTER ID
pub data Constant : Type 0 where
  identifier_51 : Constant
  identifier_15 : Constant
  format_code : Constant
  footer_id : Constant

-- which of n user bytes each is: the footer's counter and the SDP checksum, three bytes, stand behind its ID
abbrev pub constant_at : ℕ → Constant → ℕ
constant_at n identifier_51 = 0
constant_at n identifier_15 = 1
constant_at n format_code = 3
constant_at n footer_id = n - 4

abbrev pub constant_byte : Constant → ℕ
constant_byte identifier_51 = 0x51
constant_byte identifier_15 = 0x15
constant_byte format_code = 0x02
constant_byte footer_id = 0x74

-- the line in descriptor j, j from 0 to 4
abbrev pub line_in : List ℕ → ℕ → ℕ
line_in u j = get_or u (4 + j) 0 % 32

-- the user byte with which structure j begins, j from 0
abbrev pub structure_at : ℕ → ℕ
structure_at j = 9 + 45 * j

-- run-in code, run-in code, framing code: with these each structure begins
abbrev pub structure_opening : List ℕ
structure_opening = 0x55 ∷ 0x55 ∷ 0x27 ∷ []

-- in structure j the first n of them are right
abbrev pub OpensRight : List ℕ → ℕ → ℕ → Type 0
OpensRight u j n = (i : ℕ) → i < n → get_or u (structure_at j + i) 0 ≡ get_or structure_opening i 0

-- WHAT STANDS AT A PLACE

-- the word is that of user byte i, which is there
pub record UserByte (dc : ℕ) (u : List ℕ) (i word : ℕ) : Type 0 where
  pub here : word ≡ user_word dc i
  pub there : i < length u

-- what is wrong at a word of the packet, for each number that the rules over user bytes give
pub data UserStands (dc : ℕ) (u : List ℕ) (number word : ℕ) : Type 0 where
  -- there are fewer than 13 user bytes, and the word is the one behind the last
  few_5 : number ≡ 5
      → word ≡ user_word dc (length u) → length u < 13
      → UserStands dc u number word
  -- an identifier, the format code or the footer ID is another byte
  constant_6 : (c : Constant) → number ≡ 6
      → UserByte dc u (constant_at (length u) c) word
      → (get_or u (constant_at (length u) c) 0 ≡ constant_byte c → ⊥)
      → UserStands dc u number word
  -- LENGTH is not the number of user bytes
  length_13 : number ≡ 13
      → UserByte dc u 2 word → (get_or u 2 0 ≡ length u → ⊥)
      → UserStands dc u number word
  -- the first descriptor whose line is 1 to 5 or 23 to 31
  line_7 : (j : ℕ) → number ≡ 7 → j < 5
      → UserByte dc u (4 + j) word → NoLine (line_in u j)
      → ((i : ℕ) → i < j → LegalLine (line_in u i))
      → UserStands dc u number word
  -- DC: there are not 13 + 45k user bytes, for the k descriptors that are not 0
  structures_13 : number ≡ 13
      → word ≡ dc → (length u ≡ user_length (structures_in u) → ⊥)
      → UserStands dc u number word
  -- the first byte of a run-in or framing code that is another
  run_in_20 : (j i : ℕ) → number ≡ 20 → j < structures_in u → i < 3
      → UserByte dc u (structure_at j + i) word
      → (get_or u (structure_at j + i) 0 ≡ get_or structure_opening i 0 → ⊥)
      → OpensRight u j i → ((h : ℕ) → h < j → OpensRight u h 3)
      → UserStands dc u number word
  -- the last user byte, the SDP checksum: all of them do not add up to 0 modulo 256
  sdp_checksum_12 : number ≡ 12
      → UserByte dc u (length u - 1) word → (sum u % 256 ≡ 0 → ⊥)
      → UserStands dc u number word
