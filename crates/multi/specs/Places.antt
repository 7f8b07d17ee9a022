-- Where things stand in a multipacket, and what a refusal tells of its place: from the words alone, without the reader.
-- RULES, "Multipacket" and "Refusals"; 002, 6.1 and 6.2. Words count from 0.
use Rattle.std.specs.Prelude.{ℕ, ◌+◌, ◌-◌, ◌/◌, ◌%◌, ◌≤◌, ◌<◌, ◌≡◌, List, [], ◌∷◌, map, length, get_or}
use Rattle.lists.specs.Part.{part}
use Rattle.anc.specs.Words.{word_of, byte_of, ByteWords, checksum_of}
use Rattle.sdp.specs.Places.{UserStands}
use Rattle.multi.specs.Order.{covered_in}

-- WHERE THINGS STAND

-- the ancillary data flag, words 0 to 2
abbrev pub flag_words : List ℕ
flag_words = 0x000 ∷ 0x3FF ∷ 0x3FF ∷ []

-- the bytes of DID and SDID, words 3 and 4
abbrev pub identifier_bytes : List ℕ
identifier_bytes = 0x43 ∷ 0x03 ∷ []

-- CS is the last word, and the user words end before it
abbrev pub end : List ℕ → ℕ
end s = length s - 1

-- how many user words the inner packet has whose LINE/FIELD is word `at`, and in which word its NCS stands
abbrev pub ndc : List ℕ → ℕ → ℕ
ndc s at = byte_of (get_or s (at + 3) 0)

abbrev pub ncs : List ℕ → ℕ → ℕ
ncs s at = at + 4 + ndc s at

-- an inner packet may begin at this word: at word 7, or behind one that ends before CS
pub data Begins (s : List ℕ) : ℕ → Type 0 where
  first_inner : Begins s 7
  next_inner : (at : ℕ) → Begins s at → ncs s at < end s → Begins s (ncs s at + 1)

-- one does, and all of it stands before CS
pub record Complete (s : List ℕ) (at : ℕ) : Type 0 where
  pub begins : Begins s at
  pub before : ncs s at < end s

-- the first word that is not the flag's
pub record FlagBroken (s : List ℕ) (word : ℕ) : Type 0 where
  pub within : word < 3
  pub other : get_or s word 0 ≡ get_or flag_words word 0 → ⊥
  pub before : (i : ℕ) → i < word → get_or s i 0 ≡ get_or flag_words i 0

-- what is so whatever the value is: the flag, DID and SDID; and in each inner packet b6 and b7 of LINE/FIELD, and that NCS
-- is the sum over the words from NDID to the last user word
pub record FixedWords (s : List ℕ) : Type 0 where
  pub flag : (i : ℕ) → i < 3 → get_or s i 0 ≡ get_or flag_words i 0
  pub identifiers : (i : ℕ) → i < 2 → byte_of (get_or s (3 + i) 0) ≡ get_or identifier_bytes i 0
  pub unused : (at : ℕ) → Complete s at → byte_of (get_or s at 0) / 64 ≡ 0
  pub sums : (at : ℕ) → Complete s at → get_or s (ncs s at) 0 ≡ checksum_of (part (at + 1) (ncs s at) s)

-- WHAT STANDS AT A PLACE

-- what is wrong at a word, for each number that reading gives
pub data Stands (s : List ℕ) (number word : ℕ) : Type 0 where
  -- more than 262 words were given, and this is how many
  long_1 : number ≡ 1
      → word ≡ length s → 262 < length s
      → Stands s number word
  -- fewer than 8 were given, and this is how many
  short_5 : number ≡ 5
      → word ≡ length s → length s < 8
      → Stands s number word
  -- the first word that is not the flag's
  flag_2 : number ≡ 2 → 8 ≤ length s
      → FlagBroken s word
      → Stands s number word
  -- the first of DID, SDID, DC and the priority that is above 1023; those before it are words of bytes
  range_11 : number ≡ 11 → 8 ≤ length s → 3 ≤ word → word < 7
      → 1023 < get_or s word 0 → ByteWords s 3 word
      → Stands s number word
  -- the first of them that is not the word of its byte
  parity_11 : number ≡ 11 → 8 ≤ length s → 3 ≤ word → word < 7
      → (get_or s word 0 ≡ word_of (byte_of (get_or s word 0)) → ⊥) → ByteWords s 3 word
      → Stands s number word
  -- CS is above 1023
  sum_range_11 : number ≡ 11 → 8 ≤ length s → word ≡ end s
      → 1023 < get_or s word 0
      → Stands s number word
  -- CS: its b9 is its b8
  inverse_11 : number ≡ 11 → 8 ≤ length s → word ≡ end s
      → get_or s word 0 / 512 ≡ get_or s word 0 / 256 % 2
      → Stands s number word
  -- DID or SDID: another byte
  identifier_6 : (i : ℕ) → number ≡ 6 → 8 ≤ length s → i < 2 → word ≡ 3 + i
      → (byte_of (get_or s word 0) ≡ get_or identifier_bytes i 0 → ⊥)
      → Stands s number word
  -- DC: its byte is not the number of user words, 7 less than that of all words
  data_count_13 : number ≡ 13 → 8 ≤ length s → word ≡ 5
      → (byte_of (get_or s word 0) ≡ length s - 7 → ⊥)
      → Stands s number word
  -- there is no inner packet: CS stands behind the priority
  none_26 : number ≡ 26 → word ≡ 7
      → length s ≡ 8
      → Stands s number word
  -- an inner packet begins here, and CS stands before the end of its header
  header_26 : number ≡ 26 → 8 < length s → Begins s word → word < end s
      → end s < word + 4
      → Stands s number word
  -- or, by its NDC, before the end of its words
  words_26 : number ≡ 26 → 8 < length s → Begins s word → word + 4 ≤ end s
      → end s ≤ ncs s word
      → Stands s number word
  -- of an inner packet that is all there, the first word from LINE/FIELD to the last user word that is above 1023
  inner_range_11 : (at : ℕ) → number ≡ 11 → 8 < length s → Complete s at → at ≤ word → word < ncs s at
      → 1023 < get_or s word 0 → ByteWords s at word
      → Stands s number word
  -- or not the word of its byte
  inner_parity_11 : (at : ℕ) → number ≡ 11 → 8 < length s → Complete s at → at ≤ word → word < ncs s at
      → (get_or s word 0 ≡ word_of (byte_of (get_or s word 0)) → ⊥) → ByteWords s at word
      → Stands s number word
  -- NCS is above 1023
  ncs_range_11 : (at : ℕ) → number ≡ 11 → 8 < length s → Complete s at → word ≡ ncs s at
      → 1023 < get_or s word 0
      → Stands s number word
  -- NCS: its b9 is its b8
  ncs_inverse_11 : (at : ℕ) → number ≡ 11 → 8 < length s → Complete s at → word ≡ ncs s at
      → get_or s word 0 / 512 ≡ get_or s word 0 / 256 % 2
      → Stands s number word
  -- LINE/FIELD: b6 or b7 is not 0
  line_field_6 : number ≡ 6 → 8 < length s → Complete s word
      → (byte_of (get_or s word 0) / 64 ≡ 0 → ⊥)
      → Stands s number word
  -- a user word of an inner packet 143, 102, or its NDC, which stands in word at + 3
  user-words : (at : ℕ) → 8 < length s → Complete s at
      → byte_of (get_or s (at + 1) 0) ≡ 0x43 → byte_of (get_or s (at + 2) 0) ≡ 0x02
      → UserStands (at + 3) (map byte_of (part (at + 4) (ncs s at) s)) number word
      → Stands s number word
  -- NCS: not the sum over the words from NDID to the last user word
  ncs_12 : (at : ℕ) → number ≡ 12 → 8 < length s → Complete s at → word ≡ ncs s at
      → (get_or s word 0 ≡ checksum_of (part (at + 1) (ncs s at) s) → ⊥)
      → Stands s number word
  -- CS: not the sum over the words from DID to the last user word
  checksum_12 : number ≡ 12 → 8 ≤ length s → word ≡ end s
      → (get_or s word 0 ≡ checksum_of (covered_in s) → ⊥)
      → Stands s number word
