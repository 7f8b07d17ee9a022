-- Where things stand in a packet, and what a refusal tells of its place: from the words alone, without the reader.
-- RULES, "Subtitling packet" and "Refusals"; 002, 4.2 and 5.1; SMPTE 291M. Words count from 0. `covered_in` and `user_in`
-- are parts of the words, by their places.
use Rattle.std.specs.Prelude.{ℕ, ◌+◌, ◌-◌, ◌/◌, ◌%◌, ◌≤◌, ◌<◌, ◌≡◌, List, [], ◌∷◌, length, get_or}
use Rattle.anc.specs.Words.{word_of, byte_of, ByteWords, checksum_of}
use Rattle.sdp.specs.Places.{UserStands}
use Rattle.subtitling.specs.Reading.{covered_in, user_in}

-- WHERE THINGS STAND

-- the ancillary data flag, words 0 to 2
abbrev pub flag_words : List ℕ
flag_words = 0x000 ∷ 0x3FF ∷ 0x3FF ∷ []

-- the bytes of DID and SDID, words 3 and 4
abbrev pub identifier_bytes : List ℕ
identifier_bytes = 0x43 ∷ 0x02 ∷ []

-- WHAT STANDS AT A PLACE

-- the first word that is not the flag's
pub record FlagBroken (s : List ℕ) (word : ℕ) : Type 0 where
  pub within : word < 3
  pub other : get_or s word 0 ≡ get_or flag_words word 0 → ⊥
  pub before : (i : ℕ) → i < word → get_or s i 0 ≡ get_or flag_words i 0

-- what is wrong at a word, for each number that reading gives
pub data Stands (s : List ℕ) (number word : ℕ) : Type 0 where
  -- more than 245 words were given, and this is how many
  long_1 : number ≡ 1
      → word ≡ length s → 245 < length s
      → Stands s number word
  -- fewer than 20 were given, and this is how many
  short_5 : number ≡ 5
      → word ≡ length s → length s < 20
      → Stands s number word
  -- the first word that is not the flag's
  flag_2 : number ≡ 2 → 20 ≤ length s
      → FlagBroken s word
      → Stands s number word
  -- the first word from DID to CS that is above 1023; those before it are words of bytes
  range_11 : number ≡ 11 → 3 ≤ word → word < length s
      → 1023 < get_or s word 0 → ByteWords s 3 word
      → Stands s number word
  -- the first word from DID to the last user word that is not the word of its byte
  parity_11 : number ≡ 11 → 3 ≤ word → word < length s - 1
      → (get_or s word 0 ≡ word_of (byte_of (get_or s word 0)) → ⊥) → ByteWords s 3 word
      → Stands s number word
  -- CS: its b9 is its b8
  inverse_11 : number ≡ 11 → 20 ≤ length s → word ≡ length s - 1
      → get_or s word 0 / 512 ≡ get_or s word 0 / 256 % 2 → ByteWords s 3 word
      → Stands s number word
  -- DID or SDID: another byte
  identifier_6 : (i : ℕ) → number ≡ 6 → 20 ≤ length s → i < 2 → word ≡ 3 + i
      → (byte_of (get_or s word 0) ≡ get_or identifier_bytes i 0 → ⊥)
      → Stands s number word
  -- DC: its byte is not the number of user words, 7 less than that of all words
  data_count_13 : number ≡ 13 → 20 ≤ length s → word ≡ 5
      → (byte_of (get_or s word 0) ≡ length s - 7 → ⊥)
      → Stands s number word
  -- a user word, or DC against the descriptors: DC stands in word 5, so that user byte i is that of word 6 + i. There
  -- are at least 13 user bytes here, so that 5 is not given
  user-words : 20 ≤ length s
      → UserStands 5 (user_in s) number word
      → Stands s number word
  -- CS: not the sum over the words from DID to the last user word
  checksum_12 : number ≡ 12 → 20 ≤ length s → word ≡ length s - 1
      → (get_or s word 0 ≡ checksum_of (covered_in s) → ⊥)
      → Stands s number word
