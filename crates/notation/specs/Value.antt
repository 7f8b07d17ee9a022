-- The value that a text tells (RULES, "Programs", PR-2): three words for reserved, flag and z, then five for each
-- record, as `cclist` prints them: priority, field and line in decimal, the two data bytes in hex.
use Rattle.std.specs.Prelude.{ℕ, ◌+◌, ◌-◌, ◌*◌, ◌<◌, min, Bool, true, false, not, ◌&&◌, List, [], ◌∷◌, ◌++◌, ltb, length, take, Option, Some, None}
use Rattle.lists.specs.Room.{filled}
use Rattle.scte20.specs.declared.Record.{Record}
use Rattle.scte20.specs.declared.CaptionUnit.{CaptionUnit}
use Rattle.scte20.specs.Value.{Content, blank, field_of}
use Rattle.listing.specs.Texts.{decimal, records_text, space}
use Rattle.notation.specs.Words.{words_of}

-- a character from one to another
abbrev pub between : ℕ → ℕ → ℕ → Bool
between low high c = not (ltb c low) && not (ltb high c)

-- 0 to 9
abbrev pub is_digit : ℕ → Bool
is_digit c = between 0x30 0x39 c

abbrev pub all_digits : List ℕ → Bool
all_digits [] = true
all_digits (c ∷ word) = is_digit c && all_digits word

-- one digit or more
unfoldable pub is_decimal : List ℕ → Bool
is_decimal word = all_digits word && not (ltb (length word) 1)

-- the number that digits write behind those before them
abbrev pub decimal_from : ℕ → List ℕ → ℕ
decimal_from n [] = n
decimal_from n (c ∷ word) = decimal_from (n * 10 + (c - 0x30)) word

abbrev pub decimal_of : List ℕ → ℕ
decimal_of word = decimal_from 0 word

-- what a byte of the struct can hold: a larger number becomes 255, which no item of a unit's value allows
abbrev pub capped_byte_of : List ℕ → ℕ
capped_byte_of word = min (decimal_of word) 255

-- what is told of z, which has no end in the struct: a larger number becomes 999,999,999, which no z may be
abbrev pub capped_of : List ℕ → ℕ
capped_of word = min (decimal_of word) 999999999

abbrev pub choose : Bool → ℕ → ℕ → ℕ
choose true a b = a
choose false a b = b

-- 0 to 9, A to F or a to f; else 16
unfoldable pub hex_digit : ℕ → ℕ
hex_digit c =
    choose (is_digit c) (c - 0x30)
    (choose (between 0x41 0x46 c) (c - 0x37) (choose (between 0x61 0x66 c) (c - 0x57) 16))

-- two hex digits
abbrev pub is_hex : List ℕ → Bool
is_hex [] = false
is_hex (a ∷ []) = false
is_hex (a ∷ b ∷ []) = not (ltb 15 (hex_digit a)) && not (ltb 15 (hex_digit b))
is_hex (a ∷ b ∷ c ∷ word) = false

abbrev pub hex_of : List ℕ → ℕ
hex_of [] = 0
hex_of (a ∷ []) = 0
hex_of (a ∷ b ∷ []) = hex_digit a * 16 + hex_digit b
hex_of (a ∷ b ∷ c ∷ word) = 0

-- priority, field, line, and the data bytes
abbrev pub is_record : List ℕ → List ℕ → List ℕ → List ℕ → List ℕ → Bool
is_record p f l a b = is_decimal p && (is_decimal f && (is_decimal l && (is_hex a && is_hex b)))

abbrev pub record_of : List ℕ → List ℕ → List ℕ → List ℕ → List ℕ → Record
record_of p f l a b =
    record {
      cc_priority = capped_byte_of p;
      field_number = record { 0 = capped_byte_of f };
      line_offset = capped_byte_of l;
      cc_data_1 = hex_of a;
      cc_data_2 = hex_of b;
    }

-- five words for each record, and none left over
abbrev pub are_records : List (List ℕ) → Bool
are_records [] = true
are_records (p ∷ []) = false
are_records (p ∷ f ∷ []) = false
are_records (p ∷ f ∷ l ∷ []) = false
are_records (p ∷ f ∷ l ∷ a ∷ []) = false
are_records (p ∷ f ∷ l ∷ a ∷ b ∷ words) = is_record p f l a b && are_records words

abbrev pub records_of : List (List ℕ) → List Record
records_of [] = []
records_of (p ∷ []) = []
records_of (p ∷ f ∷ []) = []
records_of (p ∷ f ∷ l ∷ []) = []
records_of (p ∷ f ∷ l ∷ a ∷ []) = []
records_of (p ∷ f ∷ l ∷ a ∷ b ∷ words) = record_of p f l a b ∷ records_of words

-- the struct counts all records, and holds as many as its array has places
abbrev pub unit_of : ℕ → ℕ → ℕ → List Record → CaptionUnit
unit_of reserved flag z rs =
    record { reserved = reserved; vbi_data_flag = flag; n = length rs; records = filled (take 31 rs) 31 blank; z = z }

-- what a text that cannot be read tells
abbrev pub unreadable : Option CaptionUnit
unreadable = None

abbrev pub meant_if : Bool → CaptionUnit → Option CaptionUnit
meant_if true u = Some u
meant_if false u = unreadable

abbrev pub meant_words : List (List ℕ) → Option CaptionUnit
meant_words [] = unreadable
meant_words (r ∷ []) = unreadable
meant_words (r ∷ f ∷ []) = unreadable
meant_words (r ∷ f ∷ z ∷ words) =
    meant_if (is_decimal r && (is_decimal f && (is_decimal z && are_records words)))
    (unit_of (capped_byte_of r) (capped_byte_of f) (capped_of z) (records_of words))

abbrev pub meant_of : List ℕ → Option CaptionUnit
meant_of text = meant_words (words_of text)

-- a value as it is typed: reserved, flag and z, then the lines that `cclist` prints of its records
abbrev pub unit_text : Content → List ℕ
unit_text c =
    decimal c.reserved
    ++ (space ++ (decimal c.flag ++ (space ++ (decimal c.z ++ (space ++ records_text c.records)))))

-- a record whose numbers are bytes
pub record InBytes (r : Record) : Type 0 where
  pub priority : r.cc_priority < 256
  pub field : field_of r < 256
  pub line : r.line_offset < 256
  pub data-1 : r.cc_data_1 < 256
  pub data-2 : r.cc_data_2 < 256
