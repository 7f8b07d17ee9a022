-- Where the elements of a GA94 unit's body stand, and what a refusal tells of its place: from the bits of the body
-- alone, without the reader. RULES, "GA94" and "Refusals"; document 003, Table 3.
use Rattle.std.specs.Prelude.{ℕ, ◌+◌, ◌*◌, ◌≤◌, ◌<◌, ◌≡◌, List, length, get_or}
use Rattle.bits.specs.Bits.{num, field}
use Rattle.stuffing.specs.Zeros.{FirstOne}
use Rattle.ga94.specs.declared.Record.{Record}
use Rattle.ga94.specs.Value.{Content, blank}
use Rattle.ga94.specs.Layout.{flags_byte, construct_bits}

-- THE ELEMENTS

-- those that a check looks at, in the order of the table. `flags-byte` is the three flags and cc_count, which are asked
-- for at once. Constructs count from 0; `construct` is all 24 bits of one. `closing n` is the marker_bits 1111 1111
-- behind n constructs
pub data Element : Type 0 where
  atsc_identifier : Element
  user-data-type-code : Element
  flags-byte : Element
  additional-data-flag : Element
  cc-count : Element
  em-data : Element
  construct : ℕ → Element
  marker-bits : ℕ → Element
  closing : ℕ → Element

-- the bit of the body at which an element begins
abbrev pub first_bit : Element → ℕ
first_bit atsc_identifier = 0
first_bit user-data-type-code = 32
first_bit flags-byte = 40
first_bit additional-data-flag = 42
first_bit cc-count = 43
first_bit em-data = 48
first_bit (construct i) = 8 * (7 + 3 * i)
first_bit (marker-bits i) = 8 * (7 + 3 * i)
first_bit (closing n) = 8 * (7 + 3 * n)

-- how many bits it has
abbrev pub bit_count : Element → ℕ
bit_count atsc_identifier = 32
bit_count user-data-type-code = 8
bit_count flags-byte = 8
bit_count additional-data-flag = 1
bit_count cc-count = 5
bit_count em-data = 8
bit_count (construct i) = 24
bit_count (marker-bits i) = 5
bit_count (closing n) = 8

-- the number that stands there
abbrev pub element_in : List ℕ → Element → ℕ
element_in xs e = field xs (first_bit e) (bit_count e)

-- which elements a body with this cc_count has
abbrev pub Has : ℕ → Element → Type 0
Has n atsc_identifier = Unit {0}
Has n user-data-type-code = Unit {0}
Has n flags-byte = Unit {0}
Has n additional-data-flag = Unit {0}
Has n cc-count = Unit {0}
Has n em-data = Unit {0}
Has n (construct i) = i < n
Has n (marker-bits i) = i < n
Has n (closing m) = m ≡ n

abbrev pub HasIn : List ℕ → Element → Type 0
HasIn xs e = Has (element_in xs cc-count) e

-- where the zeros of the stuffing begin: behind the closing marker_bits
abbrev pub zeros_in : List ℕ → ℕ
zeros_in xs = 8 * (8 + 3 * element_in xs cc-count)

-- WHAT STANDS AT A PLACE

-- an element that the body has begins at the bit, and all of it is there
pub record Complete (xs : List ℕ) (e : Element) (bit : ℕ) : Type 0 where
  pub has : HasIn xs e
  pub here : bit ≡ first_bit e
  pub all : bit + bit_count e ≤ length xs

-- what is wrong at the bit of a body, for each number that reading gives
pub data Stands (xs : List ℕ) (number bit : ℕ) : Type 0 where
  -- an element begins there, and fewer bits are left than it has
  ends_5 : (e : Element) → number ≡ 5
      → HasIn xs e → bit ≡ first_bit e → bit ≤ length xs → length xs < bit + bit_count e
      → Stands xs number bit
  -- another identifier, or another type; an area has no GA94 unit of this kind
  identifier_6 : number ≡ 6
      → Complete xs atsc_identifier bit → (element_in xs atsc_identifier ≡ 0x47413934 → ⊥)
      → Stands xs number bit
  type_code_6 : number ≡ 6
      → Complete xs user-data-type-code bit → (element_in xs user-data-type-code ≡ 3 → ⊥)
      → Stands xs number bit
  -- additional_data_flag is 1
  additional_16 : number ≡ 16
      → Complete xs additional-data-flag bit → element_in xs additional-data-flag ≡ 1
      → Stands xs number bit
  -- the marker_bits of a construct are not 1 1 1 1 1
  marker_18 : (i : ℕ) → number ≡ 18
      → Complete xs (marker-bits i) bit → (element_in xs (marker-bits i) ≡ 31 → ⊥)
      → Stands xs number bit
  -- the closing marker_bits are not FF
  closing_18 : (n : ℕ) → number ≡ 18
      → Complete xs (closing n) bit → (element_in xs (closing n) ≡ 0xFF → ⊥)
      → Stands xs number bit
  -- the first bit that is 1 among those of the stuffing
  zeros_19 : number ≡ 19
      → FirstOne xs (zeros_in xs) bit
      → Stands xs number bit

-- WHAT THE LAYOUT HAS THERE

abbrev pub record_at : Content → ℕ → Record
record_at c i = get_or c.records i blank

-- the number that a value has for an element
abbrev pub value_in : Content → Element → ℕ
value_in c atsc_identifier = 0x47413934
value_in c user-data-type-code = 3
value_in c flags-byte = flags_byte c
value_in c additional-data-flag = c.additional_data_flag
value_in c cc-count = length c.records
value_in c em-data = c.em_data
value_in c (construct i) = num (construct_bits (record_at c i))
value_in c (marker-bits i) = 31
value_in c (closing n) = 0xFF
