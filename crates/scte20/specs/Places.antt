-- Where the elements of a caption unit's body stand, and what a refusal tells of its place: from the bits of the body
-- alone, without the reader. RULES, "Picture area" and "Refusals"; document 001, 5.4 to 5.8.
use Rattle.std.specs.Prelude.{ℕ, zero, suc, ◌+◌, ◌*◌, ◌≤◌, ◌<◌, ◌≡◌, true, ◌&&◌, List, eqb, length, get_or}
use Rattle.bits.specs.Bits.{num, field}
use Rattle.stuffing.specs.Zeros.{FirstOne}
use Rattle.kind.specs.Ours.{group_type}
use Rattle.scte20.specs.declared.Record.{Record}
use Rattle.scte20.specs.Value.{Content, flag_byte, field_of, count_if, blank}
use Rattle.scte20.specs.Layout.{construct_bits}

-- THE ELEMENTS

-- those that a check looks at, in the order of the table. Constructs count from 0; `construct` is all 26 bits of one.
-- `video_count n` is non_real_time_video_count behind n constructs
pub data Element : Type 0 where
  user-data-type-code : Element
  reserved_bits : Element
  vbi-data-flag : Element
  cc-count : Element
  construct : ℕ → Element
  cc-priority : ℕ → Element
  field-number : ℕ → Element
  line-offset : ℕ → Element
  marker : ℕ → Element
  video_count : ℕ → Element

-- the bit of the body at which an element begins
abbrev pub first_bit : Element → ℕ
first_bit user-data-type-code = 0
first_bit reserved_bits = 8
first_bit vbi-data-flag = 15
first_bit cc-count = 16
first_bit (construct i) = 21 + 26 * i
first_bit (cc-priority i) = 21 + 26 * i
first_bit (field-number i) = 21 + 26 * i + 2
first_bit (line-offset i) = 21 + 26 * i + 4
first_bit (marker i) = 21 + 26 * i + 25
first_bit (video_count n) = 21 + 26 * n

-- how many bits it has
abbrev pub bit_count : Element → ℕ
bit_count user-data-type-code = 8
bit_count reserved_bits = 7
bit_count vbi-data-flag = 1
bit_count cc-count = 5
bit_count (construct i) = 26
bit_count (cc-priority i) = 2
bit_count (field-number i) = 2
bit_count (line-offset i) = 5
bit_count (marker i) = 1
bit_count (video_count n) = 4

-- the number that stands there
abbrev pub element_in : List ℕ → Element → ℕ
element_in xs e = field xs (first_bit e) (bit_count e)

-- which elements a body with this flag and this cc_count has
abbrev pub Has : ℕ → ℕ → Element → Type 0
Has flag n user-data-type-code = Unit {0}
Has flag n reserved_bits = Unit {0}
Has flag n vbi-data-flag = Unit {0}
Has flag n cc-count = flag ≡ 1
Has flag n (construct i) = (flag ≡ 1) × (i < n)
Has flag n (cc-priority i) = (flag ≡ 1) × (i < n)
Has flag n (field-number i) = (flag ≡ 1) × (i < n)
Has flag n (line-offset i) = (flag ≡ 1) × (i < n)
Has flag n (marker i) = (flag ≡ 1) × (i < n)
Has flag n (video_count m) = (flag ≡ 1) × (m ≡ n)

abbrev pub HasIn : List ℕ → Element → Type 0
HasIn xs e = Has (element_in xs vbi-data-flag) (element_in xs cc-count) e

-- how many bits the items take, with this flag and this cc_count: behind them the zeros begin, of the alignment and of
-- the stuffing
abbrev pub bits_in : ℕ → ℕ → ℕ
bits_in zero n = 16
bits_in (suc flag) n = 25 + 26 * n

-- where they begin in a body
abbrev pub zeros_in : List ℕ → ℕ
zeros_in xs = bits_in (element_in xs vbi-data-flag) (element_in xs cc-count)

-- how many of the first i constructs are of field f and have priority 0
abbrev pub urgent_in : List ℕ → ℕ → ℕ → ℕ
urgent_in xs f zero = 0
urgent_in xs f (suc i) =
    count_if (eqb (element_in xs (field-number i)) f && eqb (element_in xs (cc-priority i)) 0) + urgent_in xs f i

-- WHAT STANDS AT A PLACE

-- an element that the body has begins at the bit, and all of it is there
pub record Complete (xs : List ℕ) (e : Element) (bit : ℕ) : Type 0 where
  pub has : HasIn xs e
  pub here : bit ≡ first_bit e
  pub all : bit + bit_count e ≤ length xs

-- what is wrong at the bit of a body, for each number that reading gives
pub data Stands (xs : List ℕ) (number bit : ℕ) : Type 0 where
  -- an element begins there, and fewer bits are left than it has
  ends_5 : (e : Element) → number ≡ 5
      → HasIn xs e → bit ≡ first_bit e → bit ≤ length xs → length xs < bit + bit_count e
      → Stands xs number bit
  -- user_data_type_code is not 03; an area has no caption unit of this kind
  type_code_6 : number ≡ 6
      → Complete xs user-data-type-code bit → (element_in xs user-data-type-code ≡ 3 → ⊥)
      → Stands xs number bit
  -- the reserved bits, from this bit on, and the flag make 09 or 0A; an area has no caption unit of this kind
  group_type_6 : number ≡ 6
      → Complete xs reserved_bits bit → bit + 8 ≤ length xs
      → group_type (flag_byte (element_in xs reserved_bits) (element_in xs vbi-data-flag)) ≡ true
      → Stands xs number bit
  -- a field_number is 0
  field_zero_7 : (i : ℕ) → number ≡ 7
      → Complete xs (field-number i) bit → element_in xs (field-number i) ≡ 0
      → Stands xs number bit
  -- a field_number is below that of the construct before
  field_falls_8 : (i : ℕ) → number ≡ 8
      → Complete xs (field-number (suc i)) bit
      → element_in xs (field-number (suc i)) < element_in xs (field-number i)
      → Stands xs number bit
  -- a line_offset is not above that of the construct before, which is of the same field
  line_stays_8 : (i : ℕ) → number ≡ 8
      → Complete xs (line-offset (suc i)) bit
      → element_in xs (field-number (suc i)) ≡ element_in xs (field-number i)
      → element_in xs (line-offset (suc i)) ≤ element_in xs (line-offset i)
      → Stands xs number bit
  -- a cc_priority is 0, and four constructs before it, of the same field, have priority 0
  fifth_9 : (i : ℕ) → number ≡ 9
      → Complete xs (cc-priority i) bit
      → element_in xs (cc-priority i) ≡ 0
      → 4 ≤ urgent_in xs (element_in xs (field-number i)) i
      → Stands xs number bit
  -- non_real_time_video_count is not 0
  video_count_10 : (n : ℕ) → number ≡ 10
      → Complete xs (video_count n) bit → (element_in xs (video_count n) ≡ 0 → ⊥)
      → Stands xs number bit
  -- a marker is 0
  marker_18 : (i : ℕ) → number ≡ 18
      → Complete xs (marker i) bit → element_in xs (marker i) ≡ 0
      → Stands xs number bit
  -- the first bit that is 1 among those of the alignment and of the stuffing
  zeros_19 : number ≡ 19
      → FirstOne xs (zeros_in xs) bit
      → Stands xs number bit

-- WHAT THE LAYOUT HAS THERE

abbrev pub record_at : Content → ℕ → Record
record_at c i = get_or c.records i blank

-- the number that a value has for an element
abbrev pub value_in : Content → Element → ℕ
value_in c user-data-type-code = 3
value_in c reserved_bits = c.reserved
value_in c vbi-data-flag = c.flag
value_in c cc-count = length c.records
value_in c (construct i) = num (construct_bits (record_at c i))
value_in c (cc-priority i) = (record_at c i).cc_priority
value_in c (field-number i) = field_of (record_at c i)
value_in c (line-offset i) = (record_at c i).line_offset
value_in c (marker i) = 1
value_in c (video_count n) = 0
