-- What `cclist` prints for an answer, as bytes. RULES, "Programs". Each line ends with one line feed.
use Rattle.std.specs.Prelude.{ℕ, zero, suc, ◌/◌, ◌%◌, ◌≡◌, Bool, true, false, List, [], ◌∷◌, ◌++◌, eqb, ltb, length, get_or}
use Rattle.lists.specs.Room.{filled}
use Rattle.refusal.specs.declared.Refusal.{Refusal}
use Rattle.scte20.specs.declared.Record.{Record}
use Rattle.scte20.specs.Value.{field_of, held}
use Rattle.picture.specs.declared.Answer.{Answer}
use Rattle.listing.specs.declared.Text.{Text}

-- the characters 0 to 9 and A to F
abbrev pub digit : ℕ → ℕ
digit n =
    get_or
    (0x30 ∷ 0x31 ∷ 0x32 ∷ 0x33 ∷ 0x34 ∷ 0x35 ∷ 0x36 ∷ 0x37 ∷ 0x38 ∷ 0x39 ∷ 0x41 ∷ 0x42 ∷ 0x43 ∷ 0x44 ∷ 0x45 ∷ 0x46 ∷ [])
    n 0

-- the last digit alone, or behind the digits before it
abbrev pub digits_before : Bool → List ℕ → List ℕ → List ℕ
digits_before true more last = last
digits_before false more last = more ++ last

-- the digits of n; k is how many there may be
abbrev pub digits_of : ℕ → ℕ → List ℕ
digits_of zero n = []
digits_of (suc k) n = digits_before (ltb n 10) (digits_of k (n / 10)) (digit (n % 10) ∷ [])

-- a number in decimal: no number of the code has more than 20 digits
unfoldable pub decimal : ℕ → List ℕ
decimal n = digits_of 20 n

-- a byte as two upper-case hex digits
abbrev pub hex : ℕ → List ℕ
hex b = digit (b / 16) ∷ digit (b % 16) ∷ []

-- a space, and a line's end
abbrev pub space : List ℕ
space = 0x20 ∷ []

abbrev pub line_feed : List ℕ
line_feed = 0x0A ∷ []

-- "refused N at P"
abbrev pub refused_text : Refusal → List ℕ
refused_text r =
    (0x72 ∷ 0x65 ∷ 0x66 ∷ 0x75 ∷ 0x73 ∷ 0x65 ∷ 0x64 ∷ 0x20 ∷ [])
    ++ (decimal r.number ++ ((0x20 ∷ 0x61 ∷ 0x74 ∷ 0x20 ∷ []) ++ (decimal r.place ++ line_feed)))

-- "none"
abbrev pub none_text : List ℕ
none_text = 0x6E ∷ 0x6F ∷ 0x6E ∷ 0x65 ∷ 0x0A ∷ []

-- "priority field line data"
abbrev pub head_text : List ℕ
head_text =
    0x70 ∷ 0x72 ∷ 0x69 ∷ 0x6F ∷ 0x72 ∷ 0x69 ∷ 0x74 ∷ 0x79 ∷ 0x20
    ∷ 0x66 ∷ 0x69 ∷ 0x65 ∷ 0x6C ∷ 0x64 ∷ 0x20
    ∷ 0x6C ∷ 0x69 ∷ 0x6E ∷ 0x65 ∷ 0x20
    ∷ 0x64 ∷ 0x61 ∷ 0x74 ∷ 0x61 ∷ 0x0A ∷ []

abbrev pub record_text : Record → List ℕ
record_text r =
    decimal r.cc_priority
    ++ (space
    ++ (decimal (field_of r)
    ++ (space
    ++ (decimal r.line_offset
    ++ (space ++ (hex r.cc_data_1 ++ (space ++ (hex r.cc_data_2 ++ line_feed))))))))

abbrev pub records_text : List Record → List ℕ
records_text [] = []
records_text (r ∷ rs) = record_text r ++ records_text rs

-- accepted or not, with a caption unit or without
abbrev pub answer_text : Bool → Bool → Answer → List ℕ
answer_text false present a = refused_text a.refusal
answer_text true false a = none_text
answer_text true true a = head_text ++ records_text (held a.unit).records

unfoldable pub text_of : Answer → List ℕ
text_of a = answer_text (eqb a.refusal.number 0) a.present a

-- a text that holds these bytes, and zeros beyond them
pub record HoldsText (bytes : List ℕ) (t : Text) : Type 0 where
  pub counted : t.len ≡ length bytes
  pub stands : t.bytes ≡ filled bytes 640 0
