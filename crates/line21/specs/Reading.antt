-- What reading a Line 21 payload answers, for every list of bytes. RULES, "Order of checks": 2, 1, 13.
use Rattle.std.specs.Prelude.{ℕ, ◌-◌, ◌/◌, ◌%◌, ◌≡◌, not, List, [], ◌∷◌, eqb, ltb, length, get_or, take, drop, Result, Ok, Err}
use Rattle.lists.specs.Bytes.{Bytes}
use Rattle.lists.specs.Flat.{taken}
use Rattle.refusal.specs.Verdict.{Verdict}
use Rattle.refusal.specs.Verdict.{Accepted, Refused}
use Rattle.refusal.specs.declared.Refusal.{Refusal}
use Rattle.refusal.specs.declared.Reason.TheVariants.{NoStart, TooLong, Unfit}
use Rattle.refusal.specs.declared.Misfit.TheVariants.{PayloadLength}
use Rattle.refusal.specs.declared.Item.TheVariants.{Length}
use Rattle.refusal.specs.Checks.{refuse_if, first}
use Rattle.refusal.specs.Numbers.{refusal_of}
use Rattle.line21.specs.declared.AccessUnit.{AccessUnit}
use Rattle.line21.specs.declared.Answer.{Answer}
use Rattle.line21.specs.declared.Head.{Head}
use Rattle.line21.specs.Value.{Line21, none, stored, held}

-- 2 a payload of length 0; 1 longer than 1,456 bytes; 13 not one byte and whole units of 5
unfoldable pub length_verdict : ℕ → Verdict
length_verdict n =
    first
    (refuse_if (eqb n 0) NoStart (Length n)
    ∷ refuse_if (ltb 1456 n) TooLong (Length n)
    ∷ refuse_if (not (eqb ((n - 1) % 5) 0)) (Unfit PayloadLength) (Length n)
    ∷ [])

-- how many units follow the flags byte (004, 3.2.1: (payload size - flags byte) / 5)
abbrev pub unit_count : ℕ → ℕ
unit_count n = (n - 1) / 5

-- the unit that the first five bytes hold
unfoldable pub read_unit : List ℕ → AccessUnit
read_unit s =
    record {
      cc_valid_1 = get_or s 0 0 / 128;
      cc_valid_2 = get_or s 0 0 / 64 % 2;
      padding = get_or s 0 0 % 64;
      field1_data1 = get_or s 1 0;
      field1_data2 = get_or s 2 0;
      field2_data1 = get_or s 3 0;
      field2_data2 = get_or s 4 0;
    }

-- the first k units
abbrev pub read_units : ℕ → List ℕ → List AccessUnit
read_units k s = taken read_unit 5 k s

abbrev pub value_of : List ℕ → Line21
value_of s = record { flags = get_or s 0 0; units = read_units (unit_count (length s)) (drop 1 s) }

-- a refusal returns no units, and all else in it is zero
abbrev pub answer_of : Verdict → Line21 → Answer
answer_of Accepted v = record { refusal = refusal_of Accepted; payload = stored v }
answer_of (Refused reason item) v = record { refusal = refusal_of (Refused reason item); payload = stored none }

abbrev pub read_of : List ℕ → Answer
read_of s = answer_of (length_verdict (length s)) (value_of s)

abbrev pub head_of : Answer → Head
head_of r = record { refusal = r.refusal; flags = r.payload.flags; m = r.payload.m }

-- an answer about one unit: the unit; or, where none has that index, the payload's refusal
abbrev pub One : Type 0
One = Result AccessUnit Refusal

-- what it says: number and place, and the unit if there is one
abbrev pub values_of : One → Refusal × List AccessUnit
values_of (Ok u) = (refusal_of Accepted, u ∷ [])
values_of (Err refusal) = (refusal, [])

-- the promise of `read`. By its type the input is a list of bytes: the code shows it, so that no theorem assumes it
pub record Reads (s : List ℕ) (r : Answer) : Type 0 where
  pub bytes : Bytes s
  pub answer : r ≡ read_of s

-- the promise of `read_head`
abbrev pub ReadsHead : List ℕ → Head → Type 0
ReadsHead s r = r ≡ head_of (read_of s)

-- the promise of `read_unit`: the unit of index i and no other, and none beyond the last
abbrev pub ReadsUnit : List ℕ → ℕ → One → Type 0
ReadsUnit s i r = values_of r ≡ ((read_of s).refusal, take 1 (drop i (held (read_of s).payload).units))
