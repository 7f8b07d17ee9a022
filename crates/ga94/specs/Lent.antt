-- A unit's records as bytes in a lent array, four bytes each, in the order of the struct: what the C interface lends
-- and is lent.
use Rattle.std.specs.Prelude.{ℕ, ◌*◌, ◌≡◌, Bool, true, false, List, [], ◌∷◌, ltb, get_or, Ok, Err}
use Rattle.std.proofs.lemmas.List.Edits.{sets}
use Rattle.lists.specs.Bytes.{Bytes}
use Rattle.lists.specs.Flat.{flat, taken}
use Rattle.refusal.specs.Verdict.{Verdict}
use Rattle.refusal.specs.Answers.{lent_of, Judged, judged_as}
use Rattle.ga94.specs.declared.Record.{Record}
use Rattle.ga94.specs.declared.Numbers.{Numbers}
use Rattle.ga94.specs.Value.{Content, CaptionUnit, none, stored}
use Rattle.ga94.specs.Reading.{content_verdict, value_of}

abbrev pub record_bytes : Record → List ℕ
record_bytes r = r.cc_valid ∷ r.cc_type ∷ r.cc_data_1 ∷ r.cc_data_2 ∷ []

abbrev pub records_bytes : List Record → List ℕ
records_bytes rs = flat record_bytes rs

-- the record that the first four bytes tell
unfoldable pub record_in : List ℕ → Record
record_in s =
    record {
      cc_valid = get_or s 0 0;
      cc_type = get_or s 1 0;
      cc_data_1 = get_or s 2 0;
      cc_data_2 = get_or s 3 0;
    }

abbrev pub lent_records : List ℕ → List Record
lent_records s = taken record_in 4 31 s

-- a record stored as the one of index i. Beyond the last place nothing is stored
abbrev pub stored_if : Bool → ℕ → Record → List ℕ → List ℕ
stored_if true i r s = sets s (4 * i) (record_bytes r)
stored_if false i r s = s

unfoldable pub stored_at : ℕ → Record → List ℕ → List ℕ
stored_at i r s = stored_if (ltb i 31) i r s

-- the value that numbers and a lent array tell
abbrev pub unit_in : Numbers → List ℕ → CaptionUnit
unit_in v s =
    record {
      process_em_data_flag = v.process_em_data_flag;
      process_cc_data_flag = v.process_cc_data_flag;
      additional_data_flag = v.additional_data_flag;
      em_data = v.em_data;
      n = v.n;
      records = lent_records s;
      z = v.z;
    }

abbrev pub numbers_of : CaptionUnit → Numbers
numbers_of u =
    record {
      process_em_data_flag = u.process_em_data_flag;
      process_cc_data_flag = u.process_cc_data_flag;
      additional_data_flag = u.additional_data_flag;
      em_data = u.em_data;
      n = u.n;
      z = u.z;
    }

-- what reading answers beside the records: the value's numbers, or the refusal
abbrev pub head_of : Verdict → Content → Judged Numbers
head_of verdict c = judged_as verdict (numbers_of (stored c))

-- the numbers that such an answer tells: in a refusal all are zero
abbrev pub numbers_in : Judged Numbers → Numbers
numbers_in (Ok v) = v
numbers_in (Err why) = numbers_of (stored none)

-- the promise of `read_into`: numbers or a refusal, and in the lent array all the value's records, zeros beyond n; a
-- refusal leaves the array as it was. By its type the input is a list of bytes; the code shows that too, so that the
-- theorems assume nothing
pub record ReadsInto (body lent : List ℕ) (r : Judged Numbers) (exit : List ℕ) : Type 0 where
  pub bytes : Bytes body
  pub answer : r ≡ head_of (content_verdict body) (value_of body)
  pub left : exit ≡ lent_of (content_verdict body) (records_bytes (stored (value_of body)).records) lent
