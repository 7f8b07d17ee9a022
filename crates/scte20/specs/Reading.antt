-- The verdict on a caption unit's body, and the value that it holds, for every list of bytes. RULES, "Order of checks":
-- from the first bit to the last, and whether an item is all there comes before what it holds.
--
-- A refusal has the bit of the body at which the failing item begins.
use Rattle.std.specs.Prelude.{ℕ, zero, suc, ◌+◌, ◌-◌, ◌*◌, not, List, [], ◌∷◌, eqb, ltb, length, take, drop}
use Rattle.refusal.specs.Verdict.{Verdict}
use Rattle.refusal.specs.Verdict.{Accepted}
use Rattle.refusal.specs.declared.Reason.TheVariants.{TooLong, Ends, Unfixed, SampledVideo}
use Rattle.refusal.specs.declared.Fixed.TheVariants.{Marker, Alignment, Stuffing, Identifier}
use Rattle.refusal.specs.declared.Item.TheVariants.{Whole, Bit}
use Rattle.refusal.specs.Checks.{refuse_if, and_then, first}
use Rattle.bits.specs.Bits.{bits_of, field, reversed}
use Rattle.stuffing.specs.Zeros.{zero_verdict}
use Rattle.kind.specs.Ours.{group_type}
use Rattle.scte20.specs.declared.Record.{Record}
use Rattle.scte20.specs.Value.{Content, flag_byte}
use Rattle.scte20.specs.Layout.{padding, size_in}
use Rattle.scte20.specs.Rules.{record_verdict}

-- 5: fewer than w bits are left at bit `at`
unfoldable pub missing : ℕ → ℕ → List ℕ → Verdict
missing at w xs = refuse_if (ltb (length xs) (at + w)) Ends (Bit at)

-- the construct that begins at bit `at`, and its marker
unfoldable pub construct_at : ℕ → List ℕ → Record
construct_at at xs =
    record {
      cc_priority = field xs at 2;
      field_number = record { 0 = field xs (at + 2) 2 };
      line_offset = field xs (at + 4) 5;
      cc_data_1 = reversed (field xs (at + 9) 8);
      cc_data_2 = reversed (field xs (at + 17) 8);
    }

unfoldable pub marker_verdict : ℕ → List ℕ → Verdict
marker_verdict at xs = refuse_if (not (eqb (field xs (at + 25) 1) 1)) (Unfixed Marker) (Bit (at + 25))

-- k constructs from bit `at` on, behind these records, the latest first
abbrev pub constructs_verdict : List Record → ℕ → ℕ → List ℕ → Verdict
constructs_verdict before zero at xs = Accepted
constructs_verdict before (suc k) at xs =
    first
    (missing at 26 xs
    ∷ record_verdict at before (construct_at at xs)
    ∷ marker_verdict at xs
    ∷ constructs_verdict (construct_at at xs ∷ before) k (at + 26) xs
    ∷ [])

abbrev pub records_at : ℕ → ℕ → List ℕ → List Record
records_at zero at xs = []
records_at (suc k) at xs = construct_at at xs ∷ records_at k (at + 26) xs

-- the sampled video count at bit `at`
unfoldable pub sampled_verdict : ℕ → List ℕ → Verdict
sampled_verdict at xs = first (missing at 4 xs ∷ refuse_if (not (eqb (field xs at 4) 0)) SampledVideo (Bit at) ∷ [])

-- what follows the count, which ends before bit `at`: zero bits up to a whole byte, then stuffing
unfoldable pub rest_verdict : ℕ → List ℕ → Verdict
rest_verdict at xs =
    first
    (zero_verdict Alignment at (take (padding at) (drop at xs))
    ∷ zero_verdict Stuffing (at + padding at) (drop (at + padding at) xs)
    ∷ [])

abbrev pub reserved_in : List ℕ → ℕ
reserved_in xs = field xs 8 7

abbrev pub flag_in : List ℕ → ℕ
flag_in xs = field xs 15 1

-- what stands before the flag's decision. A body of an area's caption unit is shorter than 16,384 bytes and begins 03,
-- and neither 09 nor 0A follows, so that 1 and 6 are never given there
unfoldable pub head_verdict : List ℕ → Verdict
head_verdict body =
    first
    (refuse_if (ltb 16384 (length body)) TooLong Whole
    ∷ missing 0 8 (bits_of body)
    ∷ refuse_if (not (eqb (field (bits_of body) 0 8) 3)) (Unfixed Identifier) (Bit 0)
    ∷ missing 8 7 (bits_of body)
    ∷ missing 15 1 (bits_of body)
    ∷ refuse_if (group_type (flag_byte (reserved_in (bits_of body)) (flag_in (bits_of body)))) (Unfixed Identifier) (Bit 8)
    ∷ [])

-- cc_count
abbrev pub count_in : List ℕ → ℕ
count_in xs = field xs 16 5

-- with flag 0 the content is two bytes
abbrev pub flag_verdict : ℕ → List ℕ → Verdict
flag_verdict zero xs = rest_verdict 16 xs
flag_verdict (suc f) xs =
    first
    (missing 16 5 xs
    ∷ constructs_verdict [] (count_in xs) 21 xs
    ∷ sampled_verdict (21 + 26 * count_in xs) xs
    ∷ rest_verdict (25 + 26 * count_in xs) xs
    ∷ [])

unfoldable pub content_verdict : List ℕ → Verdict
content_verdict body = and_then (head_verdict body) (flag_verdict (flag_in (bits_of body)) (bits_of body))

abbrev pub records_in : ℕ → List ℕ → List Record
records_in zero xs = []
records_in (suc f) xs = records_at (count_in xs) 21 xs

unfoldable pub value_of : List ℕ → Content
value_of body =
    record {
      reserved = reserved_in (bits_of body);
      flag = flag_in (bits_of body);
      records = records_in (flag_in (bits_of body)) (bits_of body);
      z = length body - size_in (flag_in (bits_of body)) (count_in (bits_of body));
    }
