-- RULES, "Order of checks", for caption content: all checks of reading and of writing, each of the input alone, in the
-- order of RULES.
use Rattle.std.specs.Prelude.{ℕ, zero, suc, ◌+◌, ◌*◌, not, ◌&&◌, List, [], ◌∷◌, ◌++◌, eqb, ltb, length, take, drop}
use Rattle.refusal.specs.Verdict.{Verdict}
use Rattle.refusal.specs.declared.Reason.TheVariants.{TooLong, Ends, Unfixed, FieldNumberZero, FieldFalls, LineDoesNotRise, FifthPriority, SampledVideo, NoRoom, Unholdable}
use Rattle.refusal.specs.declared.Fixed.TheVariants.{Marker, Alignment, Stuffing, Identifier}
use Rattle.refusal.specs.declared.Excess.TheVariants as excess
use Rattle.refusal.specs.declared.Item.TheVariants.{Whole, Bit}
use Rattle.refusal.specs.Checks.{refuse_if}
use Rattle.bits.specs.Bits.{bits_of, field}
use Rattle.stuffing.specs.Zeros.{zero_checks}
use Rattle.kind.specs.Ours.{group_type}
use Rattle.scte20.specs.declared.Record.{Record}
use Rattle.scte20.specs.declared.CaptionUnit.{CaptionUnit}
use Rattle.scte20.specs.Value.{flag_byte, field_of, urgent, held}
use Rattle.scte20.specs.Layout.{padding}
use Rattle.scte20.specs.Rules.{falls, not_rising}
use Rattle.scte20.specs.Reading.{construct_at, reserved_in, flag_in, count_in}

-- READING

-- 5: fewer than w bits are left at bit `at`
abbrev pub ends : ℕ → ℕ → List ℕ → Verdict
ends at w xs = refuse_if (ltb (length xs) (at + w)) Ends (Bit at)

-- a record that begins at bit `at`, behind these records, the latest first
abbrev pub record_checks : ℕ → List Record → Record → List Verdict
record_checks at before r =
    -- 7: field_number 0
    refuse_if (eqb (field_of r) 0) FieldNumberZero (Bit (at + 2))
    -- 8: the field falls
    ∷ refuse_if (falls before r) FieldFalls (Bit (at + 2))
    -- 8: the line does not rise
    ∷ refuse_if (not_rising before r) LineDoesNotRise (Bit (at + 4))
    -- 9: a fifth priority 0 in one field
    ∷ refuse_if (eqb r.cc_priority 0 && ltb 3 (urgent (field_of r) before)) FifthPriority (Bit at)
    ∷ []

-- each of k constructs in order, the first from bit `at` on, behind these records
abbrev pub constructs_checks : List Record → ℕ → ℕ → List ℕ → List Verdict
constructs_checks before zero at xs = []
constructs_checks before (suc k) at xs =
    -- 5: fewer than 26 bits left
    ends at 26 xs
    -- 7, 8, 8, 9
    ∷ (record_checks at before (construct_at at xs)
    -- 18: the marker
    ++ (refuse_if (not (eqb (field xs (at + 25) 1) 1)) (Unfixed Marker) (Bit (at + 25))
    ∷ constructs_checks (construct_at at xs ∷ before) k (at + 26) xs))

-- 19: alignment bits, from bit `at` up to a whole byte, then stuffing
abbrev pub rest_checks : ℕ → List ℕ → List Verdict
rest_checks at xs =
    zero_checks Alignment at (take (padding at) (drop at xs))
    ++ zero_checks Stuffing (at + padding at) (drop (at + padding at) xs)

-- behind the flag: with flag 0 the content is two bytes
abbrev pub flag_checks : ℕ → List ℕ → List Verdict
flag_checks zero xs =
    -- 19: stuffing (no bit is left to align)
    rest_checks 16 xs
flag_checks (suc f) xs =
    -- 5: cc_count
    ends 16 5 xs
    -- 5, 7, 8, 8, 9, 18: each construct
    ∷ (constructs_checks [] (count_in xs) 21 xs
    -- 5: the sampled video count
    ++ (ends (21 + 26 * count_in xs) 4 xs
    -- 10: it is above 0
    ∷ refuse_if (not (eqb (field xs (21 + 26 * count_in xs) 4) 0)) SampledVideo (Bit (21 + 26 * count_in xs))
    -- 19: alignment bits, then stuffing
    ∷ rest_checks (25 + 26 * count_in xs) xs))

-- a unit's body. A caption unit's in an area is shorter than 16,384 bytes and begins 03, and neither 09 nor 0A follows,
-- so that 1 and 6 are never given there
abbrev pub reading_checks : List ℕ → List Verdict
reading_checks body =
    -- 1: longer than an area
    refuse_if (ltb 16384 (length body)) TooLong Whole
    -- 5, 6: user_data_type_code
    ∷ ends 0 8 (bits_of body)
    ∷ refuse_if (not (eqb (field (bits_of body) 0 8) 3)) (Unfixed Identifier) (Bit 0)
    -- 5: reserved
    ∷ ends 8 7 (bits_of body)
    -- 5: vbi_data_flag
    ∷ ends 15 1 (bits_of body)
    -- 6: both make 09 or 0A
    ∷ refuse_if (group_type (flag_byte (reserved_in (bits_of body)) (flag_in (bits_of body)))) (Unfixed Identifier) (Bit 8)
    ∷ flag_checks (flag_in (bits_of body)) (bits_of body)

-- WRITING

-- each record in order, the first from bit `at` on, behind these records
abbrev pub records_checks : List Record → ℕ → List Record → List Verdict
records_checks before at [] = []
records_checks before at (r ∷ rs) =
    -- 15: priority above 3, field_number above 3, line_offset above 31
    refuse_if (ltb 3 r.cc_priority) (Unholdable excess.Priority) (Bit at)
    ∷ refuse_if (ltb 3 (field_of r)) (Unholdable excess.FieldNumber) (Bit (at + 2))
    ∷ refuse_if (ltb 31 r.line_offset) (Unholdable excess.LineOffset) (Bit (at + 4))
    -- 7, 8, 8, 9
    ∷ (record_checks at before r ++ records_checks (r ∷ before) (at + 26) rs)

-- a value that is to be written, whatever the result has to fit
abbrev pub own_checks : CaptionUnit → List Verdict
own_checks u =
    -- 15: n above 31
    refuse_if (ltb 31 u.n) (Unholdable excess.Count) Whole
    -- 15: reserved above 127
    ∷ refuse_if (ltb 127 u.reserved) (Unholdable excess.Reserved) Whole
    -- 15: a flag that is no bit
    ∷ refuse_if (ltb 1 u.vbi_data_flag) (Unholdable excess.Flag) Whole
    -- 15: z above 16,384
    ∷ refuse_if (ltb 16384 u.z) (Unholdable excess.Stuffing) Whole
    -- 15: flag 0 with records
    ∷ refuse_if (eqb u.vbi_data_flag 0 && not (eqb u.n 0)) (Unholdable excess.FlagWithRecords) Whole
    -- 15: reserved and flag make 09 or 0A
    ∷ refuse_if (group_type (flag_byte u.reserved u.vbi_data_flag)) (Unholdable excess.GroupType) Whole
    -- 15, 7, 8, 8, 9: each record, in order. Entries beyond n are not looked at
    ∷ records_checks [] 21 (held u).records

-- a unit that is written, where the result has `size` bytes and the output `room`
abbrev pub writing_checks : CaptionUnit → ℕ → ℕ → List Verdict
writing_checks u size room =
    own_checks u
    -- 1: the result is longer than 16,384 bytes
    ++ (refuse_if (ltb 16384 size) TooLong Whole
    -- 14: the output is shorter than the result
    ∷ refuse_if (ltb room size) NoRoom Whole
    ∷ [])
