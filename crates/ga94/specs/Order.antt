-- RULES, "Order of checks", for GA94 content: all checks of reading and of writing, each of the input alone, in the
-- order of RULES.
use Rattle.std.specs.Prelude.{ℕ, zero, suc, ◌+◌, ◌*◌, ◌/◌, not, List, [], ◌∷◌, ◌++◌, eqb, ltb, length, get_or, drop}
use Rattle.refusal.specs.Verdict.{Verdict}
use Rattle.refusal.specs.declared.Reason.TheVariants.{TooLong, Ends, Unfixed, NoRoom, Unholdable, AdditionalData}
use Rattle.refusal.specs.declared.Fixed.TheVariants.{Marker, Stuffing, Identifier}
use Rattle.refusal.specs.declared.Excess.TheVariants as excess
use Rattle.refusal.specs.declared.Item.TheVariants.{Whole, Bit}
use Rattle.refusal.specs.Checks.{refuse_if}
use Rattle.bits.specs.Bits.{bits_of}
use Rattle.stuffing.specs.Zeros.{zero_checks}
use Rattle.ga94.specs.declared.Record.{Record}
use Rattle.ga94.specs.Value.{CaptionUnit, held}
use Rattle.ga94.specs.Reading.{identifier_in, additional_in, count_in}

-- READING

-- 5: fewer than k bytes are left at byte i
abbrev pub ends : ℕ → ℕ → List ℕ → Verdict
ends i k body = refuse_if (ltb (length body) (i + k)) Ends (Bit (8 * i))

-- each of k constructs in order, the first from byte i on
abbrev pub constructs_checks : ℕ → ℕ → List ℕ → List Verdict
constructs_checks zero i body = []
constructs_checks (suc k) i body =
    -- 5: fewer than 24 bits left
    ends i 3 body
    -- 18: its marker_bits are not 11111
    ∷ refuse_if (not (eqb (get_or body i 0 / 8) 31)) (Unfixed Marker) (Bit (8 * i))
    ∷ constructs_checks k (i + 3) body

-- a unit's body. One in an area is shorter than 16,384 bytes and begins with the identifier, which 03 or nothing
-- follows, so that 1, the first 5 and the two 6 are never given there
abbrev pub reading_checks : List ℕ → List Verdict
reading_checks body =
    -- 1: longer than an area
    refuse_if (ltb 16384 (length body)) TooLong Whole
    -- 5, 6: ATSC_identifier
    ∷ ends 0 4 body
    ∷ refuse_if (not (identifier_in body)) (Unfixed Identifier) (Bit 0)
    -- 5, 6: user_data_type_code
    ∷ ends 4 1 body
    ∷ refuse_if (not (eqb (get_or body 4 0) 3)) (Unfixed Identifier) (Bit 32)
    -- 5: the three flags and cc_count
    ∷ ends 5 1 body
    -- 16: additional_data_flag
    ∷ refuse_if (not (eqb (additional_in body) 0)) AdditionalData (Bit 42)
    -- 5: em_data
    ∷ ends 6 1 body
    -- 5, 18: each construct
    ∷ (constructs_checks (count_in body) 7 body
    -- 5, 18: marker_bits 1111 1111
    ++ (ends (7 + 3 * count_in body) 1 body
    ∷ refuse_if (not (eqb (get_or body (7 + 3 * count_in body) 0) 0xFF)) (Unfixed Marker) (Bit (8 * (7 + 3 * count_in body)))
    -- 19: stuffing
    ∷ zero_checks Stuffing (8 * (8 + 3 * count_in body)) (bits_of (drop (8 + 3 * count_in body) body))))

-- WRITING

-- each record in order, the first from bit `at` on
abbrev pub records_checks : ℕ → List Record → List Verdict
records_checks at [] = []
records_checks at (r ∷ rs) =
    -- 15: cc_valid above 1, cc_type above 3
    refuse_if (ltb 1 r.cc_valid) (Unholdable excess.CcValid) (Bit (at + 5))
    ∷ refuse_if (ltb 3 r.cc_type) (Unholdable excess.CcType) (Bit (at + 6))
    ∷ records_checks (at + 24) rs

-- a unit that is written, where the result has `size` bytes and the output `room`
abbrev pub writing_checks : CaptionUnit → ℕ → ℕ → List Verdict
writing_checks u size room =
    -- 15: n above 31
    refuse_if (ltb 31 u.n) (Unholdable excess.Count) Whole
    -- 15: a flag that is no bit
    ∷ refuse_if (ltb 1 u.process_em_data_flag) (Unholdable excess.Flag) Whole
    ∷ refuse_if (ltb 1 u.process_cc_data_flag) (Unholdable excess.Flag) Whole
    ∷ refuse_if (ltb 1 u.additional_data_flag) (Unholdable excess.Flag) Whole
    -- 15: em_data above 255
    ∷ refuse_if (ltb 255 u.em_data) (Unholdable excess.EmData) Whole
    -- 15: z above 16,384
    ∷ refuse_if (ltb 16384 u.z) (Unholdable excess.Stuffing) Whole
    -- 16: the third flag is set
    ∷ refuse_if (not (eqb u.additional_data_flag 0)) AdditionalData Whole
    -- 15: each record, in order. Entries beyond n are not looked at
    ∷ (records_checks 56 (held u).records
    -- 1: the result is longer than 16,384 bytes
    ++ (refuse_if (ltb 16384 size) TooLong Whole
    -- 14: the output is shorter than the result
    ∷ refuse_if (ltb room size) NoRoom Whole
    ∷ []))
