-- The verdict on a GA94 unit's body, and the value that it holds, for every list of bytes. RULES, "Order of checks":
-- from the first item to the last, and whether an item is all there comes before what it holds. Each item fills whole
-- bytes, but for the flags and cc_count, which share one.
--
-- A refusal has the bit of the body at which the failing item begins.
use Rattle.std.specs.Prelude.{ℕ, zero, suc, ◌+◌, ◌-◌, ◌*◌, ◌/◌, ◌%◌, Bool, not, ◌&&◌, List, [], ◌∷◌, eqb, ltb, length, get_or, drop}
use Rattle.refusal.specs.Verdict.{Verdict}
use Rattle.refusal.specs.Verdict.{Accepted}
use Rattle.refusal.specs.declared.Reason.TheVariants.{TooLong, Ends, Unfixed, AdditionalData}
use Rattle.refusal.specs.declared.Fixed.TheVariants.{Marker, Stuffing, Identifier}
use Rattle.refusal.specs.declared.Item.TheVariants.{Whole, Bit}
use Rattle.refusal.specs.Checks.{refuse_if, first}
use Rattle.bits.specs.Bits.{bits_of}
use Rattle.stuffing.specs.Zeros.{zero_verdict}
use Rattle.ga94.specs.declared.Record.{Record}
use Rattle.ga94.specs.Value.{Content}
use Rattle.ga94.specs.Layout.{size_of}

-- 5: fewer than k bytes are left at byte i
unfoldable pub missing : ℕ → ℕ → List ℕ → Verdict
missing i k body = refuse_if (ltb (length body) (i + k)) Ends (Bit (8 * i))

-- ATSC_identifier stands at the front
abbrev pub identifier_in : List ℕ → Bool
identifier_in body =
    eqb (get_or body 0 0) 0x47 && (eqb (get_or body 1 0) 0x41 && (eqb (get_or body 2 0) 0x39 && eqb (get_or body 3 0) 0x34))

-- the flags and cc_count, of the byte that they share
abbrev pub em_flag_in : List ℕ → ℕ
em_flag_in body = get_or body 5 0 / 128

abbrev pub cc_flag_in : List ℕ → ℕ
cc_flag_in body = get_or body 5 0 / 64 % 2

abbrev pub additional_in : List ℕ → ℕ
additional_in body = get_or body 5 0 / 32 % 2

abbrev pub count_in : List ℕ → ℕ
count_in body = get_or body 5 0 % 32

-- what stands before the constructs. A body of an area's GA94 unit is shorter than 16,384 bytes, and begins with the
-- identifier, which 03 or nothing follows, so that 1 and 6 are never given there
unfoldable pub head_verdict : List ℕ → Verdict
head_verdict body =
    first
    (refuse_if (ltb 16384 (length body)) TooLong Whole
    -- ATSC_identifier
    ∷ missing 0 4 body
    ∷ refuse_if (not (identifier_in body)) (Unfixed Identifier) (Bit 0)
    -- user_data_type_code
    ∷ missing 4 1 body
    ∷ refuse_if (not (eqb (get_or body 4 0) 3)) (Unfixed Identifier) (Bit 32)
    -- the flags and cc_count, then the third flag
    ∷ missing 5 1 body
    ∷ refuse_if (not (eqb (additional_in body) 0)) AdditionalData (Bit 42)
    -- em_data
    ∷ missing 6 1 body
    ∷ [])

-- the construct that begins at byte i, and its marker_bits
unfoldable pub construct_at : ℕ → List ℕ → Record
construct_at i body =
    record {
      cc_valid = get_or body i 0 / 4 % 2;
      cc_type = get_or body i 0 % 4;
      cc_data_1 = get_or body (i + 1) 0;
      cc_data_2 = get_or body (i + 2) 0;
    }

unfoldable pub marker_verdict : ℕ → List ℕ → Verdict
marker_verdict i body = refuse_if (not (eqb (get_or body i 0 / 8) 31)) (Unfixed Marker) (Bit (8 * i))

-- k constructs from byte i on
abbrev pub constructs_verdict : ℕ → ℕ → List ℕ → Verdict
constructs_verdict zero i body = Accepted
constructs_verdict (suc k) i body =
    first (missing i 3 body ∷ marker_verdict i body ∷ constructs_verdict k (i + 3) body ∷ [])

abbrev pub records_at : ℕ → ℕ → List ℕ → List Record
records_at zero i body = []
records_at (suc k) i body = construct_at i body ∷ records_at k (i + 3) body

-- marker_bits 1111 1111 at byte i, then stuffing
unfoldable pub closing_verdict : ℕ → List ℕ → Verdict
closing_verdict i body =
    first
    (missing i 1 body
    ∷ refuse_if (not (eqb (get_or body i 0) 0xFF)) (Unfixed Marker) (Bit (8 * i))
    ∷ zero_verdict Stuffing (8 * (i + 1)) (bits_of (drop (i + 1) body))
    ∷ [])

unfoldable pub content_verdict : List ℕ → Verdict
content_verdict body =
    first
    (head_verdict body
    ∷ constructs_verdict (count_in body) 7 body
    ∷ closing_verdict (7 + 3 * count_in body) body
    ∷ [])

unfoldable pub value_of : List ℕ → Content
value_of body =
    record {
      process_em_data_flag = em_flag_in body;
      process_cc_data_flag = cc_flag_in body;
      additional_data_flag = additional_in body;
      em_data = get_or body 6 0;
      records = records_at (count_in body) 7 body;
      z = length body - size_of (count_in body);
    }
