-- RULES, "Order of checks", for the packet: all checks of reading and of writing, each of the input alone, in the order
-- of RULES.
use Rattle.std.specs.Prelude.{ℕ, ◌-◌, ◌%◌, ◌≤◌, ◌≡◌, not, List, [], ◌∷◌, ◌++◌, eqb, ltb, length, get_or, drop}
use Rattle.lists.specs.Each.{Each}
use Rattle.lists.specs.Sum.{sum}
use Rattle.refusal.specs.Verdict.{Verdict}
use Rattle.refusal.specs.declared.Reason.TheVariants.{TooLong, NoStart, Ends, Unfixed, SdpChecksum, Checksum, Unfit, NoRoom, Unholdable}
use Rattle.refusal.specs.declared.Fixed.TheVariants.{Identifier, FormatCode, Footer}
use Rattle.refusal.specs.declared.Misfit.TheVariants.{DataCount, SdpLength, Structures}
use Rattle.refusal.specs.declared.Excess.TheVariants.{Counter}
use Rattle.refusal.specs.declared.Item.TheVariants.{Whole, Word, Length}
use Rattle.refusal.specs.Checks.{refuse_if}
use Rattle.refusal.specs.Order.{each_of}
use Rattle.anc.specs.Words.{byte_of, checksum_of}
use Rattle.anc.specs.Order.{words_checks, sum_checks}
use Rattle.sdp.specs.Value.{SlotRow, Sdp, LegalSlot}
use Rattle.sdp.specs.Layout.{user_length}
use Rattle.sdp.specs.User.{descriptors_in, structures_in}
use Rattle.sdp.specs.Order.{descriptors_checks, structures_checks, slot_checks}
use Rattle.subtitling.specs.Layout.{layout}
use Rattle.subtitling.specs.Reading.{covered_in, user_in, last_word}

-- the packet around the user words. A packet of 20 words has 13 user words, so that 5 is not given again
abbrev pub outer_checks : List ℕ → List Verdict
outer_checks s =
    -- 1: longer than 245 words
    refuse_if (ltb 245 (length s)) TooLong (Length (length s))
    -- 5: under 20 words
    ∷ refuse_if (ltb (length s) 20) Ends (Length (length s))
    -- 2: the first three words are not the flag
    ∷ refuse_if (not (eqb (get_or s 0 0) 0x000)) NoStart (Word 0)
    ∷ refuse_if (not (eqb (get_or s 1 0) 0x3FF)) NoStart (Word 1)
    ∷ refuse_if (not (eqb (get_or s 2 0) 0x3FF)) NoStart (Word 2)
    -- 11: each word from DID to the last user word, range, then parity
    ∷ (words_checks 3 (covered_in s)
    -- 11: CS
    ++ (sum_checks (length s - 1) (last_word s)
    -- 6: DID, SDID
    ++ (refuse_if (not (eqb (get_or s 3 0) 0x143)) (Unfixed Identifier) (Word 3)
    ∷ refuse_if (not (eqb (get_or s 4 0) 0x102)) (Unfixed Identifier) (Word 4)
    -- 13: DC is not the length less 7
    ∷ refuse_if (not (eqb (byte_of (get_or s 5 0)) (length s - 7))) (Unfit DataCount) (Word 5)
    ∷ [])))

-- the user words, which begin at word 6, and CS
abbrev pub inner_checks : List ℕ → List Verdict
inner_checks s =
    -- 6: 51, 15
    refuse_if (not (eqb (get_or (user_in s) 0 0) 0x51)) (Unfixed Identifier) (Word 6)
    ∷ refuse_if (not (eqb (get_or (user_in s) 1 0) 0x15)) (Unfixed Identifier) (Word 7)
    -- 13: LENGTH is not DC
    ∷ refuse_if (not (eqb (get_or (user_in s) 2 0) (byte_of (get_or s 5 0)))) (Unfit SdpLength) (Word 8)
    -- 6: format
    ∷ refuse_if (not (eqb (get_or (user_in s) 3 0) 0x02)) (Unfixed FormatCode) (Word 9)
    -- 7: each of the five descriptors
    ∷ (descriptors_checks 10 (descriptors_in (user_in s))
    -- 13: DC is not 13 + 45k, for the k descriptors that are not 0
    ++ (refuse_if (not (eqb (byte_of (get_or s 5 0)) (user_length (structures_in (user_in s))))) (Unfit Structures) (Word 5)
    -- 20: run-in and framing code of each structure
    ∷ (structures_checks 15 (structures_in (user_in s)) (drop 9 (user_in s))
    -- 6: the footer
    ++ (refuse_if (not (eqb (get_or (user_in s) (length s - 11) 0) 0x74)) (Unfixed Footer) (Word (length s - 5))
    -- 12: the SDP checksum
    ∷ refuse_if (not (eqb (sum (user_in s) % 256) 0)) SdpChecksum (Word (length s - 2))
    -- 12: CS
    ∷ refuse_if (not (eqb (last_word s) (checksum_of (covered_in s)))) Checksum (Word (length s - 1))
    ∷ []))))

abbrev pub reading_checks : List ℕ → List Verdict
reading_checks s = outer_checks s ++ inner_checks s

abbrev pub writing_checks : Sdp → ℕ → List Verdict
writing_checks v room =
    -- 15: a counter above 65,535
    refuse_if (ltb 65535 v.counter) (Unholdable Counter) Whole
    -- 15, 15 for an unwritable slot, 7: each slot, in order
    ∷ (each_of slot_checks v.slots
    -- 1: the result is longer than 245 words
    ++ (refuse_if (ltb 245 (length (layout v))) TooLong Whole
    -- 14: the output is shorter than the result
    ∷ refuse_if (ltb room (length (layout v))) NoRoom Whole
    ∷ []))

-- the checks of writing come to slot x: the counter can be held, and the slots before x are legal
pub record Reached (v : Sdp) (x : SlotRow) : Type 0 where
  pub few : v.counter ≤ 65535
  pub before : List SlotRow
  pub after : List SlotRow
  pub here : v.slots ≡ before ++ (x ∷ after)
  pub passed : Each LegalSlot before
