-- RULES, "Order of checks", for the multipacket: all checks of reading and of writing, each of the input alone, in the
-- order of RULES. Reading and writing give the first that finds a fault. 11 of a row of words is `words_verdict`, word
-- after word (`anc`), and the rules over a subtitling packet's user words are `user_verdict` (`sdp`), from left to right.
use Rattle.std.specs.Prelude.{ℕ, zero, suc, ◌+◌, ◌-◌, ◌/◌, Bool, true, false, not, ◌&&◌, List, [], ◌∷◌, ◌++◌, map, eqb, ltb, length, get_or, take, drop}
use Rattle.lists.specs.Part.{part}
use Rattle.refusal.specs.Verdict.{Verdict}
use Rattle.refusal.specs.Verdict.{Accepted, Refused}
use Rattle.refusal.specs.declared.Reason.TheVariants.{TooLong, NoStart, Ends, Unfixed, Checksum, InnerChecksum, Unfit, NoRoom, Unholdable, NoInner, InnerOverrun}
use Rattle.refusal.specs.declared.Fixed.TheVariants.{Identifier, LineField}
use Rattle.refusal.specs.declared.Misfit.TheVariants.{DataCount, UserWords}
use Rattle.refusal.specs.declared.Excess.TheVariants.{PriorityWord, InnerLine, InnerField, InnerIdentifier, InnerPart}
use Rattle.refusal.specs.declared.Item.TheVariants.{Whole, Word, Length}
use Rattle.refusal.specs.Checks.{refuse_if}
use Rattle.refusal.specs.Order.{each_of}
use Rattle.anc.specs.Words.{byte_of, words_verdict, sum_verdict, checksum_of}
use Rattle.sdp.specs.User.{user_verdict}
use Rattle.multi.specs.Value.{Multi}
use Rattle.multi.specs.Layout.{user_words, layout}

-- whether the bytes of a DID and an SDID are those of a subtitling packet, 143 and 102
abbrev pub subtitling_id : ℕ → ℕ → Bool
subtitling_id did sdid = eqb did 0x43 && eqb sdid 0x02

-- a verdict that is asked for only where a test holds
abbrev pub only_if : Bool → Verdict → Verdict
only_if true verdict = verdict
only_if false verdict = Accepted

-- THE INNER PACKET WITH WHICH THE WORDS u BEGIN

-- how many user words it has: NDC's low byte, which is asked before NDC's own parity is
abbrev pub count_in : List ℕ → ℕ
count_in u = byte_of (get_or u 3 0)

-- which of its words NCS is
abbrev pub ncs_at : List ℕ → ℕ
ncs_at u = 4 + count_in u

-- how many words it has
abbrev pub size_in : List ℕ → ℕ
size_in u = 5 + count_in u

-- the bytes of its user words
abbrev pub bytes_in : List ℕ → List ℕ
bytes_in u = map byte_of (part 4 (ncs_at u) u)

-- its LINE/FIELD stands in word `at` of the multipacket; u is all that is left of the user words
abbrev pub inner_checks : ℕ → List ℕ → List Verdict
inner_checks at u =
    -- 26: its header, LINE/FIELD to NDC, or by NDC all its words go beyond the user words
    refuse_if (ltb (length u) 4) InnerOverrun (Word at)
    ∷ refuse_if (ltb (length u) (size_in u)) InnerOverrun (Word at)
    -- 11: each word from LINE/FIELD to the last user word, then NCS
    ∷ words_verdict at (take (ncs_at u) u)
    ∷ sum_verdict (at + ncs_at u) (get_or u (ncs_at u) 0)
    -- 6: b6 and b7 of LINE/FIELD
    ∷ refuse_if (not (eqb (byte_of (get_or u 0 0) / 64) 0)) (Unfixed LineField) (Word at)
    -- of 143, 102 the rules over its user words
    ∷ only_if (subtitling_id (byte_of (get_or u 1 0)) (byte_of (get_or u 2 0))) (user_verdict (at + 3) (bytes_in u))
    -- 12: NCS
    ∷ refuse_if (not (eqb (get_or u (ncs_at u) 0) (checksum_of (part 1 (ncs_at u) u)))) InnerChecksum (Word (at + ncs_at u))
    ∷ []

-- one inner packet after the other, each on the words behind those before it, up to the end. Each takes a word or more,
-- so that there are no more of them than k, the number of words
abbrev pub inners_checks : ℕ → ℕ → List ℕ → List Verdict
inners_checks zero at u = []
inners_checks (suc k) at [] = []
inners_checks (suc k) at (w ∷ u) =
    inner_checks at (w ∷ u) ++ inners_checks k (at + size_in (w ∷ u)) (drop (size_in (w ∷ u)) (w ∷ u))

-- THE MULTIPACKET

-- the words behind the priority, up to CS: the inner packets
abbrev pub inners_in : List ℕ → List ℕ
inners_in s = part 7 (length s - 1) s

-- the words from DID to the last user word, which CS covers
abbrev pub covered_in : List ℕ → List ℕ
covered_in s = part 3 (length s - 1) s

abbrev pub last_word : List ℕ → ℕ
last_word s = get_or s (length s - 1) 0

-- what stands around the inner packets, but for CS's sum
abbrev pub outer_checks : List ℕ → List Verdict
outer_checks s =
    -- 1: longer than 262 words
    refuse_if (ltb 262 (length s)) TooLong (Length (length s))
    -- 5: under 8 words
    ∷ refuse_if (ltb (length s) 8) Ends (Length (length s))
    -- 2: the first three words are not the flag
    ∷ refuse_if (not (eqb (get_or s 0 0) 0x000)) NoStart (Word 0)
    ∷ refuse_if (not (eqb (get_or s 1 0) 0x3FF)) NoStart (Word 1)
    ∷ refuse_if (not (eqb (get_or s 2 0) 0x3FF)) NoStart (Word 2)
    -- 11: DID, SDID, DC and the priority, then CS
    ∷ words_verdict 3 (part 3 7 s)
    ∷ sum_verdict (length s - 1) (last_word s)
    -- 6: DID, SDID
    ∷ refuse_if (not (eqb (get_or s 3 0) 0x143)) (Unfixed Identifier) (Word 3)
    ∷ refuse_if (not (eqb (get_or s 4 0) 0x203)) (Unfixed Identifier) (Word 4)
    -- 13: DC is not the length less 7
    ∷ refuse_if (not (eqb (byte_of (get_or s 5 0)) (length s - 7))) (Unfit DataCount) (Word 5)
    -- 26: no inner packet
    ∷ refuse_if (eqb (length s) 8) NoInner (Word 7)
    ∷ []

abbrev pub reading_checks : List ℕ → List Verdict
reading_checks s =
    outer_checks s
    ++ (inners_checks (length (inners_in s)) 7 (inners_in s)
    -- 12: CS
    ++ (refuse_if (not (eqb (last_word s) (checksum_of (covered_in s)))) Checksum (Word (length s - 1))
    ∷ []))

-- WRITING

-- on writing a refusal has no place
abbrev pub unplaced : Verdict → Verdict
unplaced Accepted = Accepted
unplaced (Refused reason item) = Refused reason Whole

-- one inner packet that is written, told by six numbers: line, field, DID, SDID, and at which of the lent words its user
-- words begin and how many they are
abbrev pub head_checks : List ℕ → List ℕ → List Verdict
head_checks words h =
    -- 15: a line above 31, a field that is no bit, identifiers above 255
    refuse_if (ltb 31 (get_or h 0 0)) (Unholdable InnerLine) Whole
    ∷ refuse_if (ltb 1 (get_or h 1 0)) (Unholdable InnerField) Whole
    ∷ refuse_if (ltb 255 (get_or h 2 0)) (Unholdable InnerIdentifier) Whole
    ∷ refuse_if (ltb 255 (get_or h 3 0)) (Unholdable InnerIdentifier) Whole
    -- 15: user words that are not among those that are lent
    ∷ refuse_if (ltb (length words) (get_or h 4 0 + get_or h 5 0)) (Unholdable InnerPart) Whole
    -- 11: each user word
    ∷ unplaced (words_verdict 0 (part (get_or h 4 0) (get_or h 4 0 + get_or h 5 0) words))
    -- of 143, 102 the rules over its user words
    ∷ unplaced
    (only_if (subtitling_id (get_or h 2 0) (get_or h 3 0))
    (user_verdict 0 (map byte_of (part (get_or h 4 0) (get_or h 4 0 + get_or h 5 0) words))))
    ∷ []

-- v is the value that priority, heads and words tell
abbrev pub writing_checks : ℕ → List (List ℕ) → List ℕ → Multi → ℕ → List Verdict
writing_checks priority heads words v room =
    -- 15: a priority above 255
    refuse_if (ltb 255 priority) (Unholdable PriorityWord) Whole
    -- 26: no inner packet
    ∷ refuse_if (eqb (length heads) 0) NoInner Whole
    -- each inner packet, in order
    ∷ (each_of (head_checks words) heads
    -- 13: more than 255 user words
    ++ (refuse_if (ltb 255 (length (user_words v))) (Unfit UserWords) Whole
    -- 14: the output is shorter than the result
    ∷ refuse_if (ltb room (length (layout v))) NoRoom Whole
    ∷ []))
