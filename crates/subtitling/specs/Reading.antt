-- What reading a subtitling packet answers, for every list of words. RULES, "Order of checks": 1; 5 under 20 words; 2;
-- 11 from DID to CS; DID, SDID 6; DC 13; the rules over the user words; CS 12.
use Rattle.std.specs.Prelude.{ℕ, ◌-◌, ◌%◌, ◌≡◌, not, List, [], ◌∷◌, map, eqb, ltb, length, get_or}
use Rattle.lists.specs.Part.{part}
use Rattle.refusal.specs.Verdict.{Verdict}
use Rattle.refusal.specs.Verdict.{Accepted, Refused}
use Rattle.refusal.specs.declared.Reason.TheVariants.{TooLong, NoStart, Ends, Unfixed, Checksum, Unfit}
use Rattle.refusal.specs.declared.Fixed.TheVariants.{Identifier}
use Rattle.refusal.specs.declared.Misfit.TheVariants.{DataCount}
use Rattle.refusal.specs.declared.Item.TheVariants.{Word, Length}
use Rattle.refusal.specs.Checks.{refuse_if, first}
use Rattle.refusal.specs.Numbers.{refusal_of}
use Rattle.refusal.specs.Answers.{lent_of}
use Rattle.anc.specs.Words.{byte_of, words_verdict, sum_verdict, checksum_of}
use Rattle.subtitling.specs.declared.Answer.{Answer}
use Rattle.sdp.specs.Value.{Sdp, none, numbers_of, rows_of}
use Rattle.sdp.specs.User.{user_verdict, user_value}

-- the words from DID to the last user word, which CS covers
abbrev pub covered_in : List ℕ → List ℕ
covered_in s = part 3 (length s - 1) s

-- the bytes of the user words
abbrev pub user_in : List ℕ → List ℕ
user_in s = map byte_of (part 6 (length s - 1) s)

abbrev pub last_word : List ℕ → ℕ
last_word s = get_or s (length s - 1) 0

-- 1, 5, 2, 11
unfoldable pub form_verdict : List ℕ → Verdict
form_verdict s =
    first
    (refuse_if (ltb 245 (length s)) TooLong (Length (length s))
    ∷ refuse_if (ltb (length s) 20) Ends (Length (length s))
    ∷ refuse_if (not (eqb (get_or s 0 0) 0x000)) NoStart (Word 0)
    ∷ refuse_if (not (eqb (get_or s 1 0) 0x3FF)) NoStart (Word 1)
    ∷ refuse_if (not (eqb (get_or s 2 0) 0x3FF)) NoStart (Word 2)
    ∷ words_verdict 3 (covered_in s)
    ∷ sum_verdict (length s - 1) (last_word s)
    ∷ [])

-- DID, SDID 6; DC 13
unfoldable pub header_verdict : List ℕ → Verdict
header_verdict s =
    first
    (refuse_if (not (eqb (get_or s 3 0) 0x143)) (Unfixed Identifier) (Word 3)
    ∷ refuse_if (not (eqb (get_or s 4 0) 0x102)) (Unfixed Identifier) (Word 4)
    ∷ refuse_if (not (eqb (get_or s 5 0 % 256) (length s - 7))) (Unfit DataCount) (Word 5)
    ∷ [])

-- CS 12
unfoldable pub checksum_verdict : List ℕ → Verdict
checksum_verdict s = refuse_if (not (eqb (last_word s) (checksum_of (covered_in s)))) Checksum (Word (length s - 1))

unfoldable pub packet_verdict : List ℕ → Verdict
packet_verdict s =
    first
    (form_verdict s
    ∷ header_verdict s
    ∷ user_verdict 5 (user_in s)
    ∷ checksum_verdict s
    ∷ [])

abbrev pub value_of : List ℕ → Sdp
value_of s = user_value (user_in s)

-- a refusal returns no slots, and all else in it is zero
abbrev pub found : Verdict → Sdp → Sdp
found Accepted v = v
found (Refused reason item) v = none

abbrev pub read_of : List ℕ → Answer
read_of s = record { refusal = refusal_of (packet_verdict s); packet = numbers_of (found (packet_verdict s) (value_of s)) }

abbrev pub read_rows_of : List ℕ → List (List ℕ)
read_rows_of s = rows_of (found (packet_verdict s) (value_of s))

-- the promise of `read`: refusal, counter and the slots' numbers
abbrev pub Reads : List ℕ → Answer → Type 0
Reads s r = r ≡ read_of s

-- the promise of `read_rows`: the slots' rows
abbrev pub ReadsRows : List ℕ → List (List ℕ) → Type 0
ReadsRows s rows = rows ≡ read_rows_of s

-- the promise of `read_into`: both, with the rows in a lent array
pub record ReadsInto (s : List ℕ) (lent : List (List ℕ)) (r : Answer) (exit : List (List ℕ)) : Type 0 where
  pub answer : r ≡ read_of s
  pub left : exit ≡ lent_of (packet_verdict s) (read_rows_of s) lent
