-- How a multipacket's value is told: a head of six numbers for each inner packet in lent memory, and its user words where
-- they stand, in the words that were read or in those that are lent to a writer. No user word is copied.
use Rattle.std.specs.Prelude.{ℕ, ◌+◌, ◌≤◌, ◌≡◌, List, [], ◌∷◌, map, length, get_or, replicate}
use Rattle.lists.specs.Each.{Each}
use Rattle.lists.specs.Part.{part}
use Rattle.lists.specs.Room.{filled}
use Rattle.refusal.specs.Verdict.{Verdict}
use Rattle.refusal.specs.Verdict.{Accepted, Refused}
use Rattle.refusal.specs.Numbers.{refusal_of}
use Rattle.refusal.specs.Answers.{lent_of}
use Rattle.anc.specs.Words.{byte_of, words_verdict}
use Rattle.multi.specs.declared.Answer.{Answer}
use Rattle.multi.specs.Value.{Inner, Multi, Legal, inner_words}
use Rattle.multi.specs.Layout.{layout}
use Rattle.multi.specs.Order.{inners_in}
use Rattle.multi.specs.Reading.{multi_verdict, cut, value_of}

-- line, field, DID, SDID; at which word the user words begin, and how many they are. The packet's LINE/FIELD stands in
-- word `at`
abbrev pub head_of : ℕ → Inner → List ℕ
head_of at x = x.line ∷ x.field.0 ∷ x.did ∷ x.sdid ∷ (at + 4) ∷ length x.bytes ∷ []

abbrev pub heads_of : ℕ → List Inner → List (List ℕ)
heads_of at [] = []
heads_of at (x ∷ xs) = head_of at x ∷ heads_of (at + inner_words x) xs

-- a head of zeros
abbrev pub no_head : List ℕ
no_head = replicate 6 0

-- what priority, heads and words tell
pub record Told : Type 0 where
  pub priority : ℕ
  pub heads : List (List ℕ)
  pub words : List ℕ

-- a value, told by its heads and the words of its layout
abbrev pub stored : Multi → Told
stored v = record { priority = v.priority; heads = heads_of 7 v.inners; words = layout v }

-- the user words of a head
abbrev pub user_of : List ℕ → List ℕ → List ℕ
user_of words h = part (get_or h 4 0) (get_or h 4 0 + get_or h 5 0) words

unfoldable pub inner_of : List ℕ → List ℕ → Inner
inner_of words h =
    record {
      line = get_or h 0 0;
      field = record { 0 = get_or h 1 0 };
      did = get_or h 2 0;
      sdid = get_or h 3 0;
      bytes = map byte_of (user_of words h);
    }

-- the value that is told
abbrev pub held : Told → Multi
held t = record { priority = t.priority; inners = map (inner_of t.words) t.heads }

-- the user words of a head are among those that are lent, and are words of bytes
pub record Lent (words h : List ℕ) : Type 0 where
  pub inside : get_or h 4 0 + get_or h 5 0 ≤ length words
  pub whole : words_verdict 0 (user_of words h) ≡ Accepted

-- a legal value, so told
pub record LegalTold (t : Told) : Type 0 where
  pub lent : Each (Lent t.words) t.heads
  pub value : Legal (held t)

-- what reading answers beside the heads: in a refusal all is zero
abbrev pub answer_of : Verdict → Multi → Answer
answer_of Accepted v =
    record { refusal = refusal_of Accepted; priority = v.priority; n = length v.inners }
answer_of (Refused reason item) v = record { refusal = refusal_of (Refused reason item); priority = 0; n = 0 }

-- the promise of `read_into`: the answer, and in the lent array a head for each inner packet, zeros beyond n; a refusal
-- leaves the array as it was
pub record ReadsInto (s : List ℕ) (lent : List (List ℕ)) (r : Answer) (exit : List (List ℕ)) : Type 0 where
  pub answer : r ≡ answer_of (multi_verdict s) (value_of s)
  pub left : exit ≡ lent_of (multi_verdict s) (filled (heads_of 7 (value_of s).inners) 50 no_head) lent

-- the promise of `inner`: the words of inner packet i, from LINE/FIELD to NCS; none where there is no such, and in a
-- refusal
abbrev pub handed_of : Verdict → ℕ → List ℕ → List ℕ
handed_of Accepted i s = get_or (cut (length (inners_in s)) (inners_in s)) i []
handed_of (Refused reason item) i s = []

abbrev pub Hands : List ℕ → ℕ → List ℕ → Type 0
Hands s i r = r ≡ handed_of (multi_verdict s) i s
