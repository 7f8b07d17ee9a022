-- What is stored, and its sum modulo 65,536, from which NCS and CS are made.
-- Assumes nothing.
use Rattle.std.proofs.Common.{◌≡◌, ℕ, ◌+◌, ◌%◌, ◌<◌, List, [], ◌∷◌, ◌++◌, map, length, get_or, take, drop, sym, ap, ◌∙◌, arith}
use Rattle.lists.specs.Sum.{sum}
use Rattle.lists.proofs.Sum.{sum-append}
use Rattle.refusal.specs.Verdict.{Accepted}
use Rattle.anc.specs.Words.{checksum_of}
use Rattle.anc.specs.Inside.{cs_of}
use Rattle.anc.proofs.Words.{checksum-sum}
use Rattle.multi.specs.Layout.{layout_inner, layout_inners}
use Rattle.multi.specs.Lent.{user_of, inner_of}
use Rattle.multi.specs.Writing.{head_verdict}
use Rattle.multi.specs.Inside.{header_words}
use Rattle.multi.proofs.Laid.{head-laid, inners-more}

-- sums modulo 65,536 that are added
pub added : (a b x y z : ℕ) → x ≡ a % 65536 → y ≡ b % 65536 → z ≡ (x + y) % 65536 → z ≡ (a + b) % 65536
added a b x y z e f g = omega arith

low : (x : ℕ) → x < 65536 → x ≡ x % 65536
low x h = omega arith

-- CS from a sum
pub cs-sum : (ws : List ℕ) (total word : ℕ) → total ≡ sum ws % 65536 → word ≡ cs_of total → word ≡ checksum_of ws
cs-sum ws total word e f = f ∙ ap cs_of e ∙ sym (checksum-sum ws)

-- ONE INNER PACKET

module _ (words h : List ℕ) (e : head_verdict words h ≡ Accepted) where
  abbrev ids : List ℕ
  ids = drop 1 (header_words h)

  abbrev covered : List ℕ
  covered = drop 1 (header_words h ++ user_of words h)

  pub covered-sum : (a b total : ℕ) → a ≡ sum ids → a < 65536 → b ≡ sum (user_of words h) % 65536 → total ≡ (a + b) % 65536 → total ≡ sum covered % 65536
  covered-sum a b total ea small eb et =
      added (sum ids) (sum (user_of words h)) a b total (low a small ∙ ap (λ (k : ℕ). k % 65536) ea) eb et
      ∙ ap (λ (k : ℕ). k % 65536) (sym (sum-append ids (user_of words h)))

  -- LINE/FIELD is the first word
  pub first_word : get_or (layout_inner (inner_of words h)) 0 0 ≡ get_or (header_words h) 0 0
  first_word = ap (λ (ws : List ℕ). get_or ws 0 0) (head-laid words h e)

  whole_sum : sum (layout_inner (inner_of words h)) ≡ sum covered + checksum_of covered + get_or (header_words h) 0 0
  whole_sum =
      ap sum (head-laid words h e)
      ∙ sum-append (header_words h ++ user_of words h) (checksum_of covered ∷ [])
      ∙ turned (get_or (header_words h) 0 0) (sum covered) (checksum_of covered)
    where
      turned : (a b c : ℕ) → (a + b) + (c + 0) ≡ b + c + a
      turned a b c = omega arith

  pub inner-total : (total word first x y : ℕ) → total ≡ sum covered % 65536 → word ≡ checksum_of covered → first ≡ get_or (header_words h) 0 0
      → x ≡ (total + word) % 65536 → y ≡ (x + first) % 65536 → y ≡ sum (layout_inner (inner_of words h)) % 65536
  inner-total total word first x y et ew ef ex ey =
      more (sum covered + checksum_of covered) first x y
      (more (sum covered) word total x et ex ∙ ap (λ (k : ℕ). (sum covered + k) % 65536) ew) ey
      ∙ ap (λ (k : ℕ). (sum covered + checksum_of covered + k) % 65536) ef
      ∙ ap (λ (k : ℕ). k % 65536) (sym whole_sum)
    where
      more : (a b x y : ℕ) → x ≡ a % 65536 → y ≡ (x + b) % 65536 → y ≡ (a + b) % 65536
      more a b x y e f = omega arith

-- ALL OF THEM

pub inners-total : (heads : List (List ℕ)) (i : ℕ) → i < length heads → (words : List ℕ) (total inner next : ℕ)
    → total ≡ sum (layout_inners (map (inner_of words) (take i heads))) % 65536 → inner ≡ sum (layout_inner (inner_of words (get_or heads i []))) % 65536
    → next ≡ (total + inner) % 65536 → next ≡ sum (layout_inners (map (inner_of words) (take (i + 1) heads))) % 65536
inners-total heads i h words total inner next et ei en =
    let before = layout_inners (map (inner_of words) (take i heads)) in
    let one = layout_inner (inner_of words (get_or heads i [])) in
    added (sum before) (sum one) total inner next et ei en
    ∙ ap (λ (k : ℕ). k % 65536) (sym (ap sum (inners-more heads i h words) ∙ sum-append before one))

-- THE MULTIPACKET

-- what CS covers: DID, SDID, DC and the priority, and the inner packets
pub all-total : (front inner : List ℕ) (a b total : ℕ) → a ≡ sum front → a < 65536 → b ≡ sum inner % 65536 → total ≡ (a + b) % 65536 → total ≡ sum (front ++ inner) % 65536
all-total front inner a b total ea small eb et =
    added (sum front) (sum inner) a b total (low a small ∙ ap (λ (k : ℕ). k % 65536) ea) eb et ∙ ap (λ (k : ℕ). k % 65536) (sym (sum-append front inner))
