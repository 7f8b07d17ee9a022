-- What a writer stores is the layout of what it is told.
-- Assumes nothing.
use Prim.Native.Nat.{ℕ, ◌+◌, ◌-◌, ◌*◌, ◌≤◌, ◌<◌}
use native.Mathlib.Omega.{arith}
use native.Mathlib.Numerals.{add-one}
use mathlib.Core.Path.{◌≡◌, ◌∙◌, ap, ap₂, sym, refl}
use mathlib.Core.List.{List, [], ◌∷◌, ◌++◌, map, append_assoc, append-nil}
use lib.ListN.{length, get_or, take, drop, length-map, length-append, take-append-drop}
use lib.Seq.{take-suc}
use borrow.Rule.Slice.PartMut.{put_mid}
use Rattle.lists.specs.Each.{Each}
use Rattle.lists.specs.Room.{over, over_at}
use Rattle.lists.proofs.Each.{each_at, each_take}
use Rattle.lists.proofs.Lay.{take-over, drop-over, over-over, laid-part}
use Rattle.lists.proofs.Part.{length_part, part-front}
use Rattle.refusal.specs.Verdict.{Accepted}
use Rattle.refusal.proofs.Checks.{accepted-each}
use Rattle.anc.specs.Words.{word_of, byte_of, checksum_of}
use Rattle.anc.proofs.Words.{accepted-words}
use Rattle.multi.specs.Value.{inner_words, inners_words}
use Rattle.multi.specs.Layout.{layout_inner, layout_inners, user_words, layout}
use Rattle.multi.specs.Lent.{Told, user_of, inner_of, held}
use Rattle.multi.specs.Writing.{head_verdict, heads_verdict}
use Rattle.multi.specs.Inside.{heads_words, header_words}
use Rattle.multi.proofs.Inners.{length-inners}
use Rattle.multi.proofs.Writable.{accepted-head}

-- ONE INNER PACKET

module _ (words h : List ℕ) (e : head_verdict words h ≡ Accepted) where
  abbrev user : List ℕ
  user = user_of words h

  pub user-length : length user ≡ get_or h 5 0
  user-length =
      length_part words (get_or h 4 0) (get_or h 4 0 + get_or h 5 0) (accepted-head words h e).inside
      ∙ (let same : get_or h 4 0 + get_or h 5 0 - get_or h 4 0 ≡ get_or h 5 0 = omega arith in same)

  -- header and user words, and NCS behind them
  pub head-laid : layout_inner (inner_of words h) ≡ (header_words h ++ user) ++ (checksum_of (drop 1 (header_words h ++ user)) ∷ [])
  unfolding inner_of
  head-laid =
      let back : map word_of (map byte_of user) ≡ user = accepted-words 0 user (accepted-head words h e).whole in
      let count : length (map byte_of user) ≡ get_or h 5 0 = length-map user byte_of ∙ user-length in
      ap (λ (ws : List ℕ). word_of (get_or h 0 0 + 32 * get_or h 1 0) ∷ (ws ++ (checksum_of ws ∷ [])))
      (ap₂ (λ (n : ℕ) (ws : List ℕ). word_of (get_or h 2 0) ∷ word_of (get_or h 3 0) ∷ word_of n ∷ ws) count back)

  pub length-head-user : length (header_words h ++ user) ≡ 4 + get_or h 5 0
  length-head-user = omega (arith, length-append (header_words h) user, user-length)

  pub head-words : inner_words (inner_of words h) ≡ 5 + get_or h 5 0
  unfolding inner_of
  head-words = ap (λ (n : ℕ). 5 + n) (length-map user byte_of ∙ user-length)

-- what NCS covers, and CS, in an output that begins with it
pub covered-front : (front out : List ℕ) (a n : ℕ) → length front ≡ n → take (n - a) (drop a (over front out)) ≡ drop a front
covered-front front out a n e = part-front a n (over front out) ∙ ap (drop a) (take-over front out n e)

-- words that are stored in a part behind a front, of just their length, are laid behind it
pub laid-behind : (front words out xs part : List ℕ) (a n : ℕ) → xs ≡ over front out → length front ≡ a → n ≡ length words → part ≡ words
    → put_mid a (a + n - a) xs part ≡ over (front ++ words) out
laid-behind front words out xs part a n e before count same =
    laid-part a n xs part words count same
    ∙ ap (over_at a words) e
    ∙ ap₂ (λ (f r : List ℕ). f ++ over words r) (take-over front out a before) (drop-over front out a before)
    ∙ over-over front words out

-- ALL OF THEM

module _ (words : List ℕ) where
  counted : (hs : List (List ℕ)) → Each (λ (h : List ℕ). head_verdict words h ≡ Accepted) hs → inners_words (map (inner_of words) hs) ≡ heads_words hs
  counted [] a = refl
  counted (h ∷ hs) a = ap₂ (λ (n m : ℕ). n + m) (head-words words h a.0) (counted hs a.1)

  pub heads-words : (heads : List (List ℕ)) → heads_verdict words heads ≡ Accepted → inners_words (map (inner_of words) heads) ≡ heads_words heads
  heads-words heads e = counted heads (accepted-each (head_verdict words) heads e)

  -- the words of the first i
  pub front-words : (heads : List (List ℕ)) → heads_verdict words heads ≡ Accepted → (i : ℕ) → length (layout_inners (map (inner_of words) (take i heads))) ≡ heads_words (take i heads)
  front-words heads e i =
      length-inners (map (inner_of words) (take i heads))
      ∙ counted (take i heads) (each_take (λ (h : List ℕ). head_verdict words h ≡ Accepted) i heads (accepted-each (head_verdict words) heads e))

-- the first i of them, and one more
heads-append : (xs ys : List (List ℕ)) → heads_words (xs ++ ys) ≡ heads_words xs + heads_words ys
heads-append [] ys = omega arith
heads-append (x ∷ xs) ys = omega (arith, heads-append xs ys)

inners-append : (words : List ℕ) (xs ys : List (List ℕ)) → layout_inners (map (inner_of words) (xs ++ ys)) ≡ layout_inners (map (inner_of words) xs) ++ layout_inners (map (inner_of words) ys)
inners-append words [] ys = refl
inners-append words (x ∷ xs) ys =
    ap (λ (ws : List ℕ). layout_inner (inner_of words x) ++ ws) (inners-append words xs ys)
    ∙ sym (append_assoc (layout_inner (inner_of words x)) (layout_inners (map (inner_of words) xs)) (layout_inners (map (inner_of words) ys)))

module _ (heads : List (List ℕ)) (i : ℕ) (inside : i < length heads) where
  next : take (i + 1) heads ≡ take i heads ++ (get_or heads i [] ∷ [])
  next = ap (λ (k : ℕ). take k heads) (add-one i) ∙ take-suc heads i [] inside

  pub heads-more : heads_words (take (i + 1) heads) ≡ heads_words (take i heads) + (5 + get_or (get_or heads i []) 5 0)
  heads-more = ap heads_words next ∙ heads-append (take i heads) (get_or heads i [] ∷ []) ∙ omega arith

  pub inners-more : (words : List ℕ) → layout_inners (map (inner_of words) (take (i + 1) heads)) ≡ layout_inners (map (inner_of words) (take i heads)) ++ layout_inner (inner_of words (get_or heads i []))
  inners-more words =
      ap (λ (hs : List (List ℕ)). layout_inners (map (inner_of words) hs)) next
      ∙ inners-append words (take i heads) (get_or heads i [] ∷ [])
      ∙ ap (λ (ws : List ℕ). layout_inners (map (inner_of words) (take i heads)) ++ ws) (append-nil (layout_inner (inner_of words (get_or heads i []))))

-- a front is no longer than all
pub heads-front : (heads : List (List ℕ)) (i : ℕ) → heads_words (take i heads) ≤ heads_words heads
heads-front heads i =
    omega (arith, sym (heads-append (take i heads) (drop i heads)) ∙ ap heads_words (take-append-drop i heads))

pub head-accepted-at : (words : List ℕ) (heads : List (List ℕ)) → heads_verdict words heads ≡ Accepted → (i : ℕ) → i < length heads → head_verdict words (get_or heads i []) ≡ Accepted
head-accepted-at words heads e i h = each_at (λ (x : List ℕ). head_verdict words x ≡ Accepted) [] heads (accepted-each (head_verdict words) heads e) i h

-- THE MULTIPACKET

-- what stands before CS
abbrev pub front : ℕ → ℕ → List ℕ → List ℕ
front priority dc inner = (0x000 ∷ 0x3FF ∷ 0x3FF ∷ map word_of (0x43 ∷ 0x03 ∷ dc ∷ priority ∷ [])) ++ inner

pub value-laid : (t : Told) (dc : ℕ) → dc ≡ length (user_words (held t))
    → layout (held t) ≡ front t.priority dc (layout_inners (held t).inners) ++ (checksum_of (drop 3 (front t.priority dc (layout_inners (held t).inners))) ∷ [])
value-laid t dc e =
    ap (λ (n : ℕ). front t.priority n (layout_inners (held t).inners) ++ (checksum_of (drop 3 (front t.priority n (layout_inners (held t).inners))) ∷ [])) (sym e)
