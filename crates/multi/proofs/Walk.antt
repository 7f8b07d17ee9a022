-- Heads that are stored one behind the other, each inner packet from its word of the multipacket on.
-- Assumes nothing.
use Prim.Native.Nat.{ℕ, ◌+◌, ◌-◌, ◌/◌, ◌%◌, ◌≤◌, ◌<◌}
use native.Mathlib.Omega.{arith}
use mathlib.Core.Path.{◌≡◌, ◌∙◌, ap, ap₂, sym}
use mathlib.Core.List.{List, [], ◌∷◌}
use lib.ListN.{length, get_or, take, drop, set}
use lib.Seq.{drop-drop}
use Rattle.lists.specs.Part.{part}
use Rattle.lists.specs.Room.{over_at}
use Rattle.lists.proofs.Part.{length_part, part-front}
use Rattle.lists.proofs.Lay.{sets-over_at, over_at-over_at}
use Rattle.refusal.specs.Verdict.{Accepted}
use Rattle.multi.specs.Order.{size_in}
use Rattle.multi.specs.Reading.{inners_verdict, read_inner}
use Rattle.multi.specs.Lent.{heads_of}
use Rattle.multi.specs.Inside.{inners_from}
use Rattle.multi.proofs.Inner.{inner-count}
use Rattle.multi.proofs.Inners.{inners, read_none, read_next, Next, next_inner}
use Rattle.multi.proofs.Lending.{head_in, head-in}
use Rattle.multi.proofs.Clean.{word-part}

-- the words of a head, of which LINE/FIELD is the first
abbrev pub head_from : ℕ → ℕ → ℕ → ℕ → ℕ → List ℕ
head_from at line-field did sdid ndc = (line-field % 32) ∷ (line-field / 32 % 2) ∷ (did % 256) ∷ (sdid % 256) ∷ (at + 4) ∷ (ndc % 256) ∷ []

-- an inner packet begins at word `at`, and those from there on are accepted
module _ (s : List ℕ) (at : ℕ) (within : at < length s - 1) (accepted : inners_verdict at (part at (length s - 1) s) ≡ Accepted) where
  abbrev end : ℕ
  end = length s - 1

  abbrev u : List ℕ
  u = part at end s

  -- where the next begins
  abbrev pub next : ℕ
  next = at + 5 + get_or s (at + 3) 0 % 256

  size : length u ≡ end - at
  size = length_part s at end (omega arith)

  some : 0 < length u
  some = omega (arith, size, within)

  first : Next at u
  first = next_inner at u (λ e. omega (arith, e, some)) accepted

  -- its header is there, and all of it
  pub header-in : at + 4 ≤ end
  header-in = omega (arith, size, first.header)

  three : get_or u 3 0 ≡ get_or s (at + 3) 0
  three = word-part s end at 3 (omega (arith, header-in))

  pub next-in : next ≤ end
  next-in = omega (arith, size, first.long, three)

  sizes : at + size_in u ≡ next
  sizes = omega (arith, three)

  left : drop (size_in u) u ≡ part next end s
  left =
      ap (drop (size_in u)) (part-front at end s)
      ∙ drop-drop (size_in u) at (take end s)
      ∙ ap (λ (k : ℕ). drop k (take end s)) sizes
      ∙ sym (part-front next end s)

  pub next-accepted : inners_verdict next (part next end s) ≡ Accepted
  next-accepted = ap₂ (λ (k : ℕ) (ws : List ℕ). inners_verdict k ws) (sym sizes) (sym left) ∙ first.rest

  all : inners_from at s ≡ read_inner u ∷ inners_from next s
  all = read_next u some ∙ ap (λ (ws : List ℕ). read_inner u ∷ inners ws) left

  pub count_next : length (inners_from at s) ≡ length (inners_from next s) + 1
  count_next = omega (arith, ap length all)

  head-words : head_in at u ≡ head_from at (get_or s at 0) (get_or s (at + 1) 0) (get_or s (at + 2) 0) (get_or s (at + 3) 0)
  head-words =
      let same : at + 0 ≡ at = omega arith in
      let line = word-part s end at 0 (omega (arith, header-in)) ∙ ap (λ (k : ℕ). get_or s k 0) same in
      ap₂ (λ (a b : ℕ). head_from at a b (get_or u 2 0) (get_or u 3 0)) line (word-part s end at 1 (omega (arith, header-in)))
      ∙ ap₂ (λ (a b : ℕ). head_from at (get_or s at 0) (get_or s (at + 1) 0) a b) (word-part s end at 2 (omega (arith, header-in))) three

  pub heads-next : heads_of at (inners_from at s) ≡ head_from at (get_or s at 0) (get_or s (at + 1) 0) (get_or s (at + 2) 0) (get_or s (at + 3) 0) ∷ heads_of next (inners_from next s)
  heads-next =
      ap (heads_of at) all
      ∙ ap₂ (λ (h : List ℕ) (k : ℕ). h ∷ heads_of k (inners_from next s)) (head-in at u first.long ∙ head-words)
      (ap (λ (k : ℕ). at + k) (inner-count u first.long) ∙ sizes)

  -- where no word is left, it is the last
  pub last-next : end ≤ next → inners_from next s ≡ []
  last-next past = read_none (part next end s) (omega (arith, length_part s next end (omega arith)))

-- a head that is stored at place i, and others behind it
pub stored_more : (heads : List (List ℕ)) (i : ℕ) (h : List ℕ) (more : List (List ℕ)) → i < length heads → over_at (i + 1) more (set heads i h) ≡ over_at i (h ∷ more) heads
stored_more heads i h more fits =
    ap (over_at (i + 1) more) (sets-over_at i (h ∷ []) heads (omega arith)) ∙ over_at-over_at i (h ∷ []) more heads (i + 1) (omega arith) (omega arith)

pub stored_one : (heads : List (List ℕ)) (i : ℕ) (h : List ℕ) → i < length heads → set heads i h ≡ over_at i (h ∷ []) heads
stored_one heads i h fits = sets-over_at i (h ∷ []) heads (omega arith)
