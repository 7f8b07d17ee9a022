-- An output that something is laid over, from the front or from an index, piece after piece, each into the rest of it.
-- Assumes nothing.
use Prim.Native.Nat.{ℕ, suc, ◌+◌, ◌-◌, ◌≤◌, ◌<◌}
use native.Mathlib.Omega.{arith}
use native.Mathlib.Numerals.{add-one}
use mathlib.Core.Path.{◌≡◌, ◌∙◌, ap, ap₂, sym}
use mathlib.Core.List.{List, [], ◌∷◌, ◌++◌, append_assoc, append-nil}
use borrow.Rule.Slice.PartMut.{put_mid}
use lib.ListN.{length, get_or, take, drop, set, replicate, length-append, length-drop, length-replicate, replicate-append-replicate}
use lib.Seq.{length-take-le, take-suc, take_all, take_at, drop_at, take-length, drop-length, drop-drop, drop-cons, drop-append-add, set_at, drop-set-lt, sets, sets-eq}
use Rattle.lists.specs.Room.{filled, over, over_at}

module _ {A : Type 0} where
  pub length_over : (front out : List A) → length front ≤ length out → length (over front out) ≡ length out
  length_over front out h = simp (length-append, length-drop) (omega arith)

  pub take-over : (front out : List A) (a : ℕ) → length front ≡ a → take a (over front out) ≡ front
  take-over front out a e = take_at front (drop (length front) out) a e

  pub drop-over : (front out : List A) (a : ℕ) → length front ≡ a → drop a (over front out) ≡ drop (length front) out
  drop-over front out a e = drop_at front (drop (length front) out) a e

  -- the part from a on, all of it
  pub rest-whole : (out : List A) (a : ℕ) → take (length out - a) (drop a out) ≡ drop a out
  rest-whole out a = ap (λ (k : ℕ). take k (drop a out)) (sym (length-drop a out)) ∙ take-length (drop a out)

  rest-none : (out : List A) (a : ℕ) → drop (length out - a) (drop a out) ≡ []
  rest-none out a = ap (λ (k : ℕ). drop k (drop a out)) (sym (length-drop a out)) ∙ drop-length (drop a out)

  -- a piece laid over the rest behind the front is laid behind the front
  pub over-over : (front piece out : List A) → front ++ over piece (drop (length front) out) ≡ over (front ++ piece) out
  over-over front piece out =
      sym (append_assoc front piece (drop (length piece) (drop (length front) out)))
      ∙ ap (λ (r : List A). (front ++ piece) ++ r)
      (drop-drop (length piece) (length front) out ∙ ap (λ (k : ℕ). drop k out) (sym (length-append front piece)))

  -- the same as the borrow checker states it: the part from a on is lent, and comes back as `piece` laid over it
  pub over-more : (front piece out part : List A) (a : ℕ) → length front ≡ a
      → part ≡ over piece (take (length (over front out) - a) (drop a (over front out)))
      → take a (over front out) ++ (part ++ drop (length (over front out) - a) (drop a (over front out))) ≡ over (front ++ piece) out
  over-more front piece out part a e laid =
      let lent : take (length (over front out) - a) (drop a (over front out)) ≡ drop (length front) out = rest-whole (over front out) a ∙ drop-over front out a e in
      ap₂ (λ (f r : List A). f ++ (part ++ r)) (take-over front out a e) (rest-none (over front out) a)
      ∙ ap (λ (r : List A). front ++ r) (append-nil part ∙ laid ∙ ap (λ (r : List A). over piece r) lent)
      ∙ over-over front piece out

module _ {A : Type 0} (front out : List A) where
  -- a store behind the front lays one more
  pub store-next : (x : A) (i : ℕ) → length front ≡ i → i < length out → set (over front out) i x ≡ over (front ++ (x ∷ [])) out
  store-next x i e h =
      let inside : length front < length out = omega arith in
      let n = length front in
      let more : suc n ≡ length (front ++ (x ∷ [])) = simp length-append (omega arith) in
      ap (λ (rest : List A). set (front ++ rest) i x) (drop-cons out n x inside)
      ∙ set_at front (get_or out n x) (drop (suc n) out) x i e
      ∙ sym (append_assoc front (x ∷ []) (drop (suc n) out))
      ∙ ap (λ (k : ℕ). (front ++ (x ∷ [])) ++ drop k out) more

  -- what was stored within the front's reach is laid over
  pub over-store : (i : ℕ) (x : A) → i < length front → over front (set out i x) ≡ over front out
  over-store i x h = ap (λ (rest : List A). front ++ rest) (drop-set-lt (length front) out i x h)

  -- something no shorter laid over the same front covers all of it
  pub over-again : (whole : List A) → length front ≤ length whole → over whole (over front out) ≡ over whole out
  over-again whole h =
      let more = length whole - length front in
      let sum : length whole ≡ length front + more = omega arith in
      ap (λ (rest : List A). whole ++ rest)
      (ap (λ (k : ℕ). drop k (over front out)) sum
      ∙ drop-append-add front (drop (length front) out) more
      ∙ drop-drop more (length front) out
      ∙ ap (λ (k : ℕ). drop k out) (sym sum))

-- laid over an array of blanks
pub over-blank : {A : Type 0} (front : List A) (n : ℕ) (blank : A) → length front ≤ n → over front (replicate n blank) ≡ filled front n blank
over-blank front n blank h =
    let k = length front in
    let sum : n ≡ k + (n - k) = omega arith in
    ap (λ (rest : List _). front ++ rest)
    (ap (λ (m : ℕ). drop k (replicate m blank)) sum
    ∙ ap (drop k) (sym (replicate-append-replicate k (n - k) blank))
    ∙ drop_at (replicate k blank) (replicate (n - k) blank) k (length-replicate k blank))

-- a piece stored in the part from a on, behind the front, is laid behind it
pub laid_more : {A : Type 0} (front piece out xs part : List A) (a : ℕ) → xs ≡ over front out → length front ≡ a
    → part ≡ over piece (take (length xs - a) (drop a xs)) → put_mid a (length xs - a) xs part ≡ over (front ++ piece) out
laid_more front piece out xs part a e long laid =
    ap (λ (ys : List _). put_mid a (length ys - a) ys part) e
    ∙ over-more front piece out part a long (laid ∙ ap (λ (ys : List _). over piece (take (length ys - a) (drop a ys))) e)

-- a piece stored in a part of just its length, as far as there is room, is laid behind the front too
pub laid-fitting : {A : Type 0} (front piece out xs part : List A) (a n : ℕ) → xs ≡ over front out → length front ≡ a → length piece ≡ n → a + n ≤ length xs
    → part ≡ over (take (length (take n (drop a xs))) piece) (take n (drop a xs)) → put_mid a n xs part ≡ over (front ++ piece) out
laid-fitting front piece out xs part a n e before long fits laid =
    let lent = take n (drop a xs) in
    let size : length lent ≡ length piece = length-take-le n (drop a xs) (omega (arith, length-drop a xs)) ∙ sym long in
    let all : take (length lent) piece ≡ piece = take_all (length lent) piece (omega arith) in
    let none : drop (length piece) lent ≡ [] = ap (λ (k : ℕ). drop k lent) (sym size) ∙ drop-length lent in
    let same : part ≡ piece = laid ∙ ap (λ (p : List _). over p lent) all ∙ ap (λ (r : List _). piece ++ r) none ∙ append-nil piece in
    ap₂ (λ (p : List _) (k : ℕ). take a xs ++ (p ++ drop k (drop a xs))) same (sym long)
    ∙ ap (over_at a piece) e
    ∙ ap₂ (λ (f r : List _). f ++ over piece r) (take-over front out a before) (drop-over front out a before)
    ∙ over-over front piece out

-- the part from a on has what is left
pub length_rest : {A : Type 0} (xs : List A) (a : ℕ) → length (take (length xs - a) (drop a xs)) ≡ length xs - a
length_rest xs a = ap length (rest-whole xs a) ∙ length-drop a xs

-- the part from a on comes back as zeros
pub cleared : (xs part : List ℕ) (a : ℕ) → part ≡ replicate (length (take (length xs - a) (drop a xs))) 0
    → put_mid a (length xs - a) xs part ≡ take a xs ++ replicate (length xs - a) 0
cleared xs part a e =
    let zeros : part ≡ replicate (length xs - a) 0 = e ∙ ap (λ (n : ℕ). replicate n 0) (length_rest xs a) in
    ap₂ (λ (p r : List ℕ). take a xs ++ (p ++ r)) zeros (rest-none xs a) ∙ ap (λ (r : List ℕ). take a xs ++ r) (append-nil (replicate (length xs - a) 0))

-- a part of n comes back with something of its length in it
pub laid-part : {A : Type 0} (a n : ℕ) (out part piece : List A) → n ≡ length piece → part ≡ piece → put_mid a (a + n - a) out part ≡ over_at a piece out
laid-part a n out part piece long e =
    let same : a + n - a ≡ length piece = omega arith in
    ap₂ (λ (p : List _) (k : ℕ). take a out ++ (p ++ drop k (drop a out))) e same

-- a piece laid from index `at` on
module _ {A : Type 0} (at : ℕ) (piece out : List A) (fits : at + length piece ≤ length out) where
  length_before : length (take at out) ≡ at
  length_before = length-take-le at out (omega arith)

  -- what stands before it is as it was
  over_at-over : over_at at piece out ≡ over (take at out ++ piece) out
  over_at-over =
      let size : at + length piece ≡ length (take at out ++ piece) = sym (length-append (take at out) piece ∙ ap (λ (k : ℕ). k + length piece) length_before) in
      sym (append_assoc (take at out) piece (drop (length piece) (drop at out)))
      ∙ ap (λ (rest : List A). (take at out ++ piece) ++ rest) (drop-drop (length piece) at out ∙ ap (λ (k : ℕ). drop k out) size)

  pub length-over_at : length (over_at at piece out) ≡ length out
  length-over_at =
      let size : length (take at out ++ piece) ≤ length out = omega (arith, length-append (take at out) piece, length_before) in
      ap length over_at-over ∙ length_over (take at out ++ piece) out size

  pub drop-over_at : drop at (over_at at piece out) ≡ over piece (drop at out)
  drop-over_at = drop_at (take at out) (over piece (drop at out)) at length_before

  -- something that reaches as far covers it
  pub over-over_at : (whole : List A) → at + length piece ≤ length whole → over whole (over_at at piece out) ≡ over whole out
  over-over_at whole h =
      let size : length (take at out ++ piece) ≤ length whole = omega (arith, length-append (take at out) piece, length_before) in
      ap (λ (xs : List A). over whole xs) over_at-over ∙ over-again (take at out ++ piece) out whole size

  -- stores one behind the other lay it
  pub sets-over_at : sets out at piece ≡ over_at at piece out
  sets-over_at =
      sets-eq piece out at fits
      ∙ append_assoc (take at out) piece (drop (at + length piece) out)
      ∙ ap (λ (rest : List A). take at out ++ (piece ++ rest)) (sym (drop-drop (length piece) at out))

-- a piece laid right behind another
pub over_at-over_at : {A : Type 0} (at : ℕ) (front piece out : List A) (next : ℕ) → at ≤ length out → at + length front ≡ next
    → over_at next piece (over_at at front out) ≡ over_at at (front ++ piece) out
over_at-over_at {A = A} at front piece out next fits e =
    let rest = drop at out in
    let head = take at out ++ front in
    let long : length head ≡ next = simp length-append (omega (arith, length-take-le at out fits)) in
    let split : over_at at front out ≡ head ++ drop (length front) rest = sym (append_assoc (take at out) front (drop (length front) rest)) in
    ap (over_at next piece) split
    ∙ ap₂ (λ (h r : List A). h ++ over piece r) (take_at head (drop (length front) rest) next long) (drop_at head (drop (length front) rest) next long)
    ∙ append_assoc (take at out) front (over piece (drop (length front) rest))
    ∙ ap (λ (r : List A). take at out ++ r) (over-over front piece rest)

-- the front of xs laid over an output: it keeps its length,
module _ {A : Type 0} (xs out : List A) where
  pub front_length : (i : ℕ) → i ≤ length xs → i ≤ length out → length (over (take i xs) out) ≡ length out
  front_length i h g = length_over (take i xs) out (omega (arith, length-take-le i xs h))

  -- one more is laid by a store,
  pub front-next : (i : ℕ) (d : A) → i < length xs → i < length out → set (over (take i xs) out) i (get_or xs i d) ≡ over (take (i + 1) xs) out
  front-next i d h g =
      let more : take (i + 1) xs ≡ take i xs ++ (get_or xs i d ∷ []) = ap (λ (k : ℕ). take k xs) (add-one i) ∙ take-suc xs i d h in
      store-next (take i xs) out (get_or xs i d) i (length-take-le i xs (omega arith)) g ∙ ap (λ (front : List A). over front out) (sym more)

-- and all of xs is the front of any length that is no smaller
pub front-all : {A : Type 0} (xs : List A) (n k : ℕ) → length xs ≤ n → length xs ≤ k → take n xs ≡ take k xs
front-all xs n k h g = take_all n xs h ∙ sym (take_all k xs g)
