-- How far it is to the next 00 00 01 from a place of a list, and what stands there.
-- Assumes nothing.
use Prim.Native.Nat.{ℕ, suc, ◌+◌, ◌≤◌, ◌<◌}
use native.Mathlib.Omega.{arith}
use mathlib.Core.Path.{◌≡◌, ◌∙◌, ap, sym, refl}
use mathlib.Core.Bool.{Bool, true, false, ◌&&◌, and-false}
use mathlib.Core.List.{List, [], ◌∷◌}
use borrow.Author.Tests.{ne_eqb, eqb-true, eqb-false, ltb-true, ltb-false}
use lib.Dec.{eqb, ltb}
use lib.ListN.{length, get_or, drop, length-drop, drop_of_length-le}
use lib.Seq.{drop-cons}
use Rattle.units.specs.Layout.{prefixed}
use Rattle.units.specs.Split.{cut_at, cut_of, reach, next_of}
use Rattle.units.specs.Inside.{Passes, Goes, Bounds}

-- a 00 00 01 is reached at once
pub reach_here : (s : List ℕ) → prefixed s ≡ true → reach s ≡ 0
reach_here [] e = refl
reach_here (b ∷ s) e = ap (λ (t : Bool). length (cut_at t b (cut_of s)).before) e

-- any other byte is passed
pub reach-more : (b : ℕ) (s : List ℕ) → prefixed (b ∷ s) ≡ false → reach (b ∷ s) ≡ suc (reach s)
reach-more b s e = ap (λ (t : Bool). length (cut_at t b (cut_of s)).before) e

-- none begins where the first, the second or the third byte is another
pub first-other : (a : ℕ) (s : List ℕ) → (a ≡ 0 → ⊥) → prefixed (a ∷ s) ≡ false
first-other a [] h = refl
first-other a (b ∷ []) h = refl
first-other a (b ∷ c ∷ s) h = ap (λ (t : Bool). t && (eqb b 0 && eqb c 1)) (ne_eqb a 0 h)

pub second-other : (a b : ℕ) (s : List ℕ) → (b ≡ 0 → ⊥) → prefixed (a ∷ b ∷ s) ≡ false
second-other a b [] h = refl
second-other a b (c ∷ s) h = ap (λ (t : Bool). eqb a 0 && (t && eqb c 1)) (ne_eqb b 0 h) ∙ and-false (eqb a 0)

pub third-other : (a b c : ℕ) (s : List ℕ) → (c ≡ 1 → ⊥) → prefixed (a ∷ b ∷ c ∷ s) ≡ false
third-other a b c s h =
    ap (λ (t : Bool). eqb a 0 && t) (ap (λ (t : Bool). eqb b 0 && t) (ne_eqb c 1 h) ∙ and-false (eqb b 0)) ∙ and-false (eqb a 0)

-- a third byte that is not 0 rules out the next two places
pub reach-three : (a b c : ℕ) (s : List ℕ) → prefixed (a ∷ b ∷ c ∷ s) ≡ false → (c ≡ 0 → ⊥) → reach (a ∷ b ∷ c ∷ s) ≡ suc (suc (suc (reach s)))
reach-three a b c s e h =
    reach-more a (b ∷ c ∷ s) e
    ∙ ap suc (reach-more b (c ∷ s) (second-other b c s h) ∙ ap suc (reach-more c s (first-other c s h)))

-- none begins in fewer than three bytes
pub reach-short : (s : List ℕ) → length s < 3 → reach s ≡ length s
reach-short [] h = refl
reach-short (a ∷ []) h = refl
reach-short (a ∷ b ∷ []) h = refl
reach-short (a ∷ b ∷ c ∷ s) h = let f : ⊥ = omega arith in absurd f

-- three bytes stand at i
pub drop-three : (s : List ℕ) (i : ℕ) → i + 2 < length s → drop i s ≡ get_or s i 0 ∷ get_or s (i + 1) 0 ∷ get_or s (i + 2) 0 ∷ drop (i + 3) s
drop-three s i h =
    let one : suc i ≡ i + 1 = omega arith in
    let two : suc (i + 1) ≡ i + 2 = omega arith in
    let three : suc (i + 2) ≡ i + 3 = omega arith in
    drop-cons s i 0 (omega arith)
    ∙ ap (λ (l : List ℕ). get_or s i 0 ∷ l)
    (ap (λ (k : ℕ). drop k s) one
    ∙ drop-cons s (i + 1) 0 (omega arith)
    ∙ ap (λ (l : List ℕ). get_or s (i + 1) 0 ∷ l)
    (ap (λ (k : ℕ). drop k s) two
    ∙ drop-cons s (i + 2) 0 h
    ∙ ap (λ (k : ℕ). get_or s (i + 2) 0 ∷ drop k s) three))

-- the search for the next 00 00 01, at a place i of the list s
module _ (s : List ℕ) (i : ℕ) where
  -- it stands here
  pub next_here : prefixed (drop i s) ≡ true → next_of s i ≡ i
  next_here e = omega (arith, reach_here (drop i s) e)

  -- behind the end there is none
  pub next_past : length s ≤ i → next_of s i ≡ i
  next_past h = omega (arith, ap reach (drop_of_length-le s h))

  -- nor in the last two bytes
  pub next-short : i ≤ length s → length s ≤ i + 2 → next_of s i ≡ length s
  next-short h short =
      let left : length (drop i s) < 3 = omega (arith, length-drop i s) in
      omega (arith, length-drop i s, reach-short (drop i s) left)

  module _ (h : i + 2 < length s) where
    pub three-here : get_or s i 0 ≡ 0 → get_or s (i + 1) 0 ≡ 0 → get_or s (i + 2) 0 ≡ 1 → prefixed (drop i s) ≡ true
    three-here a b c = ap prefixed (drop-three s i h) ∙ simp (a, b, c)

    -- three places are ruled out
    next-three : prefixed (drop i s) ≡ false → (get_or s (i + 2) 0 ≡ 0 → ⊥) → next_of s i ≡ next_of s (i + 3)
    next-three e other =
        omega (
          arith,
          ap reach (drop-three s i h),
          reach-three (get_or s i 0) (get_or s (i + 1) 0) (get_or s (i + 2) 0) (drop (i + 3) s) (ap prefixed (sym (drop-three s i h)) ∙ e) other,
        )

    -- where none begins here, one place is passed
    pub next-by : prefixed (get_or s i 0 ∷ get_or s (i + 1) 0 ∷ get_or s (i + 2) 0 ∷ drop (i + 3) s) ≡ false → next_of s i ≡ next_of s (i + 1)
    next-by none =
        let one : suc i ≡ i + 1 = omega arith in
        let inside : i < length s = omega arith in
        let cons : drop i s ≡ get_or s i 0 ∷ drop (i + 1) s = drop-cons s i 0 inside ∙ ap (λ (k : ℕ). get_or s i 0 ∷ drop k s) one in
        omega (arith, ap reach cons, reach-more (get_or s i 0) (drop (i + 1) s) (ap prefixed (sym cons ∙ drop-three s i h) ∙ none))

    -- a third byte that is not 1 rules out one place
    pub next_one : (get_or s (i + 2) 0 ≡ 1 → ⊥) → next_of s i ≡ next_of s (i + 1)
    next_one other = next-by (third-other (get_or s i 0) (get_or s (i + 1) 0) (get_or s (i + 2) 0) (drop (i + 3) s) other)

    -- a third byte that is neither 0 nor, behind two bytes 0, 1 leaves none of the three
    module _ (other : get_or s (i + 2) 0 ≡ 0 → ⊥) where
      pub next-third : (get_or s (i + 2) 0 ≡ 1 → ⊥) → next_of s i ≡ next_of s (i + 3)
      next-third differs =
          next-three (ap prefixed (drop-three s i h) ∙ third-other (get_or s i 0) (get_or s (i + 1) 0) (get_or s (i + 2) 0) (drop (i + 3) s) differs) other

      pub next-second : (get_or s (i + 1) 0 ≡ 0 → ⊥) → next_of s i ≡ next_of s (i + 3)
      next-second differs =
          next-three (ap prefixed (drop-three s i h) ∙ second-other (get_or s i 0) (get_or s (i + 1) 0) (get_or s (i + 2) 0 ∷ drop (i + 3) s) differs) other

      pub next-first : (get_or s i 0 ≡ 0 → ⊥) → next_of s i ≡ next_of s (i + 3)
      next-first differs =
          next-three (ap prefixed (drop-three s i h) ∙ first-other (get_or s i 0) (get_or s (i + 1) 0 ∷ get_or s (i + 2) 0 ∷ drop (i + 3) s) differs) other

-- a place where 00 01 does not follow is passed
pub next-pass : (s : List ℕ) (i : ℕ) → i + 2 < length s → (get_or s (i + 1) 0 ≡ 0 → get_or s (i + 2) 0 ≡ 1 → ⊥) → next_of s i ≡ next_of s (i + 1)
next-pass s i h other = go (eqb (get_or s (i + 2) 0) 1) refl
  where
    go : (t : Bool) → eqb (get_or s (i + 2) 0) 1 ≡ t → next_of s i ≡ next_of s (i + 1)
    go true e =
        let second : get_or s (i + 1) 0 ≡ 0 → ⊥ = λ z. other z (eqb-true (get_or s (i + 2) 0) 1 e) in
        next-by s i h (second-other (get_or s i 0) (get_or s (i + 1) 0) (get_or s (i + 2) 0 ∷ drop (i + 3) s) second)
    go false e = next-by s i h (third-other (get_or s i 0) (get_or s (i + 1) 0) (get_or s (i + 2) 0) (drop (i + 3) s) (eqb-false (get_or s (i + 2) 0) 1 e))

-- places that are passed, and none
pub passes : (s : List ℕ) (i r : ℕ) → 0 < r → next_of s i ≡ next_of s (i + r) → i + r ≤ length s → Passes s i r
passes s i r some e h = record { here = λ z. let f : ⊥ = omega arith in absurd f; ahead = λ n. e; within = h }

pub passes_none : (s : List ℕ) (i : ℕ) → prefixed (drop i s) ≡ true → i ≤ length s → Passes s i 0
passes_none s i e h = record { here = λ z. e; ahead = λ n. let f : ⊥ = omega arith in absurd f; within = omega arith }

-- the search goes on: not at all, by what can be passed, and from there
pub goes_none : (s : List ℕ) (i : ℕ) → i ≤ length s → Goes s i i
goes_none s i h = record { ahead = refl; onward = omega arith; within = h }

pub goes_by : (s : List ℕ) (i r : ℕ) → Passes s i r → (r ≡ 0 → ⊥) → Goes s i (i + r)
goes_by s i r passed some = record { ahead = passed.ahead some; onward = omega arith; within = passed.within }

pub goes_on : {s : List ℕ} {i j k : ℕ} → Goes s i j → Goes s j k → Goes s i k
goes_on g h = record { ahead = g.ahead ∙ h.ahead; onward = omega (arith, g.onward, h.onward); within = h.within }

-- by no place of a block, and by one more where 00 01 does not follow
pub block_none : (s : List ℕ) (i : ℕ) → i ≤ length s → Goes s i (i + 0)
block_none s i h = let same : i ≡ i + 0 = omega arith in record { ahead = ap (next_of s) same; onward = omega arith; within = omega arith }

pub block_more : (s : List ℕ) (i j : ℕ) → Goes s i (i + j) → i + j + 2 < length s → (get_or s (i + j + 1) 0 ≡ 0 → get_or s (i + j + 2) 0 ≡ 1 → ⊥)
    → Goes s i (i + (j + 1))
block_more s i j before inside other =
    let same : i + j + 1 ≡ i + (j + 1) = omega arith in
    record { ahead = before.ahead ∙ next-pass s (i + j) inside other ∙ ap (next_of s) same; onward = omega arith; within = omega arith }

-- where 00 00 01 has room at i the bound is behind it
pub beyond : (s : List ℕ) (i r : ℕ) → Bounds s i r → i + 2 < length s → i < r
beyond s i r bounds room = by (ltb i r) refl
  where
    by : (t : Bool) → ltb i r ≡ t → i < r
    by true e = ltb-true i r e
    by false e = let none = bounds.1 (ltb-false i r e) in let f : ⊥ = omega (arith, none) in absurd f
