-- A unit is cut off the front of a list: its piece, and the pieces behind it.
-- Assumes nothing.
use Prim.Native.Nat.{ℕ, zero, suc, ◌+◌, ◌-◌, ◌≤◌, ◌<◌}
use native.Mathlib.Omega.{arith}
use mathlib.Core.Path.{◌≡◌, ◌∙◌, ap, ap₂, sym, refl}
use mathlib.Core.Bool.{Bool, true, false, ◌&&◌, false≢true}
use mathlib.Core.List.{List, [], ◌∷◌}
use lib.ListN.{length, get_or, take, drop, length-append, length-drop}
use lib.Seq.{take-append_seam, drop-cons, drop-drop}
use Rattle.lists.specs.Part.{part}
use Rattle.units.specs.Layout.{prefixed, layout_unit}
use Rattle.units.specs.Split.{Cut, cut_at, cut_of, reach, next_of, all_opened}
use Rattle.units.proofs.Cuts.{prefixed-front, unprefixed-code, joined, cut-whole, cut-start}
use Rattle.units.proofs.Opened.{fourth-unopened}

-- what stands before the first 00 00 01 is the front of the list
pub before-take : (s : List ℕ) → (cut_of s).before ≡ take (reach s) s
before-take s = sym (take-append_seam (cut_of s).before (joined (cut_of s).pieces)) ∙ ap (take (reach s)) (cut-whole s)

pub reach-within : (s : List ℕ) → reach s ≤ length s
reach-within s = omega (arith, ap length (cut-whole s), length-append (cut_of s).before (joined (cut_of s).pieces))

-- the pieces are those of the rest
rest-front : (t : Bool) (b : ℕ) (s : List ℕ) → prefixed (b ∷ s) ≡ t → (cut_of (drop (reach s) s)).pieces ≡ (cut_of s).pieces
    → (cut_of (drop (length (cut_at t b (cut_of s)).before) (b ∷ s))).pieces ≡ (cut_of (b ∷ s)).pieces
rest-front true b s e h = refl
rest-front false b s e h = h ∙ ap (λ (t : Bool). (cut_at t b (cut_of s)).pieces) (sym e)

pub pieces-rest : (s : List ℕ) → (cut_of (drop (reach s) s)).pieces ≡ (cut_of s).pieces
pieces-rest [] = refl
pieces-rest (b ∷ s) = rest-front (prefixed (b ∷ s)) b s refl (pieces-rest s)

-- which begins with 00 00 01
here-front : (t : Bool) (b : ℕ) (s : List ℕ) → prefixed (b ∷ s) ≡ t → (reach s < length s → prefixed (drop (reach s) s) ≡ true)
    → length (cut_at t b (cut_of s)).before < length (b ∷ s) → prefixed (drop (length (cut_at t b (cut_of s)).before) (b ∷ s)) ≡ true
here-front true b s e h more = e
here-front false b s e h more = h (omega arith)

pub rest-prefixed : (s : List ℕ) → reach s < length s → prefixed (drop (reach s) s) ≡ true
rest-prefixed [] more = let f : ⊥ = omega arith in absurd f
rest-prefixed (b ∷ s) more = here-front (prefixed (b ∷ s)) b s refl (rest-prefixed s) more

-- no 00 00 01 begins within a unit's start bytes but the first
unit-pieces : (t : List ℕ) → (cut_of (layout_unit t)).pieces ≡ layout_unit (cut_of t).before ∷ (cut_of t).pieces
unit-pieces t =
    ap (λ (cut : Cut). cut.pieces) (cut-start (0xB2 ∷ t))
    ∙ ap (λ (x : Bool). let cut = cut_at x 0xB2 (cut_of t) in (0 ∷ 0 ∷ 1 ∷ cut.before) ∷ cut.pieces) (unprefixed-code t)

-- a unit that begins at `at`
module _ (s : List ℕ) (at : ℕ) (fits : at + 3 < length s) (here : prefixed (drop at s) ≡ true) (code : get_or s (at + 3) 0 ≡ 0xB2) where
  unit-bytes : drop at s ≡ layout_unit (drop (at + 4) s)
  unit-bytes =
      let four : suc (at + 3) ≡ at + 4 = omega arith in
      prefixed-front (drop at s) here
      ∙ ap (λ (l : List ℕ). 0 ∷ 0 ∷ 1 ∷ l)
      (drop-drop 3 at s ∙ drop-cons s (at + 3) 0 fits ∙ ap₂ (λ (b k : ℕ). b ∷ drop k s) code four)

  module _ (next : ℕ) (e : next ≡ next_of s (at + 4)) where
    pub unit-cut : (cut_of (drop at s)).pieces ≡ layout_unit (part (at + 4) next s) ∷ (cut_of (drop next s)).pieces
    unit-cut =
        let t = drop (at + 4) s in
        let n : reach t ≡ next - (at + 4) = omega arith in
        let rest : (cut_of t).pieces ≡ (cut_of (drop next s)).pieces =
        sym (pieces-rest t) ∙ ap (λ (l : List ℕ). (cut_of l).pieces) (drop-drop (reach t) (at + 4) s ∙ ap (λ (k : ℕ). drop k s) (sym e)) in
        ap (λ (l : List ℕ). (cut_of l).pieces) unit-bytes
        ∙ unit-pieces t
        ∙ ap₂ (λ (b : List ℕ) (ps : List (List ℕ)). layout_unit b ∷ ps) (before-take t ∙ ap (λ (k : ℕ). take k t) n) rest

-- where the next 00 00 01 from a place on stands
module _ (s : List ℕ) (i : ℕ) (inside : i ≤ length s) where
  pub next-within : next_of s i ≤ length s
  next-within = omega (arith, reach-within (drop i s), length-drop i s)

  pub next-prefixed : next_of s i < length s → prefixed (drop (next_of s i) s) ≡ true
  next-prefixed more =
      let left : reach (drop i s) < length (drop i s) = omega (arith, length-drop i s) in
      ap prefixed (sym (drop-drop (reach (drop i s)) i s)) ∙ rest-prefixed (drop i s) left

-- a byte of a list's front is the list's
front_at : (n : ℕ) (l : List ℕ) (i v : ℕ) → (0 ≡ v → ⊥) → get_or (take n l) i 0 ≡ v → get_or l i 0 ≡ v
front_at zero l i v h e = absurd (h e)
front_at (suc n) [] i v h e = absurd (h e)
front_at (suc n) (x ∷ l) zero v h e = e
front_at (suc n) (x ∷ l) (suc i) v h e = front_at n l i v h e

-- a 00 00 01 that B2 does not follow opens no unit
pub first-refused : (s : List ℕ) → prefixed s ≡ true → (get_or s 3 0 ≡ 0xB2 → ⊥) → all_opened (cut_of s).pieces ≡ false
first-refused [] e h = absurd (false≢true e)
first-refused (b ∷ s) e h =
    let front = (cut_of s).before in
    let other : get_or (b ∷ front) 3 0 ≡ 0xB2 → ⊥ =
    λ f. h (front_at (reach s) s 2 0xB2 (λ z. omega arith) (ap (λ (l : List ℕ). get_or l 2 0) (sym (before-take s)) ∙ f)) in
    ap (λ (t : Bool). all_opened (cut_at t b (cut_of s)).pieces) e
    ∙ ap (λ (t : Bool). t && all_opened (cut_of s).pieces) (fourth-unopened (b ∷ front) other)
