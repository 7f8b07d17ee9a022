-- A part of a list that a loop walks through: its first element and the rest; parts side by side.
-- Assumes nothing.
use Prim.Native.Nat.{ℕ, zero, suc, ◌+◌, ◌-◌, ◌≤◌, ◌<◌}
use native.Mathlib.Omega.{arith}
use native.Mathlib.Numerals.{add-one}
use mathlib.Core.Path.{◌≡◌, ◌∙◌, ap, ap₂, sym}
use mathlib.Core.List.{List, [], ◌∷◌, ◌++◌}
use lib.ListN.{length, get_or, take, drop, length-drop}
use lib.Seq.{take-nil, take-add, drop-cons, drop-drop, length-take-le}
use Rattle.lists.specs.Part.{part}

module _ {A : Type 0} where
  pub part-cons : (xs : List A) (d : A) (i to : ℕ) → i < to → i < length xs → part i to xs ≡ get_or xs i d ∷ part (i + 1) to xs
  part-cons xs d i to h inside =
      let more : to - i ≡ suc (to - (i + 1)) = omega arith in
      ap₂ (λ (k : ℕ) (ys : List A). take k ys) more (drop-cons xs i d inside)
      ∙ ap (λ (k : ℕ). get_or xs i d ∷ take (to - (i + 1)) (drop k xs)) (sym (add-one i))

  pub part_none : (xs : List A) (i to : ℕ) → to ≤ i → part i to xs ≡ []
  part_none xs i to h = let none : to - i ≡ 0 = omega arith in ap (λ (k : ℕ). take k (drop i xs)) none

  pub length_part : (xs : List A) (from to : ℕ) → to ≤ length xs → length (part from to xs) ≡ to - from
  length_part xs from to h =
      let fits : to - from ≤ length (drop from xs) = omega (arith, length-drop from xs) in
      length-take-le (to - from) (drop from xs) fits

  -- a part that begins at a is what the front up to n has from a on
  pub part-front : (a n : ℕ) (xs : List A) → part a n xs ≡ drop a (take n xs)
  part-front zero n xs = let same : n - 0 ≡ n = omega arith in ap (λ (k : ℕ). take k xs) same
  part-front (suc a) zero xs = let none : 0 - suc a ≡ 0 = omega arith in ap (λ (k : ℕ). take k (drop (suc a) xs)) none
  part-front (suc a) (suc n) [] = take-nil (suc n - suc a)
  part-front (suc a) (suc n) (x ∷ xs) = let less : suc n - suc a ≡ n - a = omega arith in ap (λ (k : ℕ). take k (drop a xs)) less ∙ part-front a n xs

  -- the w elements from a on, then the v behind them, are the n from a on
  pub take-join : (xs : List A) (a w b v n : ℕ) → a + w ≡ b → w + v ≡ n → take w (drop a xs) ++ take v (drop b xs) ≡ take n (drop a xs)
  take-join xs a w b v n e f =
      ap (λ (ys : List A). take w (drop a xs) ++ take v ys) (ap (λ (k : ℕ). drop k xs) (sym e) ∙ sym (drop-drop w a xs))
      ∙ sym (take-add w v (drop a xs))
      ∙ ap (λ (k : ℕ). take k (drop a xs)) f
