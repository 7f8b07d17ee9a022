-- What holds of each element of a list, by its index and of its front.
-- Assumes nothing.
use Prim.Native.Nat.{ℕ, zero, suc, ◌<◌}
use native.Mathlib.Omega.{arith}
use mathlib.Core.Path.{◌≡◌, ap₂, refl}
use mathlib.Core.List.{List, [], ◌∷◌, ◌++◌}
use lib.ListN.{length, get_or, take, drop, replicate}
use Rattle.lists.specs.Each.{Each}

module _ {A : Type 0} (P : A → Type 0) (d : A) where
  pub each-of : (xs : List A) → ((i : ℕ) → i < length xs → P (get_or xs i d)) → Each P xs
  each-of [] h = tt
  each-of (x ∷ xs) h =
      let first : 0 < length (x ∷ xs) = omega arith in
      (h 0 first, each-of xs (λ i below. let next : suc i < length (x ∷ xs) = omega arith in h (suc i) next))

  pub each_at : (xs : List A) → Each P xs → (i : ℕ) → i < length xs → P (get_or xs i d)
  each_at [] h i below = let f : ⊥ = omega arith in absurd f
  each_at (x ∷ xs) h zero below = h.0
  each_at (x ∷ xs) h (suc i) below = let next : i < length xs = omega arith in each_at xs h.1 i next

module _ {A : Type 0} (P : A → Type 0) where
  pub each_take : (k : ℕ) (xs : List A) → Each P xs → Each P (take k xs)
  each_take zero xs h = tt
  each_take (suc k) [] h = tt
  each_take (suc k) (x ∷ xs) h = (h.0, each_take k xs h.1)

  pub each-drop : (k : ℕ) (xs : List A) → Each P xs → Each P (drop k xs)
  each-drop zero xs h = h
  each-drop (suc k) [] h = tt
  each-drop (suc k) (x ∷ xs) h = each-drop k xs h.1

  pub each_append : (xs ys : List A) → Each P xs → Each P ys → Each P (xs ++ ys)
  each_append [] ys h g = g
  each_append (x ∷ xs) ys h g = (h.0, each_append xs ys h.1 g)

  -- and the other way
  pub append-each : (xs ys : List A) → Each P (xs ++ ys) → Each P xs × Each P ys
  append-each [] ys h = (tt, h)
  append-each (x ∷ xs) ys h = let both = append-each xs ys h.1 in ((h.0, both.0), both.1)

module _ {A : Type 0} (P Q R : A → Type 0) (f : (x : A) → P x → Q x → R x) where
  pub each_both : (xs : List A) → Each P xs → Each Q xs → Each R xs
  each_both [] h g = tt
  each_both (x ∷ xs) h g = (f x h.0 g.0, each_both xs h.1 g.1)

module _ {A : Type 0} (P Q : A → Type 0) (f : (x : A) → P x → Q x) where
  pub each_map : (xs : List A) → Each P xs → Each Q xs
  each_map xs h = each_both P P Q (λ x p q. f x p) xs h h

-- a list of one element many times over
module _ {A : Type 0} where
  pub each-replicate : (P : A → Type 0) (n : ℕ) (a : A) → P a → Each P (replicate n a)
  each-replicate P zero a h = tt
  each-replicate P (suc n) a h = (h, each-replicate P n a h)

  pub each_same : (a : A) (xs : List A) → Each (λ (x : A). x ≡ a) xs → xs ≡ replicate (length xs) a
  each_same a [] h = refl
  each_same a (x ∷ xs) h = ap₂ (λ (y : A) (ys : List A). y ∷ ys) h.0 (each_same a xs h.1)
