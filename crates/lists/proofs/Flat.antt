-- The laws of FlatOf where every record has the one width.
-- Assumes nothing.
use Prim.Native.Nat.{ℕ, ◌+◌, ◌*◌, ◌≤◌, ◌<◌}
use native.Mathlib.Omega.{arith}
use mathlib.Core.Path.{◌≡◌, ◌∙◌, ap}
use mathlib.Core.List.{List, [], ◌∷◌, ◌++◌}
use lib.ListN.{length, get_or, take, drop, replicate}
use lib.Seq.{length-take-le}
use Rattle.lists.specs.Each.{Each}
use Rattle.lists.specs.Room.{filled, over, over_at}
use Rattle.lists.specs.Flat.{flat, taken}
use Rattle.lists.proofs.FlatOf as of
pub use Rattle.lists.proofs.FlatOf.{length_taken, get_d-taken, taken_more, taken-take, taken-drop, flat_append, flat-more}

module _ {A : Type 0} (bytes : A → List ℕ) (width : ℕ) (wide : (x : A) → length (bytes x) ≡ width) where
  abbrev Any : A → Type 0
  Any x = Unit {0}

  any : (xs : List A) → Each Any xs
  any [] = tt
  any (x ∷ xs) = (tt, any xs)

  pub length-flat : (xs : List A) → length (flat bytes xs) ≡ width * length xs
  length-flat xs = of.length-flat bytes width Any (λ x p. wide x) xs (any xs)

  pub flat-at : (d : A) (xs : List A) (i : ℕ) (rest : List ℕ) → i < length xs
      → (after : List ℕ) × (drop (width * i) (flat bytes xs ++ rest) ≡ bytes (get_or xs i d) ++ after)
  flat-at d xs = of.flat-at bytes width Any (λ x p. wide x) d xs (any xs)

  pub flat-taken : (from : List ℕ → A) → ((x : A) (rest : List ℕ) → from (bytes x ++ rest) ≡ x) → (xs : List A) (rest : List ℕ)
      → taken from width (length xs) (flat bytes xs ++ rest) ≡ xs
  flat-taken from back xs = of.flat-taken bytes width Any (λ x p. wide x) from (λ x rest p. back x rest) xs (any xs)

  pub flat-whole : (from : List ℕ → A) → ((x : A) (rest : List ℕ) → from (bytes x ++ rest) ≡ x) → (xs : List A) (n : ℕ) → length xs ≡ n
      → taken from width n (flat bytes xs) ≡ xs
  flat-whole from back xs = of.flat-whole bytes width Any (λ x p. wide x) from (λ x rest p. back x rest) xs (any xs)

  pub flat-next-at : (d : A) (xs : List A) (s : List ℕ) (i at next : ℕ) → i < length xs → at ≤ length s → at + width * i ≡ next
      → over_at next (bytes (get_or xs i d)) (over_at at (flat bytes (take i xs)) s) ≡ over_at at (flat bytes (take (i + 1) xs)) s
  flat-next-at d xs = of.flat-next-at bytes width Any (λ x p. wide x) d xs (any xs)

  pub flat-next : (d : A) (xs : List A) (s : List ℕ) (i : ℕ) → i < length xs
      → over_at (width * i) (bytes (get_or xs i d)) (over (flat bytes (take i xs)) s) ≡ over (flat bytes (take (i + 1) xs)) s
  flat-next d xs = of.flat-next bytes width Any (λ x p. wide x) d xs (any xs)

  pub flat-room : (xs : List A) (n : ℕ) (s : List ℕ) → length xs ≤ n → length s ≡ width * n → length (over (flat bytes xs) s) ≡ width * n
  flat-room xs = of.flat-room bytes width Any (λ x p. wide x) xs (any xs)

  pub flat-all : (xs : List A) (n : ℕ) (s : List ℕ) → length xs ≡ n → length s ≡ width * n → over (flat bytes xs) s ≡ flat bytes xs
  flat-all xs = of.flat-all bytes width Any (λ x p. wide x) xs (any xs)

  module _ (blank : A) (zeros : bytes blank ≡ replicate width 0) where
    pub flat-filled : (xs : List A) (n : ℕ) → length xs ≤ n → flat bytes (filled xs n blank) ≡ filled (flat bytes xs) (width * n) 0
    flat-filled xs = of.flat-filled bytes width Any (λ x p. wide x) blank zeros xs (any xs)

    pub flat-over : (xs : List A) (n : ℕ) → length xs ≤ n → over (flat bytes xs) (replicate (width * n) 0) ≡ flat bytes (filled xs n blank)
    flat-over xs = of.flat-over bytes width Any (λ x p. wide x) blank zeros xs (any xs)

  module _ (from : List ℕ → A) (same : (s : List ℕ) → width ≤ length s → bytes (from s) ≡ take width s) where
    pub taken-flat : (k n : ℕ) (s : List ℕ) → n ≤ k → width * n ≤ length s → flat bytes (take n (taken from width k s)) ≡ take (width * n) s
    taken-flat = of.taken-flat bytes width from same

    -- with blank records behind them, zeros
    pub flat-front : (blank : A) → bytes blank ≡ replicate width 0 → (k n : ℕ) (s : List ℕ) → n ≤ k → width * n ≤ length s
        → flat bytes (filled (take n (taken from width k s)) k blank) ≡ filled (take (width * n) s) (width * k) 0
    flat-front blank zeros k n s few long =
        let most : length (take n (taken from width k s)) ≤ k = omega (arith, length-take-le n (taken from width k s) (omega (arith, length_taken from width k s))) in
        flat-filled blank zeros (take n (taken from width k s)) k most ∙ ap (λ (front : List ℕ). filled front (width * k) 0) (taken-flat k n s few long)
