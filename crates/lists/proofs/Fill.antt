-- An array that a loop fills from the front, one place a turn.
-- Assumes nothing.
use Prim.Native.Nat.{ℕ, suc, ◌+◌, ◌-◌, ◌≤◌, ◌<◌}
use native.Mathlib.Omega.{arith}
use native.Mathlib.Numerals.{add-one}
use mathlib.Core.Path.{◌≡◌, ◌∙◌, ap, ap₂, sym, refl}
use mathlib.Core.List.{List, [], ◌∷◌, ◌++◌, append_assoc, append-nil}
use lib.ListN.{length, get_or, take, set, replicate, length-append, length-replicate}
use lib.Seq.{take-suc, length-take-le, take_all, set_at}
use Rattle.lists.specs.Room.{filled}

-- an array has its places
pub length-filled : {A : Type 0} (front : List A) (n : ℕ) (blank : A) → length front ≤ n → length (filled front n blank) ≡ n
length-filled front n blank few =
    let rest = n - length front in
    simp (length-append, length-replicate) (omega arith)

module _ {A : Type 0} (front : List A) (n : ℕ) (blank x : A) (i : ℕ) (e : length front ≡ i) (h : i < n) where
  -- storing x at the first blank place puts it behind what the array holds
  pub filled_more : set (filled front n blank) i x ≡ filled (front ++ (x ∷ [])) n blank
  filled_more =
      let now : n - length front ≡ suc (n - (i + 1)) = omega arith in
      let later : n - length (front ++ (x ∷ [])) ≡ n - (i + 1) = simp length-append (omega arith) in
      ap (λ (k : ℕ). set (front ++ replicate k blank) i x) now
      ∙ set_at front blank (replicate (n - (i + 1)) blank) x i e
      ∙ sym (append_assoc front (x ∷ []) (replicate (n - (i + 1)) blank))
      ∙ ap (λ (k : ℕ). (front ++ (x ∷ [])) ++ replicate k blank) (sym later)

-- the same where a loop stores the elements of a list
module _ {A : Type 0} (xs : List A) (n : ℕ) (blank : A) where
  module _ (i : ℕ) (h : i < n) (inside : i < length xs) where
    -- storing the next element
    pub filled_next : (array : List A) (x : A) → array ≡ filled (take i xs) n blank → x ≡ get_or xs i blank → set array i x ≡ filled (take (i + 1) xs) n blank
    filled_next array x held e =
        let sized : length (take i xs) ≡ i = length-take-le i xs (omega arith) in
        let next : take (i + 1) xs ≡ take i xs ++ (get_or xs i blank ∷ []) = ap (λ (k : ℕ). take k xs) (add-one i) ∙ take-suc xs i blank inside in
        ap₂ (λ (ys : List A) (y : A). set ys i y) held e
        ∙ filled_more (take i xs) n blank (get_or xs i blank) i sized h
        ∙ ap (λ (front : List A). filled front n blank) (sym next)

    -- storing nothing, where the next element is the blank that stands there
    pub filled-same : get_or xs i blank ≡ blank → filled (take i xs) n blank ≡ filled (take (i + 1) xs) n blank
    filled-same e =
        let front = take i xs in
        let sized : length front ≡ i = length-take-le i xs (omega arith) in
        let more : n - length front ≡ suc (n - (i + 1)) = omega arith in
        ap (λ (k : ℕ). front ++ replicate k blank) more
        ∙ sym (set_at front blank (replicate (n - (i + 1)) blank) blank i sized)
        ∙ ap (λ (k : ℕ). set (front ++ replicate k blank) i blank) (sym more)
        ∙ filled_next (filled front n blank) blank refl (sym e)

  -- all elements are stored
  pub filled-all : length xs ≡ n → (i : ℕ) → n ≤ i → filled (take i xs) n blank ≡ xs
  filled-all e i h =
      let all : take i xs ≡ xs = take_all i xs (omega arith) in
      let none : n - length xs ≡ 0 = omega arith in
      ap (λ (front : List A). filled front n blank) all ∙ ap (λ (k : ℕ). xs ++ replicate k blank) none ∙ append-nil xs
