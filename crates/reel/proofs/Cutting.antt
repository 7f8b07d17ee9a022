-- Cutting a list into pieces of one size.
-- Assumes nothing.
use Prim.Native.Nat.{ℕ, zero, suc, ◌+◌, ◌-◌, ◌*◌, ◌≤◌, ◌<◌, min}
use native.Mathlib.Omega.{arith}
use native.Mathlib.Nat.{mul-zero, mul-suc}
use mathlib.Core.Path.{◌≡◌, ◌∙◌, ap, ap₂, sym, refl}
use mathlib.Core.List.{List, [], ◌∷◌, ◌++◌}
use lib.ListN.{length, take, drop, length-append, length-take, length-drop, take-append-drop}
use lib.Seq.{take-nil, drop-nil, take_at, drop_at, drop-drop}
use Rattle.lists.specs.Each.{Each}
use Rattle.lists.proofs.Each.{each_append, append-each}
use Rattle.reel.specs.Cut.{pieces, cut, joined, Sized}

module _ {A : Type 0} where
  -- taking more than there is takes all
  take-least : (k : ℕ) (xs : List A) → take k xs ≡ take (min k (length xs)) xs
  take-least zero xs = let none : 0 ≡ min 0 (length xs) = omega arith in ap (λ (n : ℕ). take n xs) none
  take-least (suc k) [] = sym (take-nil (min (suc k) 0))
  take-least (suc k) (x ∷ xs) =
      let m = min k (length xs) in
      let far : suc m ≡ min (suc k) (suc (length xs)) = omega arith in
      ap (λ (rest : List A). x ∷ rest) (take-least k xs) ∙ ap (λ (n : ℕ). take n (x ∷ xs)) far

  drop-least : (k : ℕ) (xs : List A) → drop k xs ≡ drop (min k (length xs)) xs
  drop-least zero xs = let none : 0 ≡ min 0 (length xs) = omega arith in ap (λ (n : ℕ). drop n xs) none
  drop-least (suc k) [] = sym (drop-nil (min (suc k) 0))
  drop-least (suc k) (x ∷ xs) =
      let m = min k (length xs) in
      let far : suc m ≡ min (suc k) (suc (length xs)) = omega arith in
      drop-least k xs ∙ ap (λ (n : ℕ). drop n (x ∷ xs)) far

  none : (most size : ℕ) → ◌≡◌ {A = List (List A)} (pieces most size []) []
  none zero size = refl
  none (suc most) size = refl

  module _ (size : ℕ) (some : 1 ≤ size) where
    shorter : (x : A) (xs : List A) → length (drop size (x ∷ xs)) ≤ length xs
    shorter x xs = omega (arith, length-drop size (x ∷ xs))

    -- how many pieces are allowed does not matter, once there are enough
    enough : (f g : ℕ) (xs : List A) → length xs ≤ f → length xs ≤ g → pieces f size xs ≡ pieces g size xs
    enough zero g [] a b = sym (none g size)
    enough zero g (x ∷ xs) a b = let f : ⊥ = omega arith in absurd f
    enough (suc f) zero [] a b = refl
    enough (suc f) zero (x ∷ xs) a b = let f : ⊥ = omega arith in absurd f
    enough (suc f) (suc g) [] a b = refl
    enough (suc f) (suc g) (x ∷ xs) a b =
        ap (λ (rest : List (List A)). take size (x ∷ xs) ∷ rest)
        (enough f g (drop size (x ∷ xs)) (omega (arith, shorter x xs)) (omega (arith, shorter x xs)))

    -- the first piece, then those of what is left
    pub cut-first : (x : A) (xs : List A) → cut size (x ∷ xs) ≡ take size (x ∷ xs) ∷ cut size (drop size (x ∷ xs))
    cut-first x xs =
        ap (λ (rest : List (List A)). take size (x ∷ xs) ∷ rest)
        (enough (length xs) (length (drop size (x ∷ xs))) (drop size (x ∷ xs)) (shorter x xs) (omega arith))

    -- the same with the count of the first piece as the code has it,
    pub cut-least : (xs : List A) (m : ℕ) → 0 < length xs → m ≡ min size (length xs) → cut size xs ≡ take m xs ∷ cut size (drop m xs)
    cut-least [] m h e = let f : ⊥ = omega arith in absurd f
    cut-least (x ∷ xs) m h e =
        let short = sym e in
        cut-first x xs
        ∙ ap₂ (λ (piece rest : List A). piece ∷ cut size rest)
        (take-least size (x ∷ xs) ∙ ap (λ (n : ℕ). take n (x ∷ xs)) short)
        (drop-least size (x ∷ xs) ∙ ap (λ (n : ℕ). drop n (x ∷ xs)) short)

    -- and from an index on
    pub cut-next : (xs : List A) (i m : ℕ) → i < length xs → m ≡ min size (length xs - i)
        → cut size (drop i xs) ≡ take m (drop i xs) ∷ cut size (drop (i + m) xs)
    cut-next xs i m h e =
        let count = length-drop i xs in
        let left : 0 < length (drop i xs) = omega arith in
        let few : m ≡ min size (length (drop i xs)) = omega arith in
        cut-least (drop i xs) m left few ∙ ap (λ (rest : List A). take m (drop i xs) ∷ cut size rest) (drop-drop m i xs)

    -- the pieces joined are the list
    pub cut-joined : (xs : List A) → joined (cut size xs) ≡ xs
    cut-joined xs = whole (length xs) xs (omega arith)
      where
        whole : (f : ℕ) (xs : List A) → length xs ≤ f → joined (pieces f size xs) ≡ xs
        whole zero [] h = refl
        whole zero (x ∷ xs) h = let f : ⊥ = omega arith in absurd f
        whole (suc f) [] h = refl
        whole (suc f) (x ∷ xs) h =
            ap (λ (rest : List A). take size (x ∷ xs) ++ rest) (whole f (drop size (x ∷ xs)) (omega (arith, shorter x xs)))
            ∙ take-append-drop size (x ∷ xs)

    -- each piece is full but the last, which has 1 to `size` elements
    pub cut-sized : (xs : List A) → Sized size (cut size xs)
    cut-sized xs = sized-from (length xs) xs (omega arith)
      where
        joint : (f : ℕ) (p rest : List A) → 0 < length p → length p ≤ size → (0 < length rest → length p ≡ size) → length rest ≤ f
            → Sized size (pieces f size rest) → Sized size (p ∷ pieces f size rest)
        joint zero p [] one few full h s = (one, few)
        joint zero p (y ∷ ys) one few full h s = let f : ⊥ = omega arith in absurd f
        joint (suc f) p [] one few full h s = (one, few)
        joint (suc f) p (y ∷ ys) one few full h s = (full (omega arith), s)

        sized-from : (f : ℕ) (xs : List A) → length xs ≤ f → Sized size (pieces f size xs)
        sized-from zero [] h = tt
        sized-from zero (x ∷ xs) h = let f : ⊥ = omega arith in absurd f
        sized-from (suc f) [] h = tt
        sized-from (suc f) (x ∷ xs) h =
            let all = x ∷ xs in
            let front = length-take size all in
            let back = length-drop size all in
            let less = shorter x xs in
            joint f (take size all) (drop size all) (omega arith) (omega arith)
            (λ more. omega arith)
            (omega arith)
            (sized-from f (drop size all) (omega arith))

    -- what is cut in this way is so in no other
    pub cut-only : (ps : List (List A)) → Sized size ps → cut size (joined ps) ≡ ps
    cut-only [] h = refl
    cut-only ([] ∷ []) h = let f : ⊥ = omega (arith, h.0) in absurd f
    cut-only ((x ∷ xs) ∷ []) h =
        let all = joined ((x ∷ xs) ∷ []) in
        let long : length all ≡ suc (length xs) = simp length-append (omega arith) in
        let few : suc (length xs) ≡ min size (length all) = omega (arith, h.1) in
        cut-least all (suc (length xs)) (omega arith) few
        ∙ ap₂ (λ (piece rest : List A). piece ∷ cut size rest) (take_at (x ∷ xs) [] (suc (length xs)) refl) (drop_at (x ∷ xs) [] (suc (length xs)) refl)
    cut-only (p ∷ q ∷ ps) h =
        let rest = joined (q ∷ ps) in
        let long : length (p ++ rest) ≡ length p + length rest = length-append p rest in
        let few : size ≡ min size (length (p ++ rest)) = omega (arith, h.0) in
        cut-least (p ++ rest) size (omega (arith, h.0)) few
        ∙ ap₂ (λ (piece left : List A). piece ∷ cut size left) (take_at p rest size h.0) (drop_at p rest size h.0)
        ∙ ap (λ (pieces : List (List A)). p ∷ pieces) (cut-only (q ∷ ps) h.1)

-- how many pieces there are: as few as hold the list
module _ {A : Type 0} (size : ℕ) (some : 1 ≤ size) where
  pub sized-count : (ps : List (List A)) → Sized size ps → (length (joined ps) ≤ size * length ps) × (size * length ps < length (joined ps) + size)
  sized-count [] h = let none = mul-zero size in (omega arith, omega arith)
  sized-count (p ∷ []) h =
      let one : size * 1 ≡ size = omega (arith, mul-suc size 0, mul-zero size) in
      let long : length (p ++ []) ≡ length p = simp length-append (omega arith) in
      (omega (arith, h.1), omega (arith, h.0))
  sized-count (p ∷ q ∷ ps) h =
      let on = sized-count (q ∷ ps) h.1 in
      let more = mul-suc size (length (q ∷ ps)) in
      let long = length-append p (joined (q ∷ ps)) in
      (omega (arith, h.0, on.0), omega (arith, h.0, on.1))

  -- no piece is longer than the size
  pub sized-few : (ps : List (List A)) → Sized size ps → Each (λ (p : List A). length p ≤ size) ps
  sized-few [] h = tt
  sized-few (p ∷ []) h = (h.1, tt)
  sized-few (p ∷ q ∷ ps) h = (omega (arith, h.0), sized-few (q ∷ ps) h.1)

-- every element of the list is one of a piece, and every one of a piece is one of the list
module _ {A : Type 0} (P : A → Type 0) where
  pub each-joined : (ps : List (List A)) → Each (λ (xs : List A). Each P xs) ps → Each P (joined ps)
  each-joined [] h = tt
  each-joined (xs ∷ ps) h = each_append P xs (joined ps) h.0 (each-joined ps h.1)

  pub joined-each : (ps : List (List A)) → Each P (joined ps) → Each (λ (xs : List A). Each P xs) ps
  joined-each [] h = tt
  joined-each (xs ∷ ps) h = let both = append-each P xs (joined ps) h in (both.0, joined-each ps both.1)
