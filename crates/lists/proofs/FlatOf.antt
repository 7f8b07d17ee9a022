-- Records as bytes, one behind the other: one set of laws for every record and width. A record may have its width only
-- where P holds of it: the laws speak of records of which it does.
-- Assumes nothing.
use Prim.Native.Nat.{ℕ, zero, suc, ◌+◌, ◌-◌, ◌*◌, ◌≤◌, ◌<◌}
use native.Mathlib.Nat.{mul-zero, mul-suc, mul-add}
use native.Mathlib.Omega.{arith}
use native.Mathlib.Numerals.{add-one}
use mathlib.Core.Path.{◌≡◌, ◌∙◌, ap, ap₂, sym, subst, refl}
use mathlib.Core.List.{List, [], ◌∷◌, ◌++◌, append_assoc, append-nil}
use lib.ListN.{length, get_or, take, drop, replicate, length-append, length-drop, replicate-append-replicate, drop_of_length-le}
use lib.Seq.{drop-drop, drop_at, take-add, take-suc, length-take-le}
use Rattle.lists.specs.Each.{Each}
use Rattle.lists.specs.Room.{filled, over, over_at}
use Rattle.lists.specs.Flat.{flat, taken}
use Rattle.lists.proofs.Each.{each_take}
use Rattle.lists.proofs.Lay.{length_over, over_at-over_at, over-blank}

module _ {A : Type 0} (from : List ℕ → A) (width : ℕ) where
  pub length_taken : (k : ℕ) (s : List ℕ) → length (taken from width k s) ≡ k
  length_taken zero s = refl
  length_taken (suc k) s = ap suc (length_taken k (drop width s))

  -- one record on, and i more
  further : (i : ℕ) (s : List ℕ) → drop (width * i) (drop width s) ≡ drop (width * suc i) s
  further i s =
      let far : width + width * i ≡ width * suc i = omega (arith, mul-suc width i) in
      drop-drop (width * i) width s ∙ ap (λ (n : ℕ). drop n s) far

  here : (s : List ℕ) → s ≡ drop (width * 0) s
  here s = sym (ap (λ (n : ℕ). drop n s) (mul-zero width))

  -- the record at an index is the one that stands there
  pub get_d-taken : (d : A) (k i : ℕ) (s : List ℕ) → i < k → get_or (taken from width k s) i d ≡ from (drop (width * i) s)
  get_d-taken d zero i s h = let f : ⊥ = omega arith in absurd f
  get_d-taken d (suc k) zero s h = ap from (here s)
  get_d-taken d (suc k) (suc i) s h =
      let near : i < k = omega arith in
      get_d-taken d k i (drop width s) near ∙ ap from (further i s)

  -- one record more is the one that stands behind them
  pub taken_more : (k : ℕ) (s : List ℕ) → taken from width (suc k) s ≡ taken from width k s ++ (from (drop (width * k) s) ∷ [])
  taken_more zero s = ap (λ (t : List ℕ). from t ∷ []) (here s)
  taken_more (suc k) s =
      ap (λ (xs : List A). from s ∷ xs)
      (taken_more k (drop width s) ∙ ap (λ (t : List ℕ). taken from width k (drop width s) ++ (from t ∷ [])) (further k s))

  -- the first of them are taken alone,
  pub taken-take : (m k : ℕ) (s : List ℕ) → m ≤ k → take m (taken from width k s) ≡ taken from width m s
  taken-take zero k s h = refl
  taken-take (suc m) zero s h = let f : ⊥ = omega arith in absurd f
  taken-take (suc m) (suc k) s h = ap (λ (xs : List A). from s ∷ xs) (taken-take m k (drop width s) (omega arith))

  -- and the others from where they stand
  pub taken-drop : (i k j : ℕ) (s : List ℕ) → i + j ≡ k → drop i (taken from width k s) ≡ taken from width j (drop (width * i) s)
  taken-drop zero k j s e = ap₂ (taken from width) (let same : k ≡ j = omega arith in same) (here s)
  taken-drop (suc i) zero j s e = let f : ⊥ = omega arith in absurd f
  taken-drop (suc i) (suc k) j s e = taken-drop i k j (drop width s) (omega arith) ∙ ap (taken from width j) (further i s)

module _ {A : Type 0} (bytes : A → List ℕ) where
  pub flat_append : (xs ys : List A) → flat bytes (xs ++ ys) ≡ flat bytes xs ++ flat bytes ys
  flat_append [] ys = refl
  flat_append (x ∷ xs) ys = ap (λ (r : List ℕ). bytes x ++ r) (flat_append xs ys) ∙ sym (append_assoc (bytes x) (flat bytes xs) (flat bytes ys))

  -- one record more
  pub flat-more : (xs : List A) (x : A) → flat bytes (xs ++ (x ∷ [])) ≡ flat bytes xs ++ bytes x
  flat-more xs x = flat_append xs (x ∷ []) ∙ ap (λ (r : List ℕ). flat bytes xs ++ r) (append-nil (bytes x))

module _ {A : Type 0} (bytes : A → List ℕ) (width : ℕ) (P : A → Type 0) (wide : (x : A) → P x → length (bytes x) ≡ width) where
  pub length-flat : (xs : List A) → Each P xs → length (flat bytes xs) ≡ width * length xs
  length-flat [] h = sym (mul-zero width)
  length-flat (x ∷ xs) h =
      length-append (bytes x) (flat bytes xs)
      ∙ ap₂ (λ (a b : ℕ). a + b) (wide x h.0) (length-flat xs h.1)
      ∙ (let far : width + width * length xs ≡ width * suc (length xs) = omega (arith, mul-suc width (length xs)) in far)

  -- the bytes of record i stand behind those of the records before it
  pub flat-at : (d : A) (xs : List A) → Each P xs → (i : ℕ) (rest : List ℕ) → i < length xs
      → (after : List ℕ) × (drop (width * i) (flat bytes xs ++ rest) ≡ bytes (get_or xs i d) ++ after)
  flat-at d [] h i rest below = let f : ⊥ = omega arith in absurd f
  flat-at d (x ∷ xs) h zero rest below =
      (flat bytes xs ++ rest, ap (λ (k : ℕ). drop k (flat bytes (x ∷ xs) ++ rest)) (mul-zero width) ∙ append_assoc (bytes x) (flat bytes xs) rest)
  flat-at d (x ∷ xs) h (suc i) rest below =
      let on = flat-at d xs h.1 i rest (omega arith) in
      let all = flat bytes (x ∷ xs) ++ rest in
      let far : width * suc i ≡ width + width * i = omega (arith, mul-suc width i) in
      let behind : drop width all ≡ flat bytes xs ++ rest =
      ap (drop width) (append_assoc (bytes x) (flat bytes xs) rest) ∙ drop_at (bytes x) (flat bytes xs ++ rest) width (wide x h.0)
      in
      (on.0, ap (λ (k : ℕ). drop k all) far ∙ sym (drop-drop (width * i) width all) ∙ ap (drop (width * i)) behind ∙ on.1)

  -- records that are laid as bytes are taken from them again
  pub flat-taken : (from : List ℕ → A) → ((x : A) (rest : List ℕ) → P x → from (bytes x ++ rest) ≡ x) → (xs : List A) → Each P xs
      → (rest : List ℕ) → taken from width (length xs) (flat bytes xs ++ rest) ≡ xs
  flat-taken from back [] h rest = refl
  flat-taken from back (x ∷ xs) h rest =
      let whole = append_assoc (bytes x) (flat bytes xs) rest in
      let behind : drop width ((bytes x ++ flat bytes xs) ++ rest) ≡ flat bytes xs ++ rest =
      ap (drop width) whole ∙ drop_at (bytes x) (flat bytes xs ++ rest) width (wide x h.0)
      in
      ap₂ (λ (y : A) (ys : List A). y ∷ ys)
      (ap from whole ∙ back x (flat bytes xs ++ rest) h.0)
      (ap (taken from width (length xs)) behind ∙ flat-taken from back xs h.1 rest)

  -- all of them, where they fill the array
  pub flat-whole : (from : List ℕ → A) → ((x : A) (rest : List ℕ) → P x → from (bytes x ++ rest) ≡ x) → (xs : List A) → Each P xs
      → (n : ℕ) → length xs ≡ n → taken from width n (flat bytes xs) ≡ xs
  flat-whole from back xs h n e =
      ap (taken from width n) (sym (append-nil (flat bytes xs)))
      ∙ subst (λ (k : ℕ). taken from width k (flat bytes xs ++ []) ≡ xs) e (flat-taken from back xs h [])

  -- no more records than there are places have no more bytes
  pub flat-few : (xs : List A) → Each P xs → (n : ℕ) → length xs ≤ n → length (flat bytes xs) ≤ width * n
  flat-few xs h n few =
      let rest = n - length xs in
      let all : length xs + rest ≡ n = omega arith in
      let product : width * n ≡ width * length xs + width * rest = ap (λ (k : ℕ). width * k) (sym all) ∙ mul-add width (length xs) rest in
      omega (arith, product, length-flat xs h)

  -- records laid one behind the other, from index `at` on: the next one, where it comes,
  pub flat-next-at : (d : A) (xs : List A) → Each P xs → (s : List ℕ) (i at next : ℕ) → i < length xs → at ≤ length s → at + width * i ≡ next
      → over_at next (bytes (get_or xs i d)) (over_at at (flat bytes (take i xs)) s) ≡ over_at at (flat bytes (take (i + 1) xs)) s
  flat-next-at d xs h s i at next below inside e =
      let front = take i xs in
      let x = get_or xs i d in
      let count : length front ≡ i = length-take-le i xs (omega arith) in
      let far : at + length (flat bytes front) ≡ next = omega (arith, length-flat front (each_take P i xs h), ap (λ (k : ℕ). width * k) count) in
      let more : take (i + 1) xs ≡ front ++ (x ∷ []) = ap (λ (k : ℕ). take k xs) (add-one i) ∙ take-suc xs i d below in
      over_at-over_at at (flat bytes front) (bytes x) s next inside far
      ∙ ap (λ (laid : List ℕ). over_at at laid s) (sym (flat-more bytes front x) ∙ ap (flat bytes) (sym more))

  -- and from the front on;
  pub flat-next : (d : A) (xs : List A) → Each P xs → (s : List ℕ) (i : ℕ) → i < length xs
      → over_at (width * i) (bytes (get_or xs i d)) (over (flat bytes (take i xs)) s) ≡ over (flat bytes (take (i + 1) xs)) s
  flat-next d xs h s i below = flat-next-at d xs h s i 0 (width * i) below (omega arith) (omega arith)

  -- it keeps its length,
  pub flat-room : (xs : List A) → Each P xs → (n : ℕ) (s : List ℕ) → length xs ≤ n → length s ≡ width * n → length (over (flat bytes xs) s) ≡ width * n
  flat-room xs h n s few e = length_over (flat bytes xs) s (omega (arith, flat-few xs h n few)) ∙ e

  -- and as many records as there are places are all of it
  pub flat-all : (xs : List A) → Each P xs → (n : ℕ) (s : List ℕ) → length xs ≡ n → length s ≡ width * n → over (flat bytes xs) s ≡ flat bytes xs
  flat-all xs h n s all e =
      let short : length s ≤ length (flat bytes xs) = omega (arith, length-flat xs h, ap (λ (k : ℕ). width * k) all) in
      ap (λ (rest : List ℕ). flat bytes xs ++ rest) (drop_of_length-le s short) ∙ append-nil (flat bytes xs)

  -- blank records are zeros
  module _ (blank : A) (zeros : bytes blank ≡ replicate width 0) where
    blanks : (k : ℕ) → flat bytes (replicate k blank) ≡ replicate (width * k) 0
    blanks zero = sym (ap (λ (n : ℕ). replicate {A = ℕ} n 0) (mul-zero width))
    blanks (suc k) =
        let far : width + width * k ≡ width * suc k = omega (arith, mul-suc width k) in
        ap₂ (λ (a b : List ℕ). a ++ b) zeros (blanks k)
        ∙ replicate-append-replicate {A = ℕ} width (width * k) 0
        ∙ ap (λ (n : ℕ). replicate {A = ℕ} n 0) far

    -- an array of records that is blank behind its front, and its bytes
    pub flat-filled : (xs : List A) → Each P xs → (n : ℕ) → length xs ≤ n → flat bytes (filled xs n blank) ≡ filled (flat bytes xs) (width * n) 0
    flat-filled xs h n few =
        let rest = n - length xs in
        let all : length xs + rest ≡ n = omega arith in
        let product : width * n ≡ width * length xs + width * rest = ap (λ (k : ℕ). width * k) (sym all) ∙ mul-add width (length xs) rest in
        let left : width * rest ≡ width * n - length (flat bytes xs) = omega (arith, product, length-flat xs h) in
        flat_append bytes xs (replicate rest blank)
        ∙ ap (λ (r : List ℕ). flat bytes xs ++ r) (blanks rest)
        ∙ ap (λ (k : ℕ). flat bytes xs ++ replicate {A = ℕ} k 0) left

    -- records laid over an array of zeros
    pub flat-over : (xs : List A) → Each P xs → (n : ℕ) → length xs ≤ n → over (flat bytes xs) (replicate (width * n) 0) ≡ flat bytes (filled xs n blank)
    flat-over xs h n few = over-blank (flat bytes xs) (width * n) 0 (flat-few xs h n few) ∙ sym (flat-filled xs h n few)

-- bytes from which records are taken are laid again by them: those of the first n of k records
module _ {A : Type 0} (bytes : A → List ℕ) (width : ℕ) (from : List ℕ → A) (same : (s : List ℕ) → width ≤ length s → bytes (from s) ≡ take width s) where
  pub taken-flat : (k n : ℕ) (s : List ℕ) → n ≤ k → width * n ≤ length s → flat bytes (take n (taken from width k s)) ≡ take (width * n) s
  taken-flat k zero s few long = sym (ap (λ (m : ℕ). take m s) (mul-zero width))
  taken-flat zero (suc n) s few long = let f : ⊥ = omega arith in absurd f
  taken-flat (suc k) (suc n) s few long =
      let far : width + width * n ≡ width * suc n = omega (arith, mul-suc width n) in
      let here : width ≤ length s = omega arith in
      let rest : width * n ≤ length (drop width s) = omega (arith, length-drop width s) in
      ap₂ (λ (a b : List ℕ). a ++ b) (same s here) (taken-flat k n (drop width s) (omega arith) rest)
      ∙ sym (take-add width (width * n) s)
      ∙ ap (λ (m : ℕ). take m s) far

-- what holds of each record that is taken from bytes enough holds of all
module _ {A : Type 0} (from : List ℕ → A) (width : ℕ) (P : A → Type 0) (right : (s : List ℕ) → width ≤ length s → P (from s)) where
  pub taken-each : (n : ℕ) (s : List ℕ) → width * n ≤ length s → Each P (taken from width n s)
  taken-each zero s long = tt
  taken-each (suc n) s long =
      let far : width + width * n ≡ width * suc n = omega (arith, mul-suc width n) in
      (right s (omega arith), taken-each n (drop width s) (omega (arith, length-drop width s)))

-- records taken from bytes and laid as others: one more is laid behind them
pub taken-flat-more : {A : Type 0} (bytes : A → List ℕ) (from : List ℕ → A) (width i : ℕ) (s : List ℕ)
    → flat bytes (taken from width (i + 1) s) ≡ flat bytes (taken from width i s) ++ bytes (from (drop (width * i) s))
taken-flat-more bytes from width i s =
    ap (λ (k : ℕ). flat bytes (taken from width k s)) (add-one i)
    ∙ ap (flat bytes) (taken_more from width i s)
    ∙ flat-more bytes (taken from width i s) (from (drop (width * i) s))
