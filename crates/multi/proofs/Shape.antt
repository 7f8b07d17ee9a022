-- Words that begin with an inner packet: its four header words, its user words, NCS, and the rest.
-- Assumes nothing.
use Prim.Native.Nat.{ℕ, suc, ◌+◌, ◌-◌, ◌≤◌, ◌<◌}
use native.Mathlib.Omega.{arith}
use mathlib.Core.Path.{◌≡◌, ◌∙◌, ap, sym, refl}
use mathlib.Core.List.{List, [], ◌∷◌, ◌++◌}
use lib.ListN.{length, get_or, take, drop, length-append, take-append-drop}
use lib.Seq.{take_at, drop_at, get_or_at, append_snoc, drop-cons, length-take-le}
use Rattle.lists.specs.Part.{part}
use Rattle.anc.specs.Words.{byte_of}
use Rattle.multi.specs.Order.{ncs_at, size_in}

-- LINE/FIELD, NDID, NSDID, NDC, the user words, NCS, and what is behind it
abbrev pub shaped : ℕ → ℕ → ℕ → ℕ → List ℕ → ℕ → List ℕ → List ℕ
shaped a b c d us x rest = a ∷ b ∷ c ∷ d ∷ (us ++ (x ∷ rest))

module _ (a b c d : ℕ) (us : List ℕ) (x : ℕ) (rest : List ℕ) (counted : length us ≡ byte_of d) where
  abbrev u : List ℕ
  u = shaped a b c d us x rest

  -- where NDC counts the user words
  four : 4 + byte_of d ≡ suc (suc (suc (suc (byte_of d))))
  four = omega arith

  pub shaped-front : take (ncs_at u) u ≡ a ∷ b ∷ c ∷ d ∷ us
  shaped-front =
      ap (λ (k : ℕ). take k u) four ∙ ap (λ (ys : List ℕ). a ∷ b ∷ c ∷ d ∷ ys) (take_at us (x ∷ rest) (byte_of d) counted)

  pub shaped-user : part 4 (ncs_at u) u ≡ us
  shaped-user =
      let same : 4 + byte_of d - 4 ≡ byte_of d = omega arith in
      ap (λ (k : ℕ). take k (us ++ (x ∷ rest))) same ∙ take_at us (x ∷ rest) (byte_of d) counted

  pub shaped-cover : part 1 (ncs_at u) u ≡ b ∷ c ∷ d ∷ us
  shaped-cover =
      let same : 4 + byte_of d - 1 ≡ suc (suc (suc (byte_of d))) = omega arith in
      ap (λ (k : ℕ). take k (b ∷ c ∷ d ∷ (us ++ (x ∷ rest)))) same
      ∙ ap (λ (ys : List ℕ). b ∷ c ∷ d ∷ ys) (take_at us (x ∷ rest) (byte_of d) counted)

  pub shaped-ncs : get_or u (ncs_at u) 0 ≡ x
  shaped-ncs = ap (λ (k : ℕ). get_or u k 0) four ∙ get_or_at us x rest 0 (byte_of d) counted

  pub shaped-whole : take (size_in u) u ≡ a ∷ b ∷ c ∷ d ∷ (us ++ (x ∷ []))
  shaped-whole =
      let five : 5 + byte_of d ≡ suc (suc (suc (suc (suc (byte_of d))))) = omega arith in
      let long : length (us ++ (x ∷ [])) ≡ suc (byte_of d) = omega (arith, length-append us (x ∷ []), counted) in
      ap (λ (k : ℕ). take k u) five
      ∙ ap (λ (ys : List ℕ). a ∷ b ∷ c ∷ d ∷ ys)
      (ap (take (suc (byte_of d))) (sym (append_snoc us x rest)) ∙ take_at (us ++ (x ∷ [])) rest (suc (byte_of d)) long)

  pub shaped-behind : drop (size_in u) u ≡ rest
  shaped-behind =
      let five : 5 + byte_of d ≡ suc (suc (suc (suc (suc (byte_of d))))) = omega arith in
      let long : length (us ++ (x ∷ [])) ≡ suc (byte_of d) = omega (arith, length-append us (x ∷ []), counted) in
      ap (λ (k : ℕ). drop k u) five
      ∙ ap (drop (suc (byte_of d))) (sym (append_snoc us x rest))
      ∙ drop_at (us ++ (x ∷ [])) rest (suc (byte_of d)) long

  pub shaped-length : length u ≡ size_in u + length rest
  shaped-length = omega (arith, length-append us (x ∷ rest), counted)

-- words that have an inner packet's header, and all its words by NDC, are so
pub record Shaped (u : List ℕ) : Type 0 where
  pub a : ℕ
  pub b : ℕ
  pub c : ℕ
  pub d : ℕ
  pub us : List ℕ
  pub x : ℕ
  pub rest : List ℕ
  pub counted : length us ≡ byte_of d
  pub same : u ≡ shaped a b c d us x rest

few : {P : Type 0} (n m : ℕ) → n ≡ m → m < 4 → 4 ≤ n → P
few n m e low high = let f : ⊥ = omega arith in absurd f

pub shape : (u : List ℕ) → 4 ≤ length u → size_in u ≤ length u → Shaped u
shape [] h g = few 0 0 refl (omega arith) h
shape (a ∷ []) h g = few 1 1 refl (omega arith) h
shape (a ∷ b ∷ []) h g = few 2 2 refl (omega arith) h
shape (a ∷ b ∷ c ∷ []) h g = few 3 3 refl (omega arith) h
shape (a ∷ b ∷ c ∷ d ∷ r) h g =
    let n = byte_of d in
    let inside : n < length r = omega (arith, g) in
    let fits : n ≤ length r = omega arith in
    record {
      a = a;
      b = b;
      c = c;
      d = d;
      us = take n r;
      x = get_or r n 0;
      rest = drop (suc n) r;
      counted = length-take-le n r fits;
      same =
          ap (λ (ys : List ℕ). a ∷ b ∷ c ∷ d ∷ ys)
          (sym (take-append-drop n r) ∙ ap (λ (ys : List ℕ). take n r ++ ys) (drop-cons r n 0 inside));
    }
