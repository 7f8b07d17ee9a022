-- Records as bytes, one behind the other, each of one width: how a lent array holds them.
use Rattle.std.specs.Prelude.{ℕ, zero, suc, List, [], ◌∷◌, ◌++◌, drop}

-- the bytes of records
abbrev pub flat : {A : Type 0} → (A → List ℕ) → List A → List ℕ
flat bytes [] = []
flat bytes (x ∷ xs) = bytes x ++ flat bytes xs

-- the first k records, each of `width` bytes
abbrev pub taken : {A : Type 0} → (List ℕ → A) → ℕ → ℕ → List ℕ → List A
taken from width zero s = []
taken from width (suc k) s = from s ∷ taken from width k (drop width s)
