-- A list cut into pieces of one size, one behind the other; the last may be shorter. RULES, "Reel".
use Rattle.std.specs.Prelude.{ℕ, zero, suc, ◌≤◌, ◌<◌, ◌≡◌, List, [], ◌∷◌, ◌++◌, length, take, drop}

-- no more than `most` pieces
abbrev pub pieces : {A : Type 0} → ℕ → ℕ → List A → List (List A)
pieces zero size xs = []
pieces (suc most) size [] = []
pieces (suc most) size (x ∷ xs) = take size (x ∷ xs) ∷ pieces most size (drop size (x ∷ xs))

-- all pieces: a list has no more of them than elements
abbrev pub cut : {A : Type 0} → ℕ → List A → List (List A)
cut size xs = pieces (length xs) size xs

-- pieces, one behind the other
abbrev pub joined : {A : Type 0} → List (List A) → List A
joined [] = []
joined (xs ∷ rest) = xs ++ joined rest

-- what pieces of one size are: each full but the last, which has 1 to `size` elements
abbrev pub Sized : {A : Type 0} → ℕ → List (List A) → Type 0
Sized size [] = Unit {0}
Sized size (xs ∷ []) = (0 < length xs) × (length xs ≤ size)
Sized size (xs ∷ ys ∷ rest) = (length xs ≡ size) × Sized size (ys ∷ rest)
