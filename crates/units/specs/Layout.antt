-- The bytes of a list of units, from their bodies alone. RULES, "Picture area"; ISO/IEC 13818-2, user_data_start_code.
use Rattle.std.specs.Prelude.{ℕ, ◌≡◌, Bool, false, ◌&&◌, List, [], ◌∷◌, ◌++◌, eqb}

-- 00 00 01 stands at the front
abbrev pub prefixed : List ℕ → Bool
prefixed [] = false
prefixed (a ∷ []) = false
prefixed (a ∷ b ∷ []) = false
prefixed (a ∷ b ∷ c ∷ s) = eqb a 0 && (eqb b 0 && eqb c 1)

-- bytes in which 00 00 01 does not appear
abbrev pub Clean : List ℕ → Type 0
Clean [] = Unit {0}
Clean (b ∷ s) = (prefixed (b ∷ s) ≡ false) × Clean s

-- user_data_start_code
abbrev pub start_code : List ℕ
start_code = 0 ∷ 0 ∷ 1 ∷ 0xB2 ∷ []

-- the four start bytes, then the body
abbrev pub layout_unit : List ℕ → List ℕ
layout_unit body = 0 ∷ 0 ∷ 1 ∷ 0xB2 ∷ body

abbrev pub layout : List (List ℕ) → List ℕ
layout [] = []
layout (body ∷ bodies) = layout_unit body ++ layout bodies

-- an output with the start code over its front; one shorter than that as it is
abbrev pub started : List ℕ → List ℕ
started [] = []
started (a ∷ []) = a ∷ []
started (a ∷ b ∷ []) = a ∷ b ∷ []
started (a ∷ b ∷ c ∷ []) = a ∷ b ∷ c ∷ []
started (a ∷ b ∷ c ∷ d ∷ out) = layout_unit out
