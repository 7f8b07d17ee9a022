-- Which field of a frame a display field is. RULES, "Film"; ISO/IEC 13818-2, 6.3.10: the fields of a picture alternate,
-- and the top one, which is odd, comes first exactly when top_field_first is set. Nothing else in the project turns a
-- display field's number into an odd or even field.
use Rattle.std.specs.Prelude.{ℕ, zero, suc, Bool, true, false}

-- 1 odd, 0 even: the opposite side
abbrev pub opposite : ℕ → ℕ
opposite zero = 1
opposite (suc n) = 0

-- display fields are counted from 1, and each is the opposite of the one before. 0 is none: it stands for what the first
-- is the opposite of
abbrev pub side : Bool → ℕ → ℕ
side true zero = 0
side false zero = 1
side top_field_first (suc field) = opposite (side top_field_first field)
