-- What one display field brings to its side of a frame: two data bytes, or nothing. RULES, "Film".
use Rattle.std.specs.Prelude.{ℕ, Option, Some, None}

abbrev pub Slot : Type 0
Slot = Option (ℕ × ℕ)

pattern abbrev pub Invalid : Slot
Invalid = None

pattern abbrev pub Pair : ℕ → ℕ → Slot
Pair a b = Some ((a, b))
