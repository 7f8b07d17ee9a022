-- Where a byte, a mark and a line stand. Assumes nothing.
use Rattle.std.specs.Prelude.{ℕ, ◌≤◌, ◌<◌, ◌≡◌, Bool, true, false, List, [], ◌∷◌, eqb, length, drop, get_or}
use Rattle.vectors.specs.declared.lines.Line.{Line}
use Rattle.vectors.specs.declared.lines.Lines.{Lines}

-- r is the first index from `from` on at which b stands, or the length
pub record Found (s : List ℕ) (from b r : ℕ) : Type 0 where
  pub within : r ≤ length s
  pub onward : from ≤ length s → from ≤ r
  pub passed : (k : ℕ) → k < r → from ≤ k → get_or s k 0 ≡ b → ⊥
  pub found : r < length s → get_or s r 0 ≡ b

-- the line and what was read lie in a buffer of n bytes, in this order
pub record Standing (n : ℕ) (line : Line) (l : Lines) : Type 0 where
  pub forth : line.start ≤ line.end
  pub past : line.end ≤ l.after
  pub read : l.after ≤ l.filled
  pub inside : l.filled ≤ n

-- a byte before the fields of what follows it
unfoldable pub led : Bool → ℕ → List (List ℕ) → List (List ℕ)
led true b fs = [] ∷ fs
led false b [] = (b ∷ []) ∷ []
led false b (f ∷ fs) = (b ∷ f) ∷ fs

-- the parts of a line between its spaces
unfoldable pub fields_of : List ℕ → List (List ℕ)
fields_of [] = [] ∷ []
fields_of (b ∷ s) = led (eqb b 32) b (fields_of s)

-- a line that begins with !
abbrev pub marked_of : List ℕ → Bool
marked_of s = eqb (get_or s 0 0) 33

abbrev pub without : Bool → List ℕ → List ℕ
without true s = drop 1 s
without false s = s

abbrev pub unmarked_of : List ℕ → List ℕ
unmarked_of s = without (marked_of s) s
