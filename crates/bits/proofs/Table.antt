-- The table of reversed bytes: one test over all its entries, which antt computes, and what each entry is by that test.
-- Assumes nothing.
use Prim.Native.Nat.{ℕ, zero, suc, ◌<◌}
use native.Mathlib.Omega.{arith}
use mathlib.Core.Path.{◌≡◌, ap₂, refl}
use mathlib.Core.Bool.{Bool}
use mathlib.Core.List.{List, [], ◌∷◌, map}
use lib.Dec.{T, eqb, eqb→eq}
use lib.ListN.{length, get_or}
use Rattle.lists.specs.Bytes.{Bytes}
use Rattle.lists.proofs.Below.{all, below}
use Rattle.bits.specs.Bits.{reversed}
use Rattle.bits.specs.Table.{Reverses, found}

-- the entry at the index of a byte is that byte with its bits in the other order
abbrev right : List ℕ → ℕ → Bool
right table b = eqb (get_or table b 0) (reversed b)

-- all 256 are
abbrev pub test : List ℕ → Bool
test table = all (right table) 256

pub reverses : (table : List ℕ) → length table ≡ 256 → T (test table) → Reverses table
reverses table whole passed = record { whole = whole; entry = λ b byte. eqb→eq (get_or table b 0) (reversed b) (below (right table) 256 passed b byte) }

-- what is found for the byte of index i
pub found_at : (table s : List ℕ) (i : ℕ) → i < length s → get_or (map (found table) s) i 0 ≡ found table (get_or s i 0)
found_at table [] i h = let f : ⊥ = omega arith in absurd f
found_at table (b ∷ s) zero h = refl
found_at table (b ∷ s) (suc i) h = let next : i < length s = omega arith in found_at table s i next

-- by a table that reverses, bytes are found turned round
pub found-reversed : (table s : List ℕ) → Reverses table → Bytes s → map (found table) s ≡ map reversed s
found-reversed table [] right bytes = refl
found-reversed table (b ∷ s) right bytes = ap₂ (λ (x : ℕ) (xs : List ℕ). x ∷ xs) (right.entry b bytes.0) (found-reversed table s right bytes.1)
