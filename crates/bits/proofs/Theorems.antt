-- The theorems of bits in bytes (docs/RULES.md, "Picture area", PA-8 and PA-19, and "Forms", F-9). What they speak of
-- is defined in specs/Bits, specs/Table and specs/Peek.
-- How to read it: docs/NOTATION.md.
-- Assumes nothing.
use Prim.Native.Nat.{ℕ, ◌<◌, min}
use mathlib.Core.Path.{◌≡◌}
use mathlib.Core.List.{List, map}
use lib.ListN.{length, take}
use Rattle.lists.specs.Room.{over}
use Rattle.bits.specs.Bits.{reversed}
use Rattle.bits.specs.Table.{Reverses, found}
use Rattle.bits.specs.Peek.{peek_of, first_set, leading_of}
use Rattle.bits.proofs.Turn as turn
use Rattle.bits.proofs.Determined as determined

-- A byte that is turned round twice is what it was.
pub reversed-reversed : (b : ℕ) → b < 256 → reversed (reversed b) ≡ b
reversed-reversed = turn.reversed-reversed

-- For each function, two answers that keep its promise are equal.
pub peek-determined : (s : List ℕ) (at w a b : ℕ) → a ≡ peek_of s at (min w 32) → b ≡ peek_of s at (min w 32) → a ≡ b
peek-determined = determined.peek-determined

pub reverse-determined : (byte a b : ℕ) → a ≡ reversed byte → b ≡ reversed byte → a ≡ b
reverse-determined = determined.reverse-determined

pub reversed-bytes-determined : (a b : List ℕ) → Reverses a → Reverses b → a ≡ b
reversed-bytes-determined = determined.reversed-bytes-determined

pub look-up-determined : (s table out exit end : List ℕ)
    → exit ≡ over (take (length out) (map (found table) s)) out
    → end ≡ over (take (length out) (map (found table) s)) out → exit ≡ end
look-up-determined = determined.look-up-determined

pub first-set-determined : (s : List ℕ) (from a b : ℕ) → a ≡ first_set s from → b ≡ first_set s from → a ≡ b
first-set-determined = determined.first-set-determined

pub leading-determined : (byte a b : ℕ) → a ≡ leading_of byte → b ≡ leading_of byte → a ≡ b
leading-determined = determined.leading-determined
