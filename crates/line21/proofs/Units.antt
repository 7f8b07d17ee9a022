-- The units that a list of bytes holds, one after the other.
-- Assumes nothing.
use Prim.Native.Nat.{ℕ, ◌+◌, ◌*◌, ◌<◌}
use native.Mathlib.Numerals.{add-one}
use mathlib.Core.Path.{◌≡◌, ◌∙◌, ap, sym}
use mathlib.Core.List.{List, [], ◌∷◌, ◌++◌}
use lib.ListN.{length, drop, set}
use lib.Seq.{drop-drop}
use Rattle.lists.specs.Room.{filled}
use Rattle.lists.proofs.Fill.{filled_more}
use Rattle.lists.proofs.Flat.{length_taken, taken_more}
use Rattle.line21.specs.declared.AccessUnit.{AccessUnit}
use Rattle.line21.specs.Value.{blank}
use Rattle.line21.specs.Reading.{read_unit, read_units}

pub length-read_units : (k : ℕ) (s : List ℕ) → length (read_units k s) ≡ k
length-read_units = length_taken read_unit 5

-- one unit more is the one that stands behind them
pub read_units-more : (i : ℕ) (s : List ℕ) → read_units (i + 1) (drop 1 s) ≡ read_units i (drop 1 s) ++ (read_unit (drop (1 + 5 * i) s) ∷ [])
read_units-more i s =
    ap (λ (k : ℕ). read_units k (drop 1 s)) (add-one i)
    ∙ taken_more read_unit 5 i (drop 1 s)
    ∙ ap (λ (t : List ℕ). read_units i (drop 1 s) ++ (read_unit t ∷ [])) (drop-drop (5 * i) 1 s)

-- the array of the first i units, with the next one stored behind them
pub collected-more : (s : List ℕ) (i : ℕ) → i < 291 → set (filled (read_units i (drop 1 s)) 291 blank) i (read_unit (drop (1 + 5 * i) s)) ≡ filled (read_units (i + 1) (drop 1 s)) 291 blank
collected-more s i h =
    filled_more (read_units i (drop 1 s)) 291 blank (read_unit (drop (1 + 5 * i) s)) i (length-read_units i (drop 1 s)) h
    ∙ ap (λ (us : List AccessUnit). filled us 291 blank) (sym (read_units-more i s))
