-- The theorems of what is laid around a body (docs/RULES.md, "Picture area"). What they speak of is defined in
-- specs/Around. How to read it: docs/NOTATION.md. Assumes nothing.
use Prim.Native.Nat.{ℕ, ◌+◌, ◌-◌, ◌≤◌}
use mathlib.Core.Path.{◌≡◌}
use mathlib.Core.List.{List}
use lib.ListN.{length}
use Rattle.lists.specs.Room.{over, over_at}
use Rattle.units.specs.Layout.{layout_unit}
use Rattle.around.specs.Around.{exchanged, surrounded}
use Rattle.around.proofs.Surrounding as surrounding

-- Around a body that was laid in an output, the new area stands over that output's front, and nothing else changed.
pub surrounded-body : (s : List ℕ) (start end : ℕ) (body out first : List ℕ) → start ≤ end → end ≤ length s
    → start + 4 + length body + (length s - end) ≤ length first → out ≡ over_at (start + 4) body first
    → surrounded s start end (length body) out ≡ over (exchanged s start end (layout_unit body)) first
surrounded-body = surrounding.surrounded-body

-- Two answers that keep the promise of `surround` are equal.
pub surround-determined : (s : List ℕ) (start end len : ℕ) (out a b : List ℕ)
    → a ≡ surrounded s start end len out → b ≡ surrounded s start end len out → a ≡ b
surround-determined = surrounding.surround-determined
