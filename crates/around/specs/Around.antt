-- An area laid around the body of a unit. RULES, "Picture area", "Replacing".
use Rattle.std.specs.Prelude.{ℕ, ◌+◌, ◌-◌, ◌≤◌, ◌≡◌, Bool, true, false, ◌&&◌, List, ◌++◌, leb, length, take, drop}
use Rattle.lists.specs.Room.{over, over_at}
use Rattle.units.specs.Layout.{layout_unit}

-- the bytes from `start` up to `end` give way to the new ones
abbrev pub exchanged : List ℕ → ℕ → ℕ → List ℕ → List ℕ
exchanged s start end new = take start s ++ (new ++ drop end s)

-- these are places of the area, and the unit with what is around it fits the output
abbrev pub fits : List ℕ → ℕ → ℕ → ℕ → List ℕ → Bool
fits s start end len out =
    leb start end && (leb end (length s) && leb (start + 4 + len + (length s - end)) (length out))

-- an output in which a body of `len` bytes stands behind the place of its start code: the unit, and the area around it,
-- over the output's front
abbrev pub surrounded_if : Bool → List ℕ → ℕ → ℕ → ℕ → List ℕ → List ℕ
surrounded_if true s start end len out = over (exchanged s start end (layout_unit (take len (drop (start + 4) out)))) out
surrounded_if false s start end len out = out

unfoldable pub surrounded : List ℕ → ℕ → ℕ → ℕ → List ℕ → List ℕ
surrounded s start end len out = surrounded_if (fits s start end len out) s start end len out

-- what a private function leaves: for each body that stands there, and whatever the output held before it
abbrev pub Surrounds : List ℕ → ℕ → ℕ → ℕ → List ℕ → List ℕ → Type 0
Surrounds s start end len out exit =
    (body first : List ℕ) → length body ≡ len → start + 4 + len ≤ length first → out ≡ over_at (start + 4) body first
    → exit ≡ over (exchanged s start end (layout_unit body)) first
