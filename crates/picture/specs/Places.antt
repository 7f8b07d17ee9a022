-- What a refusal of an area tells of its place. RULES, "Refusals": where something fails inside a caption unit's body,
-- the place is the bit at which it begins, counted from the area's first.
use Rattle.std.specs.Prelude.{ℕ, ◌+◌, ◌*◌, ◌≡◌, true, List, ◌∷◌, ◌++◌, length}
use Rattle.lists.specs.Each.{Each}
use Rattle.units.specs.Layout as units
use Rattle.kind.specs.declared.Kind.{Kind}
use Rattle.kind.specs.Ours.{ours}
use Rattle.picture.specs.Kinds.{Stands}
use Rattle.picture.specs.Value.{Foreign}

-- a bit of the body of a unit that stands behind these units: before it come their bytes and its own four start bytes
abbrev pub area_bit : List (List ℕ) → ℕ → ℕ
area_bit before bit = 8 * (length (units.layout before) + 4) + bit

-- the only caption unit of an area, and what is wrong at the place, which is a bit of its body
pub record InUnit (k : Kind) (s : List ℕ) (number place : ℕ) : Type 0 where
  pub before : List (List ℕ)
  pub body : List ℕ
  pub after : List (List ℕ)
  pub whole : units.layout (before ++ (body ∷ after)) ≡ s
  pub foreign_before : Each (Foreign k) before
  pub foreign_after : Each (Foreign k) after
  pub clean : units.Clean body
  pub mine : ours k body ≡ true
  pub bit : ℕ
  pub here : place ≡ area_bit before bit
  pub stands : Stands k body number bit
  pub not_6 : number ≡ 6 → ⊥
