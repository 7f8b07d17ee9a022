-- What the search keeps of the units of the kind.
-- Assumes nothing.
use Prim.Native.Nat.{◌<◌}
use mathlib.Core.Path.{◌≡◌, sym, subst}
use mathlib.Core.List.{List, [], ◌∷◌}
use lib.ListN.{length}
use Rattle.refusal.specs.Verdict.{Accepted}
use Rattle.units.specs.declared.Found.{Found}
use Rattle.units.specs.Split.{Span, found_of}
use Rattle.units.specs.Inside.{Few}

-- there is room for one more in the count of what so many units tell
pub few : (spans : List Span) (so_far : Found) → so_far ≡ found_of Accepted spans → length spans < 16384 → Few so_far
few spans so_far e h = subst Few (sym e) (of spans h)
  where
    of : (spans : List Span) → length spans < 16384 → Few (found_of Accepted spans)
    of [] h = tt
    of (x ∷ []) h = tt
    of (x ∷ y ∷ xs) h = h
