-- What private functions promise each other: what the search keeps on its way. No theorem for a signer speaks of it.
use Rattle.std.specs.Prelude.{ℕ, ◌+◌, ◌≤◌, ◌<◌, ◌≡◌, Bool, true, List, [], ◌∷◌, ◌++◌, length, drop}
use Rattle.refusal.specs.Verdict.{Accepted}
use Rattle.units.specs.declared.Found.{Found}
use Rattle.units.specs.declared.Found.TheVariants as found
use Rattle.units.specs.Layout.{prefixed}
use Rattle.units.specs.Split.{Span, found_of, next_of}

-- one unit more of the kind, behind those of which so much was found
abbrev pub Notes : Found → Span → Found → Type 0
Notes so_far span r = (spans : List Span) → so_far ≡ found_of Accepted spans → r ≡ found_of Accepted (spans ++ (span ∷ []))

-- there is room for one more in the count
abbrev pub Few : Found → Type 0
Few (found.NotUnits reason item) = Unit {0}
Few found.Nowhere = Unit {0}
Few (found.At unit end) = Unit {0}
Few (found.Many n) = n < 16384

-- the promise of `passable`: none is passed where a 00 00 01 begins at i, else so many that the next one is still ahead
pub record Passes (s : List ℕ) (i r : ℕ) : Type 0 where
  pub here : r ≡ 0 → prefixed (drop i s) ≡ true
  pub ahead : (r ≡ 0 → ⊥) → next_of s i ≡ next_of s (i + r)
  pub within : i + r ≤ length s

-- the promise of `by_blocks`: the search goes on from i to r, and the next 00 00 01 is still ahead
pub record Goes (s : List ℕ) (i r : ℕ) : Type 0 where
  pub ahead : next_of s i ≡ next_of s r
  pub onward : i ≤ r
  pub within : r ≤ length s

-- the promise of `by_bytes`: the same, and before `stop` it only ends where a 00 00 01 begins
pub record Stops (s : List ℕ) (i stop r : ℕ) : Type 0 where
  pub goes : Goes s i r
  pub here : r < stop → prefixed (drop r s) ≡ true

-- the promise of `bound`: 00 00 01 has room at each place before r, and r is behind i wherever it has room at i
abbrev pub Bounds : List ℕ → ℕ → ℕ → Type 0
Bounds s i r = (r + 2 ≤ length s) × (r ≤ i → length s ≤ i + 2)

-- the promise of `is_quiet` for 64 and of `is_blank` for 256: where it answers yes, so many places can be passed; a no
-- says nothing
abbrev pub Quiet : ℕ → List ℕ → ℕ → Bool → Type 0
Quiet n s i r = r ≡ true → Goes s i (i + n)
