-- `listing::with_hex` puts a byte's two digits behind the text, the high one first.
use Prim.Native.Nat.{ℕ}
use mathlib.Core.Path.{ap}
use mathlib.Core.List.{[], ◌∷◌}
use Rattle.listing.proofs.Building.{appends-both, appends-same}
use Rattle.listing.proofs.with_hex.Goals as goal

pub returns : goal.returns
returns c =
    appends-both
    (appends-same (ap (λ (b : ℕ). b ∷ []) c.character.ensures) c.with_byte-t.ensures)
    (appends-same (ap (λ (b : ℕ). b ∷ []) c.character-2.ensures) c.with_byte.ensures)
