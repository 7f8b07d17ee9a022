-- What private functions promise each other. No theorem for a signer speaks of it.
use Rattle.std.specs.Prelude.{ℕ, ◌+◌, ◌≤◌, ◌≡◌, Bool, true, List, length}
use Rattle.bits.specs.Peek.{first_set}

-- the promise of `is_clear`: where it answers yes, 64 bytes can be passed; a no says nothing
abbrev pub Clear : List ℕ → ℕ → Bool → Type 0
Clear s i r = r ≡ true → (i + 64 ≤ length s) × (first_set s i ≡ first_set s (i + 64))
