-- What private functions promise each other: what each step of building a text adds. No theorem for a signer speaks of
-- it.
use Rattle.std.specs.Prelude.{ℕ, ◌+◌, ◌≤◌, List, ◌++◌, length}
use Rattle.listing.specs.declared.Text.{Text}
use Rattle.listing.specs.Texts.{HoldsText}

-- r holds what t holds and more behind it, where there is room
pub record Appends (more : List ℕ) (t r : Text) : Type 0 where
  pub behind : (front : List ℕ) → HoldsText front t → length front + length more ≤ 640 → HoldsText (front ++ more) r
