-- Lists of bytes. Every `&[u8]` of the code is one.
use Rattle.std.specs.Prelude.{ℕ, ◌<◌, List}
use Rattle.lists.specs.Each.{Each}

abbrev pub Bytes : List ℕ → Type 0
Bytes s = Each (λ (b : ℕ). b < 256) s
