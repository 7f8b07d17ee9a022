-- What `pattern` promises of an output, of bytes or of words, is the record `Patterned`.
-- Assumes nothing.
use Rattle.std.proofs.Common.{◌≡◌, ℕ, ◌<◌, List, length, slice_get}
use Rattle.std.specs.Prelude.{Some}
use Rattle.std.proofs.lemmas.Option.{get_or_from_slice_get}
use Rattle.vectors.specs.Numbers.{pattern_at, Patterned}

pub patterned : (m n : ℕ) (s : List ℕ) → length s ≡ n → ((k : ℕ) → k < n → slice_get s k ≡ Some (pattern_at m k)) → Patterned m n s
patterned m n s size each = record { size = size; each = λ k h. get_or_from_slice_get s k (pattern_at m k) 0 (each k h) }
