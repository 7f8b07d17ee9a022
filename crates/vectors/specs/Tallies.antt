-- What became of a vector, and a tally after one more. Assumes nothing.
use Rattle.std.specs.Prelude.{ℕ, ◌+◌, min, Bool, true, false}
use Rattle.vectors.specs.declared.tally.Tally.{Tally}
use Rattle.vectors.specs.declared.tally.Outcome.{Outcome}
use Rattle.vectors.specs.declared.tally.Outcome.TheVariants.{Agrees, Differs, Unreadable}

abbrev pub judged_of : Bool → Outcome
judged_of true = Agrees
judged_of false = Differs

abbrev pub agreed : Outcome → Bool
agreed Agrees = true
agreed Differs = false
agreed Unreadable = false

abbrev pub differed : Outcome → Bool
differed Agrees = false
differed Differs = true
differed Unreadable = false

-- a count stops at the largest number of 64 bits
abbrev pub one_more : ℕ → ℕ
one_more n = min (n + 1) 18446744073709551615

abbrev pub tallied_of : Tally → Bool → Tally
tallied_of t true = record { ran = one_more t.ran; differ = one_more t.differ }
tallied_of t false = record { ran = one_more t.ran; differ = t.differ }
