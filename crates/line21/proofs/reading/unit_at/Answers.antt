-- The byte at `at + k` is byte k of what is left from `at` on.
use native.Mathlib.Nat.{add-zero}
use lib.Seq.{get_or-drop}
use Rattle.line21.specs.Reading.{read_unit}
use Rattle.line21.proofs.reading.unit_at.Goals as goal

pub returns : goal.returns
unfolding read_unit
returns c = simp (get_or-drop, add-zero)
