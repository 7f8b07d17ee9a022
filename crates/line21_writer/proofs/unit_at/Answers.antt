-- The byte at `at + k` is byte k of what is left from `at` on.
use native.Mathlib.Nat.{add-zero}
use lib.Seq.{get_or-drop}
use Rattle.line21.specs.Lent.{access_unit_in}
use Rattle.line21_writer.proofs.unit_at.Goals as goal

pub returns : goal.returns
unfolding access_unit_in
returns c = simp (get_or-drop, add-zero)
