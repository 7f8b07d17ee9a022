-- The definitions of reading and writing check in the order of RULES.
-- Assumes nothing.
use Prim.Native.Nat.{ℕ}
use mathlib.Core.Path.{◌≡◌, refl}
use mathlib.Core.List.{List}
use lib.ListN.{length}
use Rattle.refusal.specs.Checks.{first}
use Rattle.refusal.proofs.Checks.{and_then-last}
use Rattle.refusal.proofs.Sequence.{first-append, first-each}
use Rattle.line21.specs.declared.Payload.{Payload}
use Rattle.line21.specs.Reading.{length_verdict}
use Rattle.line21.specs.Writing.{unit_verdict, value_verdict}
use Rattle.line21.specs.Order.{reading_checks, unit_checks, writing_checks}

pub reading-order : (s : List ℕ) → length_verdict (length s) ≡ first (reading_checks s)
unfolding length_verdict
reading-order s = refl

pub writing-order : (p : Payload) (room : ℕ) → value_verdict p room ≡ first (writing_checks p room)
unfolding value_verdict unit_verdict
writing-order p room = simp (first-append, first-each unit_checks, and_then-last)
