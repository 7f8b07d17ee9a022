-- What writing a PES data field answers, and what the lent output then holds, for every value and output. RULES, "Order
-- of checks": 15 of data_identifier and of n; unit by unit 15, then 7; 14.
use Rattle.std.specs.Prelude.{ℕ, List, map, length}
use Rattle.refusal.specs.Verdict.{Verdict}
use Rattle.refusal.specs.declared.Written.{Written}
use Rattle.refusal.specs.Checks.{first}
use Rattle.refusal.specs.Answers.{Wrote}
use Rattle.pes.specs.Value.{DataUnit, Told, Typed, held}
use Rattle.pes.specs.Layout.{layout}
use Rattle.pes.specs.Order.{written_checks, writing_checks}

-- one unit. Stuffing is carried
unfoldable pub written_verdict : DataUnit → Verdict
written_verdict x = first (written_checks x)

abbrev pub written_units : List DataUnit → Verdict
written_units us = first (map written_verdict us)

unfoldable pub value_verdict : Told → ℕ → Verdict
value_verdict t room = first (writing_checks t room)

-- the promise of `write_from`. By its type the lent array has 31 units of bytes: the code shows it
pub record Writes (t : Told) (out : List ℕ) (answer : Written) (exit : List ℕ) : Type 0 where
  pub typed : Typed t
  pub wrote : Wrote (value_verdict t (length out)) (layout (held t)) out answer exit
