-- Writing with a flags byte that is told by a number of any size: before all else 15 for one that no byte holds. The C
-- interface passes numbers so (RULES, "Calls from C").
use Rattle.std.specs.Prelude.{ℕ, ◌<◌, List, []}
use Rattle.refusal.specs.Verdict.{Refused}
use Rattle.refusal.specs.declared.Reason.TheVariants.{Unholdable}
use Rattle.refusal.specs.declared.Excess.TheVariants.{FlagsByte}
use Rattle.refusal.specs.declared.Item.TheVariants.{Whole}
use Rattle.refusal.specs.declared.Written.{Written}
use Rattle.refusal.specs.Answers.{Wrote}
use Rattle.line21.specs.Lent.{payload_in}
use Rattle.line21.specs.Writing.{Writes}
use Rattle.reel.specs.Lent.{WritesRun}

-- the promise of `write_plain`: that of the carriage where a byte holds the flags
pub record PayloadWrites (flags m : ℕ) (lent out : List ℕ) (r : Written) (exit : List ℕ) : Type 0 where
  pub within : flags < 256 → Writes (payload_in flags m lent) out r exit
  pub beyond : 255 < flags → Wrote (Refused (Unholdable FlagsByte) Whole) [] out r exit

-- the promise of `write_reel_plain`
pub record RunWrites (flags size : ℕ) (s out : List ℕ) (r : Written) (exit : List ℕ) : Type 0 where
  pub within : flags < 256 → WritesRun flags size s out r exit
  pub beyond : 255 < flags → Wrote (Refused (Unholdable FlagsByte) Whole) [] out r exit
