-- What writing a reel of a slice of access unit structs means. RULES, "Reel".
use Rattle.std.specs.Prelude.{ℕ, ◌<◌, List, []}
use Rattle.refusal.specs.Verdict.{Refused}
use Rattle.refusal.specs.declared.Reason.TheVariants.{Unholdable}
use Rattle.refusal.specs.declared.Excess.TheVariants.{FlagsByte}
use Rattle.refusal.specs.declared.Item.TheVariants.{Whole}
use Rattle.refusal.specs.declared.Written.{Written}
use Rattle.refusal.specs.Answers.{Wrote}
use Rattle.line21.specs.declared.AccessUnit.{AccessUnit}
use Rattle.reel.specs.Writing.{WritesReel}

-- the promise of `write_units`: that of a reel, and before it 15 for flags that no byte holds
pub record ReelWrites (flags size : ℕ) (us : List AccessUnit) (out : List ℕ) (r : Written) (exit : List ℕ) : Type 0 where
  pub within : flags < 256 → WritesReel flags size us out r exit
  pub beyond : 255 < flags → Wrote (Refused (Unholdable FlagsByte) Whole) [] out r exit
