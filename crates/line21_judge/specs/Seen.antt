-- The checks of many units at once. `seen` has in its lowest three bytes, bit by bit, what any of the units has in its
-- first three: no number is too large exactly where none of these is. RULES, "Line 21 payload".
use Rattle.std.specs.Prelude.{ℕ, ◌/◌, ◌%◌, ◌<◌, ◌≡◌, Bool, true, ◌↔◌, List}
use Rattle.refusal.specs.Verdict.{Accepted}
use Rattle.line21.specs.declared.AccessUnit.{AccessUnit}
use Rattle.line21.specs.Writing.{unit_verdict, units_verdict}
use Rattle.line21.specs.Lent.{run_in}

-- each flag is one bit, the padding six
pub record Clear (seen : ℕ) : Type 0 where
  pub valid_1 : seen % 256 < 2
  pub valid_2 : seen / 256 % 256 < 2
  pub pad : seen / 65536 % 256 < 64

-- the promise of `gather`: one unit more
abbrev pub Gathers : ℕ → AccessUnit → ℕ → Type 0
Gathers seen u r = Clear r ↔ (Clear seen × (unit_verdict u ≡ Accepted))

-- the promise of `all_hold`: after a yes no unit of the run is refused
abbrev pub Vouches : List ℕ → Bool → Type 0
Vouches s r = r ≡ true → units_verdict (run_in s) ≡ Accepted
