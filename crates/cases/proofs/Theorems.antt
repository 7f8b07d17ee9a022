-- The theorems of the tables (docs/RULES.md, "Cases" and "Order of checks"). A row is an input and what comes of it.
-- The tables stand in specs/Table and specs/TwoFaults. That a row holds is computed by the carriages' definitions.
-- How to read it: docs/NOTATION.md. Assumes nothing.
use mathlib.Core.Path.{◌≡◌}
use lib.ListN.{length}
use Rattle.lists.specs.Each.{Each}
use Rattle.cases.specs.Table.{Comes, table}
use Rattle.cases.specs.TwoFaults.{Decided, two_faults}
use Rattle.cases.proofs.Starred as starred
use Rattle.cases.proofs.TwoFaults as faults

-- Every starred case, and what `cclist` prints of some, is as its row says.
pub starred-cases : Each Comes table
starred-cases = starred.starred-cases

-- Of two faults in an input, the one that the row names decides.
pub two-fault-cases : Each Decided two_faults
two-fault-cases = faults.two-fault-cases

-- No row is lost.
pub starred-count : length table ≡ 31
starred-count = starred.starred-count

pub two-fault-count : length two_faults ≡ 156
two-fault-count = faults.two-fault-count
