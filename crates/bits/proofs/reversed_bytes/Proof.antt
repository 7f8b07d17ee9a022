-- `bits::reversed_bytes` meets its contract: the constant passes the test at each of its 256 entries.
-- Assumes nothing.
use mathlib.Core.Path.{refl}
use Rattle.bits.specs.Bits.{reversed}
use Rattle.bits.proofs.Table.{reverses}
use Rattle.bits.proofs.reversed_bytes.Statement.{statement}
use Rattle.bits.proofs.reversed_bytes.Tie as tie

returns : tie.Need-returns
unfolding reversed
returns c = reverses _ refl tt

pub reversed_bytes_spec : {M : Type 1} → statement M
reversed_bytes_spec = tie.close (tie.spec returns)
