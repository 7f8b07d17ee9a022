-- `multi_clean::parity` meets its contract: the folds leave the parity.
use Rattle.anc.proofs.Folds.{folded-parity}
use Rattle.multi_clean.proofs.parity.Goals as goal

pub returns : goal.returns
returns c =
    folded-parity c.args.byte c.requires
