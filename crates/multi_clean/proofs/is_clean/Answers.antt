-- `multi_clean::is_clean` meets its contract: what both looks found is all that reading checks.
use Rattle.multi.specs.Inside.{Framed}
use Rattle.multi.proofs.Clean.{multi-clean}
use Rattle.multi_clean.proofs.is_clean.Goals.{Else-not-frame_holds}
use Rattle.multi_clean.proofs.is_clean.Goals as goal

framed : (c : Else-not-frame_holds) → Framed c.args.words.now
framed c = c.frame_holds.ensures c.if-not-frame_holds.false

pub rest_holds-requires : goal.rest_holds-requires
rest_holds-requires c = let f = framed (goal.at.rest_holds-requires c).Else-not-frame_holds in (f.some, f.long)

pub returns : goal.returns
returns c is = multi-clean c.args.words.now (framed (goal.at.returns c).Else-not-frame_holds) (c.rest_holds.ensures is)
