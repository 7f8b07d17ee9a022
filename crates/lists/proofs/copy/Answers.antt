-- `lists::copy` meets its contract.
use Rattle.std.proofs.Common.{arith, ℕ, List, ◌∙◌, ap, set, get_or}
use Rattle.lists.proofs.Lay.{front-next}
use Rattle.lists.proofs.copy.Goals as goal

pub loop-i-preserved : goal.loop-i-preserved
loop-i-preserved c =
    let i = c.loop-i.i in
    let s = c.args.s.now in
    ap (λ (xs : List ℕ). set xs i (get_or s i 0)) c.loop-i.invariant ∙ front-next s c.args.out.now i 0 (omega arith) (omega arith)
