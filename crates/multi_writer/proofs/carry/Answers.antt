-- `multi_writer::carry` meets its contract.
use Rattle.std.proofs.Common.{◌≡◌, ℕ, ◌<◌, List, length, get_or, set, ap, ◌∙◌, arith}
use Rattle.lists.proofs.Lay.{front-next}
use Rattle.lists.proofs.Sum.{sum_more}
use Rattle.multi_writer.proofs.carry.Goals as goal

pub loop-i-preserved : goal.loop-i-preserved
loop-i-preserved c =
    let user = c.args.user.now in
    let out = c.args.out.now in
    let i = c.loop-i.i in
    let before = c.loop-i.invariant in
    let inside : i < length out = omega arith in
    let there : i < length user = omega arith in (
      ap (λ (xs : List ℕ). set xs i (get_or user i 0)) before.0 ∙ front-next user out i 0 there inside,
      omega (arith, before.1, sum_more user i there),
    )
