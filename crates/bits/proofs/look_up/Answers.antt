-- `bits::look_up` meets its contract.
use Rattle.std.proofs.Common.{arith, ℕ, List, ◌∙◌, ap, sym, set, get_or, map}
use lib.ListN.{length-map}
use Rattle.lists.proofs.Lay.{front-next}
use Rattle.bits.specs.Table.{found}
use Rattle.bits.proofs.Table.{found_at}
use Rattle.bits.proofs.look_up.Goals as goal

pub loop-i-preserved : goal.loop-i-preserved
loop-i-preserved c =
    let i = c.loop-i.i in
    let s = c.args.s.now in
    let laid = map (found c.args.table.now) s in
    let whole = length-map s (found c.args.table.now) in
    ap (λ (b : ℕ). set c.loop-i.out i b)
    (ap (λ (b : ℕ). get_or c.args.table.now b 0) c.from.ensures ∙ sym (found_at c.args.table.now s i (omega arith)))
    ∙ ap (λ (xs : List ℕ). set xs i (get_or laid i 0)) c.loop-i.invariant
    ∙ front-next laid c.args.out.now i 0 (omega arith) (omega arith)
