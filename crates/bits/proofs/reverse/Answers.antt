-- `bits::reverse` meets its contract: the table's entry at a byte is that byte with its bits in the other order.
use Rattle.std.proofs.Common.{get_or, ap, ◌∙◌, arith}
use Rattle.bits.proofs.reverse.Goals as goal

pub returns : goal.returns
returns c = ap (λ b. get_or c.reversed_bytes-table.result b 0) c.from.ensures ∙ c.reversed_bytes-table.ensures.entry c.args.b (omega arith)
