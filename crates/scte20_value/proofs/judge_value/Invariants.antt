-- `scte20_value::judge_value` meets its contract. The loop's invariant: i records are judged and accepted, and `last` is what counts of them.
use Prim.Native.Nat.{◌≤◌}
use Rattle.scte20.specs.Value.{held}
use Rattle.scte20.specs.Lent.{unit_in}
use Rattle.scte20.proofs.Judged.{Judging}
use Rattle.scte20_value.proofs.judge_value.Given as goal

abbrev pub invariant-loop-i : goal.invariant-loop-i
invariant-loop-i l = record { few : l.fn.v.n ≤ 31; judging : Judging (held (unit_in l.fn.v l.records)).records l.last l.i }
