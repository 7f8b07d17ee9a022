-- `scte20_gather::is_blank` meets its contract. The loop's invariant: where `any` is still 0, the bytes up to i can be passed.
use Prim.Native.Nat.{◌+◌, ◌/◌}
use mathlib.Core.Path.{◌≡◌}
use Rattle.bits.specs.Peek.{first_set}
use Rattle.scte20_gather.proofs.is_blank.Given as goal

abbrev pub invariant-loop-i : goal.invariant-loop-i
invariant-loop-i l = l.any ≡ 0 → first_set l.body (l.fn.from / 8 + 1) ≡ first_set l.body l.i
