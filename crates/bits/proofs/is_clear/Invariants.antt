-- Where `any` is still 0, j bytes can be passed.
use Rattle.std.proofs.Common.{◌≡◌, ◌+◌}
use Rattle.bits.specs.Peek.{first_set}
use Rattle.bits.proofs.is_clear.Given as goal

abbrev pub invariant-loop-j : goal.invariant-loop-j
invariant-loop-j l = l.any ≡ 0 → first_set l.s l.i ≡ first_set l.s (l.i + l.j)
