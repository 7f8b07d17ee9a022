-- None from `from` to i has the byte.
use Rattle.std.proofs.Common.{◌≡◌, get_or, ℕ, ◌<◌, ◌≤◌}
use Rattle.vectors.proofs.line.find.Given as goal

abbrev pub invariant-loop-i : goal.invariant-loop-i
invariant-loop-i l = (k : ℕ) → k < l.i → l.from ≤ k → get_or l.s k 0 ≡ l.byte → ⊥
