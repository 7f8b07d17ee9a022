-- No character from `at` up to i is a space.
use Rattle.std.proofs.Common.{◌≡◌, ◌≤◌, ◌<◌, ℕ, false, get_or}
use Rattle.notation.specs.Words.{is_space}
use Rattle.notation.proofs.words.ended.Given as goal

abbrev pub invariant-loop-i : goal.invariant-loop-i
invariant-loop-i l = (k : ℕ) → l.at ≤ k → k < l.i → is_space (get_or l.text k 0) ≡ false
