-- What is gathered lies within the room, which stays as long as it was.
use Rattle.std.proofs.Common.{length, ◌≡◌, ◌≤◌}
use Rattle.ccreplace.proofs.gathered.Given as goal

abbrev pub invariant-loop-i : goal.invariant-loop-i
invariant-loop-i g l = (l.len ≤ length l.words) × (length l.words ≡ length l.initial.words)
