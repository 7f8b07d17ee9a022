-- The words before `at` are n records, and the array holds those that have a place.
use Rattle.std.proofs.Common.{◌-◌, drop, length}
use Rattle.notation.specs.Words.{words_of}
use Rattle.notation.proofs.Gathering.{Gathered}
use Rattle.notation.proofs.records.entries_from.Given as goal

abbrev pub invariant-loop-at : goal.invariant-loop-at
invariant-loop-at l = Gathered l.text (words_of (drop l.from l.text)) l.records l.n l.at

abbrev pub decreases-loop-at : goal.decreases-loop-at
decreases-loop-at l = length l.text - l.at
