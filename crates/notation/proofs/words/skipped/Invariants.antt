-- From i on stand the same words as from `at` on.
use Rattle.std.proofs.Common.{◌≡◌, drop}
use Rattle.notation.specs.Words.{words_of}
use Rattle.notation.proofs.words.skipped.Given as goal

abbrev pub invariant-loop-i : goal.invariant-loop-i
invariant-loop-i l = words_of (drop l.at l.text) ≡ words_of (drop l.i l.text)
