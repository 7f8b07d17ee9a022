-- The characters passed are digits, and write the value so far, or more than the cap.
use Rattle.notation.proofs.Digits.{Read}
use Rattle.notation.proofs.numbers.decimal.Given as goal

abbrev pub invariant-loop-c : goal.invariant-loop-c
invariant-loop-c l = Read l.word l.value l.c-index
