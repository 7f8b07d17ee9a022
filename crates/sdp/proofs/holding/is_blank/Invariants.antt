-- The loop's invariant: `any` is 0 exactly where the bytes so far are.
use Rattle.std.proofs.Common.{◌≡◌, eqb, take}
use Rattle.sdp.specs.SlotVerdict.{all_zero}
use Rattle.sdp.proofs.holding.is_blank.Given as goal

abbrev pub invariant-loop-j : goal.invariant-loop-j
invariant-loop-j l = eqb l.any 0 ≡ all_zero (take l.j l.row)
