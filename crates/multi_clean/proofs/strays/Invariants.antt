-- What the loop of `strays` keeps: n of the words so far are strays.
use Rattle.std.proofs.Common.{◌≡◌, ◌≤◌, take}
use Rattle.multi.specs.Inside.{strays}
use Rattle.multi_clean.proofs.strays.Given as goal

abbrev pub invariant-loop-w : goal.invariant-loop-w
invariant-loop-w l = (l.n ≡ strays (take l.w-index l.words)) × (l.n ≤ l.w-index)
