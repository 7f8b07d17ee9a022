-- Before each turn, the bytes passed stand behind the text.
use Rattle.std.proofs.Common.{take}
use Rattle.listing.specs.Inside.{Appends}
use Rattle.listing.proofs.with.Given as goal

abbrev pub invariant-loop-b : goal.invariant-loop-b
invariant-loop-b l = Appends (take l.b-index l.bytes) l.initial.r l.r
