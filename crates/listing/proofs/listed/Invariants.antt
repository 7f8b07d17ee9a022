-- Before each turn, the lines of the records passed stand behind the head.
use Rattle.std.proofs.Common.{take}
use Rattle.listing.specs.Texts.{records_text}
use Rattle.listing.specs.Inside.{Appends}
use Rattle.listing.proofs.listed.Given as goal

abbrev pub invariant-loop-r : goal.invariant-loop-r
invariant-loop-r l = Appends (records_text (take l.r-index l.held)) l.initial.t l.t
