-- `captions::packet::packet_of` meets its contract. The loop's invariant: the first i slots are stored, with empty ones beyond.
use mathlib.Core.Path.{◌≡◌}
use lib.ListN.{take}
use Rattle.lists.specs.Room.{filled}
use Rattle.lists.specs.Flat.{taken}
use Rattle.sdp.specs.User.{slot_of}
use Rattle.captions.specs.Calls.{slot_in}
use Rattle.captions.proofs.packet.packet_of.Given as goal

abbrev pub invariant-loop-i : goal.invariant-loop-i
invariant-loop-i l = l.slots ≡ filled (take l.i (taken slot_in 4 5 l.bytes)) 5 (slot_of 0)
