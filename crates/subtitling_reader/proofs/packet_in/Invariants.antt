-- The loop's invariant: the array holds the slots of the first i descriptors, and empty ones beyond them.
use Rattle.std.proofs.Common.{◌≡◌, take}
use Rattle.lists.specs.Room.{filled}
use Rattle.sdp.specs.User.{slot_of}
use Rattle.subtitling_reader.proofs.Told.{all_slots}
use Rattle.subtitling_reader.proofs.packet_in.Given as goal

abbrev pub invariant-loop-i : goal.invariant-loop-i
invariant-loop-i l = l.slots ≡ filled (take l.i (all_slots l.user)) 5 (slot_of 0)
