-- The loop's invariant: k of the first i descriptors are not 0.
use Rattle.std.proofs.Common.{◌≡◌, ℕ, ◌≤◌, List, map, take}
use Rattle.anc.specs.Words.{byte_of}
use Rattle.sdp.specs.Layout.{count}
use Rattle.sdp.specs.User.{descriptors_in}
use Rattle.sdp_reader.proofs.structures.Given as goal

abbrev pub descriptors : List ℕ → List ℕ
descriptors user = descriptors_in (map byte_of user)

abbrev pub invariant-loop-i : goal.invariant-loop-i
invariant-loop-i l = (l.k ≤ l.i) × (l.k ≡ count (take l.i (descriptors l.user)))
