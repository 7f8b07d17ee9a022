-- The loop's invariant: the row holds the first j bytes from `at` on, and zeros beyond them.
use Rattle.std.proofs.Common.{◌≡◌, take}
use Rattle.lists.specs.Room.{filled}
use Rattle.subtitling_reader.proofs.Told.{row_bytes}
use Rattle.subtitling_reader.proofs.row_at.Given as goal

abbrev pub invariant-loop-j : goal.invariant-loop-j
invariant-loop-j l = l.row ≡ filled (take l.j (row_bytes l.user l.at)) 42 0
