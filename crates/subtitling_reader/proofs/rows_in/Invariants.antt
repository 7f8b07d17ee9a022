-- The loop's invariant: `at` is where the next structure begins, and the array holds the rows of the first i slots,
-- and zeros beyond them.
use Rattle.std.proofs.Common.{◌≡◌, ◌+◌, ◌*◌, take}
use Rattle.lists.specs.Room.{filled}
use Rattle.sdp.specs.Value.{zero_row}
use Rattle.sdp.specs.Layout.{count}
use Rattle.subtitling_reader.proofs.Told.{descriptors, all_rows}
use Rattle.subtitling_reader.proofs.rows_in.Given as goal

abbrev pub invariant-loop-i : goal.invariant-loop-i
invariant-loop-i l = record {
  place : l.at ≡ 9 + 45 * count (take l.i (descriptors l.user));
  held : l.rows ≡ filled (take l.i (all_rows l.user)) 5 zero_row;
}
