-- What the loop of `judge_slots` keeps: i slots are let through, those behind them decide, and the bytes of the units of the i slots are counted.
use Prim.Native.Nat.{◌+◌}
use mathlib.Core.Path.{◌≡◌}
use lib.ListN.{length, take, drop}
use Rattle.refusal.specs.Checks.{first}
use Rattle.sdp.specs.Value.{held}
use Rattle.pes.specs.Layout.{layout_units}
use Rattle.pes_convert.specs.Converting.{full_units, lines_checks}
use Rattle.pes_convert.proofs.judge_slots.Given as goal

abbrev pub invariant-loop-i : goal.invariant-loop-i
invariant-loop-i l =
    (first (lines_checks (held l.p l.rows).slots) ≡ first (lines_checks (drop l.i (held l.p l.rows).slots)))
    × (1 + length (layout_units (full_units (take l.i (held l.p l.rows).slots))) ≡ l.size)
