-- `scte20_writer::put_constructs` meets its contract. The loop's invariant: cc_count and the first i constructs are brought in.
use Prim.Native.Nat.{ℕ, ◌≤◌}
use mathlib.Core.List.{List, ◌++◌}
use lib.ListN.{take}
use Rattle.bits.specs.Bits.{bits}
use Rattle.scte20.specs.declared.CaptionUnit.{CaptionUnit}
use Rattle.scte20.specs.Lent.{unit_in}
use Rattle.scte20.specs.Layout.{constructs_bits}
use Rattle.scte20_writer.proofs.Penned.{Penned}
use Rattle.scte20_writer.proofs.put_constructs.Given as goal

-- the bits of cc_count and the first i constructs
abbrev pub written : CaptionUnit → ℕ → List ℕ
written u i = bits 5 u.n ++ constructs_bits (take i u.records)

abbrev pub invariant-loop-i : goal.invariant-loop-i
invariant-loop-i l = record { few : l.fn.v.n ≤ 31; penned : Penned l.initial.out (written (unit_in l.fn.v l.records) l.i) l.last l.out }
