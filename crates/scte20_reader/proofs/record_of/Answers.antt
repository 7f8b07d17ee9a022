-- `scte20_reader::record_of` meets its contract: each part of the number is the one that `construct_of` takes.
use Prim.Native.Nat.{ℕ, ◌/◌, ◌%◌}
use native.Mathlib.Omega.{arith}
use mathlib.Core.Path.{ap₂}
use Rattle.scte20.specs.declared.Record.{Record}
use Rattle.scte20.specs.Inside.{construct_of}
use Rattle.scte20_reader.proofs.record_of.Goals as goal

made : ℕ → ℕ → ℕ → Record
made c first second =
    record {
      cc_priority = c / 16777216;
      field_number = record { 0 = c / 4194304 % 4 };
      line_offset = c / 131072 % 32;
      cc_data_1 = first;
      cc_data_2 = second;
    }

pub returns : goal.returns
unfolding construct_of made
returns c =
    let args = c.args in
    let turned = c.requires.reverses.entry in
    ap₂
    (made args.construct)
    (turned (args.construct / 512 % 256) (omega arith))
    (turned (args.construct / 2 % 256) (omega arith))
