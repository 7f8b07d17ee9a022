-- `pes_reader::store` meets its contract: the units are laid over zeros.
use Prim.Native.Nat.{◌≤◌}
use native.Mathlib.Omega.{arith}
use mathlib.Core.Path.{◌∙◌}
use lib.ListN.{length}
use Rattle.lists.specs.Flat.{taken}
use Rattle.lists.proofs.FlatOf.{length_taken}
use Rattle.pes.specs.Reading.{read_unit}
use Rattle.pes.proofs.Lending.{each_read, lent-over}
use Rattle.pes_reader.proofs.store.Goals as goal

pub returns : goal.returns
returns c =
    let s = c.args.s.now in
    let n = c.args.n in
    let few : length (taken read_unit 46 n s) ≤ 31 = omega (arith, length_taken read_unit 46 n s, c.requires.n_bound) in
    c.put_units.ensures ∙ lent-over (taken read_unit 46 n s) (each_read n s c.requires.n_in_bounds) few
