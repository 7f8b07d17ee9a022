-- `pes_reader::put_units` meets its contract: each turn lays one unit more over the array.
use Prim.Native.Nat.{ℕ, ◌-◌, ◌*◌}
use native.Mathlib.Omega.{arith}
use mathlib.Core.Path.{◌≡◌, ◌∙◌, ap, sym}
use mathlib.Core.List.{List}
use lib.ListN.{length, take, drop}
use Rattle.lists.specs.Room.{over}
use Rattle.lists.proofs.FlatOf.{taken-flat-more}
use Rattle.lists.proofs.Lay.{rest-whole, laid_more}
use Rattle.pes.specs.Reading.{read_unit}
use Rattle.pes.specs.Lent.{unit_bytes}
use Rattle.pes.proofs.Lending.{length-read}
use Rattle.pes_reader.proofs.put_units.Invariants.{front}
use Rattle.pes_reader.proofs.put_units.Goals as goal

pub loop-i-preserved : goal.loop-i-preserved
loop-i-preserved c =
    let s = c.args.s.now in
    let lent = c.args.units.now in
    let i = c.loop-i.i in
    let xs = c.loop-i.units in
    let long : length (front s i) ≡ 45 * i = length-read i s (omega arith) in
    let rest = take (length xs - 45 * i) (drop (45 * i) xs) in
    laid_more (front s i) (unit_bytes (read_unit (drop (46 * i) s))) lent xs c.put_unit.new.out (45 * i) c.loop-i.invariant long
    (c.put_unit.ensures ∙ ap (λ (u : List ℕ). over (unit_bytes (read_unit u)) rest) (rest-whole s (46 * i)))
    ∙ ap (λ (laid : List ℕ). over laid lent) (sym (taken-flat-more unit_bytes read_unit 46 i s))
