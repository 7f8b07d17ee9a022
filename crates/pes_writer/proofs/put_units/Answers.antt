-- `pes_writer::put_units` meets its contract. Each turn lays one unit more over the output.
use Prim.Native.Nat.{ℕ, ◌-◌, ◌*◌, ◌<◌}
use native.Mathlib.Omega.{arith}
use mathlib.Core.Path.{◌≡◌, ◌∙◌, ap, sym}
use mathlib.Core.List.{List}
use lib.ListN.{length, take, drop}
use Rattle.lists.specs.Flat.{taken}
use Rattle.lists.specs.Room.{over}
use Rattle.lists.proofs.Each.{each_at}
use Rattle.lists.proofs.FlatOf.{length_taken, get_d-taken, taken-flat-more}
use Rattle.lists.proofs.Lay.{rest-whole, laid_more}
use Rattle.refusal.specs.Verdict.{Accepted}
use Rattle.refusal.proofs.Checks.{accepted-each}
use Rattle.pes.specs.Value.{DataUnit, blank}
use Rattle.pes.specs.Layout.{layout_unit}
use Rattle.pes.specs.Writing.{written_verdict}
use Rattle.pes.specs.Lent.{unit_in}
use Rattle.pes.proofs.Lending.{length-told}
use Rattle.pes_writer.proofs.put_units.Invariants.{front}
use Rattle.pes_writer.proofs.put_units.Goals as goal

pub put_unit-requires-clause-u_value : goal.put_unit-requires-clause-u_value
put_unit-requires-clause-u_value c =
    let s = c.args.units.now in
    let n = c.args.n in
    let i = c.loop-i.i in
    let all = accepted-each written_verdict (taken unit_in 45 n s) c.requires.units_value in
    let inside : i < length (taken unit_in 45 n s) = omega (arith, length_taken unit_in 45 n s, c.loop-i-test.true) in
    let here = each_at (λ (x : DataUnit). written_verdict x ≡ Accepted) blank (taken unit_in 45 n s) all i inside in
    ap (λ (u : List ℕ). written_verdict (unit_in u)) (rest-whole s (45 * i)) ∙ ap written_verdict (sym (get_d-taken unit_in 45 blank n i s c.loop-i-test.true)) ∙ here

pub loop-i-preserved : goal.loop-i-preserved
loop-i-preserved c =
    let s = c.args.units.now in
    let lent = c.args.out.now in
    let i = c.loop-i.i in
    let xs = c.loop-i.out in
    let long : length (front s i) ≡ 46 * i = length-told i s (omega arith) in
    let rest = take (length xs - 46 * i) (drop (46 * i) xs) in
    laid_more (front s i) (layout_unit (unit_in (drop (45 * i) s))) lent xs c.put_unit.new.out (46 * i) c.loop-i.invariant long
    (c.put_unit.ensures ∙ ap (λ (u : List ℕ). over (layout_unit (unit_in u)) rest) (rest-whole s (45 * i)))
    ∙ ap (λ (laid : List ℕ). over laid lent) (sym (taken-flat-more layout_unit unit_in 45 i s))
