-- `scte20::lent::bytes_of` meets its contract. The loop's invariant: the first i records are laid over the zeros.
use Prim.Native.Nat.{◌*◌, ◌≤◌, ◌<◌}
use native.Mathlib.Omega.{arith}
use mathlib.Core.Path.{◌≡◌, ◌∙◌, ap, refl}
use mathlib.Core.List.{List}
use lib.ListN.{length, get_or, take, replicate}
use lib.Seq.{take_all, length-take-le}
use Rattle.lists.specs.Room.{over, over_at}
use Rattle.scte20.specs.declared.Record.{Record}
use Rattle.scte20.specs.Value.{blank}
use Rattle.scte20.specs.Lent.{record_bytes, records_bytes}
use Rattle.scte20.proofs.Types.{typed}
use Rattle.scte20.proofs.Lending.{stored-laid, lent-next, lent-room, lent-all}
use Rattle.scte20.proofs.lent.bytes_of.Goals.{In-loop-i}
use Rattle.scte20.proofs.lent.bytes_of.Goals as goal

pub loop-i-preserved : goal.loop-i-preserved
loop-i-preserved c =
    let rs = c.args.unit.records in
    let places = (typed c.args.unit _ c.well_formed.0).places in
    let i = c.loop-i.i in
    let few : length (take i rs) ≤ 31 = omega (arith, c.loop-i-test.true, length-take-le i rs (omega (arith, places))) in
    let long : length c.loop-i.bytes ≡ 155 = ap length c.loop-i.invariant ∙ lent-room (take i rs) (replicate 155 0) few refl in
    let inside : i < length rs = omega (arith, c.loop-i-test.true, places) in
    c.put_record.ensures
    ∙ stored-laid i (get_or rs i blank) c.loop-i.bytes c.loop-i-test.true long
    ∙ ap (over_at (5 * i) (record_bytes (get_or rs i blank))) c.loop-i.invariant
    ∙ lent-next rs (replicate 155 0) i inside

pub returns : goal.returns
returns c =
    let rs = c.args.unit.records in
    let places = (typed c.args.unit _ c.well_formed.0).places in
    let all : take c.loop-i.i rs ≡ rs = take_all c.loop-i.i rs (omega (arith, places)) in
    c.loop-i.invariant
    ∙ ap (λ (front : List Record). over (records_bytes front) (replicate 155 0)) all
    ∙ lent-all rs (replicate 155 0) places refl
