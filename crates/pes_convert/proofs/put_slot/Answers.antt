-- `pes_convert::put_slot` meets its contract: what is stored one by one, and the row behind it, turned round.
use Prim.Native.Nat.{ℕ, ◌+◌, ◌*◌, ◌≤◌}
use native.Mathlib.Omega.{arith}
use mathlib.Core.Path.{◌≡◌, ◌∙◌, ap, refl}
use mathlib.Core.List.{List, [], ◌∷◌, ◌++◌, map}
use lib.ListN.{length, set, length-map}
use Rattle.lists.specs.Room.{over}
use Rattle.lists.proofs.Lay.{length_over, sets-over_at, laid-fitting}
use Rattle.bits.specs.Table.{found}
use Rattle.bits.proofs.Table.{found-reversed}
use Rattle.pes_convert.proofs.put_slot.Goals as goal

pub returns : goal.returns
returns c =
    let out = c.args.out.now in
    let row = c.args.row.now in
    let third = 192 + 32 * c.args.field + c.args.line in
    let head : List ℕ = 0x03 ∷ 0x2C ∷ third ∷ 0xE4 ∷ [] in
    let room : 46 ≤ length out = c.requires.in_bounds in
    let four = set (set (set (set out 0 0x03) 1 0x2C) 2 third) 3 0xE4 in
    let laid : four ≡ over head out = sets-over_at 0 head out (omega arith) in
    let all = map (found c.args.table.now) row in
    let long : length all ≡ 42 = length-map row (found c.args.table.now) ∙ c.requires.row_value.0 in
    let fits : 4 + 42 ≤ length four = omega (arith, ap length laid, length_over head out (omega arith)) in
    laid-fitting head all out four c.look_up.new.out 4 42 laid refl long fits c.look_up.ensures
    ∙ ap (λ (xs : List ℕ). over (head ++ xs) out) (found-reversed c.args.table.now row c.requires.reverses c.requires.row_value.1)
