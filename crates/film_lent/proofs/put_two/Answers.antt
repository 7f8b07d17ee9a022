-- `film_lent::put_two` meets its contract: each half of the array comes back with a unit's bytes in it.
use native.Mathlib.Omega.{arith}
use Prim.Native.Nat.{ℕ, ◌≤◌}
use mathlib.Core.Path.{◌∙◌, ap, ap₂}
use mathlib.Core.List.{List, ◌++◌}
use lib.ListN.{length, drop, drop_of_length-le, length-drop}
use borrow.Rule.Slice.PartMut.{put_mid, post_of}
use Rattle.line21.specs.Lent.{access_unit_bytes}
use Rattle.film_lent.proofs.put_two.Goals as goal

pub returns : goal.returns
returns c =
    let units = c.args.units.now in
    let one = access_unit_bytes c.args.a in
    let two = access_unit_bytes c.args.b in
    let few : length (drop 7 units) ≤ 7 = omega (arith, c.told-units, length-drop 7 units) in
    ap₂ (λ (x y : List ℕ). put_mid 7 7 (x ++ post_of 0 7 units) y) (c.copy_from_slice.ensures.after ∙ c.lent_bytes.ensures)
    (c.copy_from_slice-2.ensures.after ∙ c.lent_bytes-2.ensures)
    ∙ ap (λ (rest : List ℕ). one ++ (two ++ rest)) (drop_of_length-le (drop 7 units) few)
