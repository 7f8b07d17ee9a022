-- `around::lay` meets its contract: around the body come the area's front, the start code and the area's rest.
use Prim.Native.Nat.{ℕ, ◌+◌, ◌-◌, ◌≤◌}
use native.Mathlib.Omega.{arith}
use mathlib.Core.Path.{◌≡◌, ◌∙◌, ap, sym}
use mathlib.Core.List.{List}
use borrow.Rule.Slice.PartMut.{put_mid}
use lib.ListN.{length, take, drop, length-drop}
use lib.Seq.{length-take-le, take_all}
use Rattle.lists.specs.Room.{over, over_at}
use Rattle.lists.proofs.Lay.{length_over, length-over_at, rest-whole, length_rest}
use Rattle.around.proofs.Laying.{opened, closed}
use Rattle.around.proofs.lay.Goals as goal

pub returns : goal.returns
returns c body first long fits there =
    let s = c.args.s.now in
    let at = c.args.start in
    let out = c.args.out.now in
    let front = take at s in
    let back = drop c.args.end s in
    let fronted : length front ≡ at = length-take-le at s (omega arith) in
    let same : length out ≡ length first = ap length there ∙ length-over_at (at + 4) body first (omega arith) in
    let room : at + 4 + length body + length back ≤ length first = omega (arith, length-drop c.args.end s) in
    let laid : c.copy.new.out ≡ over front (over_at (at + 4) body first) =
    c.copy.ensures ∙ ap (λ (f : List ℕ). over f out) (take_all (length out) front (omega arith)) ∙ ap (λ (xs : List ℕ). over front xs) there in
    let unit = put_mid at (length c.copy.new.out - at) c.copy.new.out c.«open».new.out in
    let unit_there = opened front body back first at fronted room c.copy.new.out c.«open».new.out laid c.«open».ensures in
    let behind = at + 4 + c.args.len in
    let rest = take (length unit - behind) (drop behind unit) in
    closed front body back first at fronted room unit c.copy-2.new.out behind unit_there (omega (arith, long))
    (c.copy-2.ensures ∙ ap (λ (piece : List ℕ). over piece rest) (take_all (length rest) _ (omega arith) ∙ rest-whole s c.args.end))
