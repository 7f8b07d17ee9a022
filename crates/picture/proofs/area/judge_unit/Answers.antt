-- `picture::area::judge_unit` meets its contract: the body that was found lies within the area, and its verdict is placed there.
use Prim.Native.Nat.{ℕ, ◌<◌}
use native.Mathlib.Omega.{arith}
use borrow.Author.Rules.{rules}
use Rattle.lists.specs.Bytes.{Bytes}
use Rattle.lists.proofs.Each.{each-of}
use Rattle.picture.proofs.Placing.{unit-within, verdict-near}
use Rattle.picture.proofs.area.judge_unit.Goals as goal

-- the unit was found within the area
pub overflow_add-body : goal.overflow_add-body
overflow_add-body g c =
    let w = unit-within g.C.Content.KIND c.args.s.now c.args.unit c.args.end c.requires in
    omega (arith, w.0, w.1, w.2)

pub slice_bounds-judge-count : goal.slice_bounds-judge-count
slice_bounds-judge-count g c = (unit-within g.C.Content.KIND c.args.s.now c.args.unit c.args.end c.requires).0

pub slice_bounds-judge-start : goal.slice_bounds-judge-start
slice_bounds-judge-start g c = let w = unit-within g.C.Content.KIND c.args.s.now c.args.unit c.args.end c.requires in search rules

pub slice_bounds-judge-end : goal.slice_bounds-judge-end
slice_bounds-judge-end g c = let w = unit-within g.C.Content.KIND c.args.s.now c.args.unit c.args.end c.requires in search rules

pub placed_verdict-requires : goal.placed_verdict-requires
placed_verdict-requires g c =
    let s = c.args.s.now in
    let k = g.C.Content.KIND in
    let w = unit-within k s c.args.unit c.args.end c.requires in
    let bytes : Bytes s = each-of (λ (b : ℕ). b < 256) 0 s (λ i h. omega (arith, c.type_inv.s i)) in
    record {
      unit_bound = omega (arith, w.0, w.1, w.2);
      near_verdict = verdict-near k s c.args.unit c.args.end c.requires bytes _ c.judge.ensures;
    }
