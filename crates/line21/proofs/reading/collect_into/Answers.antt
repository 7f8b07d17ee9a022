-- The bytes of the first i units are laid over the array.
use Rattle.std.proofs.Common.{◌≡◌, ◌∙◌, ap, ap₂, sym, ℕ, ◌+◌, ◌*◌, ◌<◌, ◌≤◌, List, length, drop, arith}
use Rattle.lists.specs.Room.{over, over_at}
use Rattle.line21.specs.declared.AccessUnit.{AccessUnit}
use Rattle.line21.specs.Reading.{read_unit, read_units, unit_count}
use Rattle.line21.specs.Lent.{access_unit_bytes, access_units_bytes}
use Rattle.line21.proofs.Length.{WholeUnits, accepted-whole}
use Rattle.line21.proofs.Units.{length-read_units, read_units-more}
use Rattle.line21.proofs.LentUnits.{length-laid, laid-unit}
use Rattle.line21.proofs.reading.collect_into.Goals as goal
use Rattle.line21.proofs.reading.collect_into.Goals.{At-loop-i, In-loop-i}

-- what the loop knows of the array at its head
module _ (c : At-loop-i) where
  whole : WholeUnits (length c.args.s.now)
  whole = accepted-whole (length c.args.s.now) c.requires.s_value

  few : length (read_units c.loop-i.i (drop 1 c.args.s.now)) ≤ 291
  few = omega (arith, length-read_units c.loop-i.i (drop 1 c.args.s.now), whole.most)

  kept : length c.loop-i.units ≡ 2037
  kept = ap length c.loop-i.invariant ∙ length-laid (read_units c.loop-i.i (drop 1 c.args.s.now)) c.args.units.now few c.requires.units_len

-- a turn's place is in the array
below : (c : In-loop-i) → c.loop-i.i < 291
below c = omega (arith, (accepted-whole (length c.args.s.now) c.requires.s_value).most)

pub overflow_sub-count : goal.overflow_sub-count
overflow_sub-count c = omega (arith, (accepted-whole (length c.args.s.now) c.requires.s_value).exact)

pub put_flat-requires : goal.put_flat-requires
put_flat-requires c = omega (arith, below (goal.at.put_flat-requires c).In-loop-i, kept (goal.at.put_flat-requires c).At-loop-i)

pub loop-i-preserved : goal.loop-i-preserved
loop-i-preserved c =
    let s = c.args.s.now in
    let lent = c.args.units.now in
    let i = c.loop-i.i in
    let before = read_units i (drop 1 s) in
    let some : 7 * length before ≡ 7 * i = ap (λ (k : ℕ). 7 * k) (length-read_units i (drop 1 s)) in
    c.put_flat.ensures
    ∙ ap₂ (λ (x : AccessUnit) (xs : List ℕ). over_at (7 * i) (access_unit_bytes x) xs) c.unit_at.ensures c.loop-i.invariant
    ∙ laid-unit before lent (read_unit (drop (1 + 5 * i) s)) (7 * i) some
    ∙ ap (λ (us : List AccessUnit). over (access_units_bytes us) lent) (sym (read_units-more i s))

pub returns : goal.returns
returns c =
    let s = c.args.s.now in
    let all : c.loop-i.i ≡ unit_count (length s) = omega arith in
    c.loop-i.invariant ∙ ap (λ (k : ℕ). over (access_units_bytes (read_units k (drop 1 s))) c.args.units.now) all
