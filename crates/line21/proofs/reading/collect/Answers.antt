-- The array holds the first i units, and blanks beyond them.
use Rattle.std.proofs.Common.{◌≡◌, ◌∙◌, ap, ap₂, sym, ℕ, ◌<◌, List, length, get_or, drop, set, replicate, arith, rules}
use Rattle.lists.specs.Room.{filled}
use Rattle.line21.specs.declared.AccessUnit.{AccessUnit}
use Rattle.line21.specs.declared.Payload.{Payload}
use Rattle.line21.specs.Value.{blank}
use Rattle.line21.specs.Reading.{read_units, unit_count}
use Rattle.line21.proofs.Length.{WholeUnits, accepted-whole}
use Rattle.line21.proofs.Units.{collected-more, length-read_units}
use Rattle.line21.proofs.reading.collect.Goals as goal
use Rattle.line21.proofs.reading.collect.Goals.{Start, In-loop-i}

whole : (c : Start) → WholeUnits (length c.args.s.now)
whole c = accepted-whole (length c.args.s.now) c.requires

-- a turn's place is in the array
below-room : (c : In-loop-i) → c.loop-i.i < 291
below-room c = omega (arith, (accepted-whole (length c.args.s.now) c.requires).most)

pub overflow_sub-m : goal.overflow_sub-m
overflow_sub-m c = omega (arith, (whole (goal.at.overflow_sub-m c).Start).exact)

pub loop-i-init : goal.loop-i-init
loop-i-init c =
    let zeros : c.default-units.result ≡ blank = search rules in
    ap (λ (unit : AccessUnit). replicate 291 unit) zeros

pub bounds-units-i : goal.bounds-units-i
bounds-units-i c = below-room (goal.at.bounds-units-i c).In-loop-i

pub loop-i-preserved : goal.loop-i-preserved
loop-i-preserved c =
    let s = c.args.s.now in
    let i = c.loop-i.i in
    ap (λ (us : List AccessUnit). set us i c.unit_at.result) c.loop-i.invariant
    ∙ ap (λ (unit : AccessUnit). set (filled (read_units i (drop 1 s)) 291 blank) i unit) c.unit_at.ensures
    ∙ collected-more s i (below-room (goal.at.loop-i-preserved c).In-loop-i)

pub bounds-s-0 : goal.bounds-s-0
bounds-s-0 c = omega (arith, (whole (goal.at.bounds-s-0 c).Start).exact)

made : ℕ → ℕ → List AccessUnit → Payload
made flags m units = record { flags = flags; m = m; units = units }

pub returns : goal.returns
unfolding made
returns c =
    let s = c.args.s.now in
    let all : c.loop-i.i ≡ unit_count (length s) = omega arith in
    ap₂ (made (get_or s 0 0)) (sym (length-read_units (unit_count (length s)) (drop 1 s)))
    (c.loop-i.invariant ∙ ap (λ (k : ℕ). filled (read_units k (drop 1 s)) 291 blank) all)
