-- The array's front is the bytes of the first i units.
use Rattle.std.proofs.Common.{◌≡◌, ◌∙◌, ap, sym, ℕ, ◌+◌, ◌*◌, ◌≤◌, ◌<◌, List, [], ◌∷◌, ◌++◌, length, take, get_or, arith}
use native.Mathlib.Numerals.{add-one}
use lib.Seq.{length-take-le, take_all, take-suc}
use Rattle.lists.proofs.Lay.{length-over_at}
use Rattle.line21.specs.declared.AccessUnit.{AccessUnit}
use Rattle.line21.specs.Value.{blank}
use Rattle.line21.specs.Lent.{access_unit_bytes, access_units_bytes}
use Rattle.line21.proofs.Types.{typed}
use Rattle.line21.proofs.LentUnits.{front-unit}
use Rattle.line21.proofs.lent.bytes_of.Goals as goal
use Rattle.line21.proofs.lent.bytes_of.Goals.{Start}

room : (c : Start) → length c.args.p.units ≡ 291
room c = (typed c.args.p _ c.well_formed.0).places

pub loop-i-preserved : goal.loop-i-preserved
loop-i-preserved c =
    let us = c.args.p.units in
    let i = c.loop-i.i in
    let bytes = c.loop-i.bytes in
    let u = get_or us i blank in
    let inside : i < length us = omega (arith, room (goal.at.loop-i-preserved c).Start) in
    let before : i ≤ length us = omega arith in
    let some : 7 * length (take i us) ≡ 7 * i = ap (λ (k : ℕ). 7 * k) (length-take-le i us before) in
    let fits : 7 * i + 7 ≤ length bytes = omega (arith, c.loop-i.invariant.0) in
    let within : 7 * i ≤ length bytes = omega arith in
    let more : 7 * i + 7 ≡ 7 * (i + 1) = omega arith in
    let next : take i us ++ (u ∷ []) ≡ take (i + 1) us = sym (ap (λ (k : ℕ). take k us) (add-one i) ∙ take-suc us i blank inside) in (
      ap length c.put_flat.ensures ∙ length-over_at (7 * i) (access_unit_bytes u) bytes fits ∙ c.loop-i.invariant.0,
      ap (take (7 * (i + 1))) c.put_flat.ensures
          ∙ front-unit (take i us) bytes u (7 * i) (7 * (i + 1)) within some more c.loop-i.invariant.1
          ∙ ap (λ (all : List AccessUnit). access_units_bytes all) next,
    )

pub returns : goal.returns
returns c =
    let us = c.args.p.units in
    let i = c.loop-i.i in
    let whole : length c.loop-i.bytes ≤ 7 * i = omega (arith, c.loop-i.invariant.0) in
    let all : length us ≤ i = omega (arith, room (goal.at.returns c).Start) in
    sym (take_all (7 * i) c.loop-i.bytes whole) ∙ c.loop-i.invariant.1 ∙ ap (λ (units : List AccessUnit). access_units_bytes units) (take_all i us all)
