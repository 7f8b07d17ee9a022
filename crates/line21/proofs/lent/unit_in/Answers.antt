-- A whole unit is the one that stands there, and beyond the last it is blank.
use Rattle.std.proofs.Common.{◌≡◌, ◌∙◌, sym, rules}
use native.Mathlib.Nat.{add-zero}
use lib.Seq.{get_or-drop}
use Rattle.line21.specs.Value.{blank}
use Rattle.line21.specs.Lent.{access_unit_in}
use Rattle.line21.proofs.LentUnits.{unit-there, unit-beyond}
use Rattle.line21.proofs.lent.unit_in.Goals as goal

pub returns-then-units-i : goal.returns-then-units-i
returns-then-units-i c =
    let zeros : c.default.result ≡ blank = search rules in
    zeros ∙ sym (unit-beyond c.args.units.now c.args.i c.if-units-i.true)

pub returns : goal.returns
unfolding access_unit_in
returns c = rw (unit-there c.args.units.now c.args.i c.if-units-i.false) (simp (get_or-drop, add-zero))
