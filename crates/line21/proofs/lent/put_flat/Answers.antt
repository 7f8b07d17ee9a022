-- The part of seven bytes comes back with the unit's bytes in it.
use Rattle.std.proofs.Common.{◌∙◌, refl}
use Rattle.lists.proofs.Lay.{laid-part}
use Rattle.line21.specs.Lent.{access_unit_bytes}
use Rattle.line21.proofs.lent.put_flat.Goals as goal

pub returns : goal.returns
returns c = laid-part c.args.at 7 c.args.units.now c.copy_from_slice.new.self (access_unit_bytes c.args.u) refl (c.copy_from_slice.ensures.after ∙ c.lent_bytes.ensures)
