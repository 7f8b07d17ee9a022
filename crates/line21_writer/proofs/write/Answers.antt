-- The struct's units as bytes tell the struct.
use mathlib.Core.Path.{◌∙◌, ap, subst}
use Rattle.line21.specs.declared.Payload.{Payload}
use Rattle.line21.specs.Writing.{Writes}
use Rattle.line21.specs.Lent.{payload_in}
use Rattle.line21.proofs.Types.{typed}
use Rattle.line21.proofs.LentUnits.{lent-held}
use Rattle.line21_writer.proofs.write.Goals as goal

pub returns : goal.returns
returns c =
    let p = c.args.p in
    let told = ap (payload_in p.flags p.m) c.bytes_of-units.ensures ∙ lent-held p (typed p _ c.well_formed.0) in
    subst (λ (q : Payload). Writes q c.args.out.now c.write_from.result c.write_from.new.out) told c.write_from.ensures
