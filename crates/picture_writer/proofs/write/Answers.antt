-- `picture_writer::write` meets its contract: a struct's numbers and its records' bytes tell the struct.
use mathlib.Core.Path.{◌∙◌, ap₂, subst}
use Rattle.kind.specs.declared.Kind.TheVariants.{Scte20}
use Rattle.scte20.specs.declared.CaptionUnit.{CaptionUnit}
use Rattle.scte20.specs.Lent.{unit_in}
use Rattle.scte20.proofs.Types.{typed}
use Rattle.scte20.proofs.Lending.{lent-unit}
use Rattle.picture.specs.Writing.{Writes}
use Rattle.picture_writer.proofs.write.Goals as goal

pub returns : goal.returns
returns c =
    let u = c.args.unit in
    let same = ap₂ unit_in c.numbers_of-numbers.ensures c.bytes_of-records.ensures ∙ lent-unit u (typed u _ c.well_formed.0).places in
    subst (λ (x : CaptionUnit). Writes Scte20 x c.args.out.now c.write_from.result c.write_from.new.out) same c.write_from.ensures
