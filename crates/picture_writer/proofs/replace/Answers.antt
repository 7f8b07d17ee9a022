-- `picture_writer::replace` meets its contract: a struct's numbers and its records' bytes tell the struct.
use mathlib.Core.Path.{◌∙◌, ap₂, subst}
use Rattle.kind.specs.declared.Kind.TheVariants.{Scte20}
use Rattle.scte20.specs.declared.CaptionUnit.{CaptionUnit}
use Rattle.scte20.specs.Lent.{unit_in}
use Rattle.scte20.proofs.Types.{typed}
use Rattle.scte20.proofs.Lending.{lent-unit}
use Rattle.picture.specs.Writing.{Replaces}
use Rattle.picture_writer.proofs.replace.Goals as goal

pub returns : goal.returns
returns c =
    let u = c.args.unit in
    let same = ap₂ unit_in c.numbers_of-numbers.ensures c.bytes_of-records.ensures ∙ lent-unit u (typed u _ c.well_formed.1.0).places in
    subst (λ (x : CaptionUnit). Replaces Scte20 c.args.s.now x c.args.out.now c.replace_from.result c.replace_from.new.out)
    same c.replace_from.ensures
