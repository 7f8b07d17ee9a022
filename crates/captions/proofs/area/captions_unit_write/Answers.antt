-- `captions::area::captions_unit_write` meets its contract: that of picture's writer, of the numbers told. Assumes nothing.
use mathlib.Core.Path.{subst}
use Rattle.kind.specs.declared.Kind.TheVariants.{Scte20}
use Rattle.scte20.specs.declared.Numbers.{Numbers}
use Rattle.scte20.specs.Lent.{unit_in}
use Rattle.picture.specs.Writing.{Writes}
use Rattle.captions.proofs.area.captions_unit_write.Goals as goal

pub returns : goal.returns
returns c =
    let args = c.args in
    let call = c.write_from in
    subst (λ (v : Numbers). Writes Scte20 (unit_in v args.records.now) args.out.now call.result call.new.out)
    c.numbers_of.ensures
    call.ensures
