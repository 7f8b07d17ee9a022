-- `captions::area::captions_area_replace` meets its contract: that of picture's replacer, of the numbers told. Assumes nothing.
use mathlib.Core.Path.{subst}
use Rattle.kind.specs.declared.Kind.TheVariants.{Scte20}
use Rattle.scte20.specs.declared.Numbers.{Numbers}
use Rattle.scte20.specs.Lent.{unit_in}
use Rattle.picture.specs.Writing.{Replaces}
use Rattle.captions.proofs.area.captions_area_replace.Goals as goal

pub returns : goal.returns
returns c =
    let args = c.args in
    let call = c.replace_from in
    subst (λ (v : Numbers). Replaces Scte20 args.area.now (unit_in v args.records.now) args.out.now call.result call.new.out)
    c.numbers_of.ensures
    call.ensures
