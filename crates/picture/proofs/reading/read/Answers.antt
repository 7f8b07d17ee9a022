-- `picture::reading::read` meets its contract: its answer is made of the numbers and of the records that an array of zeros then holds.
use mathlib.Core.Path.{◌∙◌, ap}
use Rattle.scte20.specs.declared.Numbers.{Numbers}
use Rattle.scte20.specs.declared.CaptionUnit.{CaptionUnit}
use Rattle.kind.specs.declared.Kind.TheVariants.{Scte20}
use Rattle.picture.specs.declared.Head as code
use Rattle.picture.specs.Reading.{Answer}
use Rattle.picture.specs.Lent.{headed}
use Rattle.picture.proofs.Lending.{into-read}
use Rattle.picture.proofs.reading.read.Goals as goal

made : code.Head Numbers → CaptionUnit → Answer Scte20
made head unit = record { refusal = head.refusal; present = head.present; unit = unit }

pub returns : goal.returns
unfolding made
returns c =
    record {
      bytes = c.read_into-head.ensures.bytes;
      answer = ap (made c.read_into-head.result) c.unit_of.ensures ∙ into-read Scte20 c.args.s.now (headed c.read_into-head.result) _ c.read_into-head.ensures;
    }
