-- `captions::frames::captions_film_picture` meets its contract: that of film over lent memory, of the numbers told. Assumes nothing.
use mathlib.Core.Path.{subst}
use Rattle.scte20.specs.declared.Numbers.{Numbers}
use Rattle.scte20.specs.Lent.{unit_in}
use Rattle.film_lent.specs.Lent.{PictureInto}
use Rattle.captions.proofs.frames.captions_film_picture.Goals as goal

pub returns : goal.returns
returns c =
    let args = c.args in
    let call = c.picture_into in
    subst
    (λ (v : Numbers). PictureInto args.film.now args.top_field_first args.repeat_first_field args.line_offset (unit_in v args.records.now) args.units.now call.result call.new.film call.new.units)
    c.numbers_of.ensures
    call.ensures
