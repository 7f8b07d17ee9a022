-- `fields::odd_even` meets its contract: top_field_first says whether odd numbers are odd fields or even ones.
use Rattle.fields.proofs.Sides.{odd-even-top, odd-even-bottom}
use Rattle.fields.proofs.odd_even.Goals as goal

pub returns-then-top_field_first : goal.returns-then-top_field_first
returns-then-top_field_first c = odd-even-top c.args.top_field_first c.args.field.0 c.if-top_field_first.true

pub returns : goal.returns
returns c = odd-even-bottom c.args.top_field_first c.args.field.0 c.if-top_field_first.false
