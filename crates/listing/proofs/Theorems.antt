-- The theorem of what `cclist` prints (docs/RULES.md, "Programs"). What it speaks of is defined in specs/Texts.
-- How to read it: docs/NOTATION.md.
-- Assumes nothing.
use mathlib.Core.Path.{◌≡◌}
use Rattle.picture.specs.declared.Answer.{Answer}
use Rattle.listing.specs.declared.Text.{Text}
use Rattle.listing.specs.Texts.{HoldsText, text_of}
use Rattle.listing.proofs.Determined as determined

-- Two texts that keep the promise of `text_of` are equal.
pub text-determined : (answer : Answer) (a b : Text)
    → HoldsText (text_of answer) a → HoldsText (text_of answer) b → a ≡ b
text-determined = determined.text-determined
