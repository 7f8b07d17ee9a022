-- The promise of `text_of` fixes its text.
-- Assumes nothing.
use Prim.Native.Nat.{ℕ}
use mathlib.Core.Path.{◌≡◌, ◌∙◌, ap₂, sym}
use mathlib.Core.List.{List}
use Rattle.picture.specs.declared.Answer.{Answer}
use Rattle.listing.specs.declared.Text.{Text}
use Rattle.listing.specs.Texts.{HoldsText, text_of}

pub text-determined : (answer : Answer) (a b : Text) → HoldsText (text_of answer) a → HoldsText (text_of answer) b → a ≡ b
text-determined answer a b p q =
    ap₂ (λ (len : ℕ) (bytes : List ℕ). record { len = len; bytes = bytes }) (p.counted ∙ sym q.counted) (p.stands ∙ sym q.stands)
