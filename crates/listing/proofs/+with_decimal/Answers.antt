-- `listing::with_decimal` puts a number's digits behind the text: those before the last by a call of itself, then the last.
use Prim.Native.Nat.{ℕ, ◌^◌, ◌/◌, ◌%◌, ◌≤◌, ◌<◌}
use mathlib.Core.Path.{◌≡◌, ◌∙◌, ap, sym}
use mathlib.Core.List.{[], ◌∷◌, ◌++◌}
use Rattle.listing.specs.declared.Text.{Text}
use Rattle.listing.specs.Texts.{decimal, digit}
use Rattle.listing.specs.Inside.{Appends}
use Rattle.listing.proofs.Building.{appends-both, appends-same}
use Rattle.listing.proofs.Digits.{decimal-short, decimal-long}
use Rattle.listing.proofs.+with_decimal.Goals as goal

-- the only digit, and the last of several
module _ {n last : ℕ} {t r : Text} (e : last ≡ digit (n % 10)) where
  only : n < 10 → Appends (last ∷ []) t r → Appends (decimal n) t r
  only h a = appends-same (ap (λ (b : ℕ). b ∷ []) e ∙ sym (decimal-short n h)) a

  more : {s : Text} → n < 2 ^ 64 → 10 ≤ n → Appends (decimal (n / 10)) t s → Appends (last ∷ []) s r → Appends (decimal n) t r
  more fits h a b = appends-same (ap (λ (b : ℕ). decimal (n / 10) ++ (b ∷ [])) e ∙ sym (decimal-long n fits h)) (appends-both a b)

pub returns-then-n-lt10 : goal.returns-then-n-lt10
returns-then-n-lt10 t c = only c.character-last.ensures c.if-n-lt10.true c.with_byte.ensures

pub returns : goal.returns
returns t c =
    more c.character-last.ensures c.ranges.n.fits c.if-n-lt10.false c.with_decimal-t.ensures c.with_byte-2.ensures
