-- A legal caption body does not hold 00 00 01, so that it stands in an area as it is. RULES, "Picture area".
-- Assumes nothing.
use Prim.Native.Nat.{ℕ}
use mathlib.Core.Path.{◌≡◌, ◌∙◌, ap, refl, sym}
use mathlib.Core.Bool.{Bool, true, false, false≢true}
use mathlib.Core.List.{List, [], ◌∷◌}
use Rattle.bits.specs.Bits.{bits, bits_of}
use Rattle.units.specs.Layout.{prefixed, Clean}
use Rattle.units.proofs.Cuts.{prefixed-front}
use Rattle.kind.specs.declared.Kind.{Kind}
use Rattle.bits.proofs.Quiet.{quiet, quiet-behind}
use Rattle.picture.specs.Kinds.{Content, LegalContent, body_of}
use Rattle.picture.proofs.Contents.{body-quiet}

-- 00 00 01 at the front would be 23 zero bits and a 1
not-prefixed : (s : List ℕ) (t : Bool) → prefixed s ≡ t → quiet 0 (bits_of s) ≡ true → prefixed s ≡ false
not-prefixed s false e q = e
not-prefixed s true e q = absurd (false≢true (sym (ap (λ (r : List ℕ). quiet 0 (bits_of r)) (prefixed-front s e)) ∙ q))

pub quiet-clean : (s : List ℕ) → quiet 0 (bits_of s) ≡ true → Clean s
quiet-clean [] q = tt
quiet-clean (b ∷ s) q = (not-prefixed (b ∷ s) (prefixed (b ∷ s)) refl q, quiet-clean s (quiet-behind 0 (bits 8 b) (bits_of s) q))

pub legal-clean : (k : Kind) (c : Content k) → LegalContent k c → Clean (body_of k c)
legal-clean k c legal = quiet-clean (body_of k c) (body-quiet k c legal)
