-- The fields of a line are what `split` gives at its spaces.
-- Assumes nothing.
use Rattle.std.proofs.Common.{◌≡◌, ℕ, Bool, true, false, cond, List, [], ◌∷◌, refl, ap, ◌∙◌}
use Rattle.std.specs.List.{slice_split, onto_first}
use lib.Dec.{eqb}
use Rattle.vectors.specs.Lines.{fields_of, led}

one : (d : Bool) (b : ℕ) (fs : List (List ℕ)) → led d b fs ≡ cond d ([] ∷ fs) (onto_first b fs)
unfolding led
one true b fs = refl
one false b [] = refl
one false b (f ∷ fs) = refl

pub fields-split : (s : List ℕ) → fields_of s ≡ slice_split (λ b. eqb b 32) s
unfolding fields_of
fields-split [] = refl
fields-split (b ∷ s) =
    one (eqb b 32) b (fields_of s) ∙ ap (λ (fs : List (List ℕ)). cond (eqb b 32) ([] ∷ fs) (onto_first b fs)) (fields-split s)
