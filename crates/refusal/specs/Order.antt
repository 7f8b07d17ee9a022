-- RULES, "Order of checks": the checks of a carriage stand in one list, in the order of RULES. Here is what such a list
-- is made with where a thing is repeated.
use Rattle.std.specs.Prelude.{List, [], ◌∷◌, ◌++◌}
use Rattle.refusal.specs.Verdict.{Verdict}

-- all checks of each element, in order
abbrev pub each_of : {A : Type 0} → (A → List Verdict) → List A → List Verdict
each_of checks [] = []
each_of checks (x ∷ xs) = checks x ++ each_of checks xs
