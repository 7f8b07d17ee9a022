-- An order of checks as one list: what a list in parts means, and that what comes after a check matters only where it accepts.
-- Assumes nothing.
use mathlib.Core.Path.{◌≡◌, ◌∙◌, ap, sym, refl}
use mathlib.Core.List.{List, [], ◌∷◌, ◌++◌, map}
use Rattle.lists.specs.Each.{Each}
use Rattle.refusal.specs.Verdict.{Verdict}
use Rattle.refusal.specs.Verdict.{Accepted, Refused}
use Rattle.refusal.specs.Checks.{and_then, first}
use Rattle.refusal.specs.Order.{each_of}
use Rattle.refusal.proofs.Checks.{and_then-assoc, and_then-refused}

-- a list in two parts: the first part decides, unless it accepts
pub first-append : (xs ys : List Verdict) → first (xs ++ ys) ≡ and_then (first xs) (first ys)
first-append [] ys = refl
first-append (x ∷ xs) ys = ap (λ (v : Verdict). and_then x v) (first-append xs ys) ∙ sym (and_then-assoc x (first xs) (first ys))

-- one check of each element, made of several, is the list of all of them
pub first-each : {A : Type 0} (checks : A → List Verdict) (xs : List A) → first (map (λ (x : A). first (checks x)) xs) ≡ first (each_of checks xs)
first-each checks [] = refl
first-each checks (x ∷ xs) =
    ap (λ (v : Verdict). and_then (first (checks x)) v) (first-each checks xs) ∙ sym (first-append (checks x) (each_of checks xs))

-- what comes after a check matters only where it accepts
pub and_then-agree : (check next other : Verdict) → (check ≡ Accepted → next ≡ other) → and_then check next ≡ and_then check other
and_then-agree Accepted next other h = h refl
and_then-agree (Refused reason item) next other h = refl

-- of elements that are checked in order, the first that is refused decides
pub first-refused : {A : Type 0} (check : A → Verdict) (xs : List A) (x : A) (ys : List A) → Each (λ (y : A). check y ≡ Accepted) xs → (check x ≡ Accepted → ⊥)
    → first (map check (xs ++ (x ∷ ys))) ≡ check x
first-refused check [] x ys h refused = and_then-refused (check x) (first (map check ys)) refused
first-refused check (y ∷ xs) x ys h refused =
    ap (λ (v : Verdict). and_then v (first (map check (xs ++ (x ∷ ys))))) h.0 ∙ first-refused check xs x ys h.1 refused
