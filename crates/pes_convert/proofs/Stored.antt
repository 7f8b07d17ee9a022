-- Units stored one behind the other in an array: one more, and what the array then tells.
-- Assumes nothing.
use Prim.Native.Nat.{ℕ, ◌+◌, ◌*◌, ◌≤◌}
use native.Mathlib.Omega.{arith}
use mathlib.Core.Path.{◌≡◌, ◌∙◌, ap, ap₂, sym}
use mathlib.Core.List.{List, [], ◌∷◌, ◌++◌, append_assoc}
use lib.ListN.{length, take, drop, length-append, take-append-drop}
use lib.Seq.{length-take-le, take_at}
use Rattle.lists.specs.Each.{Each}
use Rattle.lists.specs.Room.{over_at}
use Rattle.lists.specs.Flat.{taken}
use Rattle.lists.proofs.FlatOf.{flat-more, taken-take}
use Rattle.pes.specs.Value.{DataUnit, TypedUnit}
use Rattle.pes.specs.Lent.{unit_bytes, units_bytes, unit_in, units_in}
use Rattle.pes.proofs.Lending.{length-lent, typed-sized, lent-first}

-- the array's front with a unit stored behind it
pub front-more : (us : List DataUnit) (x : DataUnit) (units : List ℕ) (n : ℕ) → TypedUnit x → 45 * n ≤ length units
    → take (45 * n) units ≡ units_bytes us → take (45 * (n + 1)) (over_at (45 * n) (unit_bytes x) units) ≡ units_bytes (us ++ (x ∷ []))
front-more us x units n t fits front =
    let before = take (45 * n) units in
    let rest = drop (length (unit_bytes x)) (drop (45 * n) units) in
    let long : length (before ++ unit_bytes x) ≡ 45 * (n + 1) =
    omega (arith, length-append before (unit_bytes x), length-take-le (45 * n) units fits, length-lent x (typed-sized x t)) in
    ap (take (45 * (n + 1))) (sym (append_assoc before (unit_bytes x) rest))
    ∙ take_at (before ++ unit_bytes x) rest (45 * (n + 1)) long
    ∙ ap (λ (bytes : List ℕ). bytes ++ unit_bytes x) front
    ∙ sym (flat-more unit_bytes us x)

-- an array with n units at its front tells them
pub front-told : (us : List DataUnit) (units : List ℕ) (n : ℕ) → Each TypedUnit us → length us ≡ n → n ≤ 31
    → take (45 * n) units ≡ units_bytes us → take n (units_in units) ≡ us
front-told us units n h e few front =
    taken-take unit_in 45 n 31 units few
    ∙ ap₂ (taken unit_in 45) (sym e) (sym (take-append-drop (45 * n) units) ∙ ap (λ (bytes : List ℕ). bytes ++ drop (45 * n) units) front)
    ∙ lent-first us h (drop (45 * n) units)
