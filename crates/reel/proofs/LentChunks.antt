-- The same of a run that is lent as bytes, which is cut into chunks of seven bytes for each unit.
-- Assumes nothing.
use Prim.Native.Nat.{ℕ, zero, suc, ◌+◌, ◌-◌, ◌*◌, ◌/◌, ◌%◌, ◌≤◌, ◌<◌, min}
use native.Mathlib.Omega.{arith}
use mathlib.Core.Path.{◌≡◌, ◌∙◌, ap, ap₂, sym, refl}
use mathlib.Core.List.{List, [], ◌∷◌, ◌++◌}
use lib.ListN.{length, drop, length-append, length-drop, take-append-drop}
use lib.Seq.{drop_at}
use Rattle.lists.specs.Flat.{taken}
use Rattle.lists.proofs.Flat.{length_taken, taken-take, taken-drop}
use Rattle.refusal.specs.Checks.{and_then}
use Rattle.line21.specs.declared.AccessUnit.{AccessUnit}
use Rattle.line21.specs.Value.{stored, held}
use Rattle.line21.specs.Writing.{value_verdict}
use Rattle.line21.specs.Lent.{access_unit_in, run_in, payload_in}
use Rattle.line21.proofs.Answers.{stored-units}
use Rattle.line21.proofs.Numbers.{verdict-same}
use Rattle.reel.specs.Writing.{payload, reel, reel_verdict}
use Rattle.reel.proofs.Chunks.{Chunk, value-chunk}

-- a unit is told by its own bytes
unit-first : (x rest : List ℕ) → 7 ≤ length x → access_unit_in (x ++ rest) ≡ access_unit_in x
unfolding access_unit_in
unit-first [] rest h = let f : ⊥ = omega arith in absurd f
unit-first (a ∷ []) rest h = let f : ⊥ = omega arith in absurd f
unit-first (a ∷ b ∷ []) rest h = let f : ⊥ = omega arith in absurd f
unit-first (a ∷ b ∷ c ∷ []) rest h = let f : ⊥ = omega arith in absurd f
unit-first (a ∷ b ∷ c ∷ d ∷ []) rest h = let f : ⊥ = omega arith in absurd f
unit-first (a ∷ b ∷ c ∷ d ∷ e ∷ []) rest h = let f : ⊥ = omega arith in absurd f
unit-first (a ∷ b ∷ c ∷ d ∷ e ∷ g ∷ []) rest h = let f : ⊥ = omega arith in absurd f
unit-first (a ∷ b ∷ c ∷ d ∷ e ∷ g ∷ i ∷ x) rest h = refl

drop-first : (k : ℕ) (x rest : List ℕ) → k ≤ length x → drop k (x ++ rest) ≡ drop k x ++ rest
drop-first zero x rest h = refl
drop-first (suc k) [] rest h = let f : ⊥ = omega arith in absurd f
drop-first (suc k) (a ∷ x) rest h = drop-first k x rest (omega arith)

-- and so are the first m
units-first : (m : ℕ) (x rest : List ℕ) → 7 * m ≤ length x → taken access_unit_in 7 m (x ++ rest) ≡ taken access_unit_in 7 m x
units-first zero x rest h = refl
units-first (suc m) x rest h =
    let first : 7 ≤ length x = omega arith in
    ap₂ (λ (u : AccessUnit) (us : List AccessUnit). u ∷ us)
    (unit-first x rest first)
    (ap (taken access_unit_in 7 m) (drop-first 7 x rest first) ∙ units-first m (drop 7 x) rest (omega (arith, length-drop 7 x)))

-- a run is the units of its first part, then those of the rest
module _ (m : ℕ) (x rest : List ℕ) (whole : length x ≡ 7 * m) where
  pub run-append : run_in (x ++ rest) ≡ run_in x ++ run_in rest
  run-append =
      let left = length rest / 7 in
      let all : length (x ++ rest) / 7 ≡ m + left = simp length-append (omega arith) in
      let own : length x / 7 ≡ m = omega arith in
      let units = taken access_unit_in 7 (m + left) (x ++ rest) in
      ap (λ (k : ℕ). taken access_unit_in 7 k (x ++ rest)) all
      ∙ sym (take-append-drop m units)
      ∙ ap₂ (λ (a b : List AccessUnit). a ++ b)
      (taken-take access_unit_in 7 m (m + left) (x ++ rest) (omega arith) ∙ units-first m x rest (omega arith) ∙ ap (λ (k : ℕ). taken access_unit_in 7 k x) (sym own))
      (taken-drop access_unit_in 7 m (m + left) left (x ++ rest) refl ∙ ap (taken access_unit_in 7 left) (drop_at x rest (7 * m) whole))

  pub run-count : length (run_in x) ≡ m
  run-count = length_taken access_unit_in 7 (length x / 7) x ∙ omega arith

  -- the part tells the payload of its units
  module _ (few : m ≤ 291) where
    pub run-held : (flags : ℕ) → (held (payload_in flags m x)).units ≡ run_in x
    run-held flags =
        let own : m ≡ length x / 7 = omega arith in
        taken-take access_unit_in 7 m 291 x few ∙ ap (λ (k : ℕ). taken access_unit_in 7 k x) own

    pub value-part : (flags g room : ℕ) → value_verdict (stored (payload flags (run_in x))) room ≡ value_verdict (payload_in g m x) room
    value-part flags g room =
        verdict-same (stored (payload flags (run_in x))) (payload_in g m x) room run-count (stored-units (payload flags (run_in x)) ∙ sym (run-held g))

-- a step of `chunks`
pub record Part (size m : ℕ) (x rest : List ℕ) : Type 0 where
  pub whole : length x ≡ 7 * m
  pub ends : length rest % 7 ≡ 0
  pub chunk : Chunk size (run_in x) (run_in rest)

pub part-of : (size n : ℕ) (all x rest : List ℕ) → 1 ≤ size → size ≤ 291 → n ≡ 7 * size → length all % 7 ≡ 0 → all ≡ x ++ rest → length x ≡ min n (length all) → 0 < length all
    → Part size (length x / 7) x rest
part-of size n all x rest some few same even split first more =
    let long : length all ≡ length x + length rest = ap length split ∙ length-append x rest in
    let m = length x / 7 in
    let whole : length x ≡ 7 * m = omega arith in
    let ends : length rest % 7 ≡ 0 = omega arith in
    let own = run-count m x rest whole in
    let others = run-count (length rest / 7) rest [] (omega arith) in
    let both : length (run_in x ++ run_in rest) ≡ m + length rest / 7 = length-append (run_in x) (run_in rest) ∙ ap₂ ◌+◌ own others in
    record {
      whole = whole;
      ends = ends;
      chunk = record { some = some; few = few; more = omega arith; first = omega arith };
    }

-- the checks of a run: those of the payload that its first part tells, then those of the others
pub verdict-part : (size m : ℕ) (x rest : List ℕ) → Part size m x rest → (room : ℕ)
    → reel_verdict (reel 0 size (run_in (x ++ rest))) room
    ≡ and_then (value_verdict (payload_in 0 m x) room) (reel_verdict (reel 0 size (run_in rest)) (room - (1 + 5 * m)))
verdict-part size m x rest part room =
    let few : m ≤ 291 = let chunk = part.chunk in let few = chunk.few in let first = chunk.first in let own = run-count m x rest part.whole in omega arith in
    ap (λ (us : List AccessUnit). reel_verdict (reel 0 size us) room) (run-append m x rest part.whole)
    ∙ value-chunk 0 size (run_in x) (run_in rest) part.chunk room
    ∙ ap₂ (λ (v : _) (n : ℕ). and_then v (reel_verdict (reel 0 size (run_in rest)) (room - (1 + 5 * n)))) (value-part m x rest part.whole few 0 0 room) (run-count m x rest part.whole)

pub part-few : (size m : ℕ) (x rest : List ℕ) → Part size m x rest → m ≤ 291
part-few size m x rest part = let chunk = part.chunk in let few = chunk.few in let first = chunk.first in let own = run-count m x rest part.whole in omega arith
