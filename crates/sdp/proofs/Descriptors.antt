-- The descriptors among the user words, and how many of them are not 0: each of these has a structure.
-- Assumes nothing.
use Prim.Native.Nat.{ℕ, zero, suc, ◌+◌, ◌≤◌, ◌<◌}
use Rattle.std.proofs.Common.{count_by, cond, eqb, not, sym}
use Rattle.std.proofs.lemmas.List.Recursion.{is_count_by}
use native.Mathlib.Omega.{arith}
use native.Mathlib.Numerals.{add-one}
use mathlib.Core.Path.{◌≡◌, ◌∙◌, ap, refl}
use mathlib.Core.List.{List, [], ◌∷◌, map}
use borrow.Author.Tests.{ne_eqb}
use lib.ListN.{length, get_or, take, drop, length-take, length-map}
use lib.Seq.{get_or-take}
use Rattle.lists.proofs.Part.{length_part}
use Rattle.anc.specs.Words.{byte_of}
use Rattle.sdp.specs.Layout.{count}
use Rattle.sdp.specs.User.{descriptors_in, structures_in, mark_of}
use Rattle.sdp.proofs.Numbers.{count_most}
use Rattle.sdp.proofs.Bytes.{byte-from}

-- five descriptors tell of no more than five structures
pub few-structures : (u : List ℕ) → structures_in u ≤ 5
few-structures u = omega (arith, count_most (descriptors_in u), length-take 5 (drop 4 u))

-- a front of them has no more
pub count-front : (ds : List ℕ) (i : ℕ) → count (take i ds) ≤ count ds
count-front ds zero = omega arith
count-front [] (suc i) = omega arith
count-front (zero ∷ ds) (suc i) = count-front ds i
count-front (suc d ∷ ds) (suc i) = omega (arith, count-front ds i)

count-suc : (ds : List ℕ) (i : ℕ) → i < length ds → count (take (suc i) ds) ≡ count (take i ds) + mark_of (get_or ds i 0)
count-suc [] i h = let f : ⊥ = omega arith in absurd f
count-suc (zero ∷ ds) zero h = refl
count-suc (suc d ∷ ds) zero h = refl
count-suc (zero ∷ ds) (suc i) h = count-suc ds i (omega arith)
count-suc (suc d ∷ ds) (suc i) h = let below : i < length ds = omega arith in omega (arith, count-suc ds i below)

-- one descriptor more, at the end
pub count-more : (ds : List ℕ) (i : ℕ) → i < length ds → count (take (i + 1) ds) ≡ count (take i ds) + mark_of (get_or ds i 0)
count-more ds i h = ap (λ (k : ℕ). count (take k ds)) (add-one i) ∙ count-suc ds i h

-- descriptor i of the user words
pub descriptor-at : (ws : List ℕ) (i : ℕ) → i < 5 → get_or (descriptors_in (map byte_of ws)) i 0 ≡ byte_of (get_or ws (4 + i) 0)
descriptor-at ws i h = get_or-take 5 (drop 4 (map byte_of ws)) i 0 h ∙ byte-from ws 4 i

pub length-descriptors : (ws : List ℕ) → 9 ≤ length ws → length (descriptors_in (map byte_of ws)) ≡ 5
length-descriptors ws h = length_part (map byte_of ws) 4 9 (omega (arith, length-map ws byte_of))

-- counting what has a descriptor that is not 0 counts these descriptors
count-one : (d : ℕ) (ds : List ℕ) → count (d ∷ ds) ≡ cond (not (eqb d 0)) (1 + count ds) (count ds)
count-one zero ds = refl
count-one (suc d) ds =
    let some : suc d ≡ 0 → ⊥ = λ e. omega arith in
    let one : suc (count ds) ≡ 1 + count ds = omega arith in
    simp (ne_eqb (suc d) 0 some) one

pub full-counted : {A : Type 0} (f : A → ℕ) (xs : List A) → count_by (λ (x : A). not (eqb (f x) 0)) xs ≡ count (map f xs)
full-counted {A = A} f xs =
    sym (is_count_by (λ (ys : List A). count (map f ys)) (λ (x : A). not (eqb (f x) 0)) refl (λ x ys. count-one (f x) (map f ys)) xs)
