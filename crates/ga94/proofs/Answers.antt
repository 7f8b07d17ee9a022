-- The answer of reading, by its verdict, and the checks in the order in which the code comes to them.
-- Assumes nothing.
use Rattle.std.specs.Prelude.{Ok, Err}
use Prim.Native.Nat.{ℕ, zero, suc, ◌+◌, ◌-◌, ◌*◌, ◌≤◌, ◌<◌}
use native.Mathlib.Omega.{arith}
use mathlib.Core.Path.{◌≡◌, ◌∙◌, ap, sym}
use mathlib.Core.List.{List, [], ◌∷◌}
use lib.ListN.{get_or}
use Rattle.lists.specs.Bytes.{Bytes}
use Rattle.refusal.specs.declared.Reason.{Reason}
use Rattle.refusal.specs.declared.Item.{Item}
use Rattle.refusal.specs.Verdict.{Verdict}
use Rattle.refusal.specs.Verdict.{Accepted}
use Rattle.refusal.specs.Checks.{and_then, first}
use Rattle.refusal.specs.Answers.{lent_of}
use Rattle.refusal.proofs.Checks.{and_then-last}
use Rattle.ga94.specs.Value.{stored, blank}
use Rattle.ga94.specs.Reading.{missing, construct_at, marker_verdict, count_in, head_verdict, constructs_verdict, records_at, closing_verdict, content_verdict, value_of}
use Rattle.ga94.specs.Lent.{records_bytes, numbers_of, head_of, ReadsInto}

-- reading into a lent array, by the verdict: a refusal leaves the array as it was
module _ (body lent : List ℕ) (bytes : Bytes body) where
  pub refused-into : (why : Reason × Item) → content_verdict body ≡ Err why → ReadsInto body lent (Err why) lent
  refused-into (reason, item) told =
      record {
        bytes = bytes;
        answer = ap (λ (v : Verdict). head_of v (value_of body)) (sym told);
        left = ap (λ (v : Verdict). lent_of v (records_bytes (stored (value_of body)).records) lent) (sym told);
      }

  -- and else all of it is the value's records
  pub accepted-into : (found : List ℕ) → content_verdict body ≡ Accepted → found ≡ records_bytes (stored (value_of body)).records
      → ReadsInto body lent (Ok (numbers_of (stored (value_of body)))) found
  accepted-into found told laid =
      record {
        bytes = bytes;
        answer = ap (λ (v : Verdict). head_of v (value_of body)) (sym told);
        left = laid ∙ ap (λ (v : Verdict). lent_of v (records_bytes (stored (value_of body)).records) lent) (sym told);
      }

-- the three parts of a body's checks
pub content-parts : (body : List ℕ)
    → content_verdict body ≡ and_then (head_verdict body) (and_then (constructs_verdict (count_in body) 7 body) (closing_verdict (7 + 3 * count_in body) body))
unfolding content_verdict
content-parts body =
    ap (λ (v : Verdict). and_then (head_verdict body) (and_then (constructs_verdict (count_in body) 7 body) v)) (and_then-last (closing_verdict (7 + 3 * count_in body) body))

-- CONSTRUCTS, ONE AFTER THE OTHER

-- where those before construct i are accepted, its checks come next
pub constructs-here : (body : List ℕ) (n i : ℕ) → i < n
    → constructs_verdict (n - i) (7 + 3 * i) body
    ≡ and_then (missing (7 + 3 * i) 3 body) (and_then (marker_verdict (7 + 3 * i) body) (constructs_verdict (n - (i + 1)) (7 + 3 * (i + 1)) body))
constructs-here body n i h =
    let at = 7 + 3 * i in
    let left : n - i ≡ suc (n - (i + 1)) = omega arith in
    let next : at + 3 ≡ 7 + 3 * (i + 1) = omega arith in
    ap (λ (k : ℕ). constructs_verdict k at body) left
    ∙ ap (λ (k : ℕ). first (missing at 3 body ∷ marker_verdict at body ∷ constructs_verdict (n - (i + 1)) k body ∷ [])) next
    ∙ ap (λ (v : Verdict). and_then (missing at 3 body) (and_then (marker_verdict at body) v)) (and_then-last (constructs_verdict (n - (i + 1)) (7 + 3 * (i + 1)) body))

pub constructs-done : (body : List ℕ) (n i : ℕ) → n ≤ i → constructs_verdict (n - i) (7 + 3 * i) body ≡ Accepted
constructs-done body n i h = let none : n - i ≡ 0 = omega arith in ap (λ (k : ℕ). constructs_verdict k (7 + 3 * i) body) none

-- the record of index i
records-from : (k i at : ℕ) (body : List ℕ) → i < k → get_or (records_at k at body) i blank ≡ construct_at (at + 3 * i) body
records-from zero i at body h = let f : ⊥ = omega arith in absurd f
records-from (suc k) zero at body h = let here : at ≡ at + 3 * 0 = omega arith in ap (λ (n : ℕ). construct_at n body) here
records-from (suc k) (suc i) at body h =
    let near : i < k = omega arith in
    let far : at + 3 + 3 * i ≡ at + 3 * suc i = omega arith in
    records-from k i (at + 3) body near ∙ ap (λ (n : ℕ). construct_at n body) far

pub record-of : (n i : ℕ) (body : List ℕ) → i < n → get_or (records_at n 7 body) i blank ≡ construct_at (7 + 3 * i) body
record-of n i body h = records-from n i 7 body h
