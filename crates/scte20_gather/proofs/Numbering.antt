-- The constructs of a body, gathered as numbers: place by place, and the records that they tell.
-- Assumes nothing.
use Prim.Native.Nat.{ℕ, zero, suc, ◌+◌, ◌*◌, ◌≤◌, ◌<◌}
use native.Mathlib.Omega.{arith}
use mathlib.Core.Path.{◌≡◌, ◌∙◌, ap, ap₂, sym, subst, refl}
use mathlib.Core.List.{List, ◌∷◌}
use borrow.Author.Count.{below_more}
use lib.ListN.{length, get_or, set}
use lib.Seq.{get_or-set_same, get_or-set_other}
use Rattle.bits.specs.Bits.{bits_of, field}
use Rattle.bits.specs.Peek.{peek_of}
use Rattle.bits.proofs.Stream.{length-bits_of, bits_of-are}
use Rattle.bits.proofs.Beyond.{peek-inside, peek-lt}
use Rattle.scte20.specs.Value.{blank}
use Rattle.scte20.specs.Reading.{construct_at, records_at}
use Rattle.scte20.specs.Inside.{construct_of}
use Rattle.scte20.proofs.Stepwise.{construct-at}
use Rattle.scte20_gather.specs.Inside.{Numbered, Small, records_of}

-- none is gathered
pub numbered-none : (body found : List ℕ) → Numbered body 0 found
numbered-none body found i h = let f : ⊥ = omega arith in absurd f

-- one more in its place
pub numbered_next : (body found : List ℕ) (n : ℕ) → Numbered body n found → n < length found → Numbered body (n + 1) (set found n (peek_of body (21 + 26 * n) 26))
numbered_next body found n before inside =
    let x = peek_of body (21 + 26 * n) 26 in
    below_more _ n (λ i h. get_or-set_other found n i x 0 (λ e. omega arith) ∙ before i h) (get_or-set_same found n x 0 inside)

pub numbered-small : (body found : List ℕ) (n : ℕ) → Numbered body n found → Small n found
numbered-small body found n numbered i h = subst (λ (x : ℕ). x < 67108864) (sym (numbered i h)) (peek-lt body (21 + 26 * i) 26)

-- the number of a construct that is all there
pub numbered-field : (body found : List ℕ) (n : ℕ) → Numbered body n found → (i : ℕ) → i < n → 21 + 26 * n ≤ 8 * length body
    → get_or found i 0 ≡ field (bits_of body) (21 + 26 * i) 26
numbered-field body found n numbered i h fits = numbered i h ∙ peek-inside body (21 + 26 * i) 26 (omega arith)

-- and so the records that the numbers tell are those of the body
numbered-from : (body found : List ℕ) (n : ℕ) → Numbered body n found → 21 + 26 * n ≤ 8 * length body
    → (k i : ℕ) → i + k ≡ n → records_of k i found ≡ records_at k (21 + 26 * i) (bits_of body)
numbered-from body found n numbered fits zero i e = refl
numbered-from body found n numbered fits (suc k) i e =
    let below : i < n = omega arith in
    let far : 21 + 26 * (i + 1) ≡ 21 + 26 * i + 26 = omega arith in
    let inside : 21 + 26 * i + 26 ≤ length (bits_of body) = omega (arith, length-bits_of body) in
    let one : construct_of (get_or found i 0) ≡ construct_at (21 + 26 * i) (bits_of body) =
    ap construct_of (numbered-field body found n numbered i below fits) ∙ construct-at (bits_of body) (21 + 26 * i) (bits_of-are body) inside
    in
    ap₂ ◌∷◌ one (numbered-from body found n numbered fits k (i + 1) (omega arith) ∙ ap (λ (at : ℕ). records_at k at (bits_of body)) far)

pub numbered-records : (body found : List ℕ) (n : ℕ) → Numbered body n found → 21 + 26 * n ≤ 8 * length body
    → records_of n 0 found ≡ records_at n 21 (bits_of body)
numbered-records body found n numbered fits = numbered-from body found n numbered fits n 0 (omega arith)

-- ---- the records that numbers tell

pub length-records_of : (k i : ℕ) (found : List ℕ) → length (records_of k i found) ≡ k
length-records_of zero i found = refl
length-records_of (suc k) i found = ap suc (length-records_of k (i + 1) found)

get_d-from : (k i j : ℕ) (found : List ℕ) → j < k → get_or (records_of k i found) j blank ≡ construct_of (get_or found (i + j) 0)
get_d-from zero i j found h = let f : ⊥ = omega arith in absurd f
get_d-from (suc k) i zero found h = let here : i ≡ i + 0 = omega arith in ap (λ (a : ℕ). construct_of (get_or found a 0)) here
get_d-from (suc k) i (suc j) found h =
    let near : j < k = omega arith in
    let far : i + 1 + j ≡ i + suc j = omega arith in
    get_d-from k (i + 1) j found near ∙ ap (λ (a : ℕ). construct_of (get_or found a 0)) far

pub get_d-records_of : (n i : ℕ) (found : List ℕ) → i < n → get_or (records_of n 0 found) i blank ≡ construct_of (get_or found i 0)
get_d-records_of n i found h = let same : 0 + i ≡ i = omega arith in get_d-from n 0 i found h ∙ ap (λ (a : ℕ). construct_of (get_or found a 0)) same
