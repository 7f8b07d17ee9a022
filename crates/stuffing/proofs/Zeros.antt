-- Bits that must be zero: when they are accepted, which is the first that is not, and the same of whole bytes.
-- Assumes nothing.
use Prim.Native.Nat.{ℕ, zero, suc, ◌+◌, ◌*◌, ◌≤◌, ◌<◌}
use native.Mathlib.Omega.{arith}
use mathlib.Core.Path.{◌≡◌, ◌∙◌, ap, sym, refl}
use mathlib.Core.Bool.{Bool, not}
use mathlib.Core.List.{List, [], ◌∷◌}
use lib.Dec.{eqb, eqb-suc-zero}
use lib.ListN.{length, get_or, drop, replicate, length-drop}
use lib.Seq.{get_or-drop}
use Rattle.lists.specs.Bytes.{Bytes}
use Rattle.lists.specs.Each.{Each}
use Rattle.lists.proofs.Each.{each_at, each-drop, each_same, each-replicate}
use Rattle.refusal.specs.declared.Fixed.{Fixed}
use Rattle.refusal.specs.declared.Fixed.TheVariants.{Stuffing}
use Rattle.refusal.specs.Verdict.{Accepted, Refused}
use Rattle.refusal.specs.declared.Reason.TheVariants.{Unfixed}
use Rattle.refusal.specs.declared.Item.TheVariants.{Bit}
use Rattle.refusal.specs.Checks.{refuse_if, and_then, first}
use Rattle.refusal.proofs.Checks.{accepted-and_then, accepted-equal}
use Rattle.bits.specs.Bits.{bits_of, zeros}
use Rattle.bits.specs.Peek.{zero_bytes, first_set, leading_of}
use Rattle.bits.proofs.Stream.{length-bits_of, bits_of-zeros, bits_of-same}
use Rattle.bits.proofs.Runs.{zeros-some, zeros-bytes, zeros-none, zero_bytes-le}
use Rattle.stuffing.specs.Zeros.{zero_verdict, zero_checks}

-- ---- the verdict

-- nothing but zeros
pub zero-none : (which : Fixed) (at : ℕ) (bs : List ℕ) → zeros bs ≡ length bs → zero_verdict which at bs ≡ Accepted
zero-none which at [] e = refl
zero-none which at (zero ∷ bs) e = zero-none which (suc at) bs (omega arith)
zero-none which at (suc b ∷ bs) e = let f : ⊥ = omega arith in absurd f

-- a bit behind the zeros
pub zero-some : (which : Fixed) (at : ℕ) (bs : List ℕ) → zeros bs < length bs → zero_verdict which at bs ≡ Refused (Unfixed which) (Bit (at + zeros bs))
zero-some which at [] h = let f : ⊥ = omega arith in absurd f
zero-some which at (zero ∷ bs) h =
    let near : suc at + zeros bs ≡ at + suc (zeros bs) = omega arith in
    zero-some which (suc at) bs (omega arith) ∙ ap (λ (k : ℕ). Refused (Unfixed which) (Bit k)) near
zero-some which at (suc b ∷ bs) h =
    let here : at ≡ at + 0 = omega arith in
    ap (λ (t : Bool). and_then (refuse_if (not t) (Unfixed which) (Bit at)) (zero_verdict which (suc at) bs)) (eqb-suc-zero b)
    ∙ ap (λ (k : ℕ). Refused (Unfixed which) (Bit k)) here

each-zero : (which : Fixed) (at : ℕ) (bs : List ℕ) → zero_verdict which at bs ≡ Accepted → Each (λ (b : ℕ). b ≡ 0) bs
each-zero which at [] e = tt
each-zero which at (b ∷ bs) e =
    let both = accepted-and_then (refuse_if (not (eqb b 0)) (Unfixed which) (Bit at)) (zero_verdict which (suc at) bs) e in
    (accepted-equal b 0 (Unfixed which) (Bit at) both.0, each-zero which (suc at) bs both.1)

pub accepted-zero : (which : Fixed) (at : ℕ) (bs : List ℕ) → zero_verdict which at bs ≡ Accepted → bs ≡ replicate (length bs) 0
accepted-zero which at bs e = each_same 0 bs (each-zero which at bs e)

pub zero-accepted : (which : Fixed) (at n : ℕ) → zero_verdict which at (replicate n 0) ≡ Accepted
zero-accepted which at zero = refl
zero-accepted which at (suc n) = zero-accepted which (suc at) n

-- it checks bit after bit
pub zero-order : (which : Fixed) (at : ℕ) (bs : List ℕ) → zero_verdict which at bs ≡ first (zero_checks which at bs)
zero-order which at [] = refl
zero-order which at (b ∷ bs) = simp (zero-order which (suc at) bs)

-- ---- whole bytes

-- bytes whose bits are accepted are zeros,
pub accepted-zeros : (which : Fixed) (at : ℕ) (s : List ℕ) → Bytes s → zero_verdict which at (bits_of s) ≡ Accepted → s ≡ replicate (length s) 0
accepted-zeros which at s h e =
    let n = length s in
    let none : Bytes (replicate n 0) = each-replicate (λ (b : ℕ). b < 256) n 0 (omega arith) in
    bits_of-same s (replicate n 0) h none
    (accepted-zero which at (bits_of s) e ∙ ap (λ (k : ℕ). replicate {A = ℕ} k 0) (length-bits_of s) ∙ sym (bits_of-zeros n))

-- and zeros are accepted
pub zeros-accepted : (which : Fixed) (at n : ℕ) → zero_verdict which at (bits_of (replicate n 0)) ≡ Accepted
zeros-accepted which at n = ap (zero_verdict which at) (bits_of-zeros n) ∙ zero-accepted which at (8 * n)

-- the byte that the zero bytes lead to
pub set-byte : (s : List ℕ) → zero_bytes s < length s → 0 < get_or s (zero_bytes s) 0
set-byte [] h = let f : ⊥ = omega arith in absurd f
set-byte (zero ∷ s) h = set-byte s (omega arith)
set-byte (suc b ∷ s) h = omega arith

pub leading_lt : (b : ℕ) → b < 256 → 0 < b → leading_of b < 8
unfolding leading_of
leading_lt b h some = zeros-some 8 b h some

-- the stuffing from byte `from` on, by the search for a byte that is not 0
module _ (s : List ℕ) (from : ℕ) where
  pub stuffing-none : length s ≤ first_set s from → zero_verdict Stuffing (8 * from) (bits_of (drop from s)) ≡ Accepted
  unfolding first_set
  stuffing-none h =
      let rest = drop from s in
      let all : zero_bytes rest ≡ length rest = omega (arith, zero_bytes-le rest, length-drop from s) in
      zero-none Stuffing (8 * from) (bits_of rest) (zeros-none rest all ∙ sym (length-bits_of rest))

  pub stuffing-some : Bytes s
      → let wrong = first_set s from in
      wrong < length s
      → zero_verdict Stuffing (8 * from) (bits_of (drop from s)) ≡ Refused (Unfixed Stuffing) (Bit (8 * wrong + leading_of (get_or s wrong 0)))
  unfolding first_set
  stuffing-some h some =
      let rest = drop from s in
      let k = zero_bytes rest in
      let near : k < length rest = omega (arith, length-drop from s) in
      let byte : get_or rest k 0 ≡ get_or s (from + k) 0 = get_or-drop from s k 0 in
      let each : Bytes rest = each-drop (λ (b : ℕ). b < 256) from s h in
      let lead : zeros (bits_of rest) ≡ 8 * k + leading_of (get_or rest k 0) = zeros-bytes rest each near in
      let lead-lt : leading_of (get_or rest k 0) < 8 = leading_lt (get_or rest k 0) (each_at (λ (b : ℕ). b < 256) 0 rest each k near) (set-byte rest near) in
      let stops : zeros (bits_of rest) < length (bits_of rest) = omega (arith, lead, lead-lt, length-bits_of rest) in
      let place : 8 * from + zeros (bits_of rest) ≡ 8 * (from + k) + leading_of (get_or s (from + k) 0) = omega (arith, lead, ap leading_of byte) in
      zero-some Stuffing (8 * from) (bits_of rest) stops ∙ ap (λ (n : ℕ). Refused (Unfixed Stuffing) (Bit n)) place
