-- What follows the constructs, where all its bits are 0: the sampled video count, the alignment bits and the stuffing are accepted.
-- Assumes nothing.
use Prim.Native.Nat.{ℕ, zero, suc, ◌+◌, ◌-◌, ◌*◌, ◌/◌, ◌%◌, ◌^◌, ◌≤◌, ◌<◌}
use native.Mathlib.Nat.{div-one}
use native.Mathlib.Omega.{arith}
use mathlib.Core.Path.{◌≡◌, ◌∙◌, ap, sym, subst, refl}
use mathlib.Core.List.{List}
use borrow.Author.Tests.{eq-eqb}
use lib.ListN.{length, get_or, take, drop, replicate, take-append-drop}
use lib.Seq.{drop-drop}
use Rattle.lists.specs.Bytes.{Bytes}
use Rattle.lists.specs.Each.{Each}
use Rattle.lists.proofs.Each.{each_take, each-drop, each_append, each_same, each-replicate}
use Rattle.refusal.specs.declared.Fixed.{Fixed}
use Rattle.refusal.specs.declared.Fixed.TheVariants.{Alignment, Stuffing}
use Rattle.refusal.specs.Verdict.{Accepted}
use Rattle.bits.specs.Bits.{bits, num, bits_of, field}
use Rattle.bits.proofs.Stream.{length-bits_of, bits_of-are, drop-bits_of}
use Rattle.bits.proofs.Fields.{field-bits, field-byte}
use Rattle.bits.proofs.Runs.{bits-zero}
use Rattle.stuffing.specs.Zeros.{zero_verdict}
use Rattle.stuffing.proofs.Zeros.{accepted-zero, zero-accepted, stuffing-none}
use Rattle.scte20.specs.Layout.{padding}
use Rattle.scte20.specs.Reading.{sampled_verdict, rest_verdict}
use Rattle.scte20.proofs.Bytewise.{missing-none}
use Rattle.scte20_gather.specs.Inside.{Blank}

abbrev Zero : ℕ → Type 0
Zero b = b ≡ 0

num-zeros : (n : ℕ) → num (replicate n 0) ≡ 0
num-zeros zero = refl
num-zeros (suc n) = omega (arith, num-zeros n)

zeros-right : (which : Fixed) (at : ℕ) (bs : List ℕ) → Each Zero bs → zero_verdict which at bs ≡ Accepted
zeros-right which at bs h = ap (zero_verdict which at) (each_same 0 bs h) ∙ zero-accepted which at (length bs)

module _ (body : List ℕ) (from : ℕ) (h : Bytes body) (inside : from < 8 * length body) (blank : Blank body from) where
  -- the bits of its byte
  here : take (8 - from % 8) (drop from (bits_of body)) ≡ replicate (8 - from % 8) 0
  here =
      let k = from / 8 in
      let j = from % 8 in
      let w = 8 - j in
      let at : 8 * k + j ≡ from = omega arith in
      let fits : from + w ≤ length (bits_of body) = omega (arith, length-bits_of body) in
      let none_left : 8 - (j + w) ≡ 0 = omega arith in
      let none : field (bits_of body) from w ≡ 0 =
      ap (λ (b : ℕ). field (bits_of body) b w) (sym at) ∙ field-byte body k j w h (omega arith) (omega arith) ∙ ap (λ (e : ℕ). get_or body k 0 / 2 ^ e % 2 ^ w) none_left ∙ ap (λ (b : ℕ). b % 2 ^ w) (div-one (get_or body k 0)) ∙ blank.here
      in
      sym (field-bits (bits_of body) from w (bits_of-are body) fits) ∙ ap (bits w) none ∙ bits-zero w

  -- and those behind it
  behind : Each Zero (drop (8 - from % 8) (drop from (bits_of body)))
  behind =
      let next : from + (8 - from % 8) ≡ 8 * (from / 8 + 1) = omega arith in
      let rest = bits_of (drop (from / 8 + 1) body) in
      let same : drop (8 - from % 8) (drop from (bits_of body)) ≡ rest =
      drop-drop (8 - from % 8) from (bits_of body) ∙ ap (λ (k : ℕ). drop k (bits_of body)) next ∙ drop-bits_of (from / 8 + 1) body
      in
      let all : rest ≡ replicate (length rest) 0 = accepted-zero Stuffing (8 * (from / 8 + 1)) rest (stuffing-none body (from / 8 + 1) blank.behind) in
      subst (Each Zero) (sym (same ∙ all)) (each-replicate Zero (length rest) 0 refl)

  all-zero : Each Zero (drop from (bits_of body))
  all-zero =
      let w = 8 - from % 8 in
      let xs = drop from (bits_of body) in
      subst (Each Zero) (take-append-drop w xs)
      (each_append Zero (take w xs) (drop w xs) (subst (Each Zero) (sym here) (each-replicate Zero w 0 refl)) behind)

  pub blank-sampled : from + 4 ≤ 8 * length body → sampled_verdict from (bits_of body) ≡ Accepted
  unfolding sampled_verdict
  blank-sampled long =
      let four = take 4 (drop from (bits_of body)) in
      let none : field (bits_of body) from 4 ≡ 0 = ap num (each_same 0 four (each_take Zero 4 (drop from (bits_of body)) all-zero)) ∙ num-zeros (length four) in
      simp (missing-none body from 4 long, eq-eqb (field (bits_of body) from 4) 0 none)

  pub blank-rest : (at : ℕ) → from ≤ at → rest_verdict at (bits_of body) ≡ Accepted
  unfolding rest_verdict
  blank-rest at after =
      let zero-from : (k : ℕ) → from ≤ k → Each Zero (drop k (bits_of body)) =
      λ k past.
      let far : from + (k - from) ≡ k = omega arith in
      subst (Each Zero) (drop-drop (k - from) from (bits_of body) ∙ ap (λ (n : ℕ). drop n (bits_of body)) far) (each-drop Zero (k - from) (drop from (bits_of body)) all-zero)
      in
      simp (
        zeros-right Alignment at (take (padding at) (drop at (bits_of body))) (each_take Zero (padding at) (drop at (bits_of body)) (zero-from at after)),
        zeros-right Stuffing (at + padding at) (drop (at + padding at) (bits_of body)) (zero-from (at + padding at) (omega arith)),
      )
