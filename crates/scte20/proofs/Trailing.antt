-- What follows the content: zero bits up to a whole byte, then zero bytes, or the first bit that is not 0.
-- Assumes nothing.
use Prim.Native.Nat.{ℕ, ◌+◌, ◌-◌, ◌*◌, ◌/◌, ◌^◌, ◌≤◌, ◌<◌}
use native.Mathlib.Omega.{arith}
use mathlib.Core.Path.{◌≡◌, ◌∙◌, ap, sym, subst}
use mathlib.Core.List.{List}
use lib.ListN.{length, get_or, take, drop, replicate, length-drop}
use lib.Pow.{shl_lt}
use lib.Seq.{length-take-le}
use Rattle.lists.specs.Bytes.{Bytes}
use Rattle.refusal.specs.declared.Fixed.TheVariants.{Alignment, Stuffing}
use Rattle.refusal.specs.Verdict.{Accepted, Refused}
use Rattle.refusal.specs.declared.Reason.TheVariants.{Unfixed}
use Rattle.refusal.specs.declared.Item.TheVariants.{Bit}
use Rattle.bits.specs.Bits.{bits, bits_of, field, zeros}
use Rattle.bits.specs.Peek.{first_set, leading_of}
use Rattle.bits.proofs.Numbers.{length-bits}
use Rattle.bits.proofs.Stream.{length-bits_of, bits_of-are, drop-bits_of}
use Rattle.bits.proofs.Fields.{field_lt, field-bits}
use Rattle.bits.proofs.Runs.{zeros-stop, zeros-some, zeros-replicate, bits-zero, bits-shifted}
use Rattle.stuffing.specs.Zeros.{zero_verdict}
use Rattle.stuffing.proofs.Zeros as stuffing
use Rattle.stuffing.proofs.Zeros.{zero-none, zero-some}
use Rattle.scte20.specs.Layout.{padding}
use Rattle.scte20.proofs.Sizes.{padded}

pub padding-lt : (at : ℕ) → padding at < 8
unfolding padding
padding-lt at = omega arith

-- p bits, as a number moved up to a byte's first bits
module _ (p x : ℕ) (h : x < 2 ^ p) (few : p ≤ 8) where
  pub moved-lt : x * 2 ^ (8 - p) < 256
  moved-lt =
      let eight : p + (8 - p) ≡ 8 = omega arith in
      subst (λ (n : ℕ). x * 2 ^ (8 - p) < 2 ^ n) eight (shl_lt p (8 - p) h)

  leading-moved : 0 < x → leading_of (x * 2 ^ (8 - p)) ≡ zeros (bits p x)
  unfolding leading_of
  leading-moved some =
      let eight : 8 ≡ p + (8 - p) = omega arith in
      let stops : zeros (bits p x) < length (bits p x) = omega (arith, zeros-some p x h some, length-bits p x) in
      ap (λ (n : ℕ). zeros (bits n (x * 2 ^ (8 - p)))) eight
      ∙ ap zeros (bits-shifted p (8 - p) x)
      ∙ zeros-stop (bits p x) (replicate (8 - p) 0) stops

module _ (s : List ℕ) (at : ℕ) (inside : at ≤ 8 * length s) where
  pub padding-fits : at + padding at ≤ 8 * length s
  padding-fits = omega (arith, padded at)

  within : at + padding at ≤ length (bits_of s)
  within = omega (arith, padding-fits, length-bits_of s)

  long : length (take (padding at) (drop at (bits_of s))) ≡ padding at
  long = length-take-le (padding at) (drop at (bits_of s)) (omega (arith, within, length-drop at (bits_of s)))

  align-bits : bits (padding at) (field (bits_of s) at (padding at)) ≡ take (padding at) (drop at (bits_of s))
  align-bits = field-bits (bits_of s) at (padding at) (bits_of-are s) within

  -- the alignment bits
  pub alignment-none : field (bits_of s) at (padding at) ≡ 0 → zero_verdict Alignment at (take (padding at) (drop at (bits_of s))) ≡ Accepted
  alignment-none e =
      let all : take (padding at) (drop at (bits_of s)) ≡ replicate (padding at) 0 = sym align-bits ∙ ap (bits (padding at)) e ∙ bits-zero (padding at) in
      zero-none Alignment at (take (padding at) (drop at (bits_of s))) (ap zeros all ∙ zeros-replicate (padding at) ∙ sym long)

  pub alignment-some : (x : ℕ) → x ≡ field (bits_of s) at (padding at) → (x ≡ 0 → ⊥)
      → zero_verdict Alignment at (take (padding at) (drop at (bits_of s))) ≡ Refused (Unfixed Alignment) (Bit (at + leading_of (x * 2 ^ (8 - padding at))))
  alignment-some x e other =
      let p = padding at in
      let bs = take p (drop at (bits_of s)) in
      let small : x < 2 ^ p = subst (λ (k : ℕ). k < 2 ^ p) (sym e) (field_lt (bits_of s) at p (bits_of-are s)) in
      let some : 0 < x = omega (arith, other) in
      let same : zeros (bits p x) ≡ zeros bs = ap zeros (ap (bits p) e ∙ align-bits) in
      let lead : leading_of (x * 2 ^ (8 - p)) ≡ zeros bs = leading-moved p x small (omega (arith, padding-lt at)) some ∙ same in
      let stops : zeros bs < length bs = omega (arith, same, zeros-some p x small some, long) in
      zero-some Alignment at bs stops ∙ ap (λ (k : ℕ). Refused (Unfixed Alignment) (Bit (at + k))) (sym lead)

  -- the bytes behind them
  rest-bits : zero_verdict Stuffing (at + padding at) (drop (at + padding at) (bits_of s)) ≡ zero_verdict Stuffing (8 * ((at + 7) / 8)) (bits_of (drop ((at + 7) / 8) s))
  rest-bits =
      ap (λ (k : ℕ). zero_verdict Stuffing k (drop k (bits_of s))) (padded at)
      ∙ ap (zero_verdict Stuffing (8 * ((at + 7) / 8))) (drop-bits_of ((at + 7) / 8) s)

  pub stuffing-none : length s ≤ first_set s ((at + 7) / 8) → zero_verdict Stuffing (at + padding at) (drop (at + padding at) (bits_of s)) ≡ Accepted
  stuffing-none h = rest-bits ∙ stuffing.stuffing-none s ((at + 7) / 8) h

  pub stuffing-some : Bytes s
      → let wrong = first_set s ((at + 7) / 8) in
      wrong < length s
      → zero_verdict Stuffing (at + padding at) (drop (at + padding at) (bits_of s)) ≡ Refused (Unfixed Stuffing) (Bit (8 * wrong + leading_of (get_or s wrong 0)))
  stuffing-some h some = rest-bits ∙ stuffing.stuffing-some s ((at + 7) / 8) h some
