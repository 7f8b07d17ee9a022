-- What stands at a place is a fault: the layout of a legal value has none, so that reading refuses.
-- Assumes nothing.
use Rattle.ga94.specs.declared.Numbers.{Numbers}
use Rattle.refusal.specs.Answers.{Judged, verdict_of}
use Prim.Native.Nat.{ℕ, ◌+◌, ◌*◌, ◌≤◌}
use native.Mathlib.Omega.{arith}
use mathlib.Core.Path.{◌≡◌, ◌∙◌, sym, subst}
use mathlib.Core.List.{List}
use lib.ListN.{length}
use Rattle.lists.specs.Bytes.{Bytes}
use Rattle.refusal.specs.Verdict.{Accepted}
use Rattle.bits.specs.Bits.{bits_of}
use Rattle.bits.proofs.Stream.{length-bits_of}
use Rattle.ga94.specs.Value.{Content, Legal}
use Rattle.ga94.specs.Layout.{layout}
use Rattle.ga94.specs.Reading.{content_verdict, value_of}
use Rattle.ga94.specs.Lent.{ReadsInto}
use Rattle.ga94.specs.Places.{Element, atsc_identifier, user-data-type-code, flags-byte, additional-data-flag, cc-count, em-data, construct, marker-bits, closing}
use Rattle.ga94.specs.Places.{first_bit, bit_count, element_in, Has, HasIn, value_in, Stands}
use Rattle.ga94.specs.Places.{ends_5, identifier_6, type_code_6, additional_16, marker_18, closing_18, zeros_19}
use Rattle.ga94.proofs.Sizes.{length-layout}
use Rattle.ga94.proofs.Contents.{value-legal, value-layout}
use Rattle.ga94.proofs.Elements.{layout-elements, layout-zeros}
use Rattle.ga94.proofs.Accepting.{refused-in-order}

-- which numbers are given: none below 5, and 6 only where the identifier, or the type behind it, is another
pub stands-numbers : (xs : List ℕ) (number bit : ℕ) → Stands xs number bit
    → (5 ≤ number) × (number ≡ 6 → element_in xs atsc_identifier ≡ 0x47413934 → (40 ≤ length xs → element_in xs user-data-type-code ≡ 3) → ⊥)
stands-numbers xs number bit (ends_5 e is has here inside few) = (omega (arith, is), λ six same typed. omega (arith, is))
stands-numbers xs number bit (identifier_6 is all other) = (omega (arith, is), λ six same typed. other same)
stands-numbers xs number bit (type_code_6 is all other) =
    let long : 40 ≤ length xs = omega (arith, all.here, all.all) in (omega (arith, is), λ six same typed. other (typed long))
stands-numbers xs number bit (additional_16 is all set) = (omega (arith, is), λ six same typed. omega (arith, is))
stands-numbers xs number bit (marker_18 i is all other) = (omega (arith, is), λ six same typed. omega (arith, is))
stands-numbers xs number bit (closing_18 n is all other) = (omega (arith, is), λ six same typed. omega (arith, is))
stands-numbers xs number bit (zeros_19 is one) = (omega (arith, is), λ six same typed. omega (arith, is))

-- the elements that a body has stand before its zeros
before-zeros : (n : ℕ) (e : Element) → Has n e → first_bit e + bit_count e ≤ 8 * (8 + 3 * n)
before-zeros n atsc_identifier h = omega arith
before-zeros n user-data-type-code h = omega arith
before-zeros n flags-byte h = omega arith
before-zeros n additional-data-flag h = omega arith
before-zeros n cc-count h = omega arith
before-zeros n em-data h = omega arith
before-zeros n (construct i) h = omega arith
before-zeros n (marker-bits i) h = omega arith
before-zeros n (closing m) h = omega arith

module _ (c : Content) (legal : Legal c) where
  abbrev xs : List ℕ
  xs = bits_of (layout c)

  count-is : element_in xs cc-count ≡ length c.records
  count-is = layout-elements c legal cc-count tt

  -- an element that the bits have is one of the value's
  own : (e : Element) → HasIn xs e → Has (length c.records) e
  own e has = subst (λ (n : ℕ). Has n e) count-is has

  element-is : (e : Element) → HasIn xs e → element_in xs e ≡ value_in c e
  element-is e has = layout-elements c legal e (own e has)

  nothing-stands : (number bit : ℕ) → Stands (bits_of (layout c)) number bit → ⊥
  nothing-stands number bit (ends_5 e is has here inside few) =
      omega (arith, before-zeros (length c.records) e (own e has), length-bits_of (layout c), length-layout c)
  nothing-stands number bit (identifier_6 is all other) = other (element-is atsc_identifier tt)
  nothing-stands number bit (type_code_6 is all other) = other (element-is user-data-type-code tt)
  nothing-stands number bit (additional_16 is all set) = omega (arith, element-is additional-data-flag tt, legal.no_additional)
  nothing-stands number bit (marker_18 i is all other) = other (element-is (marker-bits i) all.has)
  nothing-stands number bit (closing_18 n is all other) = other (element-is (closing n) all.has)
  nothing-stands number bit (zeros_19 is first) = omega (arith, layout-zeros c legal bit (omega (arith, count-is)))

-- what reading accepts is such a layout
pub content-stands : (body : List ℕ) → Bytes body → (number bit : ℕ) → Stands (bits_of body) number bit → content_verdict body ≡ Accepted → ⊥
content-stands body bytes number bit stands e =
    nothing-stands (value_of body) (value-legal body bytes e) number bit (subst (λ (s : List ℕ). Stands (bits_of s) number bit) (sym (value-layout body bytes e)) stands)

pub stands-refused : (body lent : List ℕ) (r : Judged Numbers) (exit : List ℕ) → ReadsInto body lent r exit → (number bit : ℕ) → Stands (bits_of body) number bit
    → verdict_of r ≡ Accepted → ⊥
stands-refused body lent r exit p number bit stands e = content-stands body p.bytes number bit stands (sym (refused-in-order body lent r exit p) ∙ e)
