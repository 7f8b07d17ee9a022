-- What stands at a place is a fault: the layout of a legal value has none, so that reading refuses.
-- Assumes nothing.
use Rattle.scte20.specs.declared.Numbers.{Numbers}
use Rattle.refusal.specs.Answers.{Judged, verdict_of}
use Prim.Native.Nat.{ℕ, zero, suc, ◌+◌, ◌*◌, ◌≤◌, ◌<◌}
use native.Mathlib.Omega.{arith}
use mathlib.Core.Path.{◌≡◌, ◌∙◌, ap, ap₂, sym, subst, refl}
use mathlib.Core.Logic.{⊎_elim}
use mathlib.Core.Bool.{false, ◌&&◌, true≢false}
use mathlib.Core.List.{List, [], ◌∷◌}
use borrow.Author.Tests.{eq-eqb}
use lib.Dec.{eqb}
use lib.ListN.{length, get_or, drop, length-append}
use lib.Seq.{drop-cons}
use Rattle.lists.specs.Bytes.{Bytes}
use Rattle.lists.proofs.Each.{each_at}
use Rattle.refusal.specs.Verdict.{Accepted}
use Rattle.bits.specs.Bits.{bits_of}
use Rattle.kind.specs.Ours.{group_type}
use Rattle.scte20.specs.declared.Record.{Record}
use Rattle.scte20.specs.Value.{Content, flag_byte, Legal, LegalRecord, Follows, InOrder, blank, field_of, count_if, urgent}
use Rattle.scte20.specs.Layout.{item_bits, layout}
use Rattle.scte20.specs.Reading.{content_verdict, value_of}
use Rattle.scte20.specs.Lent.{ReadsInto}
use Rattle.scte20.specs.Places.{Element, user-data-type-code, reserved_bits, vbi-data-flag, cc-count, construct, cc-priority, field-number, line-offset, marker, video_count}
use Rattle.scte20.specs.Places.{first_bit, bit_count, element_in, Has, HasIn, bits_in, zeros_in, urgent_in, record_at, Stands}
use Rattle.scte20.specs.Places.{ends_5, type_code_6, group_type_6, field_zero_7, field_falls_8, line_stays_8, fifth_9, video_count_10, marker_18, zeros_19}
use Rattle.scte20.proofs.Sizes.{length-items}
use Rattle.scte20.proofs.Contents.{value-legal, value-layout}
use Rattle.scte20.proofs.Layouts.{zeros_at, layout-stands}
use Rattle.scte20.proofs.Elements.{layout-elements, layout-zeros}
use Rattle.scte20.proofs.Accepting.{refused-in-order}

-- which numbers are given: none below 5, and 6 only where user_data_type_code is another or a data group begins
pub stands-numbers : (xs : List ℕ) (number bit : ℕ) → Stands xs number bit
    → (5 ≤ number)
    × (number ≡ 6 → element_in xs user-data-type-code ≡ 3
    → (16 ≤ length xs → group_type (flag_byte (element_in xs reserved_bits) (element_in xs vbi-data-flag)) ≡ false) → ⊥)
stands-numbers xs number bit (ends_5 e is has here inside few) = (omega (arith, is), λ six typed own. omega (arith, is))
stands-numbers xs number bit (type_code_6 is all other) = (omega (arith, is), λ six typed own. other typed)
stands-numbers xs number bit (group_type_6 is all both group) = (omega (arith, is), λ six typed own. true≢false (sym group ∙ own (omega (arith, all.here))))
stands-numbers xs number bit (field_zero_7 i is all none) = (omega (arith, is), λ six typed own. omega (arith, is))
stands-numbers xs number bit (field_falls_8 i is all below) = (omega (arith, is), λ six typed own. omega (arith, is))
stands-numbers xs number bit (line_stays_8 i is all same low) = (omega (arith, is), λ six typed own. omega (arith, is))
stands-numbers xs number bit (fifth_9 i is all none four) = (omega (arith, is), λ six typed own. omega (arith, is))
stands-numbers xs number bit (video_count_10 n is all some) = (omega (arith, is), λ six typed own. omega (arith, is))
stands-numbers xs number bit (marker_18 i is all none) = (omega (arith, is), λ six typed own. omega (arith, is))
stands-numbers xs number bit (zeros_19 is one) = (omega (arith, is), λ six typed own. omega (arith, is))

-- the elements that a body has stand before its zeros: those before the flag's decision
always : (flag n : ℕ) → 16 ≤ bits_in flag n
always zero n = omega arith
always (suc flag) n = omega arith

module _ (flag n : ℕ) where
  with-flag : flag ≡ 1 → bits_in flag n ≡ 25 + 26 * n
  with-flag set = ap (λ (f : ℕ). bits_in f n) set

  -- and all
  before-zeros : (e : Element) → Has flag n e → first_bit e + bit_count e ≤ bits_in flag n
  before-zeros user-data-type-code h = omega (arith, always flag n)
  before-zeros reserved_bits h = omega (arith, always flag n)
  before-zeros vbi-data-flag h = always flag n
  before-zeros cc-count h = omega (arith, with-flag h)
  before-zeros (construct i) h = omega (arith, with-flag h.0)
  before-zeros (cc-priority i) h = omega (arith, with-flag h.0)
  before-zeros (field-number i) h = omega (arith, with-flag h.0)
  before-zeros (line-offset i) h = omega (arith, with-flag h.0)
  before-zeros (marker i) h = omega (arith, with-flag h.0)
  before-zeros (video_count m) h = omega (arith, with-flag h.0)

-- where the zeros begin, with a count that is looked at behind flag 1 only
zeros-same : (flag m n : ℕ) → flag < 2 → (flag ≡ 1 → m ≡ n) → bits_in flag m ≡ bits_in flag n
zeros-same zero m n small same = refl
zeros-same (suc flag) m n small same = let set : suc flag ≡ 1 = omega arith in ap (bits_in (suc flag)) (same set)

-- records in order, by index
order-at : (rs : List Record) → InOrder rs → (i : ℕ) → suc i < length rs → Follows (get_or rs i blank) (get_or rs (suc i) blank)
order-at [] h i low = let f : ⊥ = omega arith in absurd f
order-at (r ∷ []) h i low = let f : ⊥ = omega arith in absurd f
order-at (r ∷ next ∷ rs) h zero low = h.0
order-at (r ∷ next ∷ rs) h (suc i) low = order-at (next ∷ rs) h.1 i (omega arith)

module _ (c : Content) (legal : Legal c) where
  abbrev xs : List ℕ
  xs = bits_of (layout c)

  abbrev n : ℕ
  n = length c.records

  flag_is : element_in xs vbi-data-flag ≡ c.flag
  flag_is = layout-elements c legal vbi-data-flag tt

  count-is : element_in xs vbi-data-flag ≡ 1 → element_in xs cc-count ≡ n
  count-is set = layout-elements c legal cc-count (sym flag_is ∙ set)

  zeros-are : zeros_in xs ≡ bits_in c.flag n
  zeros-are =
      zeros-same (element_in xs vbi-data-flag) (element_in xs cc-count) n (omega (arith, flag_is, legal.flag)) count-is
      ∙ ap (λ (f : ℕ). bits_in f n) flag_is

  long-enough : zeros_in xs ≤ length xs
  long-enough = omega (arith, zeros-are, length-items c, ap length (layout-stands c legal) ∙ length-append (item_bits c) (zeros_at (bits_in c.flag n) (8 * c.z)))

  -- a construct that the bits have is one of the value's
  own : (i : ℕ) → HasIn xs (construct i) → Has c.flag n (construct i)
  own i h = (sym flag_is ∙ h.0, omega (arith, count-is h.0))

  module _ (i : ℕ) (has : Has c.flag n (construct i)) where
    field_is : element_in xs (field-number i) ≡ field_of (record_at c i)
    field_is = layout-elements c legal (field-number i) has

    line-is : element_in xs (line-offset i) ≡ (record_at c i).line_offset
    line-is = layout-elements c legal (line-offset i) has

    priority-is : element_in xs (cc-priority i) ≡ (record_at c i).cc_priority
    priority-is = layout-elements c legal (cc-priority i) has

  -- those of priority 0 among the first i constructs and the records behind them
  urgent-is : (f i : ℕ) → c.flag ≡ 1 → i ≤ n → urgent_in xs f i + urgent f (drop i c.records) ≡ urgent f c.records
  urgent-is f zero set low = omega arith
  urgent-is f (suc i) set low =
      let one = ap₂ (λ (a b : ℕ). count_if (eqb a f && eqb b 0)) (field_is i (set, low)) (priority-is i (set, low)) in
      omega (arith, one, ap (urgent f) (drop-cons c.records i blank low), urgent-is f i set (omega arith))

  -- a field never falls, and where it stays the line rises
  rises : (i : ℕ) → HasIn xs (construct (suc i))
      → (element_in xs (field-number i) ≤ element_in xs (field-number (suc i)))
      × (element_in xs (field-number (suc i)) ≡ element_in xs (field-number i) → element_in xs (line-offset i) < element_in xs (line-offset (suc i)))
  rises i h =
      let later = own (suc i) h in
      let earlier : Has c.flag n (construct i) = (later.0, omega arith) in
      let field = field_is i earlier in
      let next = field_is (suc i) later in
      ⊎_elim
      (λ lower. (omega arith, λ same. let f : ⊥ = omega arith in absurd f))
      (λ level. (omega arith, λ same. omega (arith, level.1, line-is i earlier, line-is (suc i) later)))
      (order-at c.records legal.order i later.1)

  nothing-stands : (number bit : ℕ) → Stands (bits_of (layout c)) number bit → ⊥
  nothing-stands number bit (ends_5 e is has here inside few) = omega (arith, before-zeros _ _ e has, long-enough)
  nothing-stands number bit (type_code_6 is all other) = other (layout-elements c legal user-data-type-code tt)
  nothing-stands number bit (group_type_6 is all both group) =
      true≢false
      (sym group
      ∙ ap₂ (λ (a b : ℕ). group_type (flag_byte a b)) (layout-elements c legal reserved_bits tt) (layout-elements c legal vbi-data-flag tt)
      ∙ legal.no_group)
  nothing-stands number bit (field_zero_7 i is all none) =
      let mine = own i all.has in
      omega (arith, field_is i mine, (each_at LegalRecord blank c.records legal.each i mine.1).allowed)
  nothing-stands number bit (field_falls_8 i is all below) = omega (arith, (rises i all.has).0)
  nothing-stands number bit (line_stays_8 i is all same low) = omega (arith, (rises i all.has).1 same)
  nothing-stands number bit (fifth_9 i is all none four) =
      let mine = own i all.has in
      let f = element_in xs (field-number i) in
      let counts : count_if (eqb f f && eqb (element_in xs (cc-priority i)) 0) ≡ 1 = rw (eq-eqb f f refl, eq-eqb (element_in xs (cc-priority i)) 0 none) in
      omega (arith, counts, urgent-is f (suc i) mine.0 mine.1, legal.four f)
  nothing-stands number bit (video_count_10 m is all some) =
      some (layout-elements c legal (video_count m) (sym flag_is ∙ all.has.0, all.has.1 ∙ count-is all.has.0))
  nothing-stands number bit (marker_18 i is all none) = omega (arith, layout-elements c legal (marker i) (own i all.has))
  nothing-stands number bit (zeros_19 is first) = omega (arith, layout-zeros c legal bit (omega (arith, zeros-are)))

-- what reading accepts is such a layout
pub content-stands : (body : List ℕ) → Bytes body → (number bit : ℕ) → Stands (bits_of body) number bit → content_verdict body ≡ Accepted → ⊥
content-stands body bytes number bit stands e =
    nothing-stands (value_of body) (value-legal body bytes e) number bit (subst (λ (s : List ℕ). Stands (bits_of s) number bit) (sym (value-layout body bytes e)) stands)

pub stands-refused : (body lent : List ℕ) (r : Judged Numbers) (exit : List ℕ) → ReadsInto body lent r exit → (number bit : ℕ) → Stands (bits_of body) number bit
    → verdict_of r ≡ Accepted → ⊥
stands-refused body lent r exit p number bit stands e = content-stands body p.bytes number bit stands (sym (refused-in-order body lent r exit p) ∙ e)
