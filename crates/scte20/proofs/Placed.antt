-- What stands at the place of a refusal, where reading a body within the limit refuses.
-- Assumes nothing.
use Prim.Native.Nat.{ℕ, zero, suc, ◌+◌, ◌*◌, ◌≤◌, ◌<◌}
use native.Mathlib.Nat.{zero-add}
use native.Mathlib.Omega.{arith}
use mathlib.Core.Path.{◌≡◌, ◌∙◌, ap, subst, sym, refl}
use borrow.Author.Tests.{eqb-true, eqb-false, ltb-true, ltb-false, not-true, le-ltb}
use mathlib.Core.Bool.{Bool, true, not, ◌&&◌, true≢false}
use mathlib.Core.List.{List, [], ◌∷◌, ◌++◌}
use lib.Dec.{eqb, ltb}
use lib.ListN.{length, take, drop, replicate, length-take, length-drop, take-append-drop}
use lib.Seq.{drop-drop}
use Rattle.refusal.specs.declared.Reason.{Reason}
use Rattle.refusal.specs.declared.Reason.TheVariants.{TooLong, Ends, Unfixed, FieldNumberZero, FieldFalls, LineDoesNotRise, FifthPriority, SampledVideo}
use Rattle.refusal.specs.declared.Fixed.TheVariants.{Marker, Alignment, Stuffing, Identifier}
use Rattle.refusal.specs.declared.Item.{Item}
use Rattle.refusal.specs.declared.Item.TheVariants.{Whole, Bit}
use Rattle.refusal.specs.Verdict.{Verdict}
use Rattle.refusal.specs.Verdict.{Accepted, Refused}
use Rattle.refusal.specs.Numbers.{number_of}
use Rattle.refusal.specs.Checks.{refuse_if, and_then, first}
use Rattle.refusal.specs.Answers.{AtBit}
use Rattle.refusal.proofs.Checks.{accepted-and_then, and_then-assoc, both_hold}
use Rattle.refusal.proofs.Only.{Only, accepted-only, and_then-only, bit-only}
use Rattle.bits.specs.Bits.{bits_of, field, zeros}
use Rattle.bits.proofs.Numbers.{AreBits}
use Rattle.bits.proofs.Stream.{length-bits_of, bits_of-are}
use Rattle.bits.proofs.Fields.{field_lt}
use Rattle.bits.proofs.Runs.{zeros-le, zeros-stop, zeros-on}
use Rattle.stuffing.specs.Zeros.{FirstOne}
use Rattle.stuffing.proofs.Zeros.{accepted-zero}
use Rattle.stuffing.proofs.Numbered.{zero-only, first_one}
use Rattle.kind.specs.Ours.{group_type}
use Rattle.scte20.specs.Value.{flag_byte, field_of, count_if, urgent}
use Rattle.scte20.specs.Layout.{padding}
use Rattle.scte20.specs.Rules.{falls, not_rising, record_verdict}
use Rattle.scte20.specs.Reading.{missing, construct_at, marker_verdict, constructs_verdict, sampled_verdict, rest_verdict, head_verdict, reserved_in, flag_in, count_in, flag_verdict, content_verdict}
use Rattle.scte20.specs.Places.{Element, user-data-type-code, reserved_bits, vbi-data-flag, cc-count, construct, cc-priority, field-number, line-offset, marker, video_count}
use Rattle.scte20.specs.Places.{first_bit, bit_count, element_in, HasIn, bits_in, zeros_in, urgent_in, Complete, Stands}
use Rattle.scte20.specs.Places.{ends_5, type_code_6, group_type_6, field_zero_7, field_falls_8, line_stays_8, fifth_9, video_count_10, marker_18, zeros_19}
use Rattle.scte20.proofs.Constructs.{accepted-missing, constructs-within}
use Rattle.scte20.proofs.Stepwise.{behind}

-- a bit that is not 1 is 0
not-one : (n : ℕ) → n < 2 → (n ≡ 1 → ⊥) → n ≡ 0
not-one zero h other = refl
not-one (suc zero) h other = absurd (other refl)
not-one (suc (suc n)) h other = let f : ⊥ = omega arith in absurd f

-- a run of zeros that ends within the first p bits, and one that goes on behind them
run-stops : (p : ℕ) (ys : List ℕ) → zeros (take p ys) < length (take p ys) → zeros (take p ys) ≡ zeros ys
run-stops p ys some = sym (zeros-stop (take p ys) (drop p ys) some) ∙ ap zeros (take-append-drop p ys)

run-goes-on : (p : ℕ) (ys : List ℕ) → take p ys ≡ replicate (length (take p ys)) 0 → zeros (drop p ys) < length (drop p ys) → p + zeros (drop p ys) ≡ zeros ys
run-goes-on p ys none some =
    let front = length (take p ys) in
    let whole : front ≡ p = omega (arith, length-take p ys, length-drop p ys) in
    let on : zeros ys ≡ front + zeros (drop p ys) =
    ap zeros (sym (take-append-drop p ys)) ∙ ap (λ (l : List ℕ). zeros (l ++ drop p ys)) none ∙ zeros-on front (drop p ys) in
    omega arith

module _ (xs : List ℕ) (are : AreBits xs) where
  abbrev Here : Reason → Item → Type 0
  Here = AtBit (length xs) (Stands xs)

  check-only : (fault : Bool) (reason : Reason) (b : ℕ) → b ≤ length xs → (fault ≡ true → Stands xs (number_of reason) b) → Only Here (refuse_if fault reason (Bit b))
  check-only = bit-only (length xs) (Stands xs)

  missing-only : (e : Element) → HasIn xs e → first_bit e ≤ length xs → Only Here (missing (first_bit e) (bit_count e) xs)
  unfolding missing
  missing-only e has h =
      check-only (ltb (length xs) (first_bit e + bit_count e)) Ends (first_bit e) h (λ t. ends_5 e refl has refl h (ltb-true (length xs) (first_bit e + bit_count e) t))

  -- the zeros behind the items, which take `at` bits
  rest-only : (at : ℕ) → at ≡ zeros_in xs → at ≤ length xs → Only Here (rest_verdict at xs)
  unfolding rest_verdict
  rest-only at e h =
      let p = padding at in
      let ys = drop at xs in
      let aligned = take p ys in
      let stuffed = drop (at + p) xs in
      let same : drop p ys ≡ stuffed = drop-drop p at xs in
      let within : (n : ℕ) → n ≡ zeros ys → at + n ≤ length xs = λ n run. omega (arith, run, zeros-le ys, length-drop at xs) in
      let stands : (bit : ℕ) → bit ≡ at + zeros ys → zeros ys < length ys → Stands xs 19 bit =
      λ bit here some. zeros_19 refl
      (subst (λ (b : ℕ). FirstOne xs (zeros_in xs) b) (sym here) (subst (λ (from : ℕ). FirstOne xs from (at + zeros ys)) e (first_one xs at are some))) in
      and_then-only Here _ _
      (zero-only (length xs) (Stands xs) Alignment at aligned
      (λ some. within (zeros aligned) (run-stops p ys some))
      (λ some. stands (at + zeros aligned) (ap (λ (n : ℕ). at + n) (run-stops p ys some)) (omega (arith, run-stops p ys some, length-take p ys)))) (λ clear.
      let none : aligned ≡ replicate (length aligned) 0 = accepted-zero Alignment at aligned clear in
      let on : zeros stuffed < length stuffed → p + zeros stuffed ≡ zeros ys =
      λ some. ap (λ (l : List ℕ). p + zeros l) (sym same) ∙ run-goes-on p ys none (subst (λ (l : List ℕ). zeros l < length l) (sym same) some) in
      let more : zeros stuffed < length stuffed → at + p + zeros stuffed ≡ at + zeros ys = λ some. omega (arith, on some) in
      and_then-only Here _ _
      (zero-only (length xs) (Stands xs) Stuffing (at + p) stuffed
      (λ some. subst (λ (n : ℕ). n ≤ length xs) (sym (more some)) (within (zeros ys) refl))
      (λ some. stands (at + p + zeros stuffed) (more some) (omega (arith, on some, length-drop (at + p) xs, length-drop at xs)))) (λ f.
      accepted-only Here))

  -- the constructs, of which i are accepted
  module _ (set : element_in xs vbi-data-flag ≡ 1) where
    abbrev at : ℕ → ℕ
    at i = 21 + 26 * i

    complete : (e : Element) (i : ℕ) → HasIn xs e → first_bit e + bit_count e ≤ at i + 26 → at i + 26 ≤ length xs → Complete xs e (first_bit e)
    complete e i has inner there = record { has = has; here = refl; all = omega (arith, inner, there) }

    -- what the records behind the first i constructs say, in bits
    urgent-in : (f i : ℕ) → urgent f (behind i xs) ≡ urgent_in xs f i
    unfolding construct_at
    urgent-in f zero = refl
    urgent-in f (suc i) = ap (λ (n : ℕ). count_if (eqb (element_in xs (field-number i)) f && eqb (element_in xs (cc-priority i)) 0) + n) (urgent-in f i)

    falls-in : (i : ℕ) → i < element_in xs cc-count → at i + 26 ≤ length xs → falls (behind i xs) (construct_at (at i) xs) ≡ true → Stands xs 8 (at i + 2)
    unfolding construct_at
    falls-in zero few there e = absurd (true≢false (sym e))
    falls-in (suc i) few there e =
        field_falls_8 i refl (complete (field-number (suc i)) (suc i) (set, few) (omega arith) there)
        (ltb-true (element_in xs (field-number (suc i))) (element_in xs (field-number i)) e)

    stays-in : (i : ℕ) → i < element_in xs cc-count → at i + 26 ≤ length xs → not_rising (behind i xs) (construct_at (at i) xs) ≡ true → Stands xs 8 (at i + 4)
    unfolding construct_at
    stays-in zero few there e = absurd (true≢false (sym e))
    stays-in (suc i) few there e =
        let lower = ltb (element_in xs (line-offset i)) (element_in xs (line-offset (suc i))) in
        let both = both_hold (eqb (element_in xs (field-number i)) (element_in xs (field-number (suc i)))) (not lower) e in
        line_stays_8 i refl (complete (line-offset (suc i)) (suc i) (set, few) (omega arith) there)
        (sym (eqb-true (element_in xs (field-number i)) (element_in xs (field-number (suc i))) both.0))
        (ltb-false (element_in xs (line-offset i)) (element_in xs (line-offset (suc i))) (not-true lower both.1))

    -- a record's own checks
    record-only : (i : ℕ) → i < element_in xs cc-count → at i + 26 ≤ length xs → Only Here (record_verdict (at i) (behind i xs) (construct_at (at i) xs))
    unfolding record_verdict construct_at
    record-only i few there =
        let r = construct_at (at i) xs in
        let priority : at i ≤ length xs = omega arith in
        let field : at i + 2 ≤ length xs = omega arith in
        let line : at i + 4 ≤ length xs = omega arith in
        and_then-only Here _ _ (check-only (eqb (field_of r) 0) FieldNumberZero (at i + 2) field (λ t.
        field_zero_7 i refl (complete (field-number i) i (set, few) (omega arith) there) (eqb-true (element_in xs (field-number i)) 0 t))) (λ e.
        and_then-only Here _ _ (check-only (falls (behind i xs) r) FieldFalls (at i + 2) field (λ t. falls-in i few there t)) (λ e.
        and_then-only Here _ _ (check-only (not_rising (behind i xs) r) LineDoesNotRise (at i + 4) line (λ t. stays-in i few there t)) (λ e.
        and_then-only Here _ _ (check-only (eqb r.cc_priority 0 && ltb 3 (urgent (field_of r) (behind i xs))) FifthPriority (at i) priority (λ t.
        let both = both_hold (eqb r.cc_priority 0) (ltb 3 (urgent (field_of r) (behind i xs))) t in
        let four : 3 < urgent (field_of r) (behind i xs) = ltb-true 3 (urgent (field_of r) (behind i xs)) both.1 in
        fifth_9 i refl (complete (cc-priority i) i (set, few) (omega arith) there) (eqb-true (element_in xs (cc-priority i)) 0 both.0)
        (omega (arith, four, urgent-in (field_of r) i)))) (λ e.
        accepted-only Here))))

    marker-only : (i : ℕ) → i < element_in xs cc-count → at i + 26 ≤ length xs → Only Here (marker_verdict (at i) xs)
    unfolding marker_verdict
    marker-only i few there =
        let bit = field xs (at i + 25) 1 in
        check-only (not (eqb bit 1)) (Unfixed Marker) (at i + 25) (omega arith) (λ t.
        marker_18 i refl (complete (marker i) i (set, few) (omega arith) there)
        (not-one bit (field_lt xs (at i + 25) 1 are) (eqb-false bit 1 (not-true (eqb bit 1) t))))

    constructs-only : (i k : ℕ) → i + k ≡ element_in xs cc-count → at i ≤ length xs → Only Here (constructs_verdict (behind i xs) k (at i) xs)
    constructs-only i zero e h = accepted-only Here
    constructs-only i (suc k) e h =
        let few : i < element_in xs cc-count = omega arith in
        let next : at i + 26 ≡ at (suc i) = omega arith in
        and_then-only Here (missing (at i) 26 xs) _ (missing-only (construct i) (set, few) h) (λ a.
        let there : at i + 26 ≤ length xs = accepted-missing (at i) 26 xs a in
        and_then-only Here _ _ (record-only i few there) (λ b.
        and_then-only Here _ _ (marker-only i few there) (λ c.
        and_then-only Here _ _
        (subst (λ (n : ℕ). Only Here (constructs_verdict (behind (suc i) xs) k n xs)) (sym next)
        (constructs-only (suc i) k (omega arith) (omega arith))) (λ d.
        accepted-only Here))))

  sampled-only : element_in xs vbi-data-flag ≡ 1 → 21 + 26 * count_in xs ≤ length xs → Only Here (sampled_verdict (21 + 26 * count_in xs) xs)
  unfolding sampled_verdict
  sampled-only set h =
      let n = count_in xs in
      let sampled = field xs (21 + 26 * n) 4 in
      and_then-only Here (missing (21 + 26 * n) 4 xs) _ (missing-only (video_count n) (set, refl) h) (λ e.
      and_then-only Here _ _ (check-only (not (eqb sampled 0)) SampledVideo (21 + 26 * n) h (λ t.
      video_count_10 n refl (record { has = (set, refl); here = refl; all = accepted-missing (21 + 26 * n) 4 xs e })
      (eqb-false sampled 0 (not-true (eqb sampled 0) t)))) (λ f.
      accepted-only Here))

  sampled-there : (at : ℕ) → sampled_verdict at xs ≡ Accepted → at + 4 ≤ length xs
  unfolding sampled_verdict
  sampled-there at e = accepted-missing at 4 xs (accepted-and_then (missing at 4 xs) (first (refuse_if (not (eqb (field xs at 4) 0)) SampledVideo (Bit at) ∷ [])) e).0

  flag-only : (f : ℕ) → f ≡ flag_in xs → 16 ≤ length xs → Only Here (flag_verdict f xs)
  flag-only zero same h = rest-only 16 (ap (λ (f : ℕ). bits_in f (count_in xs)) same) h
  flag-only (suc f) same h =
      let n = count_in xs in
      let set : flag_in xs ≡ 1 = omega (arith, same, field_lt xs 15 1 are) in
      and_then-only Here (missing 16 5 xs) _ (missing-only cc-count set h) (λ e.
      let counted : 21 ≤ length xs = accepted-missing 16 5 xs e in
      and_then-only Here (constructs_verdict [] n 21 xs) _ (constructs-only set 0 n (zero-add n) counted) (λ g.
      let there : 21 + 26 * n ≤ length xs = constructs-within [] n 21 xs counted g in
      and_then-only Here (sampled_verdict (21 + 26 * n) xs) _ (sampled-only set there) (λ i.
      let sampled : 21 + 26 * n + 4 ≤ length xs = sampled-there (21 + 26 * n) i in
      let rest : 25 + 26 * n ≤ length xs = omega arith in
      and_then-only Here (rest_verdict (25 + 26 * n) xs) _ (rest-only (25 + 26 * n) (ap (λ (f : ℕ). bits_in f n) same) rest) (λ j.
      accepted-only Here))))

  -- the checks before the flag, behind that of the body's length
  unfoldable start_verdict : Verdict
  start_verdict =
      first
      (missing 0 8 xs
      ∷ refuse_if (not (eqb (field xs 0 8) 3)) (Unfixed Identifier) (Bit 0)
      ∷ missing 8 7 xs
      ∷ missing 15 1 xs
      ∷ refuse_if (group_type (flag_byte (reserved_in xs) (flag_in xs))) (Unfixed Identifier) (Bit 8)
      ∷ [])

  start-only : Only Here start_verdict
  unfolding start_verdict
  start-only =
      let code = field xs 0 8 in
      let group = group_type (flag_byte (reserved_in xs) (flag_in xs)) in
      and_then-only Here (missing 0 8 xs) _ (missing-only user-data-type-code tt (omega arith)) (λ e.
      let typed : 0 + 8 ≤ length xs = accepted-missing 0 8 xs e in
      and_then-only Here _ _ (check-only (not (eqb code 3)) (Unfixed Identifier) 0 (omega arith) (λ t.
      type_code_6 refl (record { has = tt; here = refl; all = typed }) (eqb-false code 3 (not-true (eqb code 3) t)))) (λ f.
      and_then-only Here (missing 8 7 xs) _ (missing-only reserved_bits tt typed) (λ g.
      and_then-only Here (missing 15 1 xs) _ (missing-only vbi-data-flag tt (accepted-missing 8 7 xs g)) (λ i.
      let both : 8 + 8 ≤ length xs = accepted-missing 15 1 xs i in
      and_then-only Here _ _ (check-only group (Unfixed Identifier) 8 (omega arith) (λ t.
      group_type_6 refl (record { has = tt; here = refl; all = omega arith }) both t)) (λ j.
      accepted-only Here)))))

  start-there : start_verdict ≡ Accepted → 16 ≤ length xs
  unfolding start_verdict
  start-there e =
      let identifier = refuse_if (not (eqb (field xs 0 8) 3)) (Unfixed Identifier) (Bit 0) in
      let last = refuse_if (group_type (flag_byte (reserved_in xs) (flag_in xs))) (Unfixed Identifier) (Bit 8) in
      let one = accepted-and_then (missing 0 8 xs) (first (identifier ∷ missing 8 7 xs ∷ missing 15 1 xs ∷ last ∷ [])) e in
      let two = accepted-and_then identifier (first (missing 8 7 xs ∷ missing 15 1 xs ∷ last ∷ [])) one.1 in
      let three = accepted-and_then (missing 8 7 xs) (first (missing 15 1 xs ∷ last ∷ [])) two.1 in
      accepted-missing 15 1 xs (accepted-and_then (missing 15 1 xs) (first (last ∷ [])) three.1).0

  -- behind the check of the body's length
  inner-only : Only Here (and_then start_verdict (flag_verdict (flag_in xs) xs))
  inner-only = and_then-only Here _ _ start-only (λ e. flag-only (flag_in xs) refl (start-there e))

content-split : (body : List ℕ)
    → content_verdict body
    ≡ and_then (refuse_if (ltb 16384 (length body)) TooLong Whole)
    (and_then (start_verdict (bits_of body) (bits_of-are body)) (flag_verdict (flag_in (bits_of body)) (bits_of body)))
unfolding content_verdict head_verdict start_verdict
content-split body = and_then-assoc (refuse_if (ltb 16384 (length body)) TooLong Whole) _ _

-- a body within the limit is refused at a bit of it or at its end, and there stands what the number says
pub content-placed : (body : List ℕ) → length body ≤ 16384 → (reason : Reason) (item : Item) → content_verdict body ≡ Refused reason item
    → AtBit (8 * length body) (Stands (bits_of body)) reason item
content-placed body short reason item e =
    let xs = bits_of body in
    let within : refuse_if (ltb 16384 (length body)) TooLong Whole ≡ Accepted = simp (le-ltb 16384 (length body) short) in
    let inner = and_then (start_verdict xs (bits_of-are body)) (flag_verdict (flag_in xs) xs) in
    let behind : content_verdict body ≡ inner = content-split body ∙ ap (λ (v : Verdict). and_then v inner) within in
    subst (λ (n : ℕ). AtBit n (Stands xs) reason item) (length-bits_of body) (inner-only xs (bits_of-are body) reason item (sym behind ∙ e))
