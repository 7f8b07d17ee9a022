-- What stands at the place of a refusal, where reading a body within the limit refuses.
-- Assumes nothing.
use Prim.Native.Nat.{ℕ, zero, suc, ◌+◌, ◌-◌, ◌*◌, ◌/◌, ◌%◌, ◌^◌, ◌≤◌, ◌<◌}
use native.Mathlib.Nat.{zero-add}
use native.Mathlib.Omega.{arith}
use mathlib.Core.Path.{◌≡◌, ◌∙◌, ap, subst, sym, refl}
use mathlib.Core.Bool.{Bool, true, not, true≢false}
use mathlib.Core.List.{List, [], ◌∷◌}
use borrow.Author.Tests.{eqb-false, eq-eqb, ltb-true, not-true, le-ltb}
use lib.Dec.{eqb, ltb}
use lib.ListN.{length, get_or, drop, length-drop}
use Rattle.lists.specs.Bytes.{Bytes}
use Rattle.lists.proofs.Each.{each_at}
use Rattle.refusal.specs.declared.Reason.{Reason}
use Rattle.refusal.specs.declared.Reason.TheVariants.{TooLong, Ends, Unfixed, AdditionalData}
use Rattle.refusal.specs.declared.Fixed.TheVariants.{Marker, Stuffing, Identifier}
use Rattle.refusal.specs.declared.Item.{Item}
use Rattle.refusal.specs.declared.Item.TheVariants.{Whole, Bit}
use Rattle.refusal.specs.Verdict.{Verdict}
use Rattle.refusal.specs.Verdict.{Accepted, Refused}
use Rattle.refusal.specs.Numbers.{number_of}
use Rattle.refusal.specs.Checks.{refuse_if, and_then, first}
use Rattle.refusal.specs.Answers.{AtBit}
use Rattle.refusal.proofs.Checks.{accepted-and_then, and_then-assoc}
use Rattle.refusal.proofs.Only.{Only, accepted-only, and_then-only, bit-only}
use Rattle.bits.specs.Bits.{bits_of, field, zeros}
use Rattle.bits.proofs.Stream.{length-bits_of, bits_of-are, drop-bits_of}
use Rattle.bits.proofs.Fields.{field-within, field-whole, field-byte}
use Rattle.bits.proofs.Runs.{zeros-le}
use Rattle.stuffing.specs.Zeros.{FirstOne}
use Rattle.stuffing.proofs.Numbered.{zero-only, first_one}
use Rattle.ga94.specs.Reading.{missing, identifier_in, additional_in, count_in, head_verdict, marker_verdict, constructs_verdict, closing_verdict, content_verdict}
use Rattle.ga94.specs.Places.{Element, atsc_identifier, user-data-type-code, flags-byte, additional-data-flag, cc-count, em-data, construct, marker-bits, closing}
use Rattle.ga94.specs.Places.{first_bit, bit_count, element_in, HasIn, zeros_in, Complete, Stands}
use Rattle.ga94.specs.Places.{ends_5, identifier_6, type_code_6, additional_16, marker_18, closing_18, zeros_19}
use Rattle.ga94.proofs.Constructs.{accepted-missing, constructs-within}

module _ (body : List ℕ) (bytes : Bytes body) where
  abbrev xs : List ℕ
  xs = bits_of body

  abbrev Here : Reason → Item → Type 0
  Here = AtBit (8 * length body) (Stands xs)

  long : length xs ≡ 8 * length body
  long = length-bits_of body

  check-only : (fault : Bool) (reason : Reason) (b : ℕ) → b ≤ 8 * length body → (fault ≡ true → Stands xs (number_of reason) b) → Only Here (refuse_if fault reason (Bit b))
  check-only = bit-only (8 * length body) (Stands xs)

  -- an element that fills k bytes from byte i on
  missing-only : (e : Element) (i k : ℕ) → first_bit e ≡ 8 * i → bit_count e ≡ 8 * k → HasIn xs e → i ≤ length body → Only Here (missing i k body)
  unfolding missing
  missing-only e i k b c has h =
      check-only (ltb (length body) (i + k)) Ends (8 * i) (omega arith) (λ t.
      let few : length body < i + k = ltb-true (length body) (i + k) t in
      ends_5 e refl has (sym b) (omega (arith, long)) (omega (arith, long, c)))

  complete : (e : Element) (i k : ℕ) → first_bit e + bit_count e ≤ 8 * (i + k) → HasIn xs e → i + k ≤ length body → Complete xs e (first_bit e)
  complete e i k inner has there = record { has = has; here = refl; all = omega (arith, long, inner, there) }

  -- THE HEAD

  -- the bytes of the identifier are those of its 32 bits
  identified : 4 ≤ length body → element_in xs atsc_identifier ≡ 0x47413934 → identifier_in body ≡ true
  identified there e =
      let are = bits_of-are body in
      let all : 0 + 32 ≤ length xs = omega (arith, long) in
      let at : (j : ℕ) → j < 4 → get_or body j 0 ≡ field xs 0 32 / 2 ^ (32 - (8 * j + 8)) % 2 ^ 8 =
      λ j h. sym (field-whole body j bytes (omega arith)) ∙ ap (λ (k : ℕ). field xs k 8) (sym (zero-add (8 * j))) ∙ field-within xs 0 32 (8 * j) 8 are all (omega arith) in
      let value : (j : ℕ) → j < 4 → get_or body j 0 ≡ 0x47413934 / 2 ^ (32 - (8 * j + 8)) % 2 ^ 8 = λ j h. at j h ∙ ap (λ (n : ℕ). n / 2 ^ (32 - (8 * j + 8)) % 2 ^ 8) e in
      simp (
        eq-eqb (get_or body 0 0) 0x47 (value 0 (omega arith)),
        eq-eqb (get_or body 1 0) 0x41 (value 1 (omega arith)),
        eq-eqb (get_or body 2 0) 0x39 (value 2 (omega arith)),
        eq-eqb (get_or body 3 0) 0x34 (value 3 (omega arith)),
      )

  -- the flags and cc_count, of the byte that they share
  module _ (there : 6 ≤ length body) where
    additional : element_in xs additional-data-flag ≡ additional_in body
    additional = field-byte body 5 2 1 bytes (omega arith) (omega arith)

    counted : element_in xs cc-count ≡ count_in body
    counted = let shared : field xs 43 5 ≡ get_or body 5 0 / 1 % 32 = field-byte body 5 3 5 bytes (omega arith) (omega arith) in omega (arith, shared)

  -- the checks before the constructs, behind that of the body's length
  unfoldable start_verdict : Verdict
  start_verdict =
      first
      (missing 0 4 body
      ∷ refuse_if (not (identifier_in body)) (Unfixed Identifier) (Bit 0)
      ∷ missing 4 1 body
      ∷ refuse_if (not (eqb (get_or body 4 0) 3)) (Unfixed Identifier) (Bit 32)
      ∷ missing 5 1 body
      ∷ refuse_if (not (eqb (additional_in body) 0)) AdditionalData (Bit 42)
      ∷ missing 6 1 body
      ∷ [])

  start-only : Only Here start_verdict
  unfolding start_verdict
  start-only =
      and_then-only Here (missing 0 4 body) _ (missing-only atsc_identifier 0 4 refl refl tt (omega arith)) (λ e.
      let four : 0 + 4 ≤ length body = accepted-missing 0 4 body e in
      and_then-only Here _ _ (check-only (not (identifier_in body)) (Unfixed Identifier) 0 (omega arith) (λ t.
      identifier_6 refl (complete atsc_identifier 0 4 (omega arith) tt four)
      (λ same. true≢false (sym (identified (omega arith) same) ∙ not-true (identifier_in body) t)))) (λ f.
      and_then-only Here (missing 4 1 body) _ (missing-only user-data-type-code 4 1 refl refl tt (omega arith)) (λ g.
      let five : 4 + 1 ≤ length body = accepted-missing 4 1 body g in
      let code : element_in xs user-data-type-code ≡ get_or body 4 0 = field-whole body 4 bytes (omega arith) in
      and_then-only Here _ _ (check-only (not (eqb (get_or body 4 0) 3)) (Unfixed Identifier) 32 (omega arith) (λ t.
      type_code_6 refl (complete user-data-type-code 4 1 (omega arith) tt five)
      (λ same. eqb-false (get_or body 4 0) 3 (not-true (eqb (get_or body 4 0) 3) t) (sym code ∙ same)))) (λ h.
      and_then-only Here (missing 5 1 body) _ (missing-only flags-byte 5 1 refl refl tt (omega arith)) (λ i.
      let six : 5 + 1 ≤ length body = accepted-missing 5 1 body i in
      and_then-only Here _ _ (check-only (not (eqb (additional_in body) 0)) AdditionalData 42 (omega arith) (λ t.
      let flag : additional_in body ≡ 0 → ⊥ = eqb-false (additional_in body) 0 (not-true (eqb (additional_in body) 0) t) in
      additional_16 refl (complete additional-data-flag 5 1 (omega arith) tt six) (omega (arith, additional six, flag)))) (λ j.
      and_then-only Here (missing 6 1 body) _ (missing-only em-data 6 1 refl refl tt (omega arith)) (λ k.
      accepted-only Here)))))))

  start-there : start_verdict ≡ Accepted → 7 ≤ length body
  unfolding start_verdict
  start-there e =
      let one = accepted-and_then (missing 0 4 body) _ e in
      let two = accepted-and_then (refuse_if (not (identifier_in body)) (Unfixed Identifier) (Bit 0)) _ one.1 in
      let three = accepted-and_then (missing 4 1 body) _ two.1 in
      let four = accepted-and_then (refuse_if (not (eqb (get_or body 4 0) 3)) (Unfixed Identifier) (Bit 32)) _ three.1 in
      let five = accepted-and_then (missing 5 1 body) _ four.1 in
      let six = accepted-and_then (refuse_if (not (eqb (additional_in body) 0)) AdditionalData (Bit 42)) _ five.1 in
      omega (arith, accepted-missing 6 1 body (accepted-and_then (missing 6 1 body) Accepted six.1).0)

  -- BEHIND THE HEAD

  module _ (seven : 7 ≤ length body) where
    n : ℕ
    n = count_in body

    few : (i : ℕ) → i < n → i < element_in xs cc-count
    unfolding n
    few i h = omega (arith, counted (omega arith))

    -- marker_bits are the upper five bits of their byte
    marker-only : (i : ℕ) → i < n → 7 + 3 * i + 3 ≤ length body → Only Here (marker_verdict (7 + 3 * i) body)
    unfolding marker_verdict
    marker-only i h there =
        let byte = get_or body (7 + 3 * i) 0 in
        let upper : element_in xs (marker-bits i) ≡ byte / 8 % 32 =
        ap (λ (k : ℕ). field xs k 5) (let same : 8 * (7 + 3 * i) ≡ 8 * (7 + 3 * i) + 0 = omega arith in same)
        ∙ field-byte body (7 + 3 * i) 0 5 bytes (omega arith) (omega arith) in
        let small : byte < 256 = each_at (λ (b : ℕ). b < 256) 0 body bytes (7 + 3 * i) (omega arith) in
        check-only (not (eqb (byte / 8) 31)) (Unfixed Marker) (8 * (7 + 3 * i)) (omega arith) (λ t.
        let other : byte / 8 ≡ 31 → ⊥ = eqb-false (byte / 8) 31 (not-true (eqb (byte / 8) 31) t) in
        marker_18 i refl (complete (marker-bits i) (7 + 3 * i) 3 (omega arith) (few i h) there)
        (λ same. other (let e : byte / 8 ≡ 31 = omega (arith, upper, same) in e)))

    constructs-only : (i k : ℕ) → i + k ≡ n → 7 + 3 * i ≤ length body → Only Here (constructs_verdict k (7 + 3 * i) body)
    constructs-only i zero e h = accepted-only Here
    constructs-only i (suc k) e h =
        let more : i < n = omega arith in
        let next : 7 + 3 * i + 3 ≡ 7 + 3 * suc i = omega arith in
        and_then-only Here (missing (7 + 3 * i) 3 body) _ (missing-only (construct i) (7 + 3 * i) 3 refl refl (few i more) h) (λ a.
        let there : 7 + 3 * i + 3 ≤ length body = accepted-missing (7 + 3 * i) 3 body a in
        and_then-only Here _ _ (marker-only i more there) (λ b.
        and_then-only Here _ _
        (subst (λ (at : ℕ). Only Here (constructs_verdict k at body)) (sym next) (constructs-only (suc i) k (omega arith) (omega arith))) (λ c.
        accepted-only Here)))

    closing-only : 7 + 3 * n ≤ length body → Only Here (closing_verdict (7 + 3 * n) body)
    unfolding closing_verdict n
    closing-only h =
        let at = 7 + 3 * count_in body in
        let byte = get_or body at 0 in
        let same : count_in body ≡ element_in xs cc-count = sym (counted (omega arith)) in
        and_then-only Here (missing at 1 body) _ (missing-only (closing (count_in body)) at 1 refl refl same h) (λ a.
        let there : at + 1 ≤ length body = accepted-missing at 1 body a in
        let ones : element_in xs (closing (count_in body)) ≡ byte = field-whole body at bytes (omega arith) in
        and_then-only Here _ _ (check-only (not (eqb byte 0xFF)) (Unfixed Marker) (8 * at) (omega arith) (λ t.
        closing_18 (count_in body) refl (complete (closing (count_in body)) at 1 (omega arith) same there)
        (λ full. eqb-false byte 0xFF (not-true (eqb byte 0xFF) t) (sym ones ∙ full)))) (λ b.
        let rest = bits_of (drop (at + 1) body) in
        let from = 8 * (at + 1) in
        let dropped : drop from xs ≡ rest = drop-bits_of (at + 1) body in
        let begin : from ≡ zeros_in xs = omega (arith, same) in
        and_then-only Here _ _
        (zero-only (8 * length body) (Stands xs) Stuffing from rest
        (λ some. omega (arith, zeros-le rest, length-bits_of (drop (at + 1) body), length-drop (at + 1) body))
        (λ some.
        let one : FirstOne xs from (from + zeros (drop from xs)) = first_one xs from (bits_of-are body) (subst (λ (l : List ℕ). zeros l < length l) (sym dropped) some) in
        zeros_19 refl (subst (λ (k : ℕ). FirstOne xs k (from + zeros rest)) begin (subst (λ (l : List ℕ). FirstOne xs from (from + zeros l)) dropped one)))) (λ c.
        accepted-only Here)))

  abbrev rest_of : Verdict
  rest_of = first (constructs_verdict (count_in body) 7 body ∷ closing_verdict (7 + 3 * count_in body) body ∷ [])

  -- behind the check of the body's length
  inner-only : Only Here (and_then start_verdict rest_of)
  unfolding n
  inner-only =
      and_then-only Here start_verdict _ start-only (λ e.
      let seven : 7 ≤ length body = start-there e in
      and_then-only Here (constructs_verdict (count_in body) 7 body) _ (constructs-only seven 0 (count_in body) (zero-add (count_in body)) seven) (λ f.
      let there : 7 + 3 * count_in body ≤ length body = constructs-within (count_in body) 7 body seven f in
      and_then-only Here (closing_verdict (7 + 3 * count_in body) body) _ (closing-only seven there) (λ g.
      accepted-only Here)))

  content-split : content_verdict body ≡ and_then (refuse_if (ltb 16384 (length body)) TooLong Whole) (and_then start_verdict rest_of)
  unfolding content_verdict head_verdict start_verdict
  content-split = and_then-assoc (refuse_if (ltb 16384 (length body)) TooLong Whole) _ _

  -- a body within the limit is refused at a bit of it or at its end, and there stands what the number says
  pub content-placed : length body ≤ 16384 → (reason : Reason) (item : Item) → content_verdict body ≡ Refused reason item
      → AtBit (8 * length body) (Stands (bits_of body)) reason item
  content-placed short reason item e =
      let within : refuse_if (ltb 16384 (length body)) TooLong Whole ≡ Accepted = simp (le-ltb 16384 (length body) short) in
      let inner = and_then start_verdict rest_of in
      let behind : content_verdict body ≡ inner = content-split ∙ ap (λ (v : Verdict). and_then v inner) within in
      inner-only reason item (sym behind ∙ e)
