-- What writing lays out: the bytes of a legal value are accepted, and read as that value.
-- Assumes nothing.
use Prim.Native.Nat.{ℕ, ◌+◌, ◌-◌, ◌*◌, ◌≤◌}
use native.Mathlib.Nat.{add-zero}
use native.Mathlib.Omega.{arith}
use mathlib.Core.Path.{◌≡◌, ◌∙◌, ap, sym, refl}
use mathlib.Core.Bool.{not}
use mathlib.Core.List.{List, [], ◌∷◌, ◌++◌, append_assoc}
use borrow.Author.Tests.{eq-eqb, le-ltb}
use lib.Dec.{eqb}
use lib.ListN.{length, get_or, drop, replicate, length-drop}
use lib.Seq.{drop-drop, get_or-drop}
use Rattle.lists.specs.Flat.{flat}
use Rattle.refusal.specs.Verdict.{Accepted}
use Rattle.refusal.specs.declared.Reason.TheVariants.{Unfixed}
use Rattle.refusal.specs.declared.Fixed.TheVariants.{Marker, Stuffing}
use Rattle.refusal.specs.declared.Item.TheVariants.{Bit}
use Rattle.refusal.specs.Checks.{refuse_if, first}
use Rattle.refusal.proofs.Checks.{and_then-accepted, refuse_if-accepted}
use Rattle.bits.specs.Bits.{bits_of}
use Rattle.stuffing.specs.Zeros.{zero_verdict}
use Rattle.stuffing.proofs.Zeros.{zeros-accepted}
use Rattle.ga94.specs.Value.{Content, Legal}
use Rattle.ga94.specs.Layout.{construct_bytes, layout}
use Rattle.ga94.specs.Reading.{missing, em_flag_in, cc_flag_in, additional_in, count_in, head_verdict, constructs_verdict, records_at, closing_verdict, content_verdict, value_of}
use Rattle.ga94.proofs.Constructs.{missing-none, records-back, constructs-accepted, constructs-behind}
use Rattle.ga94.proofs.Sizes.{length-layout}

-- a byte of ones and zeros behind it close the content
closing-accepted : (i m : ℕ) (body : List ℕ) → drop i body ≡ 0xFF ∷ replicate m 0 → closing_verdict i body ≡ Accepted
unfolding closing_verdict
closing-accepted i m body e =
    let marker : get_or body i 0 ≡ 0xFF = ap (λ (k : ℕ). get_or body k 0) (sym (add-zero i)) ∙ sym (get_or-drop i body 0 0) ∙ ap (λ (s : List ℕ). get_or s 0 0) e in
    let rest : drop (i + 1) body ≡ replicate m 0 = sym (drop-drop 1 i body) ∙ ap (drop 1) e in
    let there : i + 1 ≤ length body = omega (arith, length-drop i body, ap length e) in
    let stuffing = zero_verdict Stuffing (8 * (i + 1)) (bits_of (drop (i + 1) body)) in
    let ones = refuse_if (not (eqb (get_or body i 0) 0xFF)) (Unfixed Marker) (Bit (8 * i)) in
    and_then-accepted (missing i 1 body) (first (ones ∷ stuffing ∷ [])) (missing-none i 1 body there)
    (and_then-accepted ones (first (stuffing ∷ []))
    (refuse_if-accepted (not (eqb (get_or body i 0) 0xFF)) (Unfixed Marker) (Bit (8 * i)) (ap not (eq-eqb (get_or body i 0) 0xFF marker)))
    (and_then-accepted stuffing Accepted (ap (λ (s : List ℕ). zero_verdict Stuffing (8 * (i + 1)) (bits_of s)) rest ∙ zeros-accepted Stuffing (8 * (i + 1)) m) refl))

module _ (c : Content) (legal : Legal c) where
  -- what the flags and the count are read as
  em-back : em_flag_in (layout c) ≡ c.process_em_data_flag
  em-back = omega (arith, legal.em_flag, legal.cc_flag, legal.no_additional, legal.few)

  cc-back : cc_flag_in (layout c) ≡ c.process_cc_data_flag
  cc-back = omega (arith, legal.em_flag, legal.cc_flag, legal.no_additional, legal.few)

  additional-back : additional_in (layout c) ≡ c.additional_data_flag
  additional-back = omega (arith, legal.em_flag, legal.cc_flag, legal.no_additional, legal.few)

  count-back : count_in (layout c) ≡ length c.records
  count-back = omega (arith, legal.em_flag, legal.cc_flag, legal.no_additional, legal.few)

  long : 8 ≤ length (layout c)
  long = omega (arith, length-layout c)

  -- what stands from the constructs on
  constructs-stand : drop 7 (layout c) ≡ flat construct_bytes c.records ++ (0xFF ∷ replicate c.z 0)
  constructs-stand = append_assoc (flat construct_bytes c.records) (0xFF ∷ []) (replicate c.z 0)

  head-accepted : length (layout c) ≤ 16384 → head_verdict (layout c) ≡ Accepted
  unfolding head_verdict
  head-accepted short =
      let s = layout c in
      simp (
        le-ltb 16384 (length s) short,
        missing-none 0 4 s (omega (arith, long)),
        missing-none 4 1 s (omega (arith, long)),
        missing-none 5 1 s (omega (arith, long)),
        missing-none 6 1 s (omega (arith, long)),
        eq-eqb (additional_in s) 0 (additional-back ∙ legal.no_additional),
      )

  pub layout-accepted : length (layout c) ≤ 16384 → content_verdict (layout c) ≡ Accepted
  unfolding content_verdict
  layout-accepted short =
      let s = layout c in
      let rs = c.records in
      let constructs : constructs_verdict (count_in s) 7 s ≡ Accepted =
      ap (λ (n : ℕ). constructs_verdict n 7 s) count-back ∙ constructs-accepted rs 7 s (0xFF ∷ replicate c.z 0) legal.each constructs-stand
      in
      let closing : closing_verdict (7 + 3 * count_in s) s ≡ Accepted =
      ap (λ (n : ℕ). closing_verdict (7 + 3 * n) s) count-back
      ∙ closing-accepted (7 + 3 * length rs) c.z s (constructs-behind rs 7 s (0xFF ∷ replicate c.z 0) constructs-stand)
      in
      and_then-accepted (head_verdict s) (first (constructs_verdict (count_in s) 7 s ∷ closing_verdict (7 + 3 * count_in s) s ∷ [])) (head-accepted short)
      (and_then-accepted (constructs_verdict (count_in s) 7 s) (first (closing_verdict (7 + 3 * count_in s) s ∷ [])) constructs
      (and_then-accepted (closing_verdict (7 + 3 * count_in s) s) Accepted closing refl))

  records-back-all : records_at (count_in (layout c)) 7 (layout c) ≡ c.records
  records-back-all =
      ap (λ (n : ℕ). records_at n 7 (layout c)) count-back
      ∙ records-back c.records 7 (layout c) (0xFF ∷ replicate c.z 0) legal.each constructs-stand

  z-back : length (layout c) - (8 + 3 * count_in (layout c)) ≡ c.z
  z-back = omega (arith, length-layout c, count-back)

  pub layout-value : value_of (layout c) ≡ c
  unfolding value_of
  layout-value =
      λ i.
      record {
        process_em_data_flag = em-back i;
        process_cc_data_flag = cc-back i;
        additional_data_flag = additional-back i;
        em_data = c.em_data;
        records = records-back-all i;
        z = z-back i;
      }
