-- What writing lays out: the bytes of a legal value are accepted, and read as that value.
-- Assumes nothing.
use Prim.Native.Nat.{ℕ, zero, suc, ◌+◌, ◌-◌, ◌*◌, ◌≤◌}
use native.Mathlib.Omega.{arith}
use mathlib.Core.Path.{◌≡◌, ◌∙◌, ap, ap₂, sym, refl}
use mathlib.Core.Bool.{false, not}
use mathlib.Core.List.{List, [], ◌∷◌, ◌++◌, append_assoc}
use borrow.Author.Tests.{eq-eqb, le-ltb}
use lib.Dec.{eqb, ltb}
use lib.ListN.{length, take, drop, replicate, length-replicate}
use lib.Seq.{drop-drop, drop_at, take_at}
use Rattle.lists.specs.Each.{Each}
use Rattle.lists.proofs.Each.{each_map}
use Rattle.refusal.specs.Verdict.{Verdict}
use Rattle.refusal.specs.Verdict.{Accepted}
use Rattle.refusal.specs.declared.Reason.TheVariants.{TooLong, Unfixed, SampledVideo}
use Rattle.refusal.specs.declared.Fixed.TheVariants.{Alignment, Stuffing, Identifier}
use Rattle.refusal.specs.declared.Item.TheVariants.{Whole, Bit}
use Rattle.refusal.specs.Checks.{refuse_if, and_then, first}
use Rattle.refusal.proofs.Checks.{and_then-accepted, refuse_if-accepted}
use Rattle.bits.specs.Bits.{bits, num, bits_of, field}
use Rattle.bits.proofs.Numbers.{num-bits-small}
use Rattle.stuffing.specs.Zeros.{zero_verdict}
use Rattle.stuffing.proofs.Zeros.{zero-accepted}
use Rattle.kind.specs.Ours.{group_type}
use Rattle.scte20.specs.declared.Record.{Record}
use Rattle.scte20.specs.Value.{Content, flag_byte, LegalRecord, Legal, field_of}
use Rattle.scte20.specs.Layout.{constructs_bits, flagged_bits, item_bits, padding, layout, size_in}
use Rattle.scte20.specs.Reading.{missing, constructs_verdict, records_at, sampled_verdict, rest_verdict, head_verdict, reserved_in, flag_in, count_in, flag_verdict, content_verdict, records_in, value_of}
use Rattle.scte20.specs.Places.{bits_in}
use Rattle.scte20.proofs.Fitting.{AllFit, legal-fit}
use Rattle.scte20.proofs.Constructs.{length-constructs, missing-accepted, long-enough, constructs-accepted, records-back}
use Rattle.scte20.proofs.Sizes.{length-items, bits_of-layout, length-layout}
use Rattle.scte20.proofs.Own.{reserved-back, flag-back}

-- the zeros behind n bits: the alignment, then stuffing
abbrev pub zeros_at : ℕ → ℕ → List ℕ
zeros_at n m = replicate (padding n) 0 ++ replicate m 0

pub rest-accepted : (at m : ℕ) (xs : List ℕ) → drop at xs ≡ zeros_at at m → rest_verdict at xs ≡ Accepted
unfolding rest_verdict
rest-accepted at m xs e =
    let p = padding at in
    let long : length {A = ℕ} (replicate p 0) ≡ p = length-replicate p 0 in
    let aligned : take p (drop at xs) ≡ replicate p 0 = ap (take p) e ∙ take_at (replicate p 0) (replicate m 0) p long in
    let stuffed : drop (at + p) xs ≡ replicate m 0 = sym (drop-drop p at xs) ∙ ap (drop p) e ∙ drop_at (replicate p 0) (replicate m 0) p long in
    and_then-accepted
    (zero_verdict Alignment at (take p (drop at xs)))
    (first (zero_verdict Stuffing (at + p) (drop (at + p) xs) ∷ []))
    (ap (zero_verdict Alignment at) aligned ∙ zero-accepted Alignment at p)
    (and_then-accepted
    (zero_verdict Stuffing (at + p) (drop (at + p) xs))
    Accepted
    (ap (zero_verdict Stuffing (at + p)) stuffed ∙ zero-accepted Stuffing (at + p) m)
    refl)

accepted-sampled : (at : ℕ) (xs rest : List ℕ) → drop at xs ≡ bits 4 0 ++ rest → sampled_verdict at xs ≡ Accepted
unfolding sampled_verdict
accepted-sampled at xs rest e =
    let second = refuse_if (not (eqb (field xs at 4) 0)) SampledVideo (Bit at) in
    let none : field xs at 4 ≡ 0 = ap (λ (l : List ℕ). num (take 4 l)) e in
    and_then-accepted
    (missing at 4 xs)
    (first (second ∷ []))
    (missing-accepted at 4 xs (long-enough at xs (bits 4 0) rest 3 refl e))
    (and_then-accepted
    second
    Accepted
    (refuse_if-accepted (not (eqb (field xs at 4) 0)) SampledVideo (Bit at) (ap not (eq-eqb (field xs at 4) 0 none)))
    refl)

-- ---- behind a flag that is set: the count, the constructs, the sampled video count and zeros

-- what stands behind the constructs
abbrev after_run : List Record → ℕ → List ℕ
after_run rs m = bits 4 0 ++ zeros_at (25 + 26 * length rs) m

module _ (f : ℕ) (rs : List Record) (xs : List ℕ) (m : ℕ) (few : length rs ≤ 31) (stands : drop 16 xs ≡ flagged_bits (suc f) rs ++ zeros_at (25 + 26 * length rs) m) where
  pub count-back : count_in xs ≡ length rs
  count-back = ap (λ (l : List ℕ). num (take 5 l)) stands ∙ num-bits-small 5 (length rs) (omega arith)

  pub run-stands : drop 21 xs ≡ constructs_bits rs ++ after_run rs m
  run-stands = sym (drop-drop 5 16 xs) ∙ ap (drop 5) stands ∙ append_assoc (constructs_bits rs) (bits 4 0) (zeros_at (25 + 26 * length rs) m)

  pub sampled-stands : drop (21 + 26 * length rs) xs ≡ after_run rs m
  sampled-stands =
      sym (drop-drop (26 * length rs) 21 xs)
      ∙ ap (drop (26 * length rs)) run-stands
      ∙ drop_at (constructs_bits rs) (after_run rs m) (26 * length rs) (length-constructs rs)

  zeros-stand : drop (25 + 26 * length rs) xs ≡ zeros_at (25 + 26 * length rs) m
  zeros-stand =
      let more : 25 + 26 * length rs ≡ 21 + 26 * length rs + 4 = omega arith in
      ap (λ (k : ℕ). drop k xs) more ∙ sym (drop-drop 4 (21 + 26 * length rs) xs) ∙ ap (drop 4) sampled-stands

  accepted-set : Each LegalRecord rs → AllFit [] rs → flag_verdict (suc f) xs ≡ Accepted
  accepted-set each fit =
      ap (λ (n : ℕ). and_then (missing 16 5 xs) (behind n)) count-back
      ∙ and_then-accepted (missing 16 5 xs) (behind (length rs)) (missing-accepted 16 5 xs (long-enough 16 xs (bits 5 (length rs)) _ 4 refl stands))
      (and_then-accepted
      (constructs_verdict [] (length rs) 21 xs)
      (first (sampled_verdict (21 + 26 * length rs) xs ∷ rest_verdict (25 + 26 * length rs) xs ∷ []))
      (constructs-accepted [] rs 21 xs (after_run rs m) each fit run-stands)
      (and_then-accepted
      (sampled_verdict (21 + 26 * length rs) xs)
      (first (rest_verdict (25 + 26 * length rs) xs ∷ []))
      (accepted-sampled (21 + 26 * length rs) xs (zeros_at (25 + 26 * length rs) m) sampled-stands)
      (and_then-accepted (rest_verdict (25 + 26 * length rs) xs) Accepted (rest-accepted (25 + 26 * length rs) m xs zeros-stand) refl)))
    where
      behind : ℕ → Verdict
      behind n = first (constructs_verdict [] n 21 xs ∷ sampled_verdict (21 + 26 * n) xs ∷ rest_verdict (25 + 26 * n) xs ∷ [])

  set_back : Each LegalRecord rs → records_in (suc f) xs ≡ rs
  set_back each =
      ap (λ (n : ℕ). records_at n 21 xs) count-back ∙ records-back rs 21 xs (after_run rs m) each run-stands

-- ---- whatever the flag is

accepted-flag : (f : ℕ) (rs : List Record) (xs : List ℕ) (m : ℕ) → length rs ≤ 31 → Each LegalRecord rs → AllFit [] rs
    → drop 16 xs ≡ flagged_bits f rs ++ zeros_at (bits_in f (length rs)) m → flag_verdict f xs ≡ Accepted
accepted-flag zero rs xs m few each fit e = rest-accepted 16 m xs e
accepted-flag (suc f) rs xs m few each fit e = accepted-set f rs xs m few e each fit

records-flag : (f : ℕ) (rs : List Record) (xs : List ℕ) (m : ℕ) → length rs ≤ 31 → Each LegalRecord rs → (f ≡ 0 → rs ≡ [])
    → drop 16 xs ≡ flagged_bits f rs ++ zeros_at (bits_in f (length rs)) m → records_in f xs ≡ rs
records-flag zero rs xs m few each bare e = sym (bare refl)
records-flag (suc f) rs xs m few each bare e = set_back f rs xs m few e each

size-flag : (f : ℕ) (rs : List Record) (xs : List ℕ) (m : ℕ) → length rs ≤ 31 → drop 16 xs ≡ flagged_bits f rs ++ zeros_at (bits_in f (length rs)) m
    → size_in f (count_in xs) ≡ size_in f (length rs)
size-flag zero rs xs m few e = refl
size-flag (suc f) rs xs m few e = ap (size_in (suc f)) (count-back f rs xs m few e)

-- ---- the whole layout

module _ (c : Content) (legal : Legal c) where
  pub layout-stands : bits_of (layout c) ≡ item_bits c ++ zeros_at (bits_in c.flag (length c.records)) (8 * c.z)
  layout-stands =
      bits_of-layout c
      ∙ append_assoc (item_bits c) (replicate (padding (length (item_bits c))) 0) (replicate (8 * c.z) 0)
      ∙ ap (λ (n : ℕ). item_bits c ++ zeros_at n (8 * c.z)) (length-items c)

  pub flagged-stands : drop 16 (bits_of (layout c)) ≡ flagged_bits c.flag c.records ++ zeros_at (bits_in c.flag (length c.records)) (8 * c.z)
  flagged-stands = ap (drop 16) layout-stands

  flag_is : flag_in (bits_of (layout c)) ≡ c.flag
  flag_is = flag-back c legal.flag

  accepted-head : length (layout c) ≤ 16384 → head_verdict (layout c) ≡ Accepted
  unfolding head_verdict
  accepted-head short =
      let xs = bits_of (layout c) in
      let third = refuse_if (not (eqb (field xs 0 8) 3)) (Unfixed Identifier) (Bit 0) in
      let group = group_type (flag_byte (reserved_in xs) (flag_in xs)) in
      let last = refuse_if group (Unfixed Identifier) (Bit 8) in
      let none : group ≡ false = ap₂ (λ (a b : ℕ). group_type (flag_byte a b)) (reserved-back c legal.reserved) flag_is ∙ legal.no_group in
      let three : field xs 0 8 ≡ 3 = ap (λ (l : List ℕ). field l 0 8) layout-stands in
      let long : 16 ≤ length xs = omega (arith, ap length layout-stands) in
      and_then-accepted
      (refuse_if (ltb 16384 (length (layout c))) TooLong Whole)
      (first (missing 0 8 xs ∷ third ∷ missing 8 7 xs ∷ missing 15 1 xs ∷ last ∷ []))
      (refuse_if-accepted (ltb 16384 (length (layout c))) TooLong Whole (le-ltb 16384 (length (layout c)) short))
      (and_then-accepted
      (missing 0 8 xs)
      (first (third ∷ missing 8 7 xs ∷ missing 15 1 xs ∷ last ∷ []))
      (missing-accepted 0 8 xs (omega arith))
      (and_then-accepted
      third
      (first (missing 8 7 xs ∷ missing 15 1 xs ∷ last ∷ []))
      (refuse_if-accepted (not (eqb (field xs 0 8) 3)) (Unfixed Identifier) (Bit 0) (ap not (eq-eqb (field xs 0 8) 3 three)))
      (and_then-accepted
      (missing 8 7 xs)
      (first (missing 15 1 xs ∷ last ∷ []))
      (missing-accepted 8 7 xs (omega arith))
      (and_then-accepted
      (missing 15 1 xs)
      (first (last ∷ []))
      (missing-accepted 15 1 xs long)
      (and_then-accepted last Accepted (refuse_if-accepted group (Unfixed Identifier) (Bit 8) none) refl)))))

  fit-legal : AllFit [] c.records
  fit-legal =
      legal-fit c.records (each_map LegalRecord (λ (r : Record). 1 ≤ field_of r) (λ r h. h.allowed) c.records legal.each) legal.order legal.four

  pub layout-accepted : length (layout c) ≤ 16384 → content_verdict (layout c) ≡ Accepted
  unfolding content_verdict
  layout-accepted short =
      let xs = bits_of (layout c) in
      and_then-accepted
      (head_verdict (layout c))
      (flag_verdict (flag_in xs) xs)
      (accepted-head short)
      (ap (λ (f : ℕ). flag_verdict f xs) flag_is
      ∙ accepted-flag c.flag c.records xs (8 * c.z) legal.few legal.each fit-legal flagged-stands)

  records-back-all : records_in (flag_in (bits_of (layout c))) (bits_of (layout c)) ≡ c.records
  records-back-all =
      let xs = bits_of (layout c) in
      ap (λ (f : ℕ). records_in f xs) flag_is
      ∙ records-flag c.flag c.records xs (8 * c.z) legal.few legal.each legal.bare flagged-stands

  z-back : length (layout c) - size_in (flag_in (bits_of (layout c))) (count_in (bits_of (layout c))) ≡ c.z
  z-back =
      let xs = bits_of (layout c) in
      let size : size_in (flag_in xs) (count_in xs) ≡ size_in c.flag (length c.records) =
      ap (λ (f : ℕ). size_in f (count_in xs)) flag_is ∙ size-flag c.flag c.records xs (8 * c.z) legal.few flagged-stands
      in
      omega (arith, length-layout c)

  pub layout-value : value_of (layout c) ≡ c
  unfolding value_of
  layout-value = λ i. record { reserved = reserved-back c legal.reserved i; flag = flag_is i; records = records-back-all i; z = z-back i }
