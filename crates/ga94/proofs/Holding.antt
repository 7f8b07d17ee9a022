-- What the checks of writing let through: numbers that the layout can hold.
-- Assumes nothing.
use Prim.Native.Nat.{ℕ, ◌+◌, ◌≤◌}
use native.Mathlib.Omega.{arith}
use mathlib.Core.Path.{◌≡◌, ◌∙◌, ap}
use mathlib.Core.List.{[], ◌∷◌}
use lib.ListN.{length}
use lib.Seq.{length-take-le}
use borrow.Author.Tests.{eq-eqb, le-ltb}
use Rattle.refusal.specs.Verdict.{Accepted}
use Rattle.refusal.specs.declared.Reason.TheVariants.{AdditionalData}
use Rattle.refusal.specs.declared.Item.TheVariants as item
use Rattle.refusal.specs.Checks.{first}
use Rattle.refusal.proofs.Checks.{accepted-and_then, accepted-within, accepted-equal}
use Rattle.ga94.specs.declared.Record.{Record}
use Rattle.ga94.specs.Value.{CaptionUnit, held}
use Rattle.ga94.specs.Layout.{layout, size_of}
use Rattle.ga94.specs.Writing.{whole_verdict, flag_verdict, range_verdict, records_verdict, value_verdict}
use Rattle.ga94.proofs.Sizes.{length-layout}

-- what the checks of the whole value look at
pub record Whole (u : CaptionUnit) : Type 0 where
  pub few : u.n ≤ 31
  pub em_flag : u.process_em_data_flag ≤ 1
  pub cc_flag : u.process_cc_data_flag ≤ 1
  pub additional : u.additional_data_flag ≤ 1
  pub em : u.em_data ≤ 255
  pub stuffing : u.z ≤ 16384

pub accepted-whole : (u : CaptionUnit) → whole_verdict u ≡ Accepted → Whole u
unfolding whole_verdict
accepted-whole u e =
    let count = accepted-and_then _ _ e in
    let one = accepted-and_then _ _ count.1 in
    let two = accepted-and_then _ _ one.1 in
    let three = accepted-and_then _ _ two.1 in
    let em = accepted-and_then _ _ three.1 in
    let stuffing = accepted-and_then _ _ em.1 in
    record {
      few = accepted-within 31 u.n _ _ count.0;
      em_flag = accepted-within 1 u.process_em_data_flag _ _ one.0;
      cc_flag = accepted-within 1 u.process_cc_data_flag _ _ two.0;
      additional = accepted-within 1 u.additional_data_flag _ _ three.0;
      em = accepted-within 255 u.em_data _ _ em.0;
      stuffing = accepted-within 16384 u.z _ _ stuffing.0;
    }

pub whole-accepted : (u : CaptionUnit) → Whole u → whole_verdict u ≡ Accepted
unfolding whole_verdict
whole-accepted u w =
    simp (
      le-ltb 31 u.n w.few,
      le-ltb 1 u.process_em_data_flag w.em_flag,
      le-ltb 1 u.process_cc_data_flag w.cc_flag,
      le-ltb 1 u.additional_data_flag w.additional,
      le-ltb 255 u.em_data w.em,
      le-ltb 16384 u.z w.stuffing,
    )

-- the third flag
pub accepted-flag : (u : CaptionUnit) → flag_verdict u ≡ Accepted → u.additional_data_flag ≡ 0
unfolding flag_verdict
accepted-flag u e = accepted-equal u.additional_data_flag 0 AdditionalData item.Whole e

pub flag-accepted : (u : CaptionUnit) → u.additional_data_flag ≡ 0 → flag_verdict u ≡ Accepted
unfolding flag_verdict
flag-accepted u e = simp (eq-eqb u.additional_data_flag 0 e)

-- a record's own numbers
pub accepted-range : (at : ℕ) (r : Record) → range_verdict at r ≡ Accepted → (r.cc_valid ≤ 1) × (r.cc_type ≤ 3)
unfolding range_verdict
accepted-range at r e =
    let valid = accepted-and_then _ _ e in
    let type = accepted-and_then _ _ valid.1 in
    (accepted-within 1 r.cc_valid _ _ valid.0, accepted-within 3 r.cc_type _ _ type.0)

pub range-accepted : (at : ℕ) (r : Record) → (r.cc_valid ≤ 1) × (r.cc_type ≤ 3) → range_verdict at r ≡ Accepted
unfolding range_verdict
range-accepted at r h = simp (le-ltb 1 r.cc_valid h.0, le-ltb 3 r.cc_type h.1)

pub value-whole : (u : CaptionUnit) → value_verdict u ≡ Accepted → Whole u
unfolding value_verdict
value-whole u e = accepted-whole u (accepted-and_then _ _ e).0

pub value-flag : (u : CaptionUnit) → value_verdict u ≡ Accepted → u.additional_data_flag ≡ 0
unfolding value_verdict
value-flag u e =
    let records = records_verdict 56 (held u).records in
    let one = accepted-and_then (whole_verdict u) (first (flag_verdict u ∷ records ∷ [])) e in
    accepted-flag u (accepted-and_then (flag_verdict u) (first (records ∷ [])) one.1).0

-- a value with its 31 places holds as many records as it says
pub length-held : (u : CaptionUnit) → length u.records ≡ 31 → u.n ≤ 31 → length (held u).records ≡ u.n
length-held u room few = let fits : u.n ≤ length u.records = omega arith in length-take-le u.n u.records fits

-- and its layout is as long as the code counts
pub length-layout-held : (u : CaptionUnit) → length u.records ≡ 31 → u.n ≤ 31 → length (layout (held u)) ≡ size_of u.n + u.z
length-layout-held u room few = length-layout (held u) ∙ ap (λ (n : ℕ). size_of n + u.z) (length-held u room few)
