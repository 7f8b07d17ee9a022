-- What the checks of writing let through, apart from the rules: numbers that the layout can hold.
-- Assumes nothing.
use Prim.Native.Nat.{ℕ, zero, suc, ◌+◌, ◌≤◌}
use native.Mathlib.Omega.{arith}
use mathlib.Core.Path.{◌≡◌, ◌∙◌, ap, ap₂, sym, refl}
use mathlib.Core.Bool.{Bool, true, false, not, ◌&&◌, ◌||◌}
use lib.Dec.{eqb}
use lib.ListN.{length}
use lib.Seq.{length-take-le}
use borrow.Author.Tests.{eqb-true, eq-eqb, ne_eqb, not-false, le-ltb}
use Rattle.refusal.specs.Verdict.{Accepted}
use Rattle.refusal.proofs.Checks.{accepted-and_then, accepted-refuse_if, accepted-within}
use Rattle.kind.specs.Ours.{group_type}
use Rattle.scte20.specs.declared.Record.{Record}
use Rattle.scte20.specs.declared.CaptionUnit.{CaptionUnit}
use Rattle.scte20.specs.Value.{flag_byte, field_of, held}
use Rattle.scte20.specs.Layout.{layout, size_in}
use Rattle.scte20.specs.Writing.{whole_verdict, range_verdict, value_verdict}
use Rattle.scte20.proofs.Sizes.{length-layout}

-- what the checks of the whole value look at
pub record Whole (u : CaptionUnit) : Type 0 where
  pub few : u.n ≤ 31
  pub reserved : u.reserved ≤ 127
  pub flag : u.vbi_data_flag ≤ 1
  pub stuffing : u.z ≤ 16384
  pub bare : u.vbi_data_flag ≡ 0 → u.n ≡ 0
  pub no_group : group_type (flag_byte u.reserved u.vbi_data_flag) ≡ false

-- which reserved and flag make the type of a data group
pub group-09 : (reserved flag : ℕ) → reserved ≡ 4 → flag ≡ 1 → group_type (flag_byte reserved flag) ≡ true
group-09 reserved flag e f = ap₂ (λ (a b : ℕ). group_type (flag_byte a b)) e f

pub group-0a : (reserved flag : ℕ) → reserved ≡ 5 → flag ≡ 0 → group_type (flag_byte reserved flag) ≡ true
group-0a reserved flag e f = ap₂ (λ (a b : ℕ). group_type (flag_byte a b)) e f

pub no_group : (reserved flag : ℕ) → flag ≤ 1 → (reserved ≡ 4 → flag ≡ 1 → ⊥) → (reserved ≡ 5 → flag ≡ 0 → ⊥) → group_type (flag_byte reserved flag) ≡ false
no_group reserved flag small not-09 not-0a =
    ap₂ ◌||◌
    (ne_eqb (flag_byte reserved flag) 0x09 (λ e. not-09 (omega (arith, e)) (omega (arith, e))))
    (ne_eqb (flag_byte reserved flag) 0x0A (λ e. not-0a (omega (arith, e)) (omega (arith, e))))

-- where not both tests hold and the first does, the second does not
and-false-right : (a b : Bool) → (a && b) ≡ false → a ≡ true → b ≡ false
and-false-right a b e h = ap (λ (t : Bool). t && b) (sym h) ∙ e

-- no records behind a flag of 0
bare-accepted : (flag n : ℕ) → (eqb flag 0 && not (eqb n 0)) ≡ false → flag ≡ 0 → n ≡ 0
bare-accepted flag n e h = eqb-true n 0 (not-false (eqb n 0) (and-false-right (eqb flag 0) (not (eqb n 0)) e (eq-eqb flag 0 h)))

pub accepted-whole : (u : CaptionUnit) → whole_verdict u ≡ Accepted → Whole u
unfolding whole_verdict
accepted-whole u e =
    let count = accepted-and_then _ _ e in
    let reserved = accepted-and_then _ _ count.1 in
    let flag = accepted-and_then _ _ reserved.1 in
    let stuffing = accepted-and_then _ _ flag.1 in
    let bare = accepted-and_then _ _ stuffing.1 in
    let group = accepted-and_then _ _ bare.1 in
    record {
      few = accepted-within 31 u.n _ _ count.0;
      reserved = accepted-within 127 u.reserved _ _ reserved.0;
      flag = accepted-within 1 u.vbi_data_flag _ _ flag.0;
      stuffing = accepted-within 16384 u.z _ _ stuffing.0;
      bare = bare-accepted u.vbi_data_flag u.n (accepted-refuse_if _ _ _ bare.0);
      no_group = accepted-refuse_if _ _ _ group.0;
    }

accepted-bare : (flag n : ℕ) → (flag ≡ 0 → n ≡ 0) → (eqb flag 0 && not (eqb n 0)) ≡ false
accepted-bare zero n h = ap not (eq-eqb n 0 (h refl))
accepted-bare (suc flag) n h =
    let some : suc flag ≡ 0 → ⊥ = λ e. omega arith in
    ap (λ (t : Bool). t && not (eqb n 0)) (ne_eqb (suc flag) 0 some)

pub whole-accepted : (u : CaptionUnit) → Whole u → whole_verdict u ≡ Accepted
unfolding whole_verdict
whole-accepted u w =
    simp (
      le-ltb 31 u.n w.few,
      le-ltb 127 u.reserved w.reserved,
      le-ltb 1 u.vbi_data_flag w.flag,
      le-ltb 16384 u.z w.stuffing,
      accepted-bare u.vbi_data_flag u.n w.bare,
      w.no_group,
    )

pub accepted-range : (at : ℕ) (r : Record) → range_verdict at r ≡ Accepted → (r.cc_priority ≤ 3) × (field_of r ≤ 3) × (r.line_offset ≤ 31)
unfolding range_verdict
accepted-range at r e =
    let priority = accepted-and_then _ _ e in
    let field = accepted-and_then _ _ priority.1 in
    let line = accepted-and_then _ _ field.1 in
    (accepted-within 3 r.cc_priority _ _ priority.0, accepted-within 3 (field_of r) _ _ field.0, accepted-within 31 r.line_offset _ _ line.0)

pub range-accepted : (at : ℕ) (r : Record) → (r.cc_priority ≤ 3) × (field_of r ≤ 3) × (r.line_offset ≤ 31) → range_verdict at r ≡ Accepted
unfolding range_verdict
range-accepted at r h = simp (le-ltb 3 r.cc_priority h.0, le-ltb 3 (field_of r) h.1, le-ltb 31 r.line_offset h.2)

pub value-whole : (u : CaptionUnit) → value_verdict u ≡ Accepted → Whole u
unfolding value_verdict
value-whole u e = accepted-whole u (accepted-and_then _ _ e).0

-- a struct whose array has its 31 places holds as many records as it says
pub length-held : (u : CaptionUnit) → length u.records ≡ 31 → u.n ≤ 31 → length (held u).records ≡ u.n
length-held u room few = let fits : u.n ≤ length u.records = omega arith in length-take-le u.n u.records fits

-- and its layout is as long as the code counts
pub length-layout-held : (u : CaptionUnit) → length u.records ≡ 31 → u.n ≤ 31 → length (layout (held u)) ≡ size_in u.vbi_data_flag u.n + u.z
length-layout-held u room few = length-layout (held u) ∙ ap (λ (n : ℕ). size_in u.vbi_data_flag n + u.z) (length-held u room few)
