-- A data field: legal values are accepted and read as what they are, and bytes that are accepted are those of a legal value.
-- Assumes nothing.
use Prim.Native.Nat.{ℕ, ◌+◌, ◌*◌, ◌/◌, ◌≤◌, ◌<◌}
use native.Mathlib.Omega.{arith}
use mathlib.Core.Path.{◌≡◌, ◌∙◌, ap, ap₂, sym, subst}
use mathlib.Core.Bool.{not}
use mathlib.Core.List.{List, [], ◌∷◌, append-nil}
use borrow.Author.Tests.{eq-eqb, ne_eqb}
use lib.Dec.{eqb}
use lib.ListN.{length, get_or, drop}
use Rattle.lists.specs.Each.{Each}
use Rattle.lists.specs.Bytes.{Bytes}
use Rattle.lists.specs.Flat.{taken}
use Rattle.lists.proofs.FlatOf.{length_taken}
use Rattle.refusal.specs.Verdict.{Verdict}
use Rattle.refusal.specs.Verdict.{Accepted}
use Rattle.refusal.specs.declared.Reason.TheVariants.{Ends, Unfixed}
use Rattle.refusal.specs.declared.Fixed.TheVariants.{Identifier}
use Rattle.refusal.specs.declared.Item.TheVariants.{Byte}
use Rattle.refusal.specs.Checks.{refuse_if, and_then, first}
use Rattle.refusal.proofs.Checks.{refused-not-accepted, refuse_if-accepted, accepted-all, all-accepted, accepted-equal, and_then-last}
use Rattle.pes.specs.Value.{DataUnit, DataField, Legal, LegalUnit}
use Rattle.pes.specs.Layout.{layout, layout_units}
use Rattle.pes.specs.Order.{units_checks}
use Rattle.pes.specs.Reading.{units_verdict, field_verdict, read_unit, unit_count, value_of}
use Rattle.pes.proofs.Units.{length-units, units-back, units-accepted, Made, accepted-units}

-- the checks of data_identifier, and then the units
abbrev pub parts : List ℕ → List Verdict
parts s =
    refuse_if (eqb (length s) 0) Ends (Byte 0)
    ∷ refuse_if (not (eqb (get_or s 0 0 / 16) 1)) (Unfixed Identifier) (Byte 0)
    ∷ units_verdict 31 1 (drop 1 s)
    ∷ []

pub field-parts : (s : List ℕ) → field_verdict s ≡ first (parts s)
unfolding field_verdict units_verdict
field-parts s =
    let units = first (units_checks 31 1 (drop 1 s)) in
    ap (λ (v : Verdict). and_then (refuse_if (eqb (length s) 0) Ends (Byte 0)) (and_then (refuse_if (not (eqb (get_or s 0 0 / 16) 1)) (Unfixed Identifier) (Byte 0)) v))
    (sym (and_then-last units))

pub length-field : (v : DataField) → Legal v → length (layout v) ≡ 1 + 46 * length v.units
length-field v h = omega (arith, length-units v.units h.each)

-- LEGAL VALUES

pub field-accepted : (v : DataField) → Legal v → field_verdict (layout v) ≡ Accepted
field-accepted v h =
    let sixteen : v.data_identifier / 16 ≡ 1 = omega (arith, h.low, h.high) in
    field-parts (layout v)
    ∙ all-accepted (parts (layout v)) (
      refuse_if-accepted _ _ _ (ne_eqb (length (layout v)) 0 (λ e. omega (arith, e))),
      (refuse_if-accepted _ _ _ (ap not (eq-eqb (v.data_identifier / 16) 1 sixteen)), (units-accepted 31 1 v.units h.each h.few, tt)),
    )

pub value-back : (v : DataField) → Legal v → value_of (layout v) ≡ v
value-back v h =
    let count : unit_count (length (layout v)) ≡ length v.units = omega (arith, length-field v h) in
    ap (λ (us : List DataUnit). record { data_identifier = v.data_identifier; units = us })
    (ap₂ (λ (k : ℕ) (s : List ℕ). taken read_unit 46 k s) count (sym (append-nil (layout_units v.units))) ∙ units-back v.units h.each)

-- BYTES THAT ARE ACCEPTED

pub record Accepts (s : List ℕ) : Type 0 where
  pub some : 0 < length s
  pub whole : length s ≡ 1 + 46 * unit_count (length s)
  pub legal : Legal (value_of s)
  pub same : layout (value_of s) ≡ s

-- n is what the length tells
counted : (b : ℕ) (s : List ℕ) → b / 16 ≡ 1 → Made 31 s → Accepts (b ∷ s)
counted b s e m =
    let count : unit_count (length (b ∷ s)) ≡ m.n = omega (arith, m.long) in
    record {
      some = omega arith;
      whole = omega (arith, m.long, count);
      legal =
          record {
            low = omega arith;
            high = omega arith;
            few = subst (λ (k : ℕ). length (taken read_unit 46 k s) ≤ 31) (sym count) (omega (arith, m.few, length_taken read_unit 46 m.n s));
            each = subst (λ (k : ℕ). Each LegalUnit (taken read_unit 46 k s)) (sym count) m.legal;
          };
      same = ap (λ (k : ℕ). b ∷ layout_units (taken read_unit 46 k s)) count ∙ ap (λ (u : List ℕ). b ∷ u) m.same;
    }

pub accepted-field : (s : List ℕ) → Bytes s → field_verdict s ≡ Accepted → Accepts s
accepted-field [] bytes e = refused-not-accepted _ _ (sym (field-parts []) ∙ e)
accepted-field (b ∷ s) bytes e =
    let each = accepted-all (parts (b ∷ s)) (sym (field-parts (b ∷ s)) ∙ e) in
    counted b s (accepted-equal (b / 16) 1 _ _ each.1.0) (accepted-units 31 1 s bytes.1 each.1.1.0)
