-- Writing: which values the checks let through, and the checks in the order in which the code comes to them.
-- Assumes nothing.
use Prim.Native.Nat.{ℕ, ◌+◌, ◌/◌, ◌≤◌, ◌<◌}
use native.Mathlib.Omega.{arith}
use native.Mathlib.Numerals.{add-one}
use mathlib.Core.Path.{◌≡◌, ◌∙◌, ap, sym, refl}
use mathlib.Core.Bool.{true, false, not}
use mathlib.Core.List.{List, [], ◌∷◌, ◌++◌}
use borrow.Author.Tests.{eq-eqb, ne_eqb, lt-ltb, le-ltb, not-false}
use lib.Dec.{eqb, ltb}
use lib.ListN.{length, get_or, drop}
use lib.Seq.{drop-cons, length-take-le}
use Rattle.lists.proofs.Each.{each_take, each_both, each_map}
use Rattle.refusal.specs.Verdict.{Verdict}
use Rattle.refusal.specs.Verdict.{Accepted, Refused}
use Rattle.refusal.specs.declared.Reason.TheVariants.{NoRoom, Unholdable}
use Rattle.refusal.specs.declared.Excess.TheVariants.{Count, DataIdentifier, DataUnitId, FieldParity, LineOffset}
use Rattle.refusal.specs.declared.Item.TheVariants.{Whole}
use Rattle.refusal.specs.Checks.{refuse_if, and_then, first}
use Rattle.refusal.specs.Order.{each_of}
use Rattle.refusal.proofs.Checks.{accepted-refuse_if, refuse_if-accepted, accepted-all, all-accepted, accepted-equal, accepted-within, accepted-each, each-accepted, and_then-last}
use Rattle.refusal.proofs.Lines.{not-outside, among-inside}
use Rattle.refusal.proofs.Sequence.{first-append, first-each}
use Rattle.pes.specs.Value.{Teletext, DataUnit, teletext, stuffing, Told, LegalUnit, LegalTold, Typed, TypedUnit, blank, held}
use Rattle.pes.specs.Layout.{layout}
use Rattle.pes.specs.Order.{teletext_id, written_checks}
use Rattle.pes.specs.Reading.{line_verdict}
use Rattle.pes.specs.Writing.{written_verdict, written_units, value_verdict}
use Rattle.pes.proofs.Unit.{teletext-id, id-teletext, line-below}

-- ONE UNIT

-- what is let through of a unit as its type has it is legal,
pub written-legal : (x : DataUnit) → TypedUnit x → written_verdict x ≡ Accepted → LegalUnit x
unfolding written_verdict
written-legal (teletext t) typed e =
    let each = accepted-all (written_checks (teletext t)) e in
    let parity = accepted-within 1 t.field_parity _ _ each.1.0 in
    record {
      id = teletext-id t.data_unit_id (not-false (teletext_id t.data_unit_id) (accepted-refuse_if _ _ _ each.0));
      parity = omega (arith, parity);
      line = not-outside 7 t.line_offset (accepted-refuse_if _ _ _ each.1.1.1.0);
      places = typed.places;
      bytes = typed.bytes;
    }
written-legal (stuffing bytes) typed e = typed

-- and what is legal is let through
pub legal-written : (x : DataUnit) → LegalUnit x → written_verdict x ≡ Accepted
unfolding written_verdict
legal-written (teletext t) h =
    let bit : t.field_parity ≤ 1 = omega (arith, h.parity) in
    let low : t.line_offset ≤ 31 = omega (arith, line-below t.line_offset h.line) in
    let id = refuse_if-accepted _ _ _ (ap not (id-teletext t.data_unit_id h.id)) in
    let parity = refuse_if-accepted _ _ _ (le-ltb 1 t.field_parity bit) in
    let held = refuse_if-accepted _ _ _ (le-ltb 31 t.line_offset low) in
    all-accepted (written_checks (teletext t)) (id, (parity, (held, (refuse_if-accepted _ _ _ (among-inside 7 t.line_offset h.line), tt))))
legal-written (stuffing bytes) h = refl

-- the numbers of teletext that is let through fit its byte
pub written_small : (id parity line : ℕ) (row : List ℕ)
    → written_verdict (teletext (record { data_unit_id = id; field_parity = parity; line_offset = line; row = row })) ≡ Accepted
    → (parity ≤ 1) × (line ≤ 31)
unfolding written_verdict
written_small id parity line row e =
    let each = accepted-all (written_checks (teletext (record { data_unit_id = id; field_parity = parity; line_offset = line; row = row }))) e in
    (accepted-within 1 parity _ _ each.1.0, accepted-within 31 line _ _ each.1.1.0)

-- in the order of the code
module _ (t : Teletext) where
  pub written-id : teletext_id t.data_unit_id ≡ false → written_verdict (teletext t) ≡ Refused (Unholdable DataUnitId) Whole
  unfolding written_verdict
  written-id e = simp e

  module _ (right : teletext_id t.data_unit_id ≡ true) where
    pub written-parity : 1 < t.field_parity → written_verdict (teletext t) ≡ Refused (Unholdable FieldParity) Whole
    unfolding written_verdict
    written-parity h = simp (right, lt-ltb 1 t.field_parity h)

    pub written-high : t.field_parity ≤ 1 → 31 < t.line_offset → written_verdict (teletext t) ≡ Refused (Unholdable LineOffset) Whole
    unfolding written_verdict
    written-high h g = simp (right, le-ltb 1 t.field_parity h, lt-ltb 31 t.line_offset g)

    pub written-line : t.field_parity ≤ 1 → t.line_offset ≤ 31 → written_verdict (teletext t) ≡ line_verdict Whole t.line_offset
    unfolding written_verdict line_verdict
    written-line h g = simp (right, le-ltb 1 t.field_parity h, le-ltb 31 t.line_offset g, and_then-last)

-- THE VALUE

-- the units from i on: the one at i decides first
pub units-from : (us : List DataUnit) (i : ℕ) → i < length us
    → written_units (drop i us) ≡ and_then (written_verdict (get_or us i blank)) (written_units (drop (i + 1) us))
units-from us i h =
    ap written_units (drop-cons us i blank h) ∙ ap (λ (k : ℕ). and_then (written_verdict (get_or us i blank)) (written_units (drop k us))) (sym (add-one i))

module _ (t : Told) (room : ℕ) where
  abbrev laid : ℕ
  laid = length (layout (held t))

  -- the checks of the value itself, and of the room
  abbrev pub own : List Verdict
  own =
      refuse_if (not (eqb (t.data_identifier / 16) 1)) (Unholdable DataIdentifier) Whole
      ∷ refuse_if (ltb 31 t.n) (Unholdable Count) Whole
      ∷ written_units (held t).units
      ∷ []

  abbrev pub room_check : Verdict
  room_check = refuse_if (ltb room laid) NoRoom Whole

  abbrev pub parts : List Verdict
  parts = own ++ (room_check ∷ [])

  pub value-parts : value_verdict t room ≡ first parts
  unfolding value_verdict written_verdict
  value-parts =
      let us = (held t).units in
      let last = refuse_if (ltb room laid) NoRoom Whole ∷ [] in
      ap (λ (v : Verdict).
      and_then (refuse_if (not (eqb (t.data_identifier / 16) 1)) (Unholdable DataIdentifier) Whole)
      (and_then (refuse_if (ltb 31 t.n) (Unholdable Count) Whole) v))
      (first-append (each_of written_checks us) last ∙ ap (λ (v : Verdict). and_then v (first last)) (sym (first-each written_checks us)))

  pub value-own : value_verdict t room ≡ and_then (first own) room_check
  value-own = value-parts ∙ first-append own (room_check ∷ []) ∙ ap (λ (v : Verdict). and_then (first own) v) (and_then-last room_check)

  -- what the checks let through
  pub record Writable : Type 0 where
    pub identifier : t.data_identifier / 16 ≡ 1
    pub few : t.n ≤ 31
    pub units : written_units (held t).units ≡ Accepted
    pub fits : laid ≤ room

  pub accepted-value : value_verdict t room ≡ Accepted → Writable
  accepted-value e =
      let each = accepted-all parts (sym value-parts ∙ e) in
      record {
        identifier = accepted-equal (t.data_identifier / 16) 1 _ _ each.0;
        few = accepted-within 31 t.n _ _ each.1.0;
        units = each.1.1.0;
        fits = accepted-within room laid _ _ each.1.1.1.0;
      }

  pub value-accepted : Writable → value_verdict t room ≡ Accepted
  value-accepted h =
      let identifier = refuse_if-accepted _ _ _ (ap not (eq-eqb (t.data_identifier / 16) 1 h.identifier)) in
      let few = refuse_if-accepted _ _ _ (le-ltb 31 t.n h.few) in
      value-parts ∙ all-accepted parts (identifier, (few, (h.units, (refuse_if-accepted _ _ _ (le-ltb room laid h.fits), tt))))

  -- in the order of the code
  pub value-identifier : (t.data_identifier / 16 ≡ 1 → ⊥) → value_verdict t room ≡ Refused (Unholdable DataIdentifier) Whole
  value-identifier e = value-parts ∙ simp (ne_eqb (t.data_identifier / 16) 1 e)

  module _ (right : t.data_identifier / 16 ≡ 1) where
    pub value-many : 31 < t.n → value_verdict t room ≡ Refused (Unholdable Count) Whole
    value-many h = value-parts ∙ simp (eq-eqb (t.data_identifier / 16) 1 right, lt-ltb 31 t.n h)

    pub value-units : t.n ≤ 31 → value_verdict t room ≡ and_then (written_units (held t).units) (refuse_if (ltb room laid) NoRoom Whole)
    value-units h = value-parts ∙ simp (eq-eqb (t.data_identifier / 16) 1 right, le-ltb 31 t.n h, and_then-last)

  -- a value is let through exactly where it is legal and the room has it
  pub writable-legal : Typed t → Writable → LegalTold t
  writable-legal typed h =
      record {
        few = h.few;
        value =
            record {
              low = omega (arith, h.identifier);
              high = omega (arith, h.identifier);
              few = omega (arith, h.few, length-held typed h.few);
              each =
                  each_both TypedUnit (λ (x : DataUnit). written_verdict x ≡ Accepted) LegalUnit written-legal (held t).units
                  (each_take TypedUnit t.n t.units typed.units) (accepted-each written_verdict (held t).units h.units);
            };
      }
    where
      length-held : Typed t → t.n ≤ 31 → length (held t).units ≡ t.n
      length-held typed few = length-take-le t.n t.units (omega (arith, typed.places))

  pub own_writable : first own ≡ Accepted → laid ≤ room → Writable
  own_writable e fits =
      let each = accepted-all own e in
      record {
        identifier = accepted-equal (t.data_identifier / 16) 1 _ _ each.0;
        few = accepted-within 31 t.n _ _ each.1.0;
        units = each.1.1.0;
        fits = fits;
      }

  pub legal-writable : LegalTold t → laid ≤ room → Writable
  legal-writable h fits =
      record {
        identifier = omega (arith, h.value.low, h.value.high);
        few = h.few;
        units = each-accepted written_verdict (held t).units (each_map LegalUnit (λ (x : DataUnit). written_verdict x ≡ Accepted) legal-written (held t).units h.value.each);
        fits = fits;
      }
