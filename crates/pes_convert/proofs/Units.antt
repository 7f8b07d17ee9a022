-- Which units a value is converted to: how many, where the unit of a slot stands, and that reserved bits and counter have no part in them.
-- Assumes nothing.
use Prim.Native.Nat.{ℕ, zero, suc, ◌+◌, ◌-◌, ◌*◌, ◌≤◌, ◌<◌}
use native.Mathlib.Omega.{arith}
use mathlib.Core.Path.{◌≡◌, ◌∙◌, ap, ap₂, sym, subst, refl}
use mathlib.Core.Logic.{inr, ⊎_elim}
use mathlib.Core.List.{List, [], ◌∷◌, ◌++◌, map, append-nil}
use lib.ListN.{length, get_or, take, drop, replicate}
use lib.Seq.{drop-drop, take_at}
use Rattle.lists.specs.Each.{Each}
use Rattle.lists.specs.Part.{part}
use Rattle.lists.specs.Sum.{sum}
use Rattle.lists.proofs.Each.{each_at, each_map, each_both}
use Rattle.lists.proofs.FlatOf.{length-flat, flat_append, flat-at}
use Rattle.refusal.specs.declared.Item.TheVariants.{Whole}
use Rattle.sdp.specs.Value.{SlotRow, Sdp, Legal, LegalSlot, descriptor, empty_row}
use Rattle.sdp.specs.Layout.{descriptors_of, count}
use Rattle.pes.specs.Value.{DataUnit, LegalUnit, Legal as LegalField, blank, stored}
use Rattle.pes.specs.Layout.{layout_unit, layout_units, layout}
use Rattle.pes.specs.Order.{line_check}
use Rattle.pes.specs.Lent.{unit_bytes, units_bytes}
use Rattle.pes.specs.Places.{unit_at}
use Rattle.pes.proofs.Unit.{Sized, length-layout}
use Rattle.pes.proofs.Lending.{length-lent}
use Rattle.pes_convert.specs.Converting.{slot_unit, if_full, full_units, converted, lines_checks}
use Rattle.pes_convert.specs.Order.{LineCarried, unreserved}
use Rattle.pes_convert.proofs.Full.{if-full, full-one, full-most, full-each}

-- ONE SLOT

pub unit-of-full : (x : SlotRow) → x.slot.full ≡ 1 → full_units (x ∷ []) ≡ slot_unit x ∷ []
unit-of-full x e = full-one x (λ none. omega (arith, none, e))

-- HOW MANY

count-if : {A : Type 0} (mark : ℕ) (a : A) (rest : List A) → mark ≤ 1 → length (if_full mark a rest) ≡ mark + length rest
count-if zero a rest h = omega arith
count-if (suc mark) a rest h = omega arith

legal-mark : (x : SlotRow) → LegalSlot x → x.slot.full ≤ 1
legal-mark x h = ⊎_elim (λ e. omega (arith, ap (λ (y : SlotRow). y.slot.full) e)) (λ full. omega (arith, full.mark)) h

full-count : (xs : List SlotRow) → Each LegalSlot xs → length (full_units xs) ≡ sum (map (λ (x : SlotRow). x.slot.full) xs)
full-count [] h = refl
full-count (x ∷ xs) h =
    count-if x.slot.full (slot_unit x) (full_units xs) (legal-mark x h.0) ∙ ap (λ (n : ℕ). x.slot.full + n) (full-count xs h.1)

count-one : (d : ℕ) (ds : List ℕ) (mark : ℕ) → (d ≡ 0 → mark ≡ 0) → (0 < d → mark ≡ 1) → count (d ∷ ds) ≡ mark + count ds
count-one zero ds mark none some = omega (arith, none refl)
count-one (suc d) ds mark none some = omega (arith, some (omega arith))

-- as many as descriptors that are not 0
structure-count : (xs : List SlotRow) → Each LegalSlot xs → length (full_units xs) ≡ count (descriptors_of xs)
structure-count [] h = refl
structure-count (x ∷ xs) h =
    count-if x.slot.full (slot_unit x) (full_units xs) (legal-mark x h.0)
    ∙ ap (λ (n : ℕ). x.slot.full + n) (structure-count xs h.1)
    ∙ sym (count-one (descriptor x.slot) (descriptors_of xs) x.slot.full none some)
  where
    none : descriptor x.slot ≡ 0 → x.slot.full ≡ 0
    none e = ⊎_elim (λ empty. ap (λ (y : SlotRow). y.slot.full) empty) (λ full. let f : ⊥ = omega (arith, e, full.some) in absurd f) h.0

    some : 0 < descriptor x.slot → x.slot.full ≡ 1
    some g =
        ⊎_elim (λ empty. let f : ⊥ = omega (arith, g, ap (λ (y : SlotRow). descriptor y.slot) empty) in absurd f) (λ full. full.mark) h.0

pub units-count : (v : Sdp) → Legal v
    → (length (converted v).units ≡ sum (map (λ (x : SlotRow). x.slot.full) v.slots))
    × (length (converted v).units ≡ count (descriptors_of v.slots))
units-count v h = (full-count v.slots h.each, structure-count v.slots h.each)

-- WHERE THE UNIT OF A SLOT STANDS

behind : (mark : ℕ) (a : DataUnit) (us front : List DataUnit)
    → get_or (if_full mark a us) (length (if_full mark a front)) blank ≡ get_or us (length front) blank
behind zero a us front = refl
behind (suc mark) a us front = refl

further : (mark : ℕ) (a : DataUnit) (us front : List DataUnit) → length front < length us → length (if_full mark a front) < length (if_full mark a us)
further zero a us front h = h
further (suc mark) a us front h = omega arith

-- behind those of the full slots before it
pub unit-place : (xs : List SlotRow) (i : ℕ) → (get_or xs i empty_row).slot.full ≡ 1
    → (length (full_units (take i xs)) < length (full_units xs))
    × (get_or (full_units xs) (length (full_units (take i xs))) blank ≡ slot_unit (get_or xs i empty_row))
unit-place [] i e = let f : ⊥ = omega (arith, e) in absurd f
unit-place (x ∷ xs) zero e =
    let here = if-full x.slot.full (slot_unit x) (full_units xs) (λ none. omega (arith, none, e)) in
    (omega (arith, ap length here), ap (λ (us : List DataUnit). get_or us 0 blank) here)
unit-place (x ∷ xs) (suc i) e =
    let on = unit-place xs i e in
    let mark = x.slot.full in
    (further mark (slot_unit x) (full_units xs) (full_units (take i xs)) on.0, behind mark (slot_unit x) (full_units xs) (full_units (take i xs)) ∙ on.1)

pub unit-at : (v : Sdp) (i : ℕ) → (get_or v.slots i empty_row).slot.full ≡ 1
    → get_or (converted v).units (length (full_units (take i v.slots))) blank ≡ slot_unit (get_or v.slots i empty_row)
unit-at v i e = (unit-place v.slots i e).1

-- A LEGAL DATA FIELD

carried-unit : (x : SlotRow) → LegalSlot x → LineCarried x → (x.slot.full ≡ 0 → ⊥) → LegalUnit (slot_unit x)
carried-unit x h line some =
    ⊎_elim
    (λ empty. absurd (some (ap (λ (y : SlotRow). y.slot.full) empty)))
    (λ full.
    record {
      id = inr refl;
      parity = full.field;
      line = line full.mark;
      places = full.places;
      bytes = full.bytes;
    })
    h

pub converted-legal : (v : Sdp) → Legal v → Each LineCarried v.slots → LegalField (converted v)
converted-legal v h lines =
    record {
      low = omega arith;
      high = omega arith;
      few = omega (arith, full-most v.slots, h.five);
      each = full-each LegalUnit v.slots (each_both LegalSlot LineCarried _ carried-unit v.slots h.each lines);
    }

-- its units have their sizes, whatever their lines are
full-sized : (v : Sdp) → Legal v → Each Sized (full_units v.slots)
full-sized v h = full-each Sized v.slots (each_map LegalSlot _ sized v.slots h.each)
  where
    sized : (x : SlotRow) → LegalSlot x → (x.slot.full ≡ 0 → ⊥) → length x.row ≡ 42
    sized x legal some = ⊎_elim (λ empty. absurd (some (ap (λ (y : SlotRow). y.slot.full) empty))) (λ full. full.places) legal

pub converted-size : (v : Sdp) → Legal v → length (layout (converted v)) ≡ 1 + 46 * count (descriptors_of v.slots)
converted-size v h =
    let us = full_units v.slots in
    omega (arith, length-flat layout_unit 46 Sized length-layout us (full-sized v h), structure-count v.slots h.each)

-- THE BYTES OF A SLOT

module _ (v : Sdp) (h : Legal v) (i : ℕ) (full : (get_or v.slots i empty_row).slot.full ≡ 1) where
  abbrev us : List DataUnit
  us = full_units v.slots

  -- the unit's place among them
  abbrev k : ℕ
  k = length (full_units (take i v.slots))

  abbrev unit : DataUnit
  unit = slot_unit (get_or v.slots i empty_row)

  sized : Sized unit
  sized = subst Sized (unit-place v.slots i full).1 (each_at Sized blank us (full-sized v h) k (unit-place v.slots i full).0)

  -- a part that begins with its bytes
  begins : (bytes : DataUnit → List ℕ) (width at : ℕ) (s after : List ℕ) → length (bytes unit) ≡ width → drop at s ≡ bytes (get_or us k blank) ++ after
      → part at (at + width) s ≡ bytes unit
  begins bytes width at s after long e =
      let size : at + width - at ≡ width = omega arith in
      ap₂ (λ (n : ℕ) (rest : List ℕ). take n rest) size (e ∙ ap (λ (x : DataUnit). bytes x ++ after) (unit-place v.slots i full).1) ∙ take_at (bytes unit) after width long

  pub slot-stream : part (unit_at k) (unit_at k + 46) (layout (converted v)) ≡ layout_unit unit
  slot-stream =
      let here = flat-at layout_unit 46 Sized length-layout blank us (full-sized v h) k [] (unit-place v.slots i full).0 in
      begins layout_unit 46 (unit_at k) (layout (converted v)) here.0 (length-layout unit sized)
      (sym (drop-drop (46 * k) 1 (layout (converted v))) ∙ ap (drop (46 * k)) (sym (append-nil (layout_units us))) ∙ here.1)

  pub slot_lent : part (45 * k) (45 * k + 45) (units_bytes (stored (converted v)).units) ≡ unit_bytes unit
  slot_lent =
      let rest = replicate (31 - length us) blank in
      let here = flat-at unit_bytes 45 Sized length-lent blank us (full-sized v h) k (units_bytes rest) (unit-place v.slots i full).0 in
      begins unit_bytes 45 (45 * k) (units_bytes (stored (converted v)).units) here.0 (length-lent unit sized)
      (ap (drop (45 * k)) (flat_append unit_bytes us rest) ∙ here.1)

-- RESERVED BITS

unreserved-units : (xs : List SlotRow) → full_units (map unreserved xs) ≡ full_units xs
unreserved-units [] = refl
unreserved-units (x ∷ xs) = ap (if_full x.slot.full (slot_unit x)) (unreserved-units xs)

unreserved-lines : (xs : List SlotRow) → lines_checks (map unreserved xs) ≡ lines_checks xs
unreserved-lines [] = refl
unreserved-lines (x ∷ xs) = ap (if_full x.slot.full (line_check Whole x.slot.line)) (unreserved-lines xs)

-- what differs only in them is the same to the conversion
pub same_units : (xs ys : List SlotRow) → map unreserved xs ≡ map unreserved ys → full_units xs ≡ full_units ys
same_units xs ys e = sym (unreserved-units xs) ∙ ap full_units e ∙ unreserved-units ys

pub same_lines : (xs ys : List SlotRow) → map unreserved xs ≡ map unreserved ys → lines_checks xs ≡ lines_checks ys
same_lines xs ys e = sym (unreserved-lines xs) ∙ ap lines_checks e ∙ unreserved-lines ys

pub same-converted : (v w : Sdp) → map unreserved v.slots ≡ map unreserved w.slots → converted v ≡ converted w
same-converted v w e = ap (λ (us : List DataUnit). record { data_identifier = 0x10; units = us }) (same_units v.slots w.slots e)
