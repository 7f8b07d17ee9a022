-- The bytes of the units of the first slots, as the code walks through them.
-- Assumes nothing.
use Prim.Native.Nat.{ℕ, ◌+◌, ◌*◌, ◌≤◌, ◌<◌}
use native.Mathlib.Omega.{arith}
use mathlib.Core.Path.{◌≡◌, ◌∙◌, ap, sym}
use mathlib.Core.List.{List, [], ◌++◌, append-nil}
use lib.ListN.{length, take, drop, get_or, length-map, length-append, take-append-drop}
use lib.Seq.{length-take-le}
use Rattle.lists.proofs.Each.{each_at, each_take}
use Rattle.lists.proofs.FlatOf.{flat_append, flat-more, length-flat}
use Rattle.bits.specs.Bits.{reversed}
use Rattle.sdp.specs.declared.Packet.{Packet}
use Rattle.sdp.specs.Value.{SlotRow, Row, Typed, empty_slot, together, held}
use Rattle.sdp.proofs.Numbers.{length-held, beside-each}
use Rattle.pes.specs.Value.{DataUnit, TypedUnit}
use Rattle.pes.specs.Layout.{layout_unit, layout_units}
use Rattle.pes.proofs.Unit.{length-layout}
use Rattle.pes.proofs.Lending.{typed-sized}
use Rattle.pes_convert.specs.Converting.{slot_unit, full_units}
use Rattle.pes_convert.proofs.Full.{full-append, full-none, full-one, full-most, full-more}
use Rattle.pes_convert.proofs.Judged.{full_typed}

-- the bytes of the first i slots' units
abbrev pub bytes : List SlotRow → ℕ → List ℕ
bytes xs i = layout_units (full_units (take i xs))

module _ (p : Packet) (rows : List (List ℕ)) (t : Typed p rows) (i : ℕ) (h : i < 5) where
  abbrev pub x : SlotRow
  x = together (get_or p.slots i empty_slot) (get_or rows i [])

  pub bytes-none : x.slot.full ≡ 0 → bytes (held p rows).slots (i + 1) ≡ bytes (held p rows).slots i
  bytes-none e =
      let us = full_units (take i (held p rows).slots) in
      ap layout_units (full-more p rows t i h ∙ ap (λ (one : List DataUnit). us ++ one) (full-none x e) ∙ append-nil us)

  pub bytes-some : (x.slot.full ≡ 0 → ⊥) → bytes (held p rows).slots (i + 1) ≡ bytes (held p rows).slots i ++ layout_unit (slot_unit x)
  bytes-some some =
      let us = full_units (take i (held p rows).slots) in
      ap layout_units (full-more p rows t i h ∙ ap (λ (one : List DataUnit). us ++ one) (full-one x some)) ∙ flat-more layout_unit us (slot_unit x)

  pub row_at : Row (get_or rows i [])
  row_at = each_at Row [] rows t.each i (omega (arith, t.five))

  pub length-unit : length (layout_unit (slot_unit x)) ≡ 46
  length-unit = omega (arith, length-map (get_or rows i []) reversed, row_at.0)

-- the first i slots' units are no longer than all of them
pub front-short : (xs : List SlotRow) (i : ℕ) → length (bytes xs i) ≤ length (layout_units (full_units xs))
front-short xs i =
    let front = full_units (take i xs) in
    let back = full_units (drop i xs) in
    let all : full_units xs ≡ front ++ back = ap full_units (sym (take-append-drop i xs)) ∙ full-append (take i xs) (drop i xs) in
    omega (
      arith,
      ap (λ (us : List DataUnit). length (layout_units us)) all,
      ap length (flat_append layout_unit front back),
      length-append (layout_units front) (layout_units back),
    )

-- each unit has 46 bytes
pub bytes-most : (p : Packet) (rows : List (List ℕ)) → Typed p rows → (i : ℕ) → i ≤ 5 → length (bytes (held p rows).slots i) ≤ 46 * i
bytes-most p rows t i h =
    let xs = (held p rows).slots in
    let us = full_units (take i xs) in
    let typed = full_typed (take i xs) (each_take _ i xs (beside-each p.slots rows t.each)) in
    let long = length-flat layout_unit 46 TypedUnit (λ y k. length-layout y (typed-sized y k)) us typed in
    omega (arith, long, full-most (take i xs), length-take-le i xs (omega (arith, length-held p rows t)))
