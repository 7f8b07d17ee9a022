-- The units of the full slots: those of a list in two parts, of one slot, and how many there are.
-- Assumes nothing.
use Prim.Native.Nat.{ℕ, zero, suc, ◌+◌, ◌≤◌, ◌<◌}
use native.Mathlib.Omega.{arith}
use native.Mathlib.Numerals.{add-one}
use mathlib.Core.Path.{◌≡◌, ◌∙◌, ap, refl}
use mathlib.Core.List.{List, [], ◌∷◌, ◌++◌}
use lib.ListN.{length, get_or, take}
use lib.Seq.{take-suc}
use Rattle.lists.specs.Each.{Each}
use Rattle.sdp.specs.declared.Packet.{Packet}
use Rattle.sdp.specs.Value.{SlotRow, Typed, empty_slot, together, held}
use Rattle.sdp.proofs.Numbers.{length-held}
use Rattle.subtitling.proofs.Held.{beyond, held_at}
use Rattle.pes.specs.Value.{DataUnit}
use Rattle.pes_convert.specs.Converting.{slot_unit, if_full, full_units}

-- BY A SLOT'S MARK

module _ {A : Type 0} where
  pub if-empty : (mark : ℕ) (a : A) (rest : List A) → mark ≡ 0 → if_full mark a rest ≡ rest
  if-empty zero a rest e = refl
  if-empty (suc mark) a rest e = let f : ⊥ = omega arith in absurd f

  pub if-full : (mark : ℕ) (a : A) (rest : List A) → (mark ≡ 0 → ⊥) → if_full mark a rest ≡ a ∷ rest
  if-full zero a rest h = absurd (h refl)
  if-full (suc mark) a rest h = refl

  if-append : (mark : ℕ) (a : A) (xs ys : List A) → if_full mark a (xs ++ ys) ≡ if_full mark a xs ++ ys
  if-append zero a xs ys = refl
  if-append (suc mark) a xs ys = refl

  if-most : (mark : ℕ) (a : A) (rest : List A) (n : ℕ) → length rest ≤ n → length (if_full mark a rest) ≤ suc n
  if-most zero a rest n h = omega arith
  if-most (suc mark) a rest n h = omega arith

  if-each : (P : A → Type 0) (mark : ℕ) (a : A) (rest : List A) → ((mark ≡ 0 → ⊥) → P a) → Each P rest → Each P (if_full mark a rest)
  if-each P zero a rest p h = h
  if-each P (suc mark) a rest p h = (p (λ e. omega (arith, e)), h)

-- THE UNITS

pub full-append : (xs ys : List SlotRow) → full_units (xs ++ ys) ≡ full_units xs ++ full_units ys
full-append [] ys = refl
full-append (x ∷ xs) ys =
    ap (if_full x.slot.full (slot_unit x)) (full-append xs ys) ∙ if-append x.slot.full (slot_unit x) (full_units xs) (full_units ys)

pub full-none : (x : SlotRow) → x.slot.full ≡ 0 → full_units (x ∷ []) ≡ []
full-none x e = if-empty x.slot.full (slot_unit x) [] e

pub full-one : (x : SlotRow) → (x.slot.full ≡ 0 → ⊥) → full_units (x ∷ []) ≡ slot_unit x ∷ []
full-one x h = if-full x.slot.full (slot_unit x) [] h

pub full-most : (xs : List SlotRow) → length (full_units xs) ≤ length xs
full-most [] = omega arith
full-most (x ∷ xs) = if-most x.slot.full (slot_unit x) (full_units xs) (length xs) (full-most xs)

-- what holds of the unit of each full slot holds of each unit
pub full-each : (P : DataUnit → Type 0) (xs : List SlotRow) → Each (λ (x : SlotRow). (x.slot.full ≡ 0 → ⊥) → P (slot_unit x)) xs → Each P (full_units xs)
full-each P [] h = tt
full-each P (x ∷ xs) h = if-each P x.slot.full (slot_unit x) (full_units xs) h.0 (full-each P xs h.1)

-- AS THE CODE WALKS THROUGH THEM

module _ (p : Packet) (rows : List (List ℕ)) (t : Typed p rows) (i : ℕ) (h : i < 5) where
  -- the first i slots and the next
  pub full-more : full_units (take (i + 1) (held p rows).slots)
      ≡ full_units (take i (held p rows).slots) ++ full_units (together (get_or p.slots i empty_slot) (get_or rows i []) ∷ [])
  full-more =
      let xs = (held p rows).slots in
      let inside : i < length xs = omega (arith, length-held p rows t) in
      ap full_units (ap (λ (k : ℕ). take k xs) (add-one i) ∙ take-suc xs i beyond inside)
      ∙ full-append (take i xs) (get_or xs i beyond ∷ [])
      ∙ ap (λ (x : SlotRow). full_units (take i xs) ++ full_units (x ∷ [])) (held_at p rows t i h)
