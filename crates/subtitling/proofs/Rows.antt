-- The slots among the user bytes: their numbers, and where each one's row stands.
-- Assumes nothing.
use Prim.Native.Nat.{ℕ, zero, suc, ◌+◌, ◌*◌, ◌<◌}
use native.Mathlib.Omega.{arith}
use mathlib.Core.Path.{◌≡◌, ◌∙◌, ap, sym, refl}
use mathlib.Core.List.{List, [], ◌∷◌, map}
use lib.ListN.{length, get_or, take, drop}
use lib.Seq.{drop-drop}
use Rattle.sdp.specs.declared.Slot.{Slot}
use Rattle.sdp.specs.Value.{SlotRow, zero_row}
use Rattle.sdp.specs.Layout.{count}
use Rattle.sdp.specs.User.{descriptors_in, slot_of, row_in, behind, slots_in}

-- the numbers are what the descriptors tell
pub slots-numbers : (ds v : List ℕ) → map (λ (x : SlotRow). x.slot) (slots_in ds v) ≡ map slot_of ds
slots-numbers [] v = refl
slots-numbers (d ∷ ds) v = ap (λ (slots : List Slot). slot_of d ∷ slots) (slots-numbers ds (behind d v))

-- the rows of the slots of these descriptors, whose structures begin the bytes v
abbrev pub rows_in : List ℕ → List ℕ → List (List ℕ)
rows_in ds v = map (λ (x : SlotRow). x.row) (slots_in ds v)

pub length-rows_in : (ds v : List ℕ) → length (rows_in ds v) ≡ length ds
length-rows_in [] v = refl
length-rows_in (d ∷ ds) v = ap suc (length-rows_in ds (behind d v))

row_in-some : (d : ℕ) (v : List ℕ) → (d ≡ 0 → ⊥) → row_in d v ≡ take 42 (drop 3 v)
row_in-some zero v h = absurd (h refl)
row_in-some (suc d) v h = refl

-- the structure of slot i stands behind those of the descriptors before it that are not 0
row-place : (ds v : List ℕ) (i : ℕ) → i < length ds → get_or (rows_in ds v) i zero_row ≡ row_in (get_or ds i 0) (drop (45 * count (take i ds)) v)
row-place [] v i h = let f : ⊥ = omega arith in absurd f
row-place (d ∷ ds) v zero h = refl
row-place (zero ∷ ds) v (suc i) h = row-place ds v i (omega arith)
row-place (suc d ∷ ds) v (suc i) h =
    let before = count (take i ds) in
    let place : 45 + 45 * before ≡ 45 * suc before = omega arith in
    row-place ds (drop 45 v) i (omega arith)
    ∙ ap (row_in (get_or ds i 0)) (drop-drop (45 * before) 45 v ∙ ap (λ (n : ℕ). drop n v) place)

-- so in the user bytes, where the next structure begins at `at`
pub row-some : (u : List ℕ) (i at : ℕ) → i < length (descriptors_in u) → at ≡ 9 + 45 * count (take i (descriptors_in u)) → (get_or (descriptors_in u) i 0 ≡ 0 → ⊥)
    → take 42 (drop (at + 3) u) ≡ get_or (rows_in (descriptors_in u) (drop 9 u)) i zero_row
row-some u i at h e some =
    let ds = descriptors_in u in
    let before = 45 * count (take i ds) in
    let place : 9 + (before + 3) ≡ at + 3 = omega arith in
    sym
    (row-place ds (drop 9 u) i h
    ∙ row_in-some (get_or ds i 0) (drop before (drop 9 u)) some
    ∙ ap (take 42) (drop-drop 3 before (drop 9 u) ∙ drop-drop (before + 3) 9 u ∙ ap (λ (n : ℕ). drop n u) place))

pub row-none : (ds v : List ℕ) (i : ℕ) → i < length ds → get_or ds i 0 ≡ 0 → get_or (rows_in ds v) i zero_row ≡ zero_row
row-none ds v i h e = row-place ds v i h ∙ ap (λ (d : ℕ). row_in d (drop (45 * count (take i ds)) v)) e
