-- The slots' numbers and their rows, taken apart and put together again.
-- Assumes nothing.
use Prim.Native.Nat.{ℕ}
use native.Mathlib.Omega.{arith}
use mathlib.Core.Path.{◌≡◌, ◌∙◌, ap, sym, refl}
use mathlib.Core.List.{List, [], ◌∷◌, map}
use lib.ListN.{length}
use Rattle.sdp.specs.declared.Slot.{Slot}
use Rattle.sdp.specs.declared.Packet.{Packet}
use Rattle.sdp.specs.Value.{SlotRow, Sdp, Typed, beside, held, numbers_of, rows_of}

apart-beside : (xs : List SlotRow) → beside (map (λ (x : SlotRow). x.slot) xs) (map (λ (x : SlotRow). x.row) xs) ≡ xs
apart-beside [] = refl
apart-beside (x ∷ xs) = ap (λ (ys : List SlotRow). x ∷ ys) (apart-beside xs)

pub held-together : (v : Sdp) → held (numbers_of v) (rows_of v) ≡ v
held-together v = let slots = apart-beside v.slots in λ i. record { counter = v.counter; slots = slots i }

beside-slots : (ss : List Slot) (rows : List (List ℕ)) → length ss ≡ length rows → map (λ (x : SlotRow). x.slot) (beside ss rows) ≡ ss
beside-slots [] rows e = refl
beside-slots (s ∷ ss) [] e = let f : ⊥ = omega arith in absurd f
beside-slots (s ∷ ss) (row ∷ rows) e =
    let rest : length ss ≡ length rows = omega arith in
    ap (λ (xs : List Slot). s ∷ xs) (beside-slots ss rows rest)

beside-rows : (ss : List Slot) (rows : List (List ℕ)) → length ss ≡ length rows → map (λ (x : SlotRow). x.row) (beside ss rows) ≡ rows
beside-rows [] [] e = refl
beside-rows [] (row ∷ rows) e = let f : ⊥ = omega arith in absurd f
beside-rows (s ∷ ss) [] e = let f : ⊥ = omega arith in absurd f
beside-rows (s ∷ ss) (row ∷ rows) e =
    let rest : length ss ≡ length rows = omega arith in
    ap (λ (xs : List (List ℕ)). row ∷ xs) (beside-rows ss rows rest)

module _ (p : Packet) (rows : List (List ℕ)) (t : Typed p rows) where
  pub held-numbers : numbers_of (held p rows) ≡ p
  held-numbers = let slots = beside-slots p.slots rows (t.slots ∙ sym t.five) in λ i. record { counter = p.counter; slots = slots i }

  pub held_rows : rows_of (held p rows) ≡ rows
  held_rows = beside-rows p.slots rows (t.slots ∙ sym t.five)
