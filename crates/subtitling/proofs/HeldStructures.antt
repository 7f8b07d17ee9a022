-- The structures of the slots that a struct and its rows hold, one behind the other.
-- Assumes nothing.
use Prim.Native.Nat.{ℕ, zero, suc, ◌+◌, ◌*◌, ◌≤◌, ◌<◌}
use native.Mathlib.Omega.{arith}
use native.Mathlib.Numerals.{add-one}
use mathlib.Core.Path.{◌≡◌, ◌∙◌, ap, sym, refl}
use mathlib.Core.List.{List, [], ◌∷◌, ◌++◌, map, append_assoc, append-nil}
use lib.ListN.{length, take, drop, get_or, length-append, take-append-drop}
use lib.Seq.{take-suc}
use Rattle.sdp.specs.declared.Packet.{Packet}
use Rattle.sdp.specs.Value.{SlotRow, descriptor, empty_slot, held, Typed}
use Rattle.sdp.specs.Layout.{count, structure, structures}
use Rattle.sdp.proofs.Numbers.{length-wide, length-held, held-descriptors, held-shaped}
use Rattle.subtitling.proofs.Held.{beyond, held_at}

pub structure-none : (d : ℕ) (row : List ℕ) → d ≡ 0 → structure d row ≡ []
structure-none zero row e = refl
structure-none (suc d) row e = let f : ⊥ = omega arith in absurd f

pub structure-some : (d : ℕ) (row : List ℕ) → (d ≡ 0 → ⊥) → structure d row ≡ 0x55 ∷ 0x55 ∷ 0x27 ∷ row
structure-some zero row h = absurd (h refl)
structure-some (suc d) row h = refl

structures-append : (xs ys : List SlotRow) → structures (xs ++ ys) ≡ structures xs ++ structures ys
structures-append [] ys = refl
structures-append (x ∷ xs) ys =
    ap (λ (bytes : List ℕ). structure (descriptor x.slot) x.row ++ bytes) (structures-append xs ys)
    ∙ sym (append_assoc (structure (descriptor x.slot) x.row) (structures xs) (structures ys))

module _ (p : Packet) (rows : List (List ℕ)) (t : Typed p rows) where
  -- the first i slots and the next
  pub structures-more : (i : ℕ) → i < 5
      → structures (take (i + 1) (held p rows).slots) ≡ structures (take i (held p rows).slots) ++ structure (descriptor (get_or p.slots i empty_slot)) (get_or rows i [])
  structures-more i h =
      let xs = (held p rows).slots in
      let inside : i < length xs = omega (arith, length-held p rows t) in
      ap structures (ap (λ (k : ℕ). take k xs) (add-one i) ∙ take-suc xs i beyond inside)
      ∙ structures-append (take i xs) (get_or xs i beyond ∷ [])
      ∙ ap (λ (x : SlotRow). structures (take i xs) ++ structures (x ∷ [])) (held_at p rows t i h)
      ∙ ap (λ (bytes : List ℕ). structures (take i xs) ++ bytes) (append-nil (structure (descriptor (get_or p.slots i empty_slot)) (get_or rows i [])))

  pub length-structures-held : length (structures (held p rows).slots) ≡ 45 * count (map descriptor p.slots)
  length-structures-held = length-wide (held p rows).slots (held-shaped p rows t).wide ∙ ap (λ (ds : List ℕ). 45 * count ds) (held-descriptors p rows t)

  pub structures-front : (i : ℕ) → length (structures (take i (held p rows).slots)) ≤ 45 * count (map descriptor p.slots)
  structures-front i =
      let xs = (held p rows).slots in
      let all = ap length (sym (structures-append (take i xs) (drop i xs)) ∙ ap structures (take-append-drop i xs)) in
      omega (arith, all, length-append (structures (take i xs)) (structures (drop i xs)), length-structures-held)
