-- The structures behind the descriptors: what was laid is read, and what is read was laid.
-- Assumes nothing.
use Prim.Native.Nat.{ℕ, zero, suc, ◌+◌, ◌*◌, ◌%◌, ◌≤◌, ◌<◌}
use native.Mathlib.Omega.{arith}
use mathlib.Core.Path.{◌≡◌, ◌∙◌, ap, ap₂, sym, refl}
use mathlib.Core.Logic.{inl, inr, ⊎_elim}
use mathlib.Core.List.{List, [], ◌∷◌, ◌++◌, append_assoc}
use lib.ListN.{length, take, drop, length-drop, take-append-drop}
use lib.Seq.{take_at, drop_at, drop-drop, length-take-le}
use Rattle.lists.specs.Each.{Each}
use Rattle.lists.specs.Bytes.{Bytes}
use Rattle.lists.proofs.Each.{each_take, each-drop}
use Rattle.refusal.specs.Verdict.{Accepted}
use Rattle.refusal.specs.declared.Item.TheVariants.{Word}
use Rattle.refusal.proofs.Checks.{accepted-and_then, accepted-equal}
use Rattle.sdp.specs.Value.{SlotRow, together, descriptor, zero_row, FullSlot, LegalSlot}
use Rattle.sdp.specs.Layout.{descriptors_of, count, structure, structures}
use Rattle.sdp.specs.User.{line_verdict, descriptors_verdict, structure_verdict, structures_verdict, slot_of, row_in, behind, slots_in}
use Rattle.sdp.proofs.Numbers.{legal-wide}
use Rattle.sdp.proofs.Slots.{accepted-line, slot_of-descriptor, descriptor-slot_of}

-- LAID, THEN READ

legal-zeros : (x : SlotRow) → LegalSlot x → descriptor x.slot ≡ 0 → x.row ≡ zero_row
legal-zeros x h none = ⊎_elim (λ e. ap (λ (y : SlotRow). y.row) e) (λ full. let f : ⊥ = omega (arith, full.some) in absurd f) h

-- a row of 42 bytes in its structure, ahead of anything
module _ (row rest : List ℕ) (places : length row ≡ 42) where
  structure-row_in : (d : ℕ) → (d ≡ 0 → row ≡ zero_row) → row_in d (structure d row ++ rest) ≡ row
  structure-row_in zero blank = sym (blank refl)
  structure-row_in (suc d) blank = take_at row rest 42 places

  structure-behind : (d : ℕ) → behind d (structure d row ++ rest) ≡ rest
  structure-behind zero = refl
  structure-behind (suc d) = drop_at row rest 42 places

  -- its fixed bytes are right, and the structures behind it decide
  structure-accepted : (at d : ℕ) (ds : List ℕ) → ((next : ℕ) → structures_verdict next (count ds) rest ≡ Accepted)
      → structures_verdict at (count (d ∷ ds)) (structure d row ++ rest) ≡ Accepted
  unfolding structure_verdict
  structure-accepted at zero ds more = more at
  structure-accepted at (suc d) ds more =
      ap (structures_verdict (at + 45) (count ds)) (drop_at row rest 42 places) ∙ more (at + 45)

laid-ahead : (x : SlotRow) (xs : List SlotRow) (rest : List ℕ) → structures (x ∷ xs) ++ rest ≡ structure (descriptor x.slot) x.row ++ (structures xs ++ rest)
laid-ahead x xs rest = append_assoc (structure (descriptor x.slot) x.row) (structures xs) rest

pub structures-accepted : (at : ℕ) (xs : List SlotRow) → Each LegalSlot xs → (rest : List ℕ) → structures_verdict at (count (descriptors_of xs)) (structures xs ++ rest) ≡ Accepted
structures-accepted at [] h rest = refl
structures-accepted at (x ∷ xs) h rest =
    let d = descriptor x.slot in
    ap (structures_verdict at (count (descriptors_of (x ∷ xs)))) (laid-ahead x xs rest)
    ∙ structure-accepted x.row (structures xs ++ rest) (legal-wide x h.0) at d (descriptors_of xs)
    (λ next. structures-accepted next xs h.1 rest)

pub structures-slots : (xs : List SlotRow) → Each LegalSlot xs → (rest : List ℕ) → slots_in (descriptors_of xs) (structures xs ++ rest) ≡ xs
structures-slots [] h rest = refl
structures-slots (x ∷ xs) h rest =
    let d = descriptor x.slot in
    let behindX = structures xs ++ rest in
    let places = legal-wide x h.0 in
    let row : row_in d (structure d x.row ++ behindX) ≡ x.row = structure-row_in x.row behindX places d (legal-zeros x h.0) in
    ap (slots_in (descriptors_of (x ∷ xs))) (laid-ahead x xs rest)
    ∙ ap₂ (λ (y : SlotRow) (ys : List SlotRow). y ∷ ys)
    (ap₂ together (descriptor-slot_of x h.0) row)
    (ap (slots_in (descriptors_of xs)) (structure-behind x.row behindX places d) ∙ structures-slots xs h.1 rest)

-- READ, THEN LAID

-- what reading the slots of these descriptors finds: legal slots, whose structures and the rest are the bytes
pub record Laid (ds u : List ℕ) : Type 0 where
  pub legal : Each LegalSlot (slots_in ds u)
  pub same : structures (slots_in ds u) ++ drop (45 * count ds) u ≡ u
  pub told : descriptors_of (slots_in ds u) ≡ ds

module _ (ds u : List ℕ) (more : Laid ds u) where
  laid-empty : Laid (0 ∷ ds) u
  unfolding slot_of
  laid-empty = record { legal = (inl refl, more.legal); same = more.same; told = ap (λ (xs : List ℕ). 0 ∷ xs) more.told }

module _ (d : ℕ) (ds u : List ℕ) (byte : suc d < 256) (bytes : Bytes u) (long : 45 + 45 * count ds ≤ length u) where
  full-legal : (item : ℕ) → line_verdict (Word item) (suc d % 32) ≡ Accepted → FullSlot (together (slot_of (suc d)) (take 42 (drop 3 u)))
  unfolding slot_of
  full-legal item line =
      let back : descriptor (slot_of (suc d)) ≡ suc d = slot_of-descriptor (suc d) byte in
      let fits : 42 ≤ length (drop 3 u) = omega (arith, length-drop 3 u) in
      record {
        mark = refl;
        line = accepted-line (Word item) (suc d % 32) line;
        reserved = omega arith;
        field = omega arith;
        some = omega (arith, back);
        places = length-take-le 42 (drop 3 u) fits;
        bytes = each_take (λ (b : ℕ). b < 256) 42 (drop 3 u) (each-drop (λ (b : ℕ). b < 256) 3 u bytes);
      }

begins : (at : ℕ) (u : List ℕ) → 3 ≤ length u → structure_verdict at u ≡ Accepted → u ≡ 0x55 ∷ 0x55 ∷ 0x27 ∷ drop 3 u
unfolding structure_verdict
begins at [] h e = let f : ⊥ = omega arith in absurd f
begins at (a ∷ []) h e = let f : ⊥ = omega arith in absurd f
begins at (a ∷ b ∷ []) h e = let f : ⊥ = omega arith in absurd f
begins at (a ∷ b ∷ c ∷ u) h e =
    let one = accepted-and_then _ _ e in
    let two = accepted-and_then _ _ one.1 in
    let three = accepted-and_then _ _ two.1 in
    let first : a ≡ 0x55 = accepted-equal a 0x55 _ _ one.0 in
    let second : b ≡ 0x55 = accepted-equal b 0x55 _ _ two.0 in
    let third : c ≡ 0x27 = accepted-equal c 0x27 _ _ three.0 in
    λ i. first i ∷ second i ∷ third i ∷ u

-- the structure of a descriptor that is not 0, and what stands behind it
module _ (d : ℕ) (ds u : List ℕ) (byte : suc d < 256) (bytes : Bytes u) (long : 45 + 45 * count ds ≤ length u) where
  laid-full : (at item : ℕ) → structure_verdict at u ≡ Accepted → line_verdict (Word item) (suc d % 32) ≡ Accepted → Laid ds (drop 45 u) → Laid (suc d ∷ ds) u
  laid-full at item fixed line more =
      let row = take 42 (drop 3 u) in
      let back : descriptor (slot_of (suc d)) ≡ suc d = slot_of-descriptor (suc d) byte in
      let three : 3 ≤ length u = omega arith in
      let far : 45 * count (suc d ∷ ds) ≡ 45 + 45 * count ds = omega arith in
      let rest : drop (45 * count (suc d ∷ ds)) u ≡ drop (45 * count ds) (drop 45 u) = ap (λ (k : ℕ). drop k u) far ∙ sym (drop-drop (45 * count ds) 45 u) in
      let tail : row ++ drop 45 u ≡ drop 3 u = ap (λ (r : List ℕ). row ++ r) (sym (drop-drop 42 3 u)) ∙ take-append-drop 42 (drop 3 u) in
      record {
        legal = (inr (full-legal d ds u byte bytes long item line), more.legal);
        same =
            ap₂ (λ (n : ℕ) (r : List ℕ). (structure n row ++ structures (slots_in ds (drop 45 u))) ++ r) back rest
            ∙ append_assoc (structure (suc d) row) (structures (slots_in ds (drop 45 u))) (drop (45 * count ds) (drop 45 u))
            ∙ ap (λ (r : List ℕ). structure (suc d) row ++ r) more.same
            ∙ ap (λ (r : List ℕ). 0x55 ∷ 0x55 ∷ 0x27 ∷ r) tail
            ∙ sym (begins at u three fixed);
        told = ap₂ (λ (x : ℕ) (xs : List ℕ). x ∷ xs) back more.told;
      }

pub structures-laid : (at item : ℕ) (ds u : List ℕ) → Bytes ds → Bytes u → descriptors_verdict item ds ≡ Accepted
    → structures_verdict at (count ds) u ≡ Accepted → 45 * count ds ≤ length u → Laid ds u
structures-laid at item [] u hd hu lines fixed long = record { legal = tt; same = refl; told = refl }
structures-laid at item (zero ∷ ds) u hd hu lines fixed long =
    laid-empty ds u (structures-laid at (suc item) ds u hd.1 hu (accepted-and_then (line_verdict (Word item) 0) (descriptors_verdict (suc item) ds) lines).1 fixed long)
structures-laid at item (suc d ∷ ds) u hd hu lines fixed long =
    let line = accepted-and_then (line_verdict (Word item) (suc d % 32)) (descriptors_verdict (suc item) ds) lines in
    let now = accepted-and_then (structure_verdict at u) (structures_verdict (at + 45) (count ds) (drop 45 u)) fixed in
    let far : 45 + 45 * count ds ≤ length u = omega arith in
    let left : 45 * count ds ≤ length (drop 45 u) = omega (arith, length-drop 45 u) in
    let more = structures-laid (at + 45) (suc item) ds (drop 45 u) hd.1 (each-drop (λ (b : ℕ). b < 256) 45 u hu) line.1 now.1 left in
    laid-full d ds u hd.0 hu far at item now.0 line.0 more
