-- The slots that a struct and its rows hold, as the loops of writing walk through them.
-- Assumes nothing.
use Prim.Native.Nat.{ℕ, zero, suc, ◌+◌, ◌*◌, ◌≤◌, ◌<◌}
use native.Mathlib.Omega.{arith}
use native.Mathlib.Numerals.{add-one}
use mathlib.Core.Path.{◌≡◌, ◌∙◌, ap, sym, refl}
use mathlib.Core.List.{List, [], ◌∷◌, map}
use borrow.Author.Tests.{le-ltb}
use lib.Dec.{ltb}
use lib.ListN.{length, drop, get_or, length-map}
use lib.Seq.{drop-cons}
use Rattle.refusal.specs.declared.Reason.TheVariants.{NoRoom}
use Rattle.refusal.specs.declared.Item.TheVariants.{Whole}
use Rattle.refusal.specs.Checks.{refuse_if, and_then}
use Rattle.refusal.proofs.Checks.{and_then-last}
use Rattle.sdp.specs.declared.Slot.{Slot}
use Rattle.sdp.specs.declared.Packet.{Packet}
use Rattle.sdp.specs.Value.{SlotRow, descriptor, empty_slot, together, beside, held, Typed}
use Rattle.sdp.specs.Layout.{count}
use Rattle.subtitling.specs.Layout.{layout}
use Rattle.sdp.specs.SlotVerdict.{slot_verdict, slots_verdict}
use Rattle.subtitling.specs.Writing.{value_verdict}
use Rattle.sdp.proofs.Numbers.{count_most, length-held, held-descriptors, held-shaped}
use Rattle.subtitling.proofs.Numbers.{length-shaped}

-- no slot and no row: what stands beyond the last
abbrev pub beyond : SlotRow
beyond = together empty_slot []

pub get_d_beside : (ss : List Slot) (rows : List (List ℕ)) (i : ℕ) → i < length ss → i < length rows
    → get_or (beside ss rows) i beyond ≡ together (get_or ss i empty_slot) (get_or rows i [])
get_d_beside [] rows i h g = let f : ⊥ = omega arith in absurd f
get_d_beside (s ∷ ss) [] i h g = let f : ⊥ = omega arith in absurd f
get_d_beside (s ∷ ss) (row ∷ rows) zero h g = refl
get_d_beside (s ∷ ss) (row ∷ rows) (suc i) h g =
    let inside : i < length ss = omega arith in
    let within : i < length rows = omega arith in
    get_d_beside ss rows i inside within

-- the slots from i on decide by the slot at i, then by those behind it
slots-from : (xs : List SlotRow) (i : ℕ) → i < length xs → slots_verdict (drop i xs) ≡ and_then (slot_verdict (get_or xs i beyond)) (slots_verdict (drop (i + 1) xs))
slots-from xs i h =
    ap slots_verdict (drop-cons xs i beyond h)
    ∙ ap (λ (k : ℕ). and_then (slot_verdict (get_or xs i beyond)) (slots_verdict (drop k xs))) (sym (add-one i))

module _ (p : Packet) (rows : List (List ℕ)) (t : Typed p rows) where
  pub held_at : (i : ℕ) → i < 5 → get_or (held p rows).slots i beyond ≡ together (get_or p.slots i empty_slot) (get_or rows i [])
  held_at i h =
      let inside : i < length p.slots = omega (arith, t.slots) in
      let within : i < length rows = omega (arith, t.five) in
      get_d_beside p.slots rows i inside within

  pub held-from : (i : ℕ) → i < 5
      → slots_verdict (drop i (held p rows).slots) ≡ and_then (slot_verdict (together (get_or p.slots i empty_slot) (get_or rows i []))) (slots_verdict (drop (i + 1) (held p rows).slots))
  held-from i h =
      let inside : i < length (held p rows).slots = omega (arith, length-held p rows t) in
      slots-from (held p rows).slots i inside
      ∙ ap (λ (x : SlotRow). and_then (slot_verdict x) (slots_verdict (drop (i + 1) (held p rows).slots))) (held_at i h)

  -- the layout is as long as the code counts
  pub length-layout-held : length (layout (held p rows)) ≡ 20 + 45 * count (map descriptor p.slots)
  length-layout-held = length-shaped (held p rows) (held-shaped p rows t) ∙ ap (λ (ds : List ℕ). 20 + 45 * count ds) (held-descriptors p rows t)

  pub few-structures : count (map descriptor p.slots) ≤ 5
  few-structures = omega (arith, count_most (map descriptor p.slots), length-map p.slots descriptor, t.slots)

  -- five structures are no longer than 245 words, so that 1 is never given on writing
  pub verdict-few : p.counter ≤ 65535 → (space : ℕ)
      → value_verdict (held p rows) space ≡ and_then (slots_verdict (held p rows).slots) (refuse_if (ltb space (20 + 45 * count (map descriptor p.slots))) NoRoom Whole)
  unfolding value_verdict
  verdict-few few space =
      let short : length (layout (held p rows)) ≤ 245 = omega (arith, length-layout-held, few-structures) in
      simp (le-ltb 65535 p.counter few, le-ltb 245 (length (layout (held p rows))) short, and_then-last)
      (ap (λ (n : ℕ). and_then (slots_verdict (held p rows).slots) (refuse_if (ltb space n) NoRoom Whole)) length-layout-held)
