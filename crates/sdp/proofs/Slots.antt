-- A slot and its descriptor: each legal slot has a descriptor of one byte that tells all its numbers.
-- Assumes nothing.
use Prim.Native.Nat.{ℕ, zero, suc, ◌+◌, ◌*◌, ◌/◌, ◌%◌, ◌<◌}
use native.Mathlib.Omega.{arith}
use mathlib.Core.Path.{◌≡◌, ◌∙◌, ap, sym, subst, refl}
use mathlib.Core.Logic.{inl, ⊎_elim}
use mathlib.Core.List.{List, [], ◌∷◌}
use Rattle.lists.specs.Each.{Each}
use Rattle.lists.specs.Bytes.{Bytes}
use Rattle.refusal.specs.Verdict.{Accepted}
use Rattle.refusal.specs.declared.Item.{Item}
use Rattle.refusal.specs.declared.Item.TheVariants.{Word}
use Rattle.refusal.proofs.Checks.{accepted-refuse_if, refuse_if-accepted, and_then-accepted}
use Rattle.refusal.proofs.Lines.{not-outside, among-inside}
use Rattle.sdp.specs.Value.{SlotRow, descriptor, empty_slot, LegalLine, FullSlot, LegalSlot}
use Rattle.sdp.specs.Layout.{descriptors_of}
use Rattle.sdp.specs.User.{line_verdict, descriptors_verdict, mark_of, slot_of}

-- the check of a line lets through exactly 0 and 6 to 22
pub accepted-line : (item : Item) (l : ℕ) → line_verdict item l ≡ Accepted → LegalLine l
unfolding line_verdict
accepted-line item l e = not-outside 6 l (accepted-refuse_if _ _ _ e)

pub line-accepted : (item : Item) (l : ℕ) → LegalLine l → line_verdict item l ≡ Accepted
unfolding line_verdict
line-accepted item l h = refuse_if-accepted _ _ _ (among-inside 6 l h)

pub legal-below : (l : ℕ) → LegalLine l → l < 32
legal-below l h = ⊎_elim (λ e. omega arith) (λ w. omega (arith, w.1)) h

-- a byte is the descriptor of the slot that it tells of
pub slot_of-descriptor : (d : ℕ) → d < 256 → descriptor (slot_of d) ≡ d
unfolding slot_of
slot_of-descriptor d h = omega arith

pub mark-some : (d : ℕ) → (d ≡ 0 → ⊥) → mark_of d ≡ 1
mark-some zero h = absurd (h refl)
mark-some (suc d) h = refl

-- for a function's tactics
pub ruleset marks = (mark-some)

-- and a legal slot is what its descriptor tells of
full-slot_of : (x : SlotRow) → FullSlot x → slot_of (descriptor x.slot) ≡ x.slot
unfolding slot_of
full-slot_of x h =
    let s = x.slot in
    let below : s.line < 32 = legal-below s.line h.line in
    let two = h.field in
    let four = h.reserved in
    let mark : mark_of (descriptor s) ≡ s.full = mark-some (descriptor s) (λ e. omega (arith, h.some)) ∙ sym h.mark in
    let line : descriptor s % 32 ≡ s.line = omega arith in
    let upper : descriptor s / 32 ≡ s.reserved + 4 * s.field.0 = omega arith in
    let lower : (s.reserved + 4 * s.field.0) % 4 ≡ s.reserved = omega arith in
    let reserved : descriptor s / 32 % 4 ≡ s.reserved = ap (λ (n : ℕ). n % 4) upper ∙ lower in
    let field : descriptor s / 128 ≡ s.field.0 = omega arith in
    λ i. record { full = mark i; line = line i; reserved = reserved i; field = record { 0 = field i } }

empty-slot_of : slot_of 0 ≡ empty_slot
unfolding slot_of
empty-slot_of = refl

pub descriptor-slot_of : (x : SlotRow) → LegalSlot x → slot_of (descriptor x.slot) ≡ x.slot
descriptor-slot_of x h = ⊎_elim (λ e. subst (λ (y : SlotRow). slot_of (descriptor y.slot) ≡ y.slot) (sym e) empty-slot_of) (full-slot_of x) h

pub descriptor-below : (x : SlotRow) → LegalSlot x → descriptor x.slot < 256
descriptor-below x h =
    ⊎_elim (λ e. subst (λ (y : SlotRow). descriptor y.slot < 256) (sym e) (omega arith)) (λ full. one full) h
  where
    one : FullSlot x → descriptor x.slot < 256
    one full =
        let below : x.slot.line < 32 = legal-below x.slot.line full.line in
        omega (arith, full.reserved, full.field)

pub descriptors-below : (xs : List SlotRow) → Each LegalSlot xs → Bytes (descriptors_of xs)
descriptors-below [] h = tt
descriptors-below (x ∷ xs) h = (descriptor-below x h.0, descriptors-below xs h.1)

legal-line : (x : SlotRow) → LegalSlot x → LegalLine (descriptor x.slot % 32)
legal-line x h = ⊎_elim (λ e. subst (λ (y : SlotRow). LegalLine (descriptor y.slot % 32)) (sym e) (inl refl)) (λ full. one full) h
  where
    one : FullSlot x → LegalLine (descriptor x.slot % 32)
    one full =
        let below : x.slot.line < 32 = legal-below x.slot.line full.line in
        let line : descriptor x.slot % 32 ≡ x.slot.line = omega arith in
        subst LegalLine (sym line) full.line

pub lines-accepted : (at : ℕ) (xs : List SlotRow) → Each LegalSlot xs → descriptors_verdict at (descriptors_of xs) ≡ Accepted
lines-accepted at [] h = refl
lines-accepted at (x ∷ xs) h =
    and_then-accepted _ _ (line-accepted (Word at) (descriptor x.slot % 32) (legal-line x h.0)) (lines-accepted (suc at) xs h.1)
