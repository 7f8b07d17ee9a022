-- A slot that passes each check, in whatever order they are made, is accepted; and a legal slot is marked as its descriptor says.
-- Assumes nothing.
use Prim.Native.Nat.{ℕ, ◌≤◌}
use native.Mathlib.Omega.{arith}
use mathlib.Core.Path.{◌≡◌, ◌∙◌, ap, sym}
use mathlib.Core.Logic.{inl, ⊎_elim}
use mathlib.Core.Bool.{true, false}
use borrow.Author.Tests.{le-ltb, eq-eqb, ne_eqb}
use Rattle.refusal.specs.Verdict.{Accepted}
use Rattle.refusal.specs.declared.Item.TheVariants.{Whole}
use Rattle.sdp.specs.Value.{SlotRow, LegalLine, LegalSlot, descriptor}
use Rattle.sdp.specs.User.{mark_of}
use Rattle.sdp.specs.SlotVerdict.{all_zero, unwritable, slot_verdict}
use Rattle.sdp.proofs.Slots.{line-accepted, legal-below, mark-some}

module _ (x : SlotRow) where
  passes : x.slot.full ≤ 1 → x.slot.reserved ≤ 3 → x.slot.field.0 ≤ 1 → LegalLine x.slot.line
      → unwritable x.slot.full (descriptor x.slot) (all_zero x.row) ≡ false → slot_verdict x ≡ Accepted
  unfolding slot_verdict
  passes full reserved field legal writable =
      let s = x.slot in
      let line : s.line ≤ 31 = omega (arith, legal-below s.line legal) in
      simp (
        le-ltb 1 s.full full,
        le-ltb 31 s.line line,
        le-ltb 3 s.reserved reserved,
        le-ltb 1 s.field.0 field,
        writable,
        line-accepted Whole s.line legal,
      )

  -- an empty slot,
  pub empty-passes : x.slot.full ≡ 0 → descriptor x.slot ≡ 0 → all_zero x.row ≡ true → slot_verdict x ≡ Accepted
  empty-passes full nought blank =
      let s = x.slot in
      let line : s.line ≡ 0 = omega arith in
      passes (omega arith) (omega arith) (omega arith) (inl line)
      (ap (λ (mark : ℕ). unwritable mark (descriptor s) (all_zero x.row)) full ∙ simp (eq-eqb (descriptor s) 0 nought, blank))

  -- and a full one
  pub full-passes : (x.slot.full ≡ 0 → ⊥) → x.slot.full ≤ 1 → x.slot.reserved ≤ 3 → x.slot.field.0 ≤ 1 → LegalLine x.slot.line
      → (descriptor x.slot ≡ 0 → ⊥) → slot_verdict x ≡ Accepted
  full-passes full most reserved field legal some =
      let s = x.slot in
      let one : s.full ≡ 1 = omega (arith, full) in
      passes most reserved field legal (ap (λ (mark : ℕ). unwritable mark (descriptor s) (all_zero x.row)) one ∙ ne_eqb (descriptor s) 0 some)

  -- a legal slot is marked as its descriptor says
  pub legal-mark : LegalSlot x → x.slot.full ≡ mark_of (descriptor x.slot)
  legal-mark h =
      ⊎_elim
      (λ e. ap (λ (y : SlotRow). y.slot.full) e ∙ sym (ap (λ (y : SlotRow). mark_of (descriptor y.slot)) e))
      (λ full. full.mark ∙ sym (mark-some (descriptor x.slot) (λ e. omega (arith, full.some))))
      h

-- for a function's tactics
pub ruleset passing = (empty-passes, full-passes)
