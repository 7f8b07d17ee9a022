-- Which of 15 and 7 a slot that is written gets.
-- Assumes nothing.
use Prim.Native.Nat.{ℕ, ◌-◌, ◌≤◌}
use native.Mathlib.Nat.{eq-zero-or-pos}
use native.Mathlib.Omega.{arith}
use mathlib.Core.Path.{◌≡◌, ◌∙◌, ap, sym, subst, refl}
use mathlib.Core.Logic.{◌⊎◌, inl, inr, ⊎_elim, ◌↔◌}
use mathlib.Core.Bool.{Bool, true, false, not, ◌&&◌, ◌||◌, true≢false}
use mathlib.Core.List.{[], ◌∷◌}
use borrow.Author.Tests.{le-ltb, lt-ltb, eq-eqb, eqb-true}
use lib.Dec.{eqb, ltb}
use Rattle.refusal.specs.declared.Refusal.{Refusal}
use Rattle.refusal.specs.Verdict.{Verdict}
use Rattle.refusal.specs.Verdict.{Accepted, Refused}
use Rattle.refusal.specs.declared.Reason.TheVariants.{Unholdable, DescriptorLine}
use Rattle.refusal.specs.declared.Excess.TheVariants.{SlotMark, SlotLine, SlotReserved, SlotField, SlotUnwritable}
use Rattle.refusal.specs.declared.Item.TheVariants.{Whole}
use Rattle.refusal.specs.Numbers.{refusal_of}
use Rattle.refusal.specs.Answers.{refused}
use Rattle.refusal.specs.Checks.{refuse_if, and_then, first}
use Rattle.refusal.proofs.Checks.{accepted-refuse_if, accepted-within, accepted-and_then, and_then-assoc, and_then-last}
use Rattle.refusal.proofs.Gives.{Gives, refuse_if-gives, and_then-gives, refused-gives}
use Rattle.sdp.specs.Value.{SlotRow, descriptor, empty_row, LegalLine, Row}
use Rattle.sdp.specs.User.{line_verdict}
use Rattle.sdp.specs.SlotVerdict.{all_zero, unwritable, slot_verdict}
use Rattle.sdp.specs.SlotFaults.{Holdable, Unwritable, NoLine}
use Rattle.sdp.proofs.Slots.{line-accepted}
use Rattle.sdp.proofs.Numbers.{accepted-slot}

abbrev is : ℕ → Refusal → Type 0
is number r = r ≡ refused number 0

other : {P : Type 0} (v : Verdict) (a b : ℕ) → (a ≡ b → ⊥) → is a (refusal_of v) → is b (refusal_of v) → P
other v a b h p q = absurd (h (ap (λ (r : Refusal). r.number) (sym p ∙ q)))

-- the checks before the last
numbers : SlotRow → Verdict
numbers x =
    first
    (refuse_if (ltb 1 x.slot.full) (Unholdable SlotMark) Whole
    ∷ refuse_if (ltb 31 x.slot.line) (Unholdable SlotLine) Whole
    ∷ refuse_if (ltb 3 x.slot.reserved) (Unholdable SlotReserved) Whole
    ∷ refuse_if (ltb 1 x.slot.field.0) (Unholdable SlotField) Whole
    ∷ refuse_if (unwritable x.slot.full (descriptor x.slot) (all_zero x.row)) (Unholdable SlotUnwritable) Whole
    ∷ [])

slot-split : (x : SlotRow) → slot_verdict x ≡ and_then (numbers x) (line_verdict Whole x.slot.line)
unfolding slot_verdict numbers
slot-split x = simp (and_then-assoc, and_then-last)

accepted-holdable : (x : SlotRow) → numbers x ≡ Accepted → Holdable x
unfolding numbers
accepted-holdable x e =
    let mark = accepted-and_then _ _ e in
    let line = accepted-and_then _ _ mark.1 in
    let reserved = accepted-and_then _ _ line.1 in
    let field = accepted-and_then _ _ reserved.1 in
    let writable = accepted-and_then _ _ field.1 in
    record {
      mark = accepted-within 1 x.slot.full _ _ mark.0;
      line = accepted-within 31 x.slot.line _ _ line.0;
      reserved = accepted-within 3 x.slot.reserved _ _ reserved.0;
      field = accepted-within 1 x.slot.field.0 _ _ field.0;
      writable = accepted-refuse_if _ _ _ writable.0;
    }

holdable-accepted : (x : SlotRow) → Holdable x → numbers x ≡ Accepted
unfolding numbers
holdable-accepted x h =
    simp (le-ltb 1 x.slot.full h.mark, le-ltb 31 x.slot.line h.line, le-ltb 3 x.slot.reserved h.reserved, le-ltb 1 x.slot.field.0 h.field, h.writable)

-- where they accept, the line decides
holdable-line : (x : SlotRow) → Holdable x → slot_verdict x ≡ line_verdict Whole x.slot.line
holdable-line x h = slot-split x ∙ ap (λ (v : Verdict). and_then v (line_verdict Whole x.slot.line)) (holdable-accepted x h)

numbers-15 : (x : SlotRow) → Gives (is 15) (numbers x)
unfolding numbers
numbers-15 x =
    and_then-gives (is 15) _ _ (refuse_if-gives (is 15) (ltb 1 x.slot.full) (Unholdable SlotMark) Whole refl)
    (and_then-gives (is 15) _ _ (refuse_if-gives (is 15) (ltb 31 x.slot.line) (Unholdable SlotLine) Whole refl)
    (and_then-gives (is 15) _ _ (refuse_if-gives (is 15) (ltb 3 x.slot.reserved) (Unholdable SlotReserved) Whole refl)
    (and_then-gives (is 15) _ _ (refuse_if-gives (is 15) (ltb 1 x.slot.field.0) (Unholdable SlotField) Whole refl)
    (and_then-gives (is 15) _ _ (refuse_if-gives (is 15) (unwritable x.slot.full (descriptor x.slot) (all_zero x.row)) (Unholdable SlotUnwritable) Whole refl) (inl refl)))))

-- the line's check: 7 where the line is none, else accepted
line_7 : (l : ℕ) → NoLine l → line_verdict Whole l ≡ Refused DescriptorLine Whole
unfolding line_verdict
line_7 l h = ⊎_elim low high h
  where
    low : (1 ≤ l) × (l ≤ 5) → refuse_if (ltb 0 l && (ltb l 6 || ltb 22 l)) DescriptorLine Whole ≡ Refused DescriptorLine Whole
    low w = simp (lt-ltb 0 l w.0, lt-ltb l 6 (omega (arith, w.1)))

    high : (23 ≤ l) × (l ≤ 31) → refuse_if (ltb 0 l && (ltb l 6 || ltb 22 l)) DescriptorLine Whole ≡ Refused DescriptorLine Whole
    high w = simp (lt-ltb 0 l (omega (arith, w.0)), le-ltb l 6 (omega (arith, w.0)), lt-ltb 22 l w.0)

pub line-or-none : (l : ℕ) → l ≤ 31 → LegalLine l ⊎ NoLine l
line-or-none l h = ⊎_elim (λ e. low (omega arith)) (λ p. ⊎_elim (λ e. inl (inr (omega arith, omega arith))) (λ q. inr (inr (omega arith, h))) (eq-zero-or-pos (l - 22))) (eq-zero-or-pos (l - 5))
  where
    low : l ≤ 5 → LegalLine l ⊎ NoLine l
    low few = ⊎_elim (λ e. inl (inl e)) (λ some. inr (inl (some, few))) (eq-zero-or-pos l)

-- 15 exactly where a number cannot be held or the slot is unwritable,
pub slot-15 : (x : SlotRow) → refusal_of (slot_verdict x) ≡ refused 15 0 ↔ (Holdable x → ⊥)
slot-15 x = (
  λ e h. ⊎_elim (λ legal. accepts e h legal) (λ none. seven e h none) (line-or-none x.slot.line h.line),
  λ h. subst (λ (v : Verdict). is 15 (refusal_of v)) (sym (slot-split x)) (refused-gives (is 15) (numbers x) (line_verdict Whole x.slot.line) (numbers-15 x) (λ e. h (accepted-holdable x e))),
)
  where
    accepts : refusal_of (slot_verdict x) ≡ refused 15 0 → Holdable x → LegalLine x.slot.line → ⊥
    accepts e h legal = other (slot_verdict x) 15 0 (λ z. omega arith) e (ap refusal_of (holdable-line x h ∙ line-accepted Whole x.slot.line legal))

    seven : refusal_of (slot_verdict x) ≡ refused 15 0 → Holdable x → NoLine x.slot.line → ⊥
    seven e h none = other (slot_verdict x) 15 7 (λ z. omega arith) e (ap refusal_of (holdable-line x h ∙ line_7 x.slot.line none))

-- and else 7 exactly where its line is 1 to 5 or 23 to 31
pub slot-7 : (x : SlotRow) → refusal_of (slot_verdict x) ≡ refused 7 0 ↔ (Holdable x × NoLine x.slot.line)
slot-7 x = (
  λ e. let h = holdable e in (h, ⊎_elim (λ legal. accepts e h legal) (λ none. none) (line-or-none x.slot.line h.line)),
  λ w. ap refusal_of (holdable-line x w.0 ∙ line_7 x.slot.line w.1),
)
  where
    refuses : is 15 (refusal_of (numbers x)) → numbers x ≡ Accepted → ⊥
    refuses p e = other (numbers x) 15 0 (λ z. omega arith) p (ap refusal_of e)

    holdable : refusal_of (slot_verdict x) ≡ refused 7 0 → Holdable x
    holdable e =
        ⊎_elim (accepted-holdable x)
        (λ p. other (slot_verdict x) 7 15 (λ z. omega arith) e ((slot-15 x).1 (λ h. refuses p (holdable-accepted x h)))) (numbers-15 x)

    accepts : {P : Type 0} → refusal_of (slot_verdict x) ≡ refused 7 0 → Holdable x → LegalLine x.slot.line → P
    accepts e h legal = other (slot_verdict x) 7 0 (λ z. omega arith) e (ap refusal_of (holdable-line x h ∙ line-accepted Whole x.slot.line legal))

both_true : (a b : Bool) → not (a && b) ≡ false → a ≡ true
both_true true b e = refl
both_true false b e = absurd (true≢false e)

-- an unwritable slot gives 15
pub unwritable-15 : (x : SlotRow) → Row x.row → Unwritable x → refusal_of (slot_verdict x) ≡ refused 15 0
unwritable-15 x row w = (slot-15 x).1 (λ h. ⊎_elim (full h) (empty h) w)
  where
    full : Holdable x → (x.slot.full ≡ 1) × (descriptor x.slot ≡ 0) → ⊥
    full h both =
        true≢false (sym (ap (λ (mark : ℕ). unwritable mark (descriptor x.slot) (all_zero x.row)) both.0 ∙ eq-eqb (descriptor x.slot) 0 both.1) ∙ h.writable)

    empty : Holdable x → (x.slot.full ≡ 0) × (x ≡ empty_row → ⊥) → ⊥
    empty h both =
        let none : not (eqb (descriptor x.slot) 0 && all_zero x.row) ≡ false =
        sym (ap (λ (mark : ℕ). unwritable mark (descriptor x.slot) (all_zero x.row)) both.0) ∙ h.writable in
        let nought : descriptor x.slot ≡ 0 = eqb-true (descriptor x.slot) 0 (both_true (eqb (descriptor x.slot) 0) (all_zero x.row) none) in
        let line : x.slot.line ≡ 0 = omega arith in
        ⊎_elim both.1 (λ slot. omega (arith, slot.mark, both.0)) (accepted-slot x row (holdable-line x h ∙ line-accepted Whole x.slot.line (inl line)))
