-- What a writer's answer tells.
-- Assumes nothing.
use Prim.Native.Nat.{ℕ, ◌/◌, ◌≤◌, ◌<◌}
use native.Mathlib.Omega.{arith}
use mathlib.Core.Path.{◌≡◌, ◌∙◌, ap, sym, subst, refl}
use mathlib.Core.Logic.{◌⊎◌, ◌↔◌, inl, inr, ⊎_elim}
use mathlib.Core.Bool.{Bool, not}
use mathlib.Core.List.{List}
use borrow.Author.Tests.{lt-ltb}
use lib.Dec.{eqb, ltb}
use lib.ListN.{length}
use Rattle.lists.specs.Room.{over}
use Rattle.refusal.specs.declared.Refusal.{Refusal}
use Rattle.refusal.specs.Verdict.{Verdict}
use Rattle.refusal.specs.declared.Reason.TheVariants.{NoRoom, Unholdable, UnitLine}
use Rattle.refusal.specs.declared.Excess.TheVariants.{Count, DataIdentifier, DataUnitId, FieldParity, LineOffset}
use Rattle.refusal.specs.declared.Item.TheVariants.{Whole}
use Rattle.refusal.specs.declared.Written.{Written}
use Rattle.refusal.specs.Checks.{refuse_if, and_then, first, outside}
use Rattle.refusal.specs.Numbers.{refusal_of}
use Rattle.refusal.specs.Answers.{refused, written}
use Rattle.refusal.proofs.Gives.{Gives, refuse_if-gives, and_then-gives, each-gives, all-gives, refused-gives, gives_as, Unplaced, refused-unplaced, gives-unplaced}
use Rattle.refusal.proofs.Outputs.{wrote-refusal, wrote-accepted, accepted-wrote, success-left, refusal-left}
use Rattle.pes.specs.Value.{DataUnit, teletext, stuffing, Told, LegalTold, held}
use Rattle.pes.specs.Layout.{layout}
use Rattle.pes.specs.Order.{teletext_id, written_checks, writing_checks}
use Rattle.pes.specs.Writing.{written_verdict, value_verdict, Writes}
use Rattle.pes.proofs.Writable.{own, room_check, value-own, value-units, accepted-value, value-accepted, own_writable, writable-legal, legal-writable}

pub writing-order : (t : Told) (room : ℕ) → value_verdict t room ≡ first (writing_checks t room)
unfolding value_verdict
writing-order t room = refl

-- 15 or 7, of a value that cannot be written
abbrev Illegal : Refusal → Type 0
Illegal r = (r ≡ refused 15 0) ⊎ (r ≡ refused 7 0)

unit-illegal : (x : DataUnit) → Gives Illegal (written_verdict x)
unfolding written_verdict
unit-illegal (teletext t) =
    let id = refuse_if-gives Illegal (not (teletext_id t.data_unit_id)) (Unholdable DataUnitId) Whole (inl refl) in
    let parity = refuse_if-gives Illegal (ltb 1 t.field_parity) (Unholdable FieldParity) Whole (inl refl) in
    let high = refuse_if-gives Illegal (ltb 31 t.line_offset) (Unholdable LineOffset) Whole (inl refl) in
    let line = refuse_if-gives Illegal (outside 7 t.line_offset) UnitLine Whole (inr refl) in
    all-gives Illegal (written_checks (teletext t)) (id, (parity, (high, (line, tt))))
unit-illegal (stuffing bytes) = inl refl

-- and the value's own checks
own-illegal : (t : Told) (room : ℕ) → Gives Illegal (first (own t room))
own-illegal t room =
    let identifier = refuse_if-gives Illegal (not (eqb (t.data_identifier / 16) 1)) (Unholdable DataIdentifier) Whole (inl refl) in
    let count = refuse_if-gives Illegal (ltb 31 t.n) (Unholdable Count) Whole (inl refl) in
    all-gives Illegal (own t room) (identifier, (count, (each-gives Illegal written_verdict unit-illegal (held t).units, tt)))

illegal-unplaced : (r : Refusal) → Illegal r → Unplaced r
illegal-unplaced r h = ⊎_elim (refused-unplaced 15 r) (refused-unplaced 7 r) h

module _ (t : Told) (out : List ℕ) (r : Written) (exit : List ℕ) (writes : Writes t out r exit) where
  abbrev verdict : Verdict
  verdict = value_verdict t (length out)

  abbrev laid : List ℕ
  laid = layout (held t)

  told : r.refusal ≡ refusal_of verdict
  told = wrote-refusal verdict laid out r exit writes.wrote

  pub writes-exactly : r.refusal.number ≡ 0 ↔ (LegalTold t × (length laid ≤ length out))
  writes-exactly = (
    λ e.
        let h = accepted-value t (length out) (wrote-accepted verdict laid out r exit writes.wrote e) in
        (writable-legal t (length out) writes.typed h, h.fits),
    λ w. accepted-wrote verdict laid out r exit writes.wrote (value-accepted t (length out) (legal-writable t (length out) w.0 w.1)),
  )

  pub written-front : r.refusal.number ≡ 0 → (r ≡ written (length laid)) × (exit ≡ over laid out)
  written-front e = success-left verdict laid out r exit writes.wrote (wrote-accepted verdict laid out r exit writes.wrote e)

  pub write-first : r.refusal ≡ refusal_of (first (writing_checks t (length out)))
  write-first = told ∙ ap refusal_of (writing-order t (length out))

  pub refused-untouched : (r.refusal.number ≡ 0 → ⊥) → (r.len ≡ 0) × (exit ≡ out)
  refused-untouched h = refusal-left verdict laid out r exit writes.wrote h

  pub illegal-refused : (LegalTold t → ⊥) → (r.refusal ≡ refused 15 0) ⊎ (r.refusal ≡ refused 7 0)
  illegal-refused h =
      subst Illegal (sym (told ∙ ap refusal_of (value-own t (length out))))
      (refused-gives Illegal (first (own t (length out))) (room_check t (length out)) (own-illegal t (length out))
      (λ e. h (writable-legal t (length laid) writes.typed (own_writable t (length laid) e (omega arith)))))

  pub no-room-refused : LegalTold t → length out < length laid → r.refusal ≡ refused 14 0
  no-room-refused h short =
      let writable = legal-writable t (length laid) h (omega arith) in
      told
      ∙ ap refusal_of (value-units t (length out) writable.identifier writable.few)
      ∙ ap (λ (v : Verdict). refusal_of (and_then v (room_check t (length out)))) writable.units
      ∙ ap (λ (k : Bool). refusal_of (refuse_if k NoRoom Whole)) (lt-ltb (length out) (length laid) short)

  pub write-place : r.refusal.place ≡ 0
  write-place =
      ap (λ (x : Refusal). x.place) told
      ∙ gives-unplaced verdict
      (subst (Gives Unplaced) (sym (value-own t (length out)))
      (and_then-gives Unplaced _ _ (gives_as Illegal Unplaced illegal-unplaced _ (own-illegal t (length out))) (refuse_if-gives Unplaced (ltb (length out) (length laid)) NoRoom Whole refl)))
