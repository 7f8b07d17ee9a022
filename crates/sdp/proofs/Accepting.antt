-- The rules accept exactly the user bytes of legal values, and the checks of a slot exactly the legal slots.
-- Assumes nothing.
use Prim.Native.Nat.{ℕ}
use native.Mathlib.Omega.{arith}
use mathlib.Core.Path.{◌≡◌, ◌∙◌, ap, sym, subst}
use mathlib.Core.Logic.{◌↔◌, ⊎_elim}
use mathlib.Core.List.{List}
use Rattle.lists.specs.Bytes.{Bytes}
use Rattle.refusal.specs.Verdict.{Accepted}
use Rattle.refusal.proofs.Checks.{accepted-and_then}
use Rattle.sdp.specs.Value.{SlotRow, Sdp, FullSlot, LegalSlot, Legal, Row, descriptor, together}
use Rattle.sdp.specs.Layout.{user_bytes}
use Rattle.sdp.specs.User.{head_verdict, tail_verdict, user_verdict, user_value}
use Rattle.sdp.specs.SlotVerdict.{slot_verdict}
use Rattle.sdp.proofs.Numbers.{accepted-slot, slot-accepted}
use Rattle.sdp.proofs.Accepted.{accepted-head, accepted-tail}
use Rattle.sdp.proofs.Rules.{Users, user-accepted, user-value, user-back}

users : (dc : ℕ) (u : List ℕ) → Bytes u → user_verdict dc u ≡ Accepted → Users u
users dc u bytes e =
    let both = accepted-and_then (head_verdict dc u) (tail_verdict dc u) e in
    user-back dc u bytes (accepted-head dc u both.0) (accepted-tail dc u both.1)

pub accepted-exactly : (dc : ℕ) (u : List ℕ) → Bytes u
    → user_verdict dc u ≡ Accepted ↔ ((v : Sdp) × Legal v × (user_bytes v ≡ u))
accepted-exactly dc u bytes = (
  λ e. let back = users dc u bytes e in (user_value u, back.legal, back.same),
  λ w. subst (λ (t : List ℕ). user_verdict dc t ≡ Accepted) w.2 (user-accepted w.0 w.1 dc),
)

-- legality asks of a full slot's row that it is 42 bytes, and no more
pub any-row : (x : SlotRow) (row : List ℕ) → Row row → FullSlot x → FullSlot (together x.slot row)
any-row x row r h =
    record {
      mark = h.mark;
      line = h.line;
      reserved = h.reserved;
      field = h.field;
      some = h.some;
      places = r.0;
      bytes = r.1;
    }

pub only_one : (v w : Sdp) → Legal v → Legal w → user_bytes v ≡ user_bytes w → v ≡ w
only_one v w hv hw e = sym (user-value v hv) ∙ ap user_value e ∙ user-value w hw

pub empty-exactly : (x : SlotRow) → LegalSlot x → (x.slot.full ≡ 0) ↔ (descriptor x.slot ≡ 0)
empty-exactly x h = (
  λ e. ⊎_elim (λ same. ap (λ (y : SlotRow). descriptor y.slot) same) (λ full. let f : ⊥ = omega (arith, full.mark) in absurd f) h,
  λ e. ⊎_elim (λ same. ap (λ (y : SlotRow). y.slot.full) same) (λ full. let f : ⊥ = omega (arith, full.some) in absurd f) h,
)

pub slot-exactly : (x : SlotRow) → Row x.row → slot_verdict x ≡ Accepted ↔ LegalSlot x
slot-exactly x row = (accepted-slot x row, slot-accepted x)
