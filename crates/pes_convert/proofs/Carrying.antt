-- The conversion of a legal value: only a line and the room can refuse it, and what is written reads as its full slots.
-- Assumes nothing.
use Prim.Native.Nat.{ℕ, ◌≤◌, ◌<◌}
use mathlib.Core.Path.{◌≡◌, ◌∙◌, ap, ap₂, subst, refl}
use mathlib.Core.Logic.{◌↔◌}
use mathlib.Core.List.{List, [], ◌∷◌}
use borrow.Author.Tests.{lt-ltb, le-ltb}
use lib.Dec.{ltb}
use lib.ListN.{length, take}
use Rattle.lists.specs.Each.{Each}
use Rattle.lists.specs.Room.{over}
use Rattle.lists.proofs.Lay.{take-over}
use Rattle.refusal.specs.Verdict.{Verdict}
use Rattle.refusal.specs.Verdict.{Accepted}
use Rattle.refusal.specs.declared.Reason.TheVariants.{NoRoom}
use Rattle.refusal.specs.declared.Item.TheVariants.{Whole}
use Rattle.refusal.specs.declared.Written.{Written}
use Rattle.refusal.specs.Checks.{refuse_if, first}
use Rattle.refusal.specs.Numbers.{refusal_of}
use Rattle.refusal.specs.Answers.{accepted, refused, written, Wrote}
use Rattle.refusal.proofs.Checks.{accepted-and_then, and_then-accepted, accepted-within, refuse_if-accepted}
use Rattle.refusal.proofs.Gives.{refused-gives}
use Rattle.refusal.proofs.Outputs.{wrote-refusal, wrote-accepted, accepted-wrote, success-left}
use Rattle.sdp.specs.Value.{Sdp, Legal}
use Rattle.pes.specs.declared.Head.{Head}
use Rattle.pes.specs.Value.{stored}
use Rattle.pes.specs.Layout.{layout}
use Rattle.pes.specs.Lent.{units_bytes, ReadsInto}
use Rattle.pes.proofs.Accepting.{the-answer}
use Rattle.pes_convert.specs.Converting.{full_units, converted, lines_checks, convert_verdict}
use Rattle.pes_convert.specs.Order.{LineCarried}
use Rattle.pes_convert.proofs.Units.{converted-legal}
use Rattle.pes_convert.proofs.Lines.{Is7, lines-accepted, accepted-lines, lines-gives}

-- what is asked of a value that was accepted
abbrev room_check : Sdp → ℕ → Verdict
room_check v room = refuse_if (ltb room (length (layout (converted v)))) NoRoom Whole

accepted-both : (v : Sdp) (room : ℕ) → convert_verdict Accepted v room ≡ Accepted → Each LineCarried v.slots × (length (layout (converted v)) ≤ room)
unfolding convert_verdict
accepted-both v room e =
    let both = accepted-and_then (first (lines_checks v.slots)) (first (room_check v room ∷ [])) e in
    (accepted-lines v.slots both.0, accepted-within room _ NoRoom Whole (accepted-and_then (room_check v room) Accepted both.1).0)

both-accepted : (v : Sdp) (room : ℕ) → Legal v → Each LineCarried v.slots → length (layout (converted v)) ≤ room → convert_verdict Accepted v room ≡ Accepted
unfolding convert_verdict
both-accepted v room h lines fits =
    and_then-accepted (first (lines_checks v.slots)) (first (room_check v room ∷ [])) (lines-accepted v.slots h.each lines)
    (and_then-accepted (room_check v room) Accepted (refuse_if-accepted _ NoRoom Whole (le-ltb room _ fits)) refl)

line-told : (v : Sdp) (room : ℕ) → (Each LineCarried v.slots → ⊥) → refusal_of (convert_verdict Accepted v room) ≡ refused 7 0
unfolding convert_verdict
line-told v room h =
    refused-gives Is7 (first (lines_checks v.slots)) (first (room_check v room ∷ [])) (lines-gives v.slots) (λ e. h (accepted-lines v.slots e))

room-told : (v : Sdp) (room : ℕ) → Legal v → Each LineCarried v.slots → room < length (layout (converted v))
    → refusal_of (convert_verdict Accepted v room) ≡ refused 14 0
unfolding convert_verdict
room-told v room h lines short = simp (lines-accepted v.slots h.each lines, lt-ltb room (length (layout (converted v))) short)

module _ (v : Sdp) (h : Legal v) (out : List ℕ) (r : Written) (exit : List ℕ)
    (w : Wrote (convert_verdict Accepted v (length out)) (layout (converted v)) out r exit) where
  pub carried-exactly : r.refusal.number ≡ 0 ↔ (Each LineCarried v.slots × (length (layout (converted v)) ≤ length out))
  carried-exactly = (
    λ e. accepted-both v (length out) (wrote-accepted _ _ _ _ _ w e),
    λ both. accepted-wrote _ _ _ _ _ w (both-accepted v (length out) h both.0 both.1),
  )

  pub line_refused : (Each LineCarried v.slots → ⊥) → r.refusal ≡ refused 7 0
  line_refused none = wrote-refusal _ _ _ _ _ w ∙ line-told v (length out) none

  pub no-room-refused : Each LineCarried v.slots → length out < length (layout (converted v)) → r.refusal ≡ refused 14 0
  no-room-refused lines short = wrote-refusal _ _ _ _ _ w ∙ room-told v (length out) h lines short

  module _ (e : r.refusal.number ≡ 0) where
    pub front : (r ≡ written (length (layout (converted v)))) × (exit ≡ over (layout (converted v)) out)
    front = success-left _ _ _ _ _ w (wrote-accepted _ _ _ _ _ w e)

    pub reads : (lent : List ℕ) (a : Head) (end : List ℕ) → ReadsInto (take r.len exit) lent a end
        → (a ≡ record { refusal = accepted; data_identifier = 0x10; n = length (full_units v.slots) })
        × (end ≡ units_bytes (stored (converted v)).units)
    reads lent a end read =
        let laid = layout (converted v) in
        let bytes : take r.len exit ≡ laid =
        ap₂ (λ (k : ℕ) (s : List ℕ). take k s) (ap (λ (x : Written). x.len) front.0) front.1 ∙ take-over laid out (length laid) refl in
        the-answer (converted v) (converted-legal v h (carried-exactly.0 e).0) lent a end (subst (λ (s : List ℕ). ReadsInto s lent a end) bytes read)
