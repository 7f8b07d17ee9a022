-- Of the slots that are written, the first that does not pass decides: with 15 or 7.
-- Assumes nothing.
use Prim.Native.Nat.{ℕ}
use native.Mathlib.Omega.{arith}
use mathlib.Core.Path.{◌≡◌, ◌∙◌, ap}
use mathlib.Core.List.{List}
use lib.ListN.{length}
use Rattle.refusal.specs.declared.Written.{Written}
use Rattle.refusal.specs.Verdict.{Accepted}
use Rattle.refusal.specs.Numbers.{refusal_of}
use Rattle.refusal.specs.Answers.{refused}
use Rattle.refusal.proofs.Acceptance.{told-refused}
use Rattle.refusal.proofs.Outputs.{wrote-refusal}
use Rattle.sdp.specs.declared.Packet.{Packet}
use Rattle.sdp.specs.Value.{SlotRow, held}
use Rattle.sdp.specs.SlotVerdict.{slot_verdict}
use Rattle.sdp.specs.SlotFaults.{Holdable, Unwritable, NoLine}
use Rattle.sdp.proofs.Fifteen as fifteen
use Rattle.subtitling.specs.Writing.{Writes}
use Rattle.subtitling.specs.Order.{Reached}
use Rattle.subtitling.proofs.Sequence.{slot_next, slot_row}

module _ (p : Packet) (rows : List (List ℕ)) (out : List ℕ) (r : Written) (exit : List ℕ) (w : Writes p rows out r exit)
    (x : SlotRow) (at : Reached (held p rows) x) where
  pub slot-decides : (slot_verdict x ≡ Accepted → ⊥) → r.refusal ≡ refusal_of (slot_verdict x)
  slot-decides refuses = wrote-refusal _ _ _ _ _ w.wrote ∙ ap refusal_of (slot_next (held p rows) (length out) x at refuses)

  pub slot-15 : (Holdable x → ⊥) → r.refusal ≡ refused 15 0
  slot-15 h = let told = (fifteen.slot-15 x).1 h in slot-decides (told-refused (slot_verdict x) 15 0 (omega arith) told) ∙ told

  pub unwritable-15 : Unwritable x → r.refusal ≡ refused 15 0
  unwritable-15 h = slot-15 ((fifteen.slot-15 x).0 (fifteen.unwritable-15 x (slot_row p rows w.typed x at) h))

  pub slot-7 : Holdable x → NoLine x.slot.line → r.refusal ≡ refused 7 0
  slot-7 h none = let told = (fifteen.slot-7 x).1 (h, none) in slot-decides (told-refused (slot_verdict x) 7 0 (omega arith) told) ∙ told
