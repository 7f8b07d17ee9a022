-- Writing a packet tells place 0, whatever it answers.
-- Assumes nothing.
use Prim.Native.Nat.{ℕ}
use mathlib.Core.Path.{◌≡◌, ◌∙◌, ap, refl}
use mathlib.Core.Logic.{inl, ⊎_elim}
use mathlib.Core.List.{List}
use lib.Dec.{ltb}
use lib.ListN.{length}
use Rattle.refusal.specs.declared.Refusal.{Refusal}
use Rattle.refusal.specs.declared.Written.{Written}
use Rattle.refusal.specs.declared.Reason.TheVariants.{Unholdable}
use Rattle.refusal.specs.declared.Excess.TheVariants.{Counter}
use Rattle.refusal.specs.declared.Item.TheVariants.{Whole}
use Rattle.refusal.proofs.Gives.{Gives, refuse_if-gives, and_then-gives, each-gives, gives_as, Unplaced, refused-unplaced, fit-unplaced, gives-unplaced}
use Rattle.refusal.proofs.Outputs.{wrote-refusal}
use Rattle.sdp.specs.declared.Packet.{Packet}
use Rattle.sdp.specs.Value.{SlotRow, Sdp, held}
use Rattle.sdp.specs.SlotVerdict.{slot_verdict}
use Rattle.subtitling.specs.Layout.{layout}
use Rattle.subtitling.specs.Writing.{value_verdict, Writes}
use Rattle.subtitling.proofs.Illegal.{Is15or7, slot-gives}

slot-unplaced : (x : SlotRow) → Gives Unplaced (slot_verdict x)
slot-unplaced x = gives_as Is15or7 Unplaced (λ r h. ⊎_elim (refused-unplaced 15 r) (refused-unplaced 7 r) h) (slot_verdict x) (slot-gives x)

value-unplaced : (v : Sdp) (room : ℕ) → Gives Unplaced (value_verdict v room)
unfolding value_verdict
value-unplaced v room =
    and_then-gives Unplaced _ _ (refuse_if-gives Unplaced (ltb 65535 v.counter) (Unholdable Counter) Whole refl)
    (and_then-gives Unplaced _ _ (each-gives Unplaced slot_verdict slot-unplaced v.slots)
    (and_then-gives Unplaced _ _ (fit-unplaced 245 (length (layout v)) room) (inl refl)))

pub write-place : (p : Packet) (rows : List (List ℕ)) (out : List ℕ) (r : Written) (exit : List ℕ)
    → Writes p rows out r exit → r.refusal.place ≡ 0
write-place p rows out r exit w =
    let verdict = value_verdict (held p rows) (length out) in
    ap (λ (x : Refusal). x.place) (wrote-refusal _ _ _ _ _ w.wrote) ∙ gives-unplaced verdict (value-unplaced (held p rows) (length out))
