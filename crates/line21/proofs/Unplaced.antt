-- Writing a payload tells place 0, whatever it answers.
-- Assumes nothing.
use Prim.Native.Nat.{ℕ}
use mathlib.Core.Path.{◌≡◌, ◌∙◌, ap, refl}
use mathlib.Core.Logic.{inl}
use mathlib.Core.List.{List}
use lib.Dec.{ltb}
use lib.ListN.{length}
use Rattle.refusal.specs.declared.Refusal.{Refusal}
use Rattle.refusal.specs.declared.Written.{Written}
use Rattle.refusal.specs.declared.Reason.TheVariants.{Unholdable}
use Rattle.refusal.specs.declared.Excess.TheVariants.{Count}
use Rattle.refusal.specs.declared.Item.TheVariants.{Whole}
use Rattle.refusal.proofs.Gives.{Gives, refuse_if-gives, and_then-gives, each-gives, gives_as, Unplaced, refused-unplaced, fit-unplaced, gives-unplaced}
use Rattle.refusal.proofs.Outputs.{wrote-refusal}
use Rattle.line21.specs.declared.AccessUnit.{AccessUnit}
use Rattle.line21.specs.declared.Payload.{Payload}
use Rattle.line21.specs.Value.{held}
use Rattle.line21.specs.Layout.{layout}
use Rattle.line21.specs.Writing.{unit_verdict, value_verdict, Writes}
use Rattle.line21.proofs.Fifteen.{Is15, unit-15}

unit-unplaced : (u : AccessUnit) → Gives Unplaced (unit_verdict u)
unit-unplaced u = gives_as Is15 Unplaced (refused-unplaced 15) (unit_verdict u) (unit-15 u)

pub value-unplaced : (p : Payload) (room : ℕ) → Gives Unplaced (value_verdict p room)
unfolding value_verdict
value-unplaced p room =
    and_then-gives Unplaced _ _ (refuse_if-gives Unplaced (ltb 291 p.m) (Unholdable Count) Whole refl)
    (and_then-gives Unplaced _ _ (each-gives Unplaced unit_verdict unit-unplaced (held p).units)
    (and_then-gives Unplaced _ _ (fit-unplaced 1456 (length (layout (held p))) room) (inl refl)))

pub write-place : (p : Payload) (out : List ℕ) (r : Written) (exit : List ℕ) → Writes p out r exit
    → r.refusal.place ≡ 0
write-place p out r exit w =
    ap (λ (x : Refusal). x.place) (wrote-refusal _ _ _ _ _ w.wrote) ∙ gives-unplaced (value_verdict p (length out)) (value-unplaced p (length out))
