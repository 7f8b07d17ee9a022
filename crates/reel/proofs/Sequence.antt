-- The definitions of a reel check in the order of RULES, and no refusal has a place to tell.
-- Assumes nothing.
use Prim.Native.Nat.{ℕ, ◌-◌}
use mathlib.Core.Path.{◌≡◌, ◌∙◌, ap, ap₂, refl, sym}
use mathlib.Core.Logic.{inl}
use mathlib.Core.List.{List, [], ◌∷◌}
use lib.Dec.{eqb, ltb}
use lib.ListN.{length}
use Rattle.refusal.specs.declared.Refusal.{Refusal}
use Rattle.refusal.specs.declared.Reason.TheVariants.{Unholdable}
use Rattle.refusal.specs.declared.Excess.TheVariants.{PayloadSize}
use Rattle.refusal.specs.declared.Item.TheVariants.{Whole}
use Rattle.refusal.specs.Verdict.{Verdict}
use Rattle.refusal.specs.declared.Written.{Written}
use Rattle.refusal.specs.Checks.{refuse_if, and_then, first}
use Rattle.refusal.specs.Numbers.{refusal_of}
use Rattle.refusal.proofs.Checks.{and_then-assoc, and_then-last}
use Rattle.refusal.proofs.Gives.{Gives, refuse_if-gives, and_then-gives, Unplaced, gives-unplaced}
use Rattle.refusal.proofs.Outputs.{wrote-refusal}
use Rattle.refusal.proofs.Sequence.{first-append}
use Rattle.line21.specs.declared.AccessUnit.{AccessUnit}
use Rattle.line21.specs.Value.{Line21, stored}
use Rattle.line21.specs.Layout.{layout}
use Rattle.line21.specs.Order.{writing_checks}
use Rattle.line21.proofs.Sequence.{writing-order}
use Rattle.line21.proofs.Unplaced.{value-unplaced}
use Rattle.reel.specs.Writing.{reel, size_verdict, reel_verdict, call_verdict, WritesReel}
use Rattle.reel.specs.Order.{each_payload, reel_checks}

payload-order : (vs : List Line21) (room : ℕ) → reel_verdict vs room ≡ first (each_payload vs room)
payload-order [] room = refl
payload-order (v ∷ vs) room =
    ap₂ and_then (writing-order (stored v) room) (payload-order vs (room - length (layout v)))
    ∙ sym (first-append (writing_checks (stored v) room) (each_payload vs (room - length (layout v))))

pub reel-order : (flags size : ℕ) (us : List AccessUnit) (room : ℕ) → call_verdict flags size us room ≡ first (reel_checks flags size us room)
unfolding size_verdict
reel-order flags size us room =
    let none = refuse_if (eqb size 0) (Unholdable PayloadSize) Whole in
    let above = refuse_if (ltb 291 size) (Unholdable PayloadSize) Whole in
    let rest = reel_verdict (reel flags size us) room in
    and_then-assoc none (first (above ∷ [])) rest
    ∙ ap (λ (v : Verdict). and_then none (and_then v rest)) (and_then-last above)
    ∙ ap (λ (v : Verdict). and_then none (and_then above v)) (payload-order (reel flags size us) room)

pub write-first : (flags size : ℕ) (us : List AccessUnit) (out : List ℕ) (r : Written) (exit : List ℕ) → WritesReel flags size us out r exit
    → r.refusal ≡ refusal_of (first (reel_checks flags size us (length out)))
write-first flags size us out r exit w = wrote-refusal _ _ _ _ _ w.wrote ∙ ap refusal_of (reel-order flags size us (length out))

reel-unplaced : (vs : List Line21) (room : ℕ) → Gives Unplaced (reel_verdict vs room)
reel-unplaced [] room = inl refl
reel-unplaced (v ∷ vs) room = and_then-gives Unplaced _ _ (value-unplaced (stored v) room) (reel-unplaced vs (room - length (layout v)))

size-unplaced : (size : ℕ) → Gives Unplaced (size_verdict size)
unfolding size_verdict
size-unplaced size =
    and_then-gives Unplaced _ _ (refuse_if-gives Unplaced (eqb size 0) (Unholdable PayloadSize) Whole refl)
    (and_then-gives Unplaced _ _ (refuse_if-gives Unplaced (ltb 291 size) (Unholdable PayloadSize) Whole refl) (inl refl))

pub write-place : (flags size : ℕ) (us : List AccessUnit) (out : List ℕ) (r : Written) (exit : List ℕ) → WritesReel flags size us out r exit
    → r.refusal.place ≡ 0
write-place flags size us out r exit w =
    ap (λ (x : Refusal). x.place) (wrote-refusal _ _ _ _ _ w.wrote)
    ∙ gives-unplaced (call_verdict flags size us (length out))
    (and_then-gives Unplaced _ _ (size-unplaced size) (reel-unplaced (reel flags size us) (length out)))
