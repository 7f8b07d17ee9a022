-- A value that is not legal is refused with 15 or 7 and place 0, whichever of its checks is first.
-- Assumes nothing.
use Prim.Native.Nat.{ℕ}
use mathlib.Core.Path.{◌≡◌, sym, subst, refl}
use mathlib.Core.Logic.{◌⊎◌, inl, inr}
use mathlib.Core.Bool.{◌&&◌, ◌||◌}
use mathlib.Core.List.{List, [], ◌∷◌}
use lib.Dec.{ltb}
use lib.ListN.{length}
use Rattle.refusal.specs.declared.Refusal.{Refusal}
use Rattle.refusal.specs.Verdict.{Verdict}
use Rattle.refusal.specs.Verdict.{Accepted}
use Rattle.refusal.specs.declared.Reason.TheVariants.{DescriptorLine, Unholdable}
use Rattle.refusal.specs.declared.Excess.TheVariants.{Counter, SlotMark, SlotLine, SlotReserved, SlotField, SlotUnwritable}
use Rattle.refusal.specs.declared.Item.TheVariants.{Whole}
use Rattle.refusal.specs.Numbers.{refusal_of}
use Rattle.refusal.specs.Answers.{refused}
use Rattle.refusal.specs.Checks.{refuse_if, and_then, first, fit_verdict}
use Rattle.refusal.proofs.Checks.{accepted-and_then, and_then-assoc, accepted-within}
use Rattle.refusal.proofs.Gives.{Gives, refuse_if-gives, and_then-gives, each-gives, refused-gives}
use Rattle.sdp.specs.declared.Packet.{Packet}
use Rattle.sdp.specs.Value.{SlotRow, Sdp, Typed, Legal, descriptor, held}
use Rattle.subtitling.specs.Layout.{layout}
use Rattle.sdp.specs.User.{line_verdict}
use Rattle.sdp.specs.SlotVerdict.{all_zero, unwritable, slot_verdict, slots_verdict}
use Rattle.subtitling.specs.Writing.{value_verdict}
use Rattle.sdp.proofs.Numbers.{checked-legal}

abbrev pub Is15or7 : Refusal → Type 0
Is15or7 r = (r ≡ refused 15 0) ⊎ (r ≡ refused 7 0)

pub slot-gives : (x : SlotRow) → Gives Is15or7 (slot_verdict x)
unfolding slot_verdict line_verdict
slot-gives x =
    let s = x.slot in
    and_then-gives Is15or7 _ _ (refuse_if-gives Is15or7 (ltb 1 s.full) (Unholdable SlotMark) Whole (inl refl))
    (and_then-gives Is15or7 _ _ (refuse_if-gives Is15or7 (ltb 31 s.line) (Unholdable SlotLine) Whole (inl refl))
    (and_then-gives Is15or7 _ _ (refuse_if-gives Is15or7 (ltb 3 s.reserved) (Unholdable SlotReserved) Whole (inl refl))
    (and_then-gives Is15or7 _ _ (refuse_if-gives Is15or7 (ltb 1 s.field.0) (Unholdable SlotField) Whole (inl refl))
    (and_then-gives Is15or7 _ _ (refuse_if-gives Is15or7 (unwritable s.full (descriptor s) (all_zero x.row)) (Unholdable SlotUnwritable) Whole (inl refl))
    (and_then-gives Is15or7 _ _ (refuse_if-gives Is15or7 (ltb 0 s.line && (ltb s.line 6 || ltb 22 s.line)) DescriptorLine Whole (inr refl)) (inl refl))))))

-- the checks of the value come before the length of the result and the room
abbrev counted : Sdp → Verdict
counted v = refuse_if (ltb 65535 v.counter) (Unholdable Counter) Whole

abbrev rest : Sdp → ℕ → Verdict
rest v room = first (fit_verdict 245 (length (layout v)) room ∷ [])

value-first : (v : Sdp) (room : ℕ) → value_verdict v room ≡ and_then (and_then (counted v) (slots_verdict v.slots)) (rest v room)
unfolding value_verdict
value-first v room = sym (and_then-assoc (counted v) (slots_verdict v.slots) (rest v room))

value-gives : (v : Sdp) → Gives Is15or7 (and_then (counted v) (slots_verdict v.slots))
value-gives v =
    and_then-gives Is15or7 _ _ (refuse_if-gives Is15or7 (ltb 65535 v.counter) (Unholdable Counter) Whole (inl refl))
    (each-gives Is15or7 slot_verdict slot-gives v.slots)

pub illegal-15-or-7 : (p : Packet) (rows : List (List ℕ)) (room : ℕ) → Typed p rows → (Legal (held p rows) → ⊥)
    → (refusal_of (value_verdict (held p rows) room) ≡ refused 15 0) ⊎ (refusal_of (value_verdict (held p rows) room) ≡ refused 7 0)
illegal-15-or-7 p rows room t h =
    let v = held p rows in
    let refuses : and_then (counted v) (slots_verdict v.slots) ≡ Accepted → ⊥ =
    λ e.
    let both = accepted-and_then (counted v) (slots_verdict v.slots) e in
    h (checked-legal p rows t (accepted-within 65535 p.counter _ _ both.0) both.1) in
    subst (λ (verdict : Verdict). Is15or7 (refusal_of verdict)) (sym (value-first v room))
    (refused-gives Is15or7 (and_then (counted v) (slots_verdict v.slots)) (rest v room) (value-gives v) refuses)
