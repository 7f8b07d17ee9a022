-- A value that is not legal is refused with 15 and place 0, whichever of its numbers is first.
-- Assumes nothing.
use Prim.Native.Nat.{ℕ}
use mathlib.Core.Path.{◌≡◌, ◌∙◌, ap, sym, refl}
use mathlib.Core.Logic.{inl}
use mathlib.Core.List.{[], ◌∷◌}
use lib.Dec.{ltb}
use lib.ListN.{length}
use Rattle.refusal.specs.declared.Refusal.{Refusal}
use Rattle.refusal.specs.Verdict.{Verdict}
use Rattle.refusal.specs.Verdict.{Accepted}
use Rattle.refusal.specs.declared.Reason.TheVariants.{Unholdable}
use Rattle.refusal.specs.declared.Excess.TheVariants.{Count, CcValid, Padding}
use Rattle.refusal.specs.declared.Item.TheVariants.{Whole}
use Rattle.refusal.specs.Numbers.{refusal_of}
use Rattle.refusal.specs.Answers.{refused}
use Rattle.refusal.specs.Checks.{refuse_if, and_then, first, fit_verdict}
use Rattle.refusal.proofs.Checks.{accepted-and_then, and_then-assoc, accepted-within}
use Rattle.refusal.proofs.Gives.{Gives, refuse_if-gives, and_then-gives, each-gives, refused-gives}
use Rattle.line21.specs.declared.AccessUnit.{AccessUnit}
use Rattle.line21.specs.declared.Payload.{Payload}
use Rattle.line21.specs.Value.{LegalPayload, Typed, held}
use Rattle.line21.specs.Layout.{layout}
use Rattle.line21.specs.Writing.{unit_verdict, units_verdict, value_verdict}
use Rattle.line21.proofs.Numbers.{checked-legal}

abbrev pub Is15 : Refusal → Type 0
Is15 r = r ≡ refused 15 0

pub unit-15 : (u : AccessUnit) → Gives Is15 (unit_verdict u)
unfolding unit_verdict
unit-15 u =
    and_then-gives Is15 _ _ (refuse_if-gives Is15 (ltb 1 u.cc_valid_1) (Unholdable CcValid) Whole refl)
    (and_then-gives Is15 _ _ (refuse_if-gives Is15 (ltb 1 u.cc_valid_2) (Unholdable CcValid) Whole refl)
    (and_then-gives Is15 _ _ (refuse_if-gives Is15 (ltb 63 u.padding) (Unholdable Padding) Whole refl) (inl refl)))

-- the numbers of the value come before the length of the result and the room
numbers : Payload → Verdict
numbers p = and_then (refuse_if (ltb 291 p.m) (Unholdable Count) Whole) (units_verdict (held p).units)

rest : Payload → ℕ → Verdict
rest p room = first (fit_verdict 1456 (length (layout (held p))) room ∷ [])

numbers-first : (p : Payload) (room : ℕ) → value_verdict p room ≡ and_then (numbers p) (rest p room)
unfolding value_verdict numbers rest
numbers-first p room = sym (and_then-assoc (refuse_if (ltb 291 p.m) (Unholdable Count) Whole) (units_verdict (held p).units) _)

numbers-15 : (p : Payload) → Gives Is15 (numbers p)
unfolding numbers
numbers-15 p =
    and_then-gives Is15 _ _ (refuse_if-gives Is15 (ltb 291 p.m) (Unholdable Count) Whole refl) (each-gives Is15 unit_verdict unit-15 (held p).units)

numbers-legal : (p : Payload) → Typed p → numbers p ≡ Accepted → LegalPayload p
unfolding numbers
numbers-legal p t e =
    let both = accepted-and_then (refuse_if (ltb 291 p.m) (Unholdable Count) Whole) (units_verdict (held p).units) e in
    checked-legal p t (accepted-within 291 p.m _ _ both.0) both.1

pub illegal-15 : (p : Payload) (room : ℕ) → Typed p → (LegalPayload p → ⊥) → refusal_of (value_verdict p room) ≡ refused 15 0
illegal-15 p room t h =
    ap refusal_of (numbers-first p room) ∙ refused-gives Is15 (numbers p) (rest p room) (numbers-15 p) (λ e. h (numbers-legal p t e))
