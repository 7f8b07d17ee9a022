-- The lines of the full slots: which are let through, and that a line that is not is refused with 7.
-- Assumes nothing.
use Prim.Native.Nat.{ℕ, zero, suc, ◌≤◌, ◌<◌}
use native.Mathlib.Omega.{arith}
use mathlib.Core.Path.{◌≡◌, ap, refl}
use mathlib.Core.Logic.{◌↔◌, inl, inr, ⊎_elim}
use mathlib.Core.List.{List, [], ◌∷◌}
use lib.ListN.{get_or}
use Rattle.lists.specs.Each.{Each}
use Rattle.lists.proofs.Each.{each-of, each_at}
use Rattle.refusal.specs.declared.Refusal.{Refusal}
use Rattle.refusal.specs.Verdict.{Verdict}
use Rattle.refusal.specs.Verdict.{Accepted}
use Rattle.refusal.specs.declared.Reason.TheVariants.{UnitLine}
use Rattle.refusal.specs.declared.Item.TheVariants.{Whole}
use Rattle.refusal.specs.Checks.{first, outside}
use Rattle.refusal.specs.Answers.{refused}
use Rattle.refusal.proofs.Checks.{accepted-and_then, and_then-accepted}
use Rattle.refusal.proofs.Gives.{Gives, refuse_if-gives, and_then-gives}
use Rattle.sdp.specs.Value.{SlotRow, Sdp, Legal, LegalSlot, empty_row, LegalLine as PacketLine}
use Rattle.pes.specs.Value.{LegalLine}
use Rattle.pes.specs.Order.{line_check}
use Rattle.pes.specs.Reading.{line_verdict}
use Rattle.pes.proofs.Unit.{accepted-line, line-accepted}
use Rattle.pes_convert.specs.Converting.{if_full, lines_checks}
use Rattle.pes_convert.specs.Order.{LineCarried}

check-line : (l : ℕ) → line_check Whole l ≡ Accepted → LegalLine l
unfolding line_verdict
check-line l e = accepted-line Whole l e

line-check : (l : ℕ) → LegalLine l → line_check Whole l ≡ Accepted
unfolding line_verdict
line-check l h = line-accepted Whole l h

-- by a slot's mark
if-first : (mark : ℕ) (check : Verdict) (rest : List Verdict) → (mark ≡ 1 → check ≡ Accepted) → mark ≤ 1 → first rest ≡ Accepted
    → first (if_full mark check rest) ≡ Accepted
if-first zero check rest h small e = e
if-first (suc mark) check rest h small e = and_then-accepted check (first rest) (h (omega arith)) e

first-if : (mark : ℕ) (check : Verdict) (rest : List Verdict) → first (if_full mark check rest) ≡ Accepted
    → (mark ≡ 1 → check ≡ Accepted) × (first rest ≡ Accepted)
first-if zero check rest e = ((λ one. let f : ⊥ = omega arith in absurd f), e)
first-if (suc mark) check rest e = let both = accepted-and_then check (first rest) e in ((λ one. both.0), both.1)

-- they are let through exactly where each can be carried
pub lines-accepted : (xs : List SlotRow) → Each LegalSlot xs → Each LineCarried xs → first (lines_checks xs) ≡ Accepted
lines-accepted [] h lines = refl
lines-accepted (x ∷ xs) h lines =
    let small : x.slot.full ≤ 1 = ⊎_elim (λ e. omega (arith, ap (λ (y : SlotRow). y.slot.full) e)) (λ full. omega (arith, full.mark)) h.0 in
    if-first x.slot.full (line_check Whole x.slot.line) (lines_checks xs) (λ one. line-check x.slot.line (lines.0 one)) small
    (lines-accepted xs h.1 lines.1)

pub accepted-lines : (xs : List SlotRow) → first (lines_checks xs) ≡ Accepted → Each LineCarried xs
accepted-lines [] e = tt
accepted-lines (x ∷ xs) e =
    let both = first-if x.slot.full (line_check Whole x.slot.line) (lines_checks xs) e in
    ((λ one. check-line x.slot.line (both.0 one)), accepted-lines xs both.1)

-- and what they refuse with is 7
abbrev pub Is7 : Refusal → Type 0
Is7 r = r ≡ refused 7 0

gives-if : (mark : ℕ) (check : Verdict) (rest : List Verdict) → Gives Is7 check → Gives Is7 (first rest) → Gives Is7 (first (if_full mark check rest))
gives-if zero check rest g h = h
gives-if (suc mark) check rest g h = and_then-gives Is7 check (first rest) g h

pub lines-gives : (xs : List SlotRow) → Gives Is7 (first (lines_checks xs))
lines-gives [] = inl refl
lines-gives (x ∷ xs) =
    gives-if x.slot.full (line_check Whole x.slot.line) (lines_checks xs) (refuse_if-gives Is7 (outside 7 x.slot.line) UnitLine Whole refl) (lines-gives xs)

-- LINE 6

-- of the lines that a packet may have, only 6 is none of a data unit
packet-line : (l : ℕ) → PacketLine l → (l ≡ 6 → ⊥) → LegalLine l
packet-line l h other = ⊎_elim (λ e. inl e) (λ w. inr (omega (arith, w.0, w.1, other), w.1)) h

no_six : (l : ℕ) → LegalLine l → l ≡ 6 → ⊥
no_six l h e = ⊎_elim (λ none. omega (arith, none, e)) (λ w. omega (arith, w.0, e)) h

slot-line : (x : SlotRow) → LegalSlot x → (x.slot.full ≡ 1 → x.slot.line ≡ 6 → ⊥) → LineCarried x
slot-line x h other one =
    ⊎_elim (λ empty. inl (ap (λ (y : SlotRow). y.slot.line) empty)) (λ full. packet-line x.slot.line full.line (other one)) h

pub line-6-only : (v : Sdp) → Legal v
    → Each LineCarried v.slots
    ↔ ((i : ℕ) → i < 5 → (get_or v.slots i empty_row).slot.full ≡ 1 → (get_or v.slots i empty_row).slot.line ≡ 6 → ⊥)
line-6-only v h = (
  λ lines i below one six.
      no_six _ (each_at LineCarried empty_row v.slots lines i (omega (arith, below, h.five)) one) six,
  λ other.
      each-of LineCarried empty_row v.slots
      (λ i below. slot-line _ (each_at LegalSlot empty_row v.slots h.each i below) (other i (omega (arith, below, h.five)))),
)
