-- What the checks of writing let through: legal slots. And how long their user bytes are.
-- Assumes nothing.
use Prim.Native.Nat.{ℕ, zero, suc, ◌+◌, ◌*◌, ◌≤◌}
use native.Mathlib.Omega.{arith}
use mathlib.Core.Path.{◌≡◌, ◌∙◌, ap, sym, refl}
use mathlib.Core.Logic.{inl, inr, ⊎_elim}
use mathlib.Core.Bool.{true, false, not, ◌&&◌, true≢false}
use mathlib.Core.List.{List, [], ◌∷◌, map}
use borrow.Author.Tests.{le-ltb, eqb-true, eqb-false, ne_eqb, not-false}
use lib.Dec.{eqb}
use lib.ListN.{length, replicate, length-append, length-map}
use Rattle.lists.specs.Each.{Each}
use Rattle.lists.proofs.Each.{each_map, each_both}
use Rattle.refusal.specs.Verdict.{Accepted}
use Rattle.refusal.specs.declared.Item.TheVariants.{Whole}
use Rattle.refusal.proofs.Checks.{accepted-refuse_if, both_hold, accepted-and_then, accepted-each, each-accepted, accepted-within}
use Rattle.sdp.specs.declared.Slot.{Slot}
use Rattle.sdp.specs.declared.Packet.{Packet}
use Rattle.sdp.specs.Value.{SlotRow, Sdp, descriptor, zero_row, together, empty_row, LegalLine, FullSlot, LegalSlot, Legal, beside, held, Row, Typed}
use Rattle.sdp.specs.Layout.{descriptors_of, count, structure, structures, user_length, body, user_bytes}
use Rattle.sdp.specs.User.{line_verdict}
use Rattle.sdp.specs.SlotVerdict.{all_zero, unwritable, slot_verdict, slots_verdict}
use Rattle.sdp.proofs.Slots.{accepted-line, line-accepted, legal-below}

-- ONE SLOT

all-zero : (row : List ℕ) → all_zero row ≡ true → row ≡ replicate (length row) 0
all-zero [] e = refl
all-zero (zero ∷ row) e = ap (λ (r : List ℕ). 0 ∷ r) (all-zero row e)
all-zero (suc b ∷ row) e = absurd (true≢false (sym e))

-- the numbers that the checks before the last two let through
record Small (s : Slot) : Type 0 where
  full : s.full ≤ 1
  line : s.line ≤ 31
  reserved : s.reserved ≤ 3
  field : s.field.0 ≤ 1

module _ (x : SlotRow) (typed : Row x.row) (small : Small x.slot) (legal : LegalLine x.slot.line) where
  legal-none : x.slot.full ≡ 0 → not (eqb (descriptor x.slot) 0 && all_zero x.row) ≡ false → LegalSlot x
  legal-none none e =
      let s = x.slot in
      let both = both_hold (eqb (descriptor s) 0) (all_zero x.row) (not-false _ e) in
      let nought : descriptor s ≡ 0 = eqb-true (descriptor s) 0 both.0 in
      let line : s.line ≡ 0 = omega arith in
      let reserved : s.reserved ≡ 0 = omega arith in
      let field : s.field.0 ≡ 0 = omega arith in
      let row : x.row ≡ zero_row = all-zero x.row both.1 ∙ ap (λ (n : ℕ). replicate n 0) typed.0 in
      inl (λ i. together (record { full = none i; line = line i; reserved = reserved i; field = record { 0 = field i } }) (row i))

  legal-some : (m : ℕ) → x.slot.full ≡ suc m → eqb (descriptor x.slot) 0 ≡ false → LegalSlot x
  legal-some m some e =
      let s = x.slot in
      let other = eqb-false (descriptor s) 0 e in
      inr
      (record {
        mark = omega (arith, small.full);
        line = legal;
        reserved = omega (arith, small.reserved);
        field = omega (arith, small.field);
        some = omega (arith, other);
        places = typed.0;
        bytes = typed.1;
      })

  legal-marked : (mark : ℕ) → x.slot.full ≡ mark → unwritable mark (descriptor x.slot) (all_zero x.row) ≡ false → LegalSlot x
  legal-marked zero e h = legal-none e h
  legal-marked (suc m) e h = legal-some m e h

pub accepted-slot : (x : SlotRow) → Row x.row → slot_verdict x ≡ Accepted → LegalSlot x
unfolding slot_verdict
accepted-slot x typed e =
    let s = x.slot in
    let full = accepted-and_then _ _ e in
    let line = accepted-and_then _ _ full.1 in
    let reserved = accepted-and_then _ _ line.1 in
    let field = accepted-and_then _ _ reserved.1 in
    let writable = accepted-and_then _ _ field.1 in
    let legal = accepted-and_then _ _ writable.1 in
    let small : Small s =
    record {
      full = accepted-within 1 s.full _ _ full.0;
      line = accepted-within 31 s.line _ _ line.0;
      reserved = accepted-within 3 s.reserved _ _ reserved.0;
      field = accepted-within 1 s.field.0 _ _ field.0;
    } in
    legal-marked x typed small (accepted-line Whole s.line legal.0) s.full refl (accepted-refuse_if _ _ _ writable.0)

empty-accepted : slot_verdict empty_row ≡ Accepted
unfolding slot_verdict line_verdict
empty-accepted = refl

full-writable : (x : SlotRow) → FullSlot x → unwritable x.slot.full (descriptor x.slot) (all_zero x.row) ≡ false
full-writable x h =
    let some : descriptor x.slot ≡ 0 → ⊥ = λ e. omega (arith, h.some) in
    ap (λ (mark : ℕ). unwritable mark (descriptor x.slot) (all_zero x.row)) h.mark ∙ ne_eqb (descriptor x.slot) 0 some

full-accepted : (x : SlotRow) → FullSlot x → slot_verdict x ≡ Accepted
unfolding slot_verdict
full-accepted x h =
    let s = x.slot in
    let full : s.full ≤ 1 = omega (arith, h.mark) in
    let line : s.line ≤ 31 = omega (arith, legal-below s.line h.line) in
    let reserved : s.reserved ≤ 3 = omega (arith, h.reserved) in
    let field : s.field.0 ≤ 1 = omega (arith, h.field) in
    simp (
      le-ltb 1 s.full full,
      le-ltb 31 s.line line,
      le-ltb 3 s.reserved reserved,
      le-ltb 1 s.field.0 field,
      full-writable x h,
      line-accepted Whole s.line h.line,
    )

pub slot-accepted : (x : SlotRow) → LegalSlot x → slot_verdict x ≡ Accepted
slot-accepted x h = ⊎_elim (λ e. ap slot_verdict e ∙ empty-accepted) (full-accepted x) h

-- THE SLOTS

abbrev Passes : SlotRow → Type 0
Passes x = slot_verdict x ≡ Accepted

abbrev pub RowSlot : SlotRow → Type 0
RowSlot x = Row x.row

pub slots-accepted : (xs : List SlotRow) → Each LegalSlot xs → slots_verdict xs ≡ Accepted
slots-accepted xs h = each-accepted slot_verdict xs (each_map LegalSlot Passes slot-accepted xs h)

pub accepted-slots : (xs : List SlotRow) → Each RowSlot xs → slots_verdict xs ≡ Accepted → Each LegalSlot xs
accepted-slots xs h e = each_both RowSlot Passes LegalSlot accepted-slot xs h (accepted-each slot_verdict xs e)

-- LENGTHS

pub count_most : (ds : List ℕ) → count ds ≤ length ds
count_most [] = omega arith
count_most (zero ∷ ds) = omega (arith, count_most ds)
count_most (suc d ∷ ds) = omega (arith, count_most ds)

-- five slots, of which each has 42 bytes
abbrev pub Wide : SlotRow → Type 0
Wide x = length x.row ≡ 42

pub record Shaped (v : Sdp) : Type 0 where
  pub five : length v.slots ≡ 5
  pub wide : Each Wide v.slots

pub legal-wide : (x : SlotRow) → LegalSlot x → Wide x
legal-wide x h = ⊎_elim (λ e. ap (λ (y : SlotRow). length y.row) e) (λ full. full.places) h

pub legal-shaped : (v : Sdp) → Legal v → Shaped v
legal-shaped v h = record { five = h.five; wide = each_map LegalSlot Wide legal-wide v.slots h.each }

length-structure : (d : ℕ) (ds row : List ℕ) → length row ≡ 42 → length (structure d row) + 45 * count ds ≡ 45 * count (d ∷ ds)
length-structure zero ds row h = omega arith
length-structure (suc d) ds row h = omega arith

pub length-wide : (xs : List SlotRow) → Each Wide xs → length (structures xs) ≡ 45 * count (descriptors_of xs)
length-wide [] h = refl
length-wide (x ∷ xs) h =
    length-append (structure (descriptor x.slot) x.row) (structures xs)
    ∙ ap (λ (n : ℕ). length (structure (descriptor x.slot) x.row) + n) (length-wide xs h.1)
    ∙ length-structure (descriptor x.slot) (descriptors_of xs) x.row h.0

pub length-structures : (xs : List SlotRow) → Each LegalSlot xs → length (structures xs) ≡ 45 * count (descriptors_of xs)
length-structures xs h = length-wide xs (each_map LegalSlot Wide legal-wide xs h)

module _ (v : Sdp) (h : Shaped v) where
  length-body : length (body v) ≡ 12 + 45 * count (descriptors_of v.slots)
  length-body =
      let ds = descriptors_of v.slots in
      let five : length ds ≡ 5 = length-map v.slots (λ (x : SlotRow). descriptor x.slot) ∙ h.five in
      simp length-append (omega (arith, length-wide v.slots h.wide))

  pub length-user-shaped : length (user_bytes v) ≡ user_length (count (descriptors_of v.slots))
  length-user-shaped = length-append (body v) _ ∙ omega (arith, length-body)

pub user-size : (v : Sdp) → Legal v → length (user_bytes v) ≡ user_length (count (descriptors_of v.slots))
user-size v h = length-user-shaped v (legal-shaped v h)

-- WHAT THE CODE HOLDS

pub beside-descriptors : (ss : List Slot) (rows : List (List ℕ)) → length ss ≡ length rows → descriptors_of (beside ss rows) ≡ map descriptor ss
beside-descriptors [] rows e = refl
beside-descriptors (s ∷ ss) [] e = let f : ⊥ = omega arith in absurd f
beside-descriptors (s ∷ ss) (row ∷ rows) e =
    let rest : length ss ≡ length rows = omega arith in
    ap (λ (ds : List ℕ). descriptor s ∷ ds) (beside-descriptors ss rows rest)

pub length-beside : (ss : List Slot) (rows : List (List ℕ)) → length ss ≡ length rows → length (beside ss rows) ≡ length ss
length-beside [] rows e = refl
length-beside (s ∷ ss) [] e = let f : ⊥ = omega arith in absurd f
length-beside (s ∷ ss) (row ∷ rows) e = let rest : length ss ≡ length rows = omega arith in ap suc (length-beside ss rows rest)

pub beside-each : (ss : List Slot) (rows : List (List ℕ)) → Each Row rows → Each RowSlot (beside ss rows)
beside-each [] rows h = tt
beside-each (s ∷ ss) [] h = tt
beside-each (s ∷ ss) (row ∷ rows) h = (h.0, beside-each ss rows h.1)

module _ (p : Packet) (rows : List (List ℕ)) (t : Typed p rows) where
  pub length-held : length (held p rows).slots ≡ 5
  length-held = length-beside p.slots rows (t.slots ∙ sym t.five) ∙ t.slots

  pub held-descriptors : descriptors_of (held p rows).slots ≡ map descriptor p.slots
  held-descriptors = beside-descriptors p.slots rows (t.slots ∙ sym t.five)

  pub held-shaped : Shaped (held p rows)
  held-shaped = record { five = length-held; wide = each_map RowSlot Wide (λ x row. row.0) (held p rows).slots (beside-each p.slots rows t.each) }

pub checked-legal : (p : Packet) (rows : List (List ℕ)) → Typed p rows → p.counter ≤ 65535 → slots_verdict (held p rows).slots ≡ Accepted → Legal (held p rows)
checked-legal p rows t few e =
    record { count = omega arith; five = length-held p rows t; each = accepted-slots (held p rows).slots (beside-each p.slots rows t.each) e }
