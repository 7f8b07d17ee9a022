-- Which pictures are carried, and that none of their records is lost: in a picture that is carried each record is the slot of its display field.
-- Assumes nothing.
use Prim.Native.Nat.{ℕ, zero, suc, ◌+◌, ◌≤◌, ◌<◌}
use native.Mathlib.Omega.{arith}
use mathlib.Core.Path.{◌≡◌, ◌∙◌, ap, refl}
use mathlib.Core.Logic.{◌↔◌, inl, inr}
use mathlib.Core.Bool.{Bool, true, false, not, ◌&&◌, true≢false}
use mathlib.Core.List.{List, [], ◌∷◌, ◌++◌}
use borrow.Author.Tests.{eqb-true, eq-eqb, ne_eqb, le-ltb}
use lib.Dec.{eqb}
use lib.ListN.{length}
use Rattle.lists.specs.Each.{Each}
use Rattle.lists.proofs.Each.{each_map, each_both}
use Rattle.refusal.specs.Verdict.{Accepted}
use Rattle.refusal.proofs.Checks.{accepted-and_then, and_then-accepted, accepted-refuse_if, refuse_if-accepted, accepted-equal, both_hold}
use Rattle.scte20.specs.declared.Record.{Record}
use Rattle.scte20.specs.declared.CaptionUnit.{CaptionUnit}
use Rattle.scte20.specs.Value.{field_of, held, Typed, LegalRecord, Follows, InOrder}
use Rattle.scte20.proofs.Holding.{value-whole}
use Rattle.scte20.proofs.Writable.{accepted-unit, unit-accepted}
use Rattle.film.specs.Slot.{Slot}
use Rattle.film.specs.Slot.{Invalid, Pair}
use Rattle.film.specs.State.{State}
use Rattle.film.specs.declared.Shown.{Shown}
use Rattle.film.specs.declared.Answer.{Answer}
use Rattle.film.specs.Display.{fields_shown, is_at, pick, slot_of, picture_events}
use Rattle.film.specs.Frames.{half_of}
use Rattle.film.specs.Calls.{repeat_verdict, line_verdict, picture_verdict, Shows}
use Rattle.film.specs.Order.{Carried}
use Rattle.film.proofs.Records.{and-false}
use Rattle.film.proofs.Passages.{accepted-checked}
use Rattle.film.proofs.Answering.{told-verdict, verdict-told}

-- 21

shown-few : (repeat : Bool) (f : ℕ) → f ≤ 3 → (eqb f 3 && not repeat) ≡ false → f ≤ length (fields_shown repeat)
shown-few true f low e = low
shown-few false zero low e = omega arith
shown-few false (suc zero) low e = omega arith
shown-few false (suc (suc zero)) low e = omega arith
shown-few false (suc (suc (suc zero))) low e = absurd (true≢false e)
shown-few false (suc (suc (suc (suc f)))) low e = let no : ⊥ = omega (arith, low) in absurd no

few-shown : (repeat : Bool) (f : ℕ) → f ≤ length (fields_shown repeat) → (eqb f 3 && not repeat) ≡ false
few-shown true f h = and-false (eqb f 3)
few-shown false f h = ap (λ (t : Bool). t && true) (ne_eqb f 3 (λ e. omega (arith, h, e)))

accepted-repeat : (repeat : Bool) (at : ℕ) (rs : List Record) → Each (λ (r : Record). field_of r ≤ 3) rs
    → repeat_verdict repeat at rs ≡ Accepted → Each (λ (r : Record). field_of r ≤ length (fields_shown repeat)) rs
accepted-repeat repeat at [] low e = tt
accepted-repeat repeat at (r ∷ rs) low e =
    let here = accepted-and_then _ _ e in
    (shown-few repeat (field_of r) low.0 (accepted-refuse_if _ _ _ here.0), accepted-repeat repeat (at + 26) rs low.1 here.1)

repeat-accepted : (repeat : Bool) (at : ℕ) (rs : List Record) → Each (λ (r : Record). field_of r ≤ length (fields_shown repeat)) rs
    → repeat_verdict repeat at rs ≡ Accepted
repeat-accepted repeat at [] h = refl
repeat-accepted repeat at (r ∷ rs) h =
    and_then-accepted _ _ (refuse_if-accepted _ _ _ (few-shown repeat (field_of r) h.0)) (repeat-accepted repeat (at + 26) rs h.1)

-- 22

accepted-lines : (line at : ℕ) (rs : List Record) → line_verdict line at rs ≡ Accepted → Each (λ (r : Record). r.line_offset ≡ line) rs
accepted-lines line at [] e = tt
accepted-lines line at (r ∷ rs) e =
    let here = accepted-and_then _ _ e in
    (accepted-equal _ _ _ _ here.0, accepted-lines line (at + 26) rs here.1)

lines-accepted : (line at : ℕ) (rs : List Record) → Each (λ (r : Record). r.line_offset ≡ line) rs → line_verdict line at rs ≡ Accepted
lines-accepted line at [] h = refl
lines-accepted line at (r ∷ rs) h =
    and_then-accepted _ _ (refuse_if-accepted _ _ _ (ap not (eq-eqb _ _ h.0))) (lines-accepted line (at + 26) rs h.1)

-- exactly these are carried

pub accepted-carried : (how : Shown) (u : CaptionUnit) → Typed u → picture_verdict how u ≡ Accepted → Carried how u
accepted-carried how u typed e =
    let checked = accepted-checked how u e in
    let value = accepted-unit u typed checked.value in
    record {
      line = checked.line;
      value = value;
      stuffing = (value-whole u checked.value).stuffing;
      shown =
          accepted-repeat how.repeat_first_field 21 (held u).records
          (each_map LegalRecord (λ (r : Record). field_of r ≤ 3) (λ r legal. legal.ranged.field) (held u).records value.value.each)
          checked.repeat;
      on_line = accepted-lines how.line_offset 21 (held u).records checked.lines;
    }

pub carried-accepted : (how : Shown) (u : CaptionUnit) → Typed u → Carried how u → picture_verdict how u ≡ Accepted
unfolding picture_verdict
carried-accepted how u typed c =
    and_then-accepted _ _ (refuse_if-accepted _ _ _ (le-ltb 31 how.line_offset c.line))
    (and_then-accepted _ _ (unit-accepted u typed c.value c.stuffing)
    (and_then-accepted _ _ (repeat-accepted how.repeat_first_field 21 (held u).records c.shown)
    (and_then-accepted _ _ (lines-accepted how.line_offset 21 (held u).records c.on_line) refl)))

module _ (s : State) (how : Shown) (u : CaptionUnit) (r : Answer) (shows : Shows s how u r) where
  pub picture-exactly : r.refusal.number ≡ 0 ↔ Carried how u
  picture-exactly =
      let asked = picture_verdict how u in
      let row = picture_events how (held u).records in (
        λ e. accepted-carried how u shows.typed (told-verdict asked s row r shows.answer e),
        λ c. verdict-told asked s row r shows.answer (carried-accepted how u shows.typed c),
      )

-- on one line the fields rise strictly

module _ (line : ℕ) where
  rises : (r next : Record) → r.line_offset ≡ line → next.line_offset ≡ line → Follows r next → field_of r < field_of next
  rises r next e f (inl low) = low
  rises r next e f (inr same) = let no : ⊥ = omega (arith, same.1, e, f) in absurd no

  all-rise : (r : Record) (rs : List Record) → r.line_offset ≡ line → Each (λ (x : Record). x.line_offset ≡ line) rs → InOrder (r ∷ rs)
      → Each (λ (x : Record). field_of r < field_of x) rs
  all-rise r [] e lines order = tt
  all-rise r (next ∷ rs) e lines order =
      let here = rises r next e lines.0 order.0 in (
        here,
        each_map (λ (x : Record). field_of next < field_of x) (λ (x : Record). field_of r < field_of x) (λ x later. omega (arith, here, later)) rs
            (all-rise next rs lines.0 lines.1 order.1),
      )

  later : (r : Record) (rs : List Record) → InOrder (r ∷ rs) → InOrder rs
  later r [] order = tt
  later r (next ∷ rs) order = order.1

  at_own : (r : Record) (rs : List Record) → r.line_offset ≡ line → slot_of line (field_of r) (r ∷ rs) ≡ Pair r.cc_data_1 r.cc_data_2
  at_own r rs e = simp (eq-eqb (field_of r) (field_of r) refl, eq-eqb r.line_offset line e)

  past : (r x : Record) (rs : List Record) → field_of r < field_of x → slot_of line (field_of x) (r ∷ rs) ≡ slot_of line (field_of x) rs
  past r x rs low = simp (ne_eqb (field_of r) (field_of x) (λ e. omega (arith, low, e)))

  pub each-carried : (rs : List Record) → Each (λ (x : Record). x.line_offset ≡ line) rs → InOrder rs
      → Each (λ (x : Record). slot_of line (field_of x) rs ≡ Pair x.cc_data_1 x.cc_data_2) rs
  each-carried [] lines order = tt
  each-carried (r ∷ rs) lines order = (
    at_own r rs lines.0,
    each_both
        (λ (x : Record). field_of r < field_of x)
        (λ (x : Record). slot_of line (field_of x) rs ≡ Pair x.cc_data_1 x.cc_data_2)
        (λ (x : Record). slot_of line (field_of x) (r ∷ rs) ≡ Pair x.cc_data_1 x.cc_data_2)
        (λ x low own. past r x rs low ∙ own) rs (all-rise r rs lines.0 lines.1 order) (each-carried rs lines.1 (later r rs order)),
  )

pub record-carried : (how : Shown) (u : CaptionUnit) → Carried how u
    → Each (λ (r : Record). slot_of how.line_offset (field_of r) (held u).records ≡ Pair r.cc_data_1 r.cc_data_2) (held u).records
record-carried how u c = each-carried how.line_offset (held u).records c.on_line c.value.value.order

pub fields-carried : (how : Shown) (u : CaptionUnit) → Carried how u
    → Each (λ (r : Record). (1 ≤ field_of r) × (field_of r ≤ length (fields_shown how.repeat_first_field))) (held u).records
fields-carried how u c =
    each_both LegalRecord (λ (r : Record). field_of r ≤ length (fields_shown how.repeat_first_field)) _ (λ r legal shown. (legal.allowed, shown)) (held u).records
    c.value.value.each c.shown

-- and a slot holds nothing that no record has
module _ (line field : ℕ) (a b : ℕ) where
  abbrev Found : List Record → Type 0
  Found rs =
      (before : List Record) × (r : Record) × (after : List Record)
      × (rs ≡ before ++ (r ∷ after)) × (field_of r ≡ field) × (r.line_offset ≡ line) × (Pair r.cc_data_1 r.cc_data_2 ≡ Pair a b)

  found-if : (r : Record) (rs : List Record) → (t : Bool) → is_at line field r ≡ t
      → pick t (Pair r.cc_data_1 r.cc_data_2) (slot_of line field rs) ≡ Pair a b
      → (slot_of line field rs ≡ Pair a b → Found rs) → Found (r ∷ rs)
  found-if r rs true is e next =
      let both = both_hold (eqb (field_of r) field) (eqb r.line_offset line) is in
      ([], r, rs, refl, eqb-true _ _ both.0, eqb-true _ _ both.1, e)
  found-if r rs false is e next =
      let (before, x, after, cut, same-field, same_line, same_bytes) = next e in
      (r ∷ before, x, after, ap (λ (xs : List Record). r ∷ xs) cut, same-field, same_line, same_bytes)

  none_found : Invalid ≡ Pair a b → ⊥
  none_found e = let no : ⊥ = omega (arith, ap (λ (s : Slot). (half_of s).cc_valid) e) in no

  pub slot-found : (rs : List Record) → slot_of line field rs ≡ Pair a b → Found rs
  slot-found [] e = absurd (none_found e)
  slot-found (r ∷ rs) e = found-if r rs (is_at line field r) refl e (slot-found rs)
