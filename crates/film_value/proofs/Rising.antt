-- Records on one line whose fields rise, found one display field after the other: the picture is carried, and each is the slot of its field.
-- Assumes nothing.
use Prim.Native.Nat.{ℕ, ◌+◌, ◌≤◌, ◌<◌}
use native.Mathlib.Omega.{arith}
use mathlib.Core.Path.{◌≡◌, ◌∙◌, ap, subst, sym, refl}
use mathlib.Core.Logic.{inl}
use mathlib.Core.Bool.{Bool, true, false, ◌&&◌}
use mathlib.Core.List.{List, [], ◌∷◌}
use lib.Dec.{eqb}
use lib.ListN.{length, take, drop, get_or}
use Rattle.lists.specs.Each.{Each}
use Rattle.lists.proofs.Each.{each_take}
use Rattle.refusal.specs.Verdict.{Accepted}
use Rattle.scte20.specs.declared.Record.{Record}
use Rattle.scte20.specs.declared.Numbers.{Numbers}
use Rattle.scte20.specs.Value.{blank, field_of, ByteRecord, LegalRecord, InOrder, count_if, urgent, Typed}
use Rattle.scte20.specs.Lent.{lent_records, unit_in}
use Rattle.scte20.proofs.Holding.{Whole, length-held}
use Rattle.film.specs.Slot.{Invalid}
use Rattle.film.specs.declared.Shown.{Shown}
use Rattle.film.specs.Display.{fields_shown, slot_of}
use Rattle.film.specs.Calls.{picture_verdict}
use Rattle.film.specs.Order.{Carried}
use Rattle.film.proofs.Carrying.{carried-accepted}
use Rattle.film.proofs.Records.{records_of, record-here, records-over, slot-here, slot_next}
use Rattle.film_value.specs.Inside.{Stands, slot_if}

-- records on this line, their fields above f, rising, and none above the last that is shown
abbrev pub Rising : ℕ → ℕ → ℕ → List Record → Type 0
Rising line last f [] = Unit {0}
Rising line last f (r ∷ rs) =
    (f < field_of r) × (field_of r ≤ last) × (r.cc_priority ≤ 3) × (r.line_offset ≡ line) × Rising line last (field_of r) rs

pub count-few : (t : Bool) → count_if t ≤ 1
count-few true = omega arith
count-few false = omega arith

urgent-few : (f : ℕ) (rs : List Record) → urgent f rs ≤ length rs
urgent-few f [] = omega arith
urgent-few f (r ∷ rs) = omega (arith, count-few (eqb (field_of r) f && eqb r.cc_priority 0), urgent-few f rs)

module _ (line last : ℕ) where
  lower : (f g : ℕ) (rs : List Record) → f ≤ g → Rising line last g rs → Rising line last f rs
  lower f g [] low rising = tt
  lower f g (r ∷ rs) low rising = (omega (arith, low, rising.0), rising.1, rising.2, rising.3, rising.4)

  none_below : (f g : ℕ) (rs : List Record) → g ≤ f → Rising line last f rs → slot_of line g rs ≡ Invalid
  none_below f g [] low rising = refl
  none_below f g (r ∷ rs) low rising =
      slot_next line g r rs (inl (λ e. omega (arith, e, low, rising.0)))
      ∙ none_below (field_of r) g rs (omega (arith, low, rising.0)) rising.4

  rising-order : (f : ℕ) (rs : List Record) → Rising line last f rs → InOrder rs
  rising-order f [] rising = tt
  rising-order f (r ∷ []) rising = tt
  rising-order f (r ∷ next ∷ rs) rising = (inl rising.4.0, rising-order (field_of r) (next ∷ rs) rising.4)

  rising-legal : (f : ℕ) (rs : List Record) → line ≤ 31 → last ≤ 3 → Rising line last f rs → Each ByteRecord rs → Each LegalRecord rs
  rising-legal f [] low few rising bytes = tt
  rising-legal f (r ∷ rs) low few rising bytes = (
    record {
      ranged =
          record {
            priority = omega (arith, rising.2);
            field = omega (arith, rising.1, few);
            line = omega (arith, rising.3, low);
            bytes = bytes.0;
          };
      allowed = omega (arith, rising.0);
    },
    rising-legal (field_of r) rs low few rising.4 bytes.1,
  )

  rising-shown : (f : ℕ) (rs : List Record) → Rising line last f rs → Each (λ (r : Record). field_of r ≤ last) rs
  rising-shown f [] rising = tt
  rising-shown f (r ∷ rs) rising = (rising.1, rising-shown (field_of r) rs rising.4)

  rising-lines : (f : ℕ) (rs : List Record) → Rising line last f rs → Each (λ (r : Record). r.line_offset ≡ line) rs
  rising-lines f [] rising = tt
  rising-lines f (r ∷ rs) rising = (rising.3, rising-lines (field_of r) rs rising.4)

-- one display field more, from the last to the first: its record is the one of index i, or it has none
module _ (v : Numbers) (s : List ℕ) (line last : ℕ) (few : v.n ≤ 31) (shown : Bool) (f i : ℕ) where
  abbrev here : Record
  here = get_or (lent_records s) i blank

  abbrev from : ℕ → List Record
  from k = drop k (records_of v s)

  same : from (i + 0) ≡ from i
  same = let e : i + 0 ≡ i = omega arith in ap from e

  cut : Stands shown f line v.n i s → from i ≡ here ∷ from (i + 1)
  cut stands = record-here v s i here few stands.here refl

  pub rising-on : (g : ℕ) → g < f → (there : Bool) → (there ≡ true → f ≤ last) → (there ≡ true → Stands shown f line v.n i s)
      → Rising line last f (from (i + count_if there)) → Rising line last g (from i)
  rising-on g above false fits stands rising = lower line last g f (from i) (omega (arith, above)) (subst (λ (rs : List Record). Rising line last f rs) same rising)
  rising-on g above true fits stands rising =
      let is = stands refl in
      subst (λ (rs : List Record). Rising line last g rs) (sym (cut is)) (
        omega (arith, above, is.of_field),
        omega (arith, fits refl, is.of_field),
        is.priority,
        is.on_line,
        subst (λ (k : ℕ). Rising line last k (from (i + 1))) (sym is.of_field) rising,
      )

  pub slot-own : (there : Bool) → (there ≡ true → Stands shown f line v.n i s)
      → Rising line last f (from (i + count_if there)) → slot_of line f (from i) ≡ slot_if there here
  slot-own false stands rising = none_below line last f f (from i) (omega arith) (subst (λ (rs : List Record). Rising line last f rs) same rising)
  slot-own true stands rising =
      let is = stands refl in
      ap (slot_of line f) (cut is) ∙ slot-here line f here (from (i + 1)) is.of_field is.on_line

  pub slot-later : (g : ℕ) → f < g → (there : Bool) → (there ≡ true → Stands shown f line v.n i s)
      → slot_of line g (from i) ≡ slot_of line g (from (i + count_if there))
  slot-later g above false stands = ap (slot_of line g) (sym same)
  slot-later g above true stands =
      let is = stands refl in
      ap (slot_of line g) (cut is) ∙ slot_next line g here (from (i + 1)) (inl (λ e. omega (arith, e, is.of_field, above)))

two-shown : (repeat : Bool) → (2 ≤ length (fields_shown repeat)) × (length (fields_shown repeat) ≤ 3)
two-shown true = (omega arith, omega arith)
two-shown false = (omega arith, omega arith)

-- all display fields, with a record or without one
module _ (how : Shown) (v : Numbers) (s : List ℕ) (typed : Typed (unit_in v s)) (Line-Low : how.line_offset ≤ 31) (whole : Whole (unit_in v s))
    (one two three : Bool) (i j : ℕ) (at_i : i ≡ 0 + count_if one) (at_j : j ≡ i + count_if two) (all : j + count_if three ≡ v.n)
    (first : one ≡ true → Stands true 1 how.line_offset v.n 0 s)
    (second : two ≡ true → Stands true 2 how.line_offset v.n i s)
    (third : three ≡ true → Stands how.repeat_first_field 3 how.line_offset v.n j s) where
  abbrev line : ℕ
  line = how.line_offset

  abbrev last : ℕ
  last = length (fields_shown how.repeat_first_field)

  abbrev rs : List Record
  rs = records_of v s

  over-rising : Rising line last 3 (drop (j + count_if three) rs)
  over-rising =
      let none = ap (λ (k : ℕ). drop k rs) all ∙ records-over v s v.n whole.few (omega arith) in
      subst (λ (rest : List Record). Rising line last 3 rest) (sym none) tt

  third-rising : Rising line last 2 (drop (i + count_if two) rs)
  third-rising =
      subst (λ (k : ℕ). Rising line last 2 (drop k rs)) at_j
      (rising-on v s line last whole.few how.repeat_first_field 3 j 2 (omega arith) three
      (λ is. omega (arith, ap (λ (t : Bool). length (fields_shown t)) (third is).is_shown)) third over-rising)

  second-rising : Rising line last 1 (drop (0 + count_if one) rs)
  second-rising =
      subst (λ (k : ℕ). Rising line last 1 (drop k rs)) at_i
      (rising-on v s line last whole.few true 2 i 1 (omega arith) two (λ is. (two-shown how.repeat_first_field).0) second third-rising)

  all-rising : Rising line last 0 rs
  all-rising =
      rising-on v s line last whole.few true 1 0 0 (omega arith) one (λ is. omega (arith, (two-shown how.repeat_first_field).0)) first second-rising

  gathered-carried : Carried how (unit_in v s)
  gathered-carried =
      let held-n = length-held (unit_in v s) typed.places whole.few in
      let few : v.n ≤ 3 = omega (arith, all, at_i, at_j, count-few one, count-few two, count-few three) in
      record {
        line = Line-Low;
        value =
            record {
              few = whole.few;
              value =
                  record {
                    reserved = omega (arith, whole.reserved);
                    flag = omega (arith, whole.flag);
                    few = omega (arith, held-n, few);
                    each =
                        rising-legal line last 0 rs Line-Low (two-shown how.repeat_first_field).1 all-rising
                        (each_take ByteRecord v.n (lent_records s) typed.bytes);
                    order = rising-order line last 0 rs all-rising;
                    four = λ f. omega (arith, urgent-few f rs, held-n, few);
                    bare = λ zero. ap (λ (n : ℕ). take n (lent_records s)) (whole.bare zero);
                    no_group = whole.no_group;
                  };
            };
        stuffing = whole.stuffing;
        shown = rising-shown line last 0 rs all-rising;
        on_line = rising-lines line last 0 rs all-rising;
      }

  gathered-accepted : picture_verdict how (unit_in v s) ≡ Accepted
  gathered-accepted = carried-accepted how (unit_in v s) typed gathered-carried

  first_slot : slot_of line 1 rs ≡ slot_if one (get_or (lent_records s) 0 blank)
  first_slot = slot-own v s line last whole.few true 1 0 one first second-rising

  past_one : (g : ℕ) → 1 < g → slot_of line g rs ≡ slot_of line g (drop i rs)
  past_one g above = slot-later v s line last whole.few true 1 0 g above one first ∙ ap (λ (k : ℕ). slot_of line g (drop k rs)) (sym at_i)

  second-slot : slot_of line 2 rs ≡ slot_if two (get_or (lent_records s) i blank)
  second-slot = past_one 2 (omega arith) ∙ slot-own v s line last whole.few true 2 i two second third-rising

  third-slot : slot_of line 3 rs ≡ slot_if three (get_or (lent_records s) j blank)
  third-slot =
      past_one 3 (omega arith)
      ∙ slot-later v s line last whole.few true 2 i 3 (omega arith) two second
      ∙ ap (λ (k : ℕ). slot_of line 3 (drop k rs)) (sym at_j)
      ∙ slot-own v s line last whole.few how.repeat_first_field 3 j three third over-rising

  pub gathered : (picture_verdict how (unit_in v s) ≡ Accepted)
      × (slot_of line 1 rs ≡ slot_if one (get_or (lent_records s) 0 blank))
      × (slot_of line 2 rs ≡ slot_if two (get_or (lent_records s) i blank))
      × (slot_of line 3 rs ≡ slot_if three (get_or (lent_records s) j blank))
  gathered = (gathered-accepted, first_slot, second-slot, third-slot)
