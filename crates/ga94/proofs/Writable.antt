-- What writing accepts: exactly the legal values, where the result fits the limit and the room. And which number a refusal of the value gives.
-- Assumes nothing.
use Prim.Native.Nat.{ℕ, ◌+◌, ◌≤◌, ◌<◌}
use native.Mathlib.Omega.{arith}
use mathlib.Core.Path.{◌≡◌, ◌∙◌, ap, refl}
use mathlib.Core.Logic.{inl, inr, ⊎_elim}
use mathlib.Core.Bool.{not}
use mathlib.Core.List.{List, [], ◌∷◌}
use borrow.Author.Tests.{ne_eqb}
use lib.Dec.{eqb, ltb}
use lib.ListN.{length}
use Rattle.lists.specs.Each.{Each}
use Rattle.lists.proofs.Each.{each_take, each_both}
use Rattle.refusal.specs.declared.Refusal.{Refusal}
use Rattle.refusal.specs.Verdict.{Verdict}
use Rattle.refusal.specs.Verdict.{Accepted, Refused}
use Rattle.refusal.specs.declared.Reason.TheVariants.{TooLong, NoRoom, Unholdable, AdditionalData}
use Rattle.refusal.specs.declared.Excess.TheVariants.{Count, Flag, EmData, Stuffing, CcValid, CcType}
use Rattle.refusal.specs.declared.Item.TheVariants.{Whole, Bit}
use Rattle.refusal.specs.Numbers.{refusal_of}
use Rattle.refusal.specs.Checks.{and_then, first, fit_verdict}
use Rattle.refusal.specs.Answers.{refused}
use Rattle.refusal.proofs.Checks.{accepted-and_then, and_then-accepted, and_then-assoc, accepted-fit, fit-accepted, fit-long, fit-no-room}
use Rattle.refusal.proofs.Gives.{Gives, refuse_if-gives, and_then-gives, refused-gives, gives_as, Unplaced, refused-unplaced, fit-unplaced, gives-unplaced}
use Rattle.ga94.specs.declared.Record.{Record}
use Rattle.ga94.specs.Value.{LegalRecord, ByteRecord, CaptionUnit, LegalCaptionUnit, Typed, held}
use Rattle.ga94.specs.Layout.{layout}
use Rattle.ga94.specs.Writing.{whole_verdict, flag_verdict, range_verdict, records_verdict, value_verdict, ForValue, write_verdict}
use Rattle.ga94.proofs.Sizes.{length-layout}
use Rattle.ga94.proofs.Holding as holding
use Rattle.ga94.proofs.Holding.{accepted-whole, whole-accepted, accepted-flag, flag-accepted, range-accepted, accepted-range, length-held}

-- ---- the value

-- the numbers that the checks look at
abbrev pub InRange : Record → Type 0
InRange r = (r.cc_valid ≤ 1) × (r.cc_type ≤ 3)

-- bytes are bytes by their type
in-range : (r : Record) → ByteRecord r → InRange r → LegalRecord r
in-range r bytes numbers = record { valid = omega (arith, numbers.0); type = omega (arith, numbers.1); bytes = bytes }

-- the checks of the records accept exactly those in range
records-accepted : (at : ℕ) (rs : List Record) → records_verdict at rs ≡ Accepted → Each InRange rs
records-accepted at [] e = tt
records-accepted at (r ∷ rs) e =
    let both = accepted-and_then (range_verdict at r) (records_verdict (at + 24) rs) e in
    (accepted-range at r both.0, records-accepted (at + 24) rs both.1)

accepted-records : (at : ℕ) (rs : List Record) → Each LegalRecord rs → records_verdict at rs ≡ Accepted
accepted-records at [] legal = refl
accepted-records at (r ∷ rs) legal =
    let valid : r.cc_valid ≤ 1 = omega (arith, legal.0.valid) in
    let type : r.cc_type ≤ 3 = omega (arith, legal.0.type) in
    and_then-accepted (range_verdict at r) (records_verdict (at + 24) rs) (range-accepted at r (valid, type)) (accepted-records (at + 24) rs legal.1)

-- what each part of the value's checks has accepted
record Parts (u : CaptionUnit) : Type 0 where
  whole : whole_verdict u ≡ Accepted
  flag : flag_verdict u ≡ Accepted
  records : records_verdict 56 (held u).records ≡ Accepted

accepted-parts : (u : CaptionUnit) → value_verdict u ≡ Accepted → Parts u
unfolding value_verdict
accepted-parts u e =
    let records = records_verdict 56 (held u).records in
    let one = accepted-and_then (whole_verdict u) (first (flag_verdict u ∷ records ∷ [])) e in
    let two = accepted-and_then (flag_verdict u) (first (records ∷ [])) one.1 in
    let three = accepted-and_then records Accepted two.1 in
    record { whole = one.0; flag = two.0; records = three.0 }

pub value-ranged : (u : CaptionUnit) → value_verdict u ≡ Accepted → Each InRange (held u).records
value-ranged u e = records-accepted 56 (held u).records (accepted-parts u e).records

pub accepted-unit : (u : CaptionUnit) → Typed u → value_verdict u ≡ Accepted → LegalCaptionUnit u
accepted-unit u t e =
    let rs = (held u).records in
    let parts = accepted-parts u e in
    let whole = accepted-whole u parts.whole in
    record {
      few = whole.few;
      value = record {
        em_flag = omega (arith, whole.em_flag);
        cc_flag = omega (arith, whole.cc_flag);
        no_additional = accepted-flag u parts.flag;
        em = omega (arith, whole.em);
        few = omega (arith, whole.few, length-held u t.places whole.few);
        each = each_both ByteRecord InRange LegalRecord in-range rs (each_take ByteRecord u.n u.records t.bytes) (value-ranged u e);
      };
    }

pub unit-accepted : (u : CaptionUnit) → Typed u → LegalCaptionUnit u → u.z ≤ 16384 → value_verdict u ≡ Accepted
unfolding value_verdict
unit-accepted u t h short =
    let v = h.value in
    let records = records_verdict 56 (held u).records in
    let whole : holding.Whole u = record {
      few = h.few;
      em_flag = omega (arith, v.em_flag);
      cc_flag = omega (arith, v.cc_flag);
      additional = omega (arith, v.no_additional);
      em = omega (arith, v.em);
      stuffing = short;
    } in
    and_then-accepted (whole_verdict u) (first (flag_verdict u ∷ records ∷ [])) (whole-accepted u whole)
    (and_then-accepted (flag_verdict u) (first (records ∷ [])) (flag-accepted u v.no_additional)
    (and_then-accepted records Accepted (accepted-records 56 (held u).records v.each) refl))

-- ---- and the result

-- the stuffing is part of the body
pub z-within : (u : CaptionUnit) → length (layout (held u)) ≤ 16384 → u.z ≤ 16384
z-within u short = omega (arith, length-layout (held u))

pub accepted-write : (u : CaptionUnit) (size room : ℕ) → Typed u → write_verdict u size room ≡ Accepted → LegalCaptionUnit u × (size ≤ 16384) × (size ≤ room)
accepted-write u size room t e =
    let both = accepted-and_then (value_verdict u) (fit_verdict 16384 size room) e in
    let fit = accepted-fit 16384 size room both.1 in
    (accepted-unit u t both.0, fit.0, fit.1)

pub write-accepted : (u : CaptionUnit) (size room : ℕ) → Typed u → LegalCaptionUnit u → length (layout (held u)) ≤ size → size ≤ 16384 → size ≤ room
    → write_verdict u size room ≡ Accepted
write-accepted u size room t h within short fits =
    and_then-accepted (value_verdict u) (fit_verdict 16384 size room) (unit-accepted u t h (z-within u (omega arith))) (fit-accepted 16384 size room short fits)

-- ---- which refusal

-- those of the whole value give 15
abbrev pub Whole15 : Refusal → Type 0
Whole15 r = r ≡ refused 15 0

whole-gives : (P : Refusal → Type 0) → P (refused 15 0) → (u : CaptionUnit) → Gives P (whole_verdict u)
unfolding whole_verdict
whole-gives P p u =
    and_then-gives P _ _ (refuse_if-gives P (ltb 31 u.n) (Unholdable Count) Whole p)
    (and_then-gives P _ _ (refuse_if-gives P (ltb 1 u.process_em_data_flag) (Unholdable Flag) Whole p)
    (and_then-gives P _ _ (refuse_if-gives P (ltb 1 u.process_cc_data_flag) (Unholdable Flag) Whole p)
    (and_then-gives P _ _ (refuse_if-gives P (ltb 1 u.additional_data_flag) (Unholdable Flag) Whole p)
    (and_then-gives P _ _ (refuse_if-gives P (ltb 255 u.em_data) (Unholdable EmData) Whole p)
    (and_then-gives P _ _ (refuse_if-gives P (ltb 16384 u.z) (Unholdable Stuffing) Whole p) (inl refl))))))

flag-gives : (u : CaptionUnit) → Gives ForValue (flag_verdict u)
unfolding flag_verdict
flag-gives u = refuse_if-gives ForValue (not (eqb u.additional_data_flag 0)) AdditionalData Whole (inr refl)

range_gives : (at : ℕ) (r : Record) → Gives ForValue (range_verdict at r)
unfolding range_verdict
range_gives at r =
    and_then-gives ForValue _ _ (refuse_if-gives ForValue (ltb 1 r.cc_valid) (Unholdable CcValid) (Bit (at + 5)) (inl refl))
    (and_then-gives ForValue _ _ (refuse_if-gives ForValue (ltb 3 r.cc_type) (Unholdable CcType) (Bit (at + 6)) (inl refl)) (inl refl))

records-give : (at : ℕ) (rs : List Record) → Gives ForValue (records_verdict at rs)
records-give at [] = inl refl
records-give at (r ∷ rs) = and_then-gives ForValue _ _ (range_gives at r) (records-give (at + 24) rs)

value-gives : (u : CaptionUnit) → Gives ForValue (value_verdict u)
unfolding value_verdict
value-gives u =
    and_then-gives ForValue _ _ (whole-gives ForValue (inl refl) u)
    (and_then-gives ForValue _ _ (flag-gives u)
    (and_then-gives ForValue _ _ (records-give 56 (held u).records) (inl refl)))

pub whole-15 : (u : CaptionUnit) (size room : ℕ) → (whole_verdict u ≡ Accepted → ⊥) → refusal_of (write_verdict u size room) ≡ refused 15 0
unfolding value_verdict
whole-15 u size room h =
    ap refusal_of (and_then-assoc (whole_verdict u) (first (flag_verdict u ∷ records_verdict 56 (held u).records ∷ [])) (fit_verdict 16384 size room))
    ∙ refused-gives Whole15 (whole_verdict u) _ (whole-gives Whole15 refl u) h

-- a value whose numbers its layout can hold, with the third flag set, is refused with 16
pub flag-16 : (u : CaptionUnit) (size room : ℕ) → whole_verdict u ≡ Accepted → (u.additional_data_flag ≡ 0 → ⊥) → refusal_of (write_verdict u size room) ≡ refused 16 0
unfolding value_verdict flag_verdict
flag-16 u size room whole set = simp (whole, ne_eqb u.additional_data_flag 0 set)

pub value-refused : (u : CaptionUnit) (size room : ℕ) → (value_verdict u ≡ Accepted → ⊥) → ForValue (refusal_of (write_verdict u size room))
value-refused u size room h = refused-gives ForValue (value_verdict u) (fit_verdict 16384 size room) (value-gives u) h

-- no refusal of writing has a place
value-unplaced : (r : Refusal) → ForValue r → Unplaced r
value-unplaced r h = ⊎_elim (refused-unplaced 15 r) (refused-unplaced 16 r) h

pub write-unplaced : (u : CaptionUnit) (size room : ℕ) → (refusal_of (write_verdict u size room)).place ≡ 0
write-unplaced u size room =
    gives-unplaced (write_verdict u size room)
    (and_then-gives Unplaced (value_verdict u) _ (gives_as ForValue Unplaced value-unplaced (value_verdict u) (value-gives u)) (fit-unplaced 16384 size room))

-- a value that is accepted leaves it to the length of the result,
pub long-refused : (u : CaptionUnit) (size room : ℕ) → value_verdict u ≡ Accepted → 16384 < size → write_verdict u size room ≡ Refused TooLong Whole
long-refused u size room e long = ap (λ (v : Verdict). and_then v (fit_verdict 16384 size room)) e ∙ fit-long 16384 size room long

-- and then to the room
pub no-room-refused : (u : CaptionUnit) (size room : ℕ) → value_verdict u ≡ Accepted → size ≤ 16384 → room < size → write_verdict u size room ≡ Refused NoRoom Whole
no-room-refused u size room e short long = ap (λ (v : Verdict). and_then v (fit_verdict 16384 size room)) e ∙ fit-no-room 16384 size room short long
