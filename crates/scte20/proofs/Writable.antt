-- What writing accepts: exactly the legal values, where the result fits the limit and the room. And which number a refusal of the value gives.
-- Assumes nothing.
use Prim.Native.Nat.{ℕ, ◌+◌, ◌≤◌, ◌<◌}
use native.Mathlib.Omega.{arith}
use mathlib.Core.Path.{◌≡◌, ◌∙◌, ap, refl}
use mathlib.Core.Logic.{inl, inr, ⊎_elim}
use mathlib.Core.Bool.{not, ◌&&◌}
use mathlib.Core.List.{List, [], ◌∷◌}
use lib.Dec.{eqb, ltb}
use lib.ListN.{length, take}
use Rattle.lists.specs.Each.{Each}
use Rattle.lists.proofs.Each.{each_take, each_both, each_map}
use Rattle.refusal.specs.declared.Refusal.{Refusal}
use Rattle.refusal.specs.Verdict.{Verdict}
use Rattle.refusal.specs.Verdict.{Accepted, Refused}
use Rattle.refusal.specs.declared.Reason.TheVariants.{TooLong, NoRoom, FieldNumberZero, FieldFalls, LineDoesNotRise, FifthPriority, Unholdable}
use Rattle.refusal.specs.declared.Excess.TheVariants.{Count, Reserved, Flag, Stuffing, FlagWithRecords, GroupType, Priority, FieldNumber, LineOffset}
use Rattle.refusal.specs.declared.Item.TheVariants.{Whole, Bit}
use Rattle.refusal.specs.Numbers.{refusal_of}
use Rattle.refusal.specs.Checks.{and_then, first, fit_verdict}
use Rattle.refusal.specs.Answers.{refused}
use Rattle.refusal.proofs.Checks.{accepted-and_then, and_then-accepted, and_then-assoc, accepted-fit, fit-accepted, fit-long, fit-no-room}
use Rattle.refusal.proofs.Gives.{Gives, refuse_if-gives, and_then-gives, refused-gives, gives_as, Unplaced, refused-unplaced, fit-unplaced, gives-unplaced}
use Rattle.kind.specs.Ours.{group_type}
use Rattle.scte20.specs.declared.Record.{Record}
use Rattle.scte20.specs.declared.CaptionUnit.{CaptionUnit}
use Rattle.scte20.specs.Value.{flag_byte, field_of, urgent, Ranged, LegalRecord, ByteRecord, LegalCaptionUnit, Typed, held}
use Rattle.scte20.specs.Layout.{layout}
use Rattle.scte20.specs.Rules.{falls, not_rising, record_verdict}
use Rattle.scte20.specs.Writing.{whole_verdict, range_verdict, records_verdict, value_verdict, ForValue, write_verdict}
use Rattle.scte20.proofs.Fitting.{AllFit, record-fits, fits-record, fit-allowed, fit-order, fit-four, legal-fit}
use Rattle.scte20.proofs.Sizes.{length-layout}
use Rattle.scte20.proofs.Holding as holding
use Rattle.scte20.proofs.Holding.{accepted-whole, whole-accepted, range-accepted, accepted-range, length-held}

-- ---- the value

-- the numbers that the checks look at
abbrev pub InRange : Record → Type 0
InRange r = (r.cc_priority ≤ 3) × (field_of r ≤ 3) × (r.line_offset ≤ 31)

-- bytes are bytes by their type
pub in-range : (r : Record) → ByteRecord r → InRange r → Ranged r
in-range r bytes numbers =
    record {
      priority = omega (arith, numbers.0);
      field = numbers.1;
      line = omega (arith, numbers.2);
      bytes = bytes;
    }

-- the checks of the records accept exactly those in range that fit behind the ones before them
records-accepted : (before : List Record) (at : ℕ) (rs : List Record) → records_verdict before at rs ≡ Accepted → Each InRange rs × AllFit before rs
records-accepted before at [] e = (tt, tt)
records-accepted before at (r ∷ rs) e =
    let later = records_verdict (r ∷ before) (at + 26) rs in
    let one = accepted-and_then (range_verdict at r) (first (record_verdict at before r ∷ later ∷ [])) e in
    let two = accepted-and_then (record_verdict at before r) (first (later ∷ [])) one.1 in
    let three = accepted-and_then later Accepted two.1 in
    let rest = records-accepted (r ∷ before) (at + 26) rs three.0 in
    ((accepted-range at r one.0, rest.0), (record-fits at before r two.0, rest.1))

accepted-records : (before : List Record) (at : ℕ) (rs : List Record) → Each Ranged rs → AllFit before rs → records_verdict before at rs ≡ Accepted
accepted-records before at [] ranged fit = refl
accepted-records before at (r ∷ rs) ranged fit =
    let later = records_verdict (r ∷ before) (at + 26) rs in
    let priority : r.cc_priority ≤ 3 = omega (arith, ranged.0.priority) in
    let line : r.line_offset ≤ 31 = omega (arith, ranged.0.line) in
    and_then-accepted (range_verdict at r) (first (record_verdict at before r ∷ later ∷ [])) (range-accepted at r (priority, ranged.0.field, line))
    (and_then-accepted (record_verdict at before r) (first (later ∷ [])) (fits-record at before r fit.0)
    (and_then-accepted later Accepted (accepted-records (r ∷ before) (at + 26) rs ranged.1 fit.1) refl))

pub value-ranged : (u : CaptionUnit) → value_verdict u ≡ Accepted → Each InRange (held u).records
unfolding value_verdict
value-ranged u e = (records-accepted [] 21 (held u).records (accepted-and_then (whole_verdict u) (records_verdict [] 21 (held u).records) e).1).0

pub accepted-unit : (u : CaptionUnit) → Typed u → value_verdict u ≡ Accepted → LegalCaptionUnit u
unfolding value_verdict
accepted-unit u t e =
    let rs = (held u).records in
    let both = accepted-and_then (whole_verdict u) (records_verdict [] 21 rs) e in
    let whole = accepted-whole u both.0 in
    let known = records-accepted [] 21 rs both.1 in
    let ranged = each_both ByteRecord InRange Ranged in-range rs (each_take ByteRecord u.n u.records t.bytes) known.0 in
    let fit = known.1 in
    record {
      few = whole.few;
      value = record {
        reserved = omega (arith, whole.reserved);
        flag = omega (arith, whole.flag);
        few = omega (arith, whole.few, length-held u t.places whole.few);
        each = each_both (λ (r : Record). 1 ≤ field_of r) Ranged LegalRecord (λ r allowed ranged. record { ranged = ranged; allowed = allowed }) rs (fit-allowed rs fit) ranged;
        order = fit-order rs fit;
        four = fit-four rs fit;
        bare = λ zero. ap (λ (n : ℕ). take n u.records) (whole.bare zero);
        no_group = whole.no_group;
      };
    }

pub unit-accepted : (u : CaptionUnit) → Typed u → LegalCaptionUnit u → u.z ≤ 16384 → value_verdict u ≡ Accepted
unfolding value_verdict
unit-accepted u t h short =
    let rs = (held u).records in
    let v = h.value in
    let whole : holding.Whole u = record {
      few = h.few;
      reserved = omega (arith, v.reserved);
      flag = omega (arith, v.flag);
      stuffing = short;
      bare = λ zero. omega (arith, ap length (v.bare zero), length-held u t.places h.few);
      no_group = v.no_group;
    } in
    let allowed = each_map LegalRecord (λ (r : Record). 1 ≤ field_of r) (λ r legal. legal.allowed) rs v.each in
    let ranged = each_map LegalRecord Ranged (λ r legal. legal.ranged) rs v.each in
    and_then-accepted (whole_verdict u) (records_verdict [] 21 rs) (whole-accepted u whole)
    (accepted-records [] 21 rs ranged (legal-fit rs allowed v.order v.four))

-- ---- and the result

-- the stuffing is part of the body
pub z-within : (u : CaptionUnit) → length (layout (held u)) ≤ 16384 → u.z ≤ 16384
z-within u short = omega (arith, length-layout (held u))

pub accepted-write : (u : CaptionUnit) (size room : ℕ) → Typed u → write_verdict u size room ≡ Accepted → LegalCaptionUnit u × (size ≤ 16384) × (size ≤ room)
accepted-write u size room t e =
    let both = accepted-and_then (value_verdict u) (fit_verdict 16384 size room) e in
    let fit = accepted-fit 16384 size room both.1 in
    (accepted-unit u t both.0, fit.0, fit.1)

pub write-accepted : (u : CaptionUnit) (size room : ℕ) → Typed u → LegalCaptionUnit u → length (layout (held u)) ≤ size → size ≤ 16384 → size ≤ room
    → write_verdict u size room ≡ Accepted
write-accepted u size room t h within short fits =
    and_then-accepted (value_verdict u) (fit_verdict 16384 size room) (unit-accepted u t h (z-within u (omega arith))) (fit-accepted 16384 size room short fits)

-- ---- which refusal

-- those of the whole value give 15
abbrev pub Whole15 : Refusal → Type 0
Whole15 r = r ≡ refused 15 0

whole-gives : (P : Refusal → Type 0) → P (refused 15 0) → (u : CaptionUnit) → Gives P (whole_verdict u)
unfolding whole_verdict
whole-gives P p u =
    and_then-gives P _ _ (refuse_if-gives P (ltb 31 u.n) (Unholdable Count) Whole p)
    (and_then-gives P _ _ (refuse_if-gives P (ltb 127 u.reserved) (Unholdable Reserved) Whole p)
    (and_then-gives P _ _ (refuse_if-gives P (ltb 1 u.vbi_data_flag) (Unholdable Flag) Whole p)
    (and_then-gives P _ _ (refuse_if-gives P (ltb 16384 u.z) (Unholdable Stuffing) Whole p)
    (and_then-gives P _ _ (refuse_if-gives P (eqb u.vbi_data_flag 0 && not (eqb u.n 0)) (Unholdable FlagWithRecords) Whole p)
    (and_then-gives P _ _ (refuse_if-gives P (group_type (flag_byte u.reserved u.vbi_data_flag)) (Unholdable GroupType) Whole p) (inl refl))))))

range_gives : (at : ℕ) (r : Record) → Gives ForValue (range_verdict at r)
unfolding range_verdict
range_gives at r =
    and_then-gives ForValue _ _ (refuse_if-gives ForValue (ltb 3 r.cc_priority) (Unholdable Priority) (Bit at) (inl refl))
    (and_then-gives ForValue _ _ (refuse_if-gives ForValue (ltb 3 (field_of r)) (Unholdable FieldNumber) (Bit (at + 2)) (inl refl))
    (and_then-gives ForValue _ _ (refuse_if-gives ForValue (ltb 31 r.line_offset) (Unholdable LineOffset) (Bit (at + 4)) (inl refl)) (inl refl)))

record-gives : (at : ℕ) (before : List Record) (r : Record) → Gives ForValue (record_verdict at before r)
unfolding record_verdict
record-gives at before r =
    and_then-gives ForValue _ _ (refuse_if-gives ForValue (eqb (field_of r) 0) FieldNumberZero (Bit (at + 2)) (inr (inl refl)))
    (and_then-gives ForValue _ _ (refuse_if-gives ForValue (falls before r) FieldFalls (Bit (at + 2)) (inr (inr (inl refl))))
    (and_then-gives ForValue _ _ (refuse_if-gives ForValue (not_rising before r) LineDoesNotRise (Bit (at + 4)) (inr (inr (inl refl))))
    (and_then-gives ForValue _ _
    (refuse_if-gives ForValue (eqb r.cc_priority 0 && ltb 3 (urgent (field_of r) before)) FifthPriority (Bit at) (inr (inr (inr refl)))) (inl refl))))

records-give : (before : List Record) (at : ℕ) (rs : List Record) → Gives ForValue (records_verdict before at rs)
records-give before at [] = inl refl
records-give before at (r ∷ rs) =
    and_then-gives ForValue _ _ (range_gives at r)
    (and_then-gives ForValue _ _ (record-gives at before r)
    (and_then-gives ForValue _ _ (records-give (r ∷ before) (at + 26) rs) (inl refl)))

pub value-gives : (u : CaptionUnit) → Gives ForValue (value_verdict u)
unfolding value_verdict
value-gives u = and_then-gives ForValue _ _ (whole-gives ForValue (inl refl) u) (records-give [] 21 (held u).records)

pub whole-15 : (u : CaptionUnit) (size room : ℕ) → (whole_verdict u ≡ Accepted → ⊥) → refusal_of (write_verdict u size room) ≡ refused 15 0
unfolding value_verdict
whole-15 u size room h =
    ap refusal_of (and_then-assoc (whole_verdict u) (records_verdict [] 21 (held u).records) (fit_verdict 16384 size room))
    ∙ refused-gives Whole15 (whole_verdict u) _ (whole-gives Whole15 refl u) h

pub value-refused : (u : CaptionUnit) (size room : ℕ) → (value_verdict u ≡ Accepted → ⊥) → ForValue (refusal_of (write_verdict u size room))
value-refused u size room h = refused-gives ForValue (value_verdict u) (fit_verdict 16384 size room) (value-gives u) h

-- no refusal of writing has a place
value-unplaced : (r : Refusal) → ForValue r → Unplaced r
value-unplaced r h = ⊎_elim (refused-unplaced 15 r) (⊎_elim (refused-unplaced 7 r) (⊎_elim (refused-unplaced 8 r) (refused-unplaced 9 r))) h

pub write-unplaced : (u : CaptionUnit) (size room : ℕ) → (refusal_of (write_verdict u size room)).place ≡ 0
write-unplaced u size room =
    gives-unplaced (write_verdict u size room)
    (and_then-gives Unplaced (value_verdict u) _ (gives_as ForValue Unplaced value-unplaced (value_verdict u) (value-gives u)) (fit-unplaced 16384 size room))

-- a value that is accepted leaves it to the length of the result,
pub long-refused : (u : CaptionUnit) (size room : ℕ) → value_verdict u ≡ Accepted → 16384 < size → write_verdict u size room ≡ Refused TooLong Whole
long-refused u size room e long = ap (λ (v : Verdict). and_then v (fit_verdict 16384 size room)) e ∙ fit-long 16384 size room long

-- and then to the room
pub no-room-refused : (u : CaptionUnit) (size room : ℕ) → value_verdict u ≡ Accepted → size ≤ 16384 → room < size → write_verdict u size room ≡ Refused NoRoom Whole
no-room-refused u size room e short long = ap (λ (v : Verdict). and_then v (fit_verdict 16384 size room)) e ∙ fit-no-room 16384 size room short long
