-- What the checks of writing let through: numbers that the layout can hold.
-- Assumes nothing.
use Prim.Native.Nat.{ℕ, suc, ◌+◌, ◌*◌, ◌≤◌, ◌<◌}
use native.Mathlib.Omega.{arith}
use native.Mathlib.Numerals.{add-one}
use mathlib.Core.Path.{◌≡◌, ◌∙◌, ap, ap₂, sym}
use mathlib.Core.List.{List, [], ◌∷◌}
use lib.Dec.{ltb}
use lib.ListN.{length, drop, get_or}
use lib.Seq.{drop-cons, length-take-le}
use borrow.Author.Tests.{le-ltb}
use Rattle.lists.specs.Each.{Each}
use Rattle.lists.proofs.Each.{each_at, each_take, each_map, each_both}
use Rattle.refusal.specs.Verdict.{Accepted}
use Rattle.refusal.specs.declared.Reason.TheVariants.{NoRoom, Unholdable}
use Rattle.refusal.specs.declared.Excess.TheVariants.{Count}
use Rattle.refusal.specs.declared.Item.TheVariants.{Whole}
use Rattle.refusal.specs.Checks.{refuse_if, and_then, first, fit_verdict}
use Rattle.refusal.proofs.Checks.{accepted-and_then, accepted-each, each-accepted, and_then-last, accepted-within, accepted-fit}
use Rattle.line21.specs.declared.AccessUnit.{AccessUnit}
use Rattle.line21.specs.declared.Payload.{Payload}
use Rattle.line21.specs.Value.{HoldableUnit, LegalAccessUnit, ByteUnit, LegalPayload, Typed, blank, held}
use Rattle.line21.specs.Layout.{layout, layout_access_units}
use Rattle.line21.specs.Writing.{unit_verdict, units_verdict, value_verdict}
use Rattle.line21.proofs.Layouts.{length-layout_units}

pub accepted-unit : (u : AccessUnit) → unit_verdict u ≡ Accepted → HoldableUnit u
unfolding unit_verdict
accepted-unit u e =
    let one = accepted-and_then _ _ e in
    let two = accepted-and_then _ _ one.1 in
    let three = accepted-and_then _ _ two.1 in
    let a = accepted-within 1 u.cc_valid_1 _ _ one.0 in
    let b = accepted-within 1 u.cc_valid_2 _ _ two.0 in
    let c = accepted-within 63 u.padding _ _ three.0 in
    record { valid_1 = omega arith; valid_2 = omega arith; pad = omega arith }

pub unit-accepted : (u : AccessUnit) → HoldableUnit u → unit_verdict u ≡ Accepted
unfolding unit_verdict
unit-accepted u h =
    let a : u.cc_valid_1 ≤ 1 = omega arith in
    let b : u.cc_valid_2 ≤ 1 = omega arith in
    let c : u.padding ≤ 63 = omega arith in
    simp (le-ltb 1 u.cc_valid_1 a, le-ltb 1 u.cc_valid_2 b, le-ltb 63 u.padding c)

-- the checks let through exactly the legal units, bytes being bytes
abbrev Passes : AccessUnit → Type 0
Passes u = unit_verdict u ≡ Accepted

pub units-accepted : (us : List AccessUnit) → Each LegalAccessUnit us → units_verdict us ≡ Accepted
units-accepted us h = each-accepted unit_verdict us (each_map LegalAccessUnit Passes (λ u legal. unit-accepted u legal.numbers) us h)

pub accepted-units : (us : List AccessUnit) → Each ByteUnit us → units_verdict us ≡ Accepted → Each LegalAccessUnit us
accepted-units us h e =
    each_both ByteUnit Passes LegalAccessUnit (λ u bytes passes. record { numbers = accepted-unit u passes; bytes = bytes }) us h (accepted-each unit_verdict us e)

pub accepted-unit-at : (us : List AccessUnit) → units_verdict us ≡ Accepted → (i : ℕ) → i < length us → unit_verdict (get_or us i blank) ≡ Accepted
accepted-unit-at us e = each_at Passes blank us (accepted-each unit_verdict us e)

-- the units from i on decide by the unit at i, then by those behind it
pub units-from : (us : List AccessUnit) (i : ℕ) → i < length us → units_verdict (drop i us) ≡ and_then (unit_verdict (get_or us i blank)) (units_verdict (drop (i + 1) us))
units-from us i h =
    ap units_verdict (drop-cons us i blank h)
    ∙ ap (λ (k : ℕ). and_then (unit_verdict (get_or us i blank)) (units_verdict (drop k us))) (sym (add-one i))

-- a struct whose array has its 291 places holds as many units as it says, and its layout is as long as the code counts
module _ (p : Payload) (room : length p.units ≡ 291) (few : p.m ≤ 291) where
  pub length-held : length (held p).units ≡ p.m
  length-held = let fits : p.m ≤ length p.units = omega arith in length-take-le p.m p.units fits

  pub length-layout-held : length (layout (held p)) ≡ 1 + 5 * p.m
  length-layout-held = omega (arith, length-layout_units (held p).units, length-held)

  -- 291 units are no longer than 1,456 bytes, so that 1 is never given on writing
  pub verdict-few : (space : ℕ) → value_verdict p space ≡ and_then (units_verdict (held p).units) (refuse_if (ltb space (1 + 5 * p.m)) NoRoom Whole)
  unfolding value_verdict
  verdict-few space =
      let short : length (layout (held p)) ≤ 1456 = omega (arith, length-layout-held) in
      simp (le-ltb 291 p.m few, le-ltb 1456 (length (layout (held p))) short, and_then-last)
      (ap (λ (n : ℕ). and_then (units_verdict (held p).units) (refuse_if (ltb space n) NoRoom Whole)) length-layout-held)

-- structs that say the same count and hold the same units are judged alike, whatever their flags byte and the rest of
-- their arrays
pub verdict-same : (p q : Payload) (room : ℕ) → p.m ≡ q.m → (held p).units ≡ (held q).units → value_verdict p room ≡ value_verdict q room
unfolding value_verdict
verdict-same p q room count units =
    ap₂ (λ (m : ℕ) (us : List AccessUnit). first (refuse_if (ltb 291 m) (Unholdable Count) Whole ∷ units_verdict us ∷ fit_verdict 1456 (suc (length (layout_access_units us))) room ∷ []))
    count
    units

pub record Writable (p : Payload) (room : ℕ) : Type 0 where
  pub few : p.m ≤ 291
  pub each : units_verdict (held p).units ≡ Accepted
  pub short : length (layout (held p)) ≤ 1456
  pub fits : length (layout (held p)) ≤ room

pub accepted-value : (p : Payload) (room : ℕ) → value_verdict p room ≡ Accepted → Writable p room
unfolding value_verdict
accepted-value p room e =
    let count = accepted-and_then _ _ e in
    let units = accepted-and_then _ _ count.1 in
    let fit = accepted-fit 1456 (length (layout (held p))) room (accepted-and_then _ _ units.1).0 in
    record {
      few = accepted-within 291 p.m _ _ count.0;
      each = units.0;
      short = fit.0;
      fits = fit.1;
    }

pub value-accepted : (p : Payload) (room : ℕ) → Writable p room → value_verdict p room ≡ Accepted
unfolding value_verdict
value-accepted p room w =
    simp (le-ltb 291 p.m w.few, w.each, le-ltb 1456 (length (layout (held p))) w.short, le-ltb room (length (layout (held p))) w.fits)

-- by its type a struct's bytes are bytes, so what the checks let through is exactly what is legal and fits
pub checked-legal : (p : Payload) → Typed p → p.m ≤ 291 → units_verdict (held p).units ≡ Accepted → LegalPayload p
checked-legal p t few each =
    let units = accepted-units (held p).units (each_take ByteUnit p.m p.units t.bytes) each in
    let count : length (held p).units ≤ 291 = omega (arith, length-held p t.places few) in
    record { few = few; value = record { byte = t.byte; count = count; each = units } }

pub legal-writable : (p : Payload) (room : ℕ) → LegalPayload p → length (layout (held p)) ≤ 1456 → length (layout (held p)) ≤ room → Writable p room
legal-writable p room h short fits = record { few = h.few; each = units-accepted (held p).units h.value.each; short = short; fits = fits }
