-- Layout and reading undo each other, unit by unit and for the whole value.
-- Assumes nothing.
use Prim.Native.Nat.{ℕ, zero, suc, ◌+◌, ◌*◌, ◌/◌, ◌%◌, ◌<◌}
use native.Mathlib.Omega.{arith}
use mathlib.Core.Path.{◌≡◌, ◌∙◌, ap, ap₂, sym, subst, refl}
use mathlib.Core.List.{List, [], ◌∷◌, ◌++◌}
use lib.ListN.{length}
use Rattle.lists.specs.Each.{Each}
use Rattle.lists.specs.Bytes.{Bytes}
use Rattle.refusal.specs.Verdict.{Accepted}
use Rattle.line21.specs.declared.AccessUnit.{AccessUnit}
use Rattle.line21.specs.declared.Payload.{Payload}
use Rattle.line21.specs.declared.Answer.{Answer}
use Rattle.line21.specs.Value.{Line21, LegalAccessUnit, Legal, LegalPayload, stored, held}
use Rattle.line21.specs.Layout.{layout_access_unit, layout_access_units, layout}
use Rattle.line21.specs.Reading.{read_unit, read_units, unit_count, value_of, answer_of, read_of, Reads}
use Rattle.line21.proofs.Layouts.{length-layout_units}
use Rattle.line21.proofs.Length.{WholeUnits, whole-unit_count, whole-accepted}
use Rattle.line21.proofs.Answers.{accepted-answer, accepted-length, stored-held, stored-legal}
use Rattle.line21.proofs.Units.{length-read_units}

-- what a unit's bytes read as is the unit
layout-read_unit : (u : AccessUnit) → LegalAccessUnit u → (rest : List ℕ) → read_unit (layout_access_unit u ++ rest) ≡ u
unfolding read_unit
layout-read_unit u h rest =
    let numbers = h.numbers in
    let first = u.cc_valid_1 * 128 + u.cc_valid_2 * 64 + u.padding in
    let one : first / 128 ≡ u.cc_valid_1 = omega arith in
    let two : first / 64 % 2 ≡ u.cc_valid_2 = omega arith in
    let pad : first % 64 ≡ u.padding = omega arith in
    λ i. record {
      cc_valid_1 = one i;
      cc_valid_2 = two i;
      padding = pad i;
      field1_data1 = u.field1_data1;
      field1_data2 = u.field1_data2;
      field2_data1 = u.field2_data1;
      field2_data2 = u.field2_data2;
    }

pub layout-read_units : (us : List AccessUnit) → Each LegalAccessUnit us → read_units (length us) (layout_access_units us) ≡ us
layout-read_units [] h = refl
layout-read_units (u ∷ us) h = ap₂ (λ (x : AccessUnit) (xs : List AccessUnit). x ∷ xs) (layout-read_unit u h.0 (layout_access_units us)) (layout-read_units us h.1)

-- five bytes are the layout of what they read as, which is legal
module _ (a b c d e : ℕ) (rest : List ℕ) where
  read_unit-layout : a < 256 → layout_access_unit (read_unit (a ∷ b ∷ c ∷ d ∷ e ∷ rest)) ≡ a ∷ b ∷ c ∷ d ∷ e ∷ []
  unfolding read_unit
  read_unit-layout ha =
      let first : a / 128 * 128 + a / 64 % 2 * 64 + a % 64 ≡ a = omega arith in
      ap (λ (x : ℕ). x ∷ b ∷ c ∷ d ∷ e ∷ []) first

  read_unit-legal : a < 256 → b < 256 → c < 256 → d < 256 → e < 256 → LegalAccessUnit (read_unit (a ∷ b ∷ c ∷ d ∷ e ∷ rest))
  unfolding read_unit
  read_unit-legal ha hb hc hd he =
      record { numbers = record { valid_1 = omega arith; valid_2 = omega arith; pad = omega arith }; bytes = record { field1-data1 = hb; field1-data2 = hc; field2-data1 = hd; field2-data2 = he } }

-- so are whole units
record Units (k : ℕ) (s : List ℕ) : Type 0 where
  same : layout_access_units (read_units k s) ≡ s
  legal : Each LegalAccessUnit (read_units k s)

units-back : (k : ℕ) (s : List ℕ) → Bytes s → length s ≡ 5 * k → Units k s
units-back zero [] h n = record { same = refl; legal = tt }
units-back zero (a ∷ s) h n = let f : ⊥ = omega arith in absurd f
units-back (suc k) [] h n = let f : ⊥ = omega arith in absurd f
units-back (suc k) (a ∷ []) h n = let f : ⊥ = omega arith in absurd f
units-back (suc k) (a ∷ b ∷ []) h n = let f : ⊥ = omega arith in absurd f
units-back (suc k) (a ∷ b ∷ c ∷ []) h n = let f : ⊥ = omega arith in absurd f
units-back (suc k) (a ∷ b ∷ c ∷ d ∷ []) h n = let f : ⊥ = omega arith in absurd f
units-back (suc k) (a ∷ b ∷ c ∷ d ∷ e ∷ rest) h n =
    let left : length rest ≡ 5 * k = omega arith in
    let more = units-back k rest h.1.1.1.1.1 left in
    record {
      same = ap₂ (λ (x y : List ℕ). x ++ y) (read_unit-layout a b c d e rest h.0) more.same;
      legal = (read_unit-legal a b c d e rest h.0 h.1.0 h.1.1.0 h.1.1.1.0 h.1.1.1.1.0, more.legal);
    }

-- the value that a payload of whole units holds is legal, and the payload is its layout
pub record Payloads (s : List ℕ) : Type 0 where
  pub same : layout (value_of s) ≡ s
  pub legal : Legal (value_of s)

pub payload-back : (s : List ℕ) → Bytes s → WholeUnits (length s) → Payloads s
payload-back [] h w = let f : ⊥ = omega (arith, w.exact) in absurd f
payload-back (flags ∷ s) h w =
    let k = unit_count (length (flags ∷ s)) in
    let all : length s ≡ 5 * k = omega (arith, w.exact) in
    let units = units-back k s h.1 all in
    record {
      same = ap (λ (bytes : List ℕ). flags ∷ bytes) units.same;
      legal = record { byte = h.0; count = omega (arith, length-read_units k s, w.most); each = units.legal };
    }

-- what a value's layout holds is the value
pub length-layout : (v : Line21) → length (layout v) ≡ 1 + 5 * length v.units
length-layout v = omega (arith, length-layout_units v.units)

pub layout-value : (v : Line21) → Legal v → value_of (layout v) ≡ v
layout-value v h =
    let count : unit_count (length (layout v)) ≡ length v.units = whole-unit_count (length (layout v)) (length v.units) (length-layout v) in
    let units : read_units (unit_count (length (layout v))) (layout_access_units v.units) ≡ v.units = ap (λ (k : ℕ). read_units k (layout_access_units v.units)) count ∙ layout-read_units v.units h.each in
    λ i. record { flags = v.flags; units = units i }

-- reading a legal value's bytes answers that value
pub layout-read : (v : Line21) → Legal v → read_of (layout v) ≡ answer_of Accepted v
layout-read v h = ap₂ answer_of (whole-accepted (length (layout v)) (length v.units) (length-layout v) h.count) (layout-value v h)

-- what is accepted holds a legal value, whose layout it is
pub read-legal : (s : List ℕ) → Bytes s → (read_of s).refusal.number ≡ 0 → Payloads s
read-legal s h e = payload-back s h (accepted-length s e)

-- and so does the struct that was read
pub record Stored (s : List ℕ) (p : Payload) : Type 0 where
  pub same : layout (held p) ≡ s
  pub legal : LegalPayload p

pub read-stored : (s : List ℕ) (a : Answer) → Reads s a → a.refusal.number ≡ 0 → Stored s a.payload
read-stored s a read e =
    let zero = sym (ap (λ (x : Answer). x.refusal.number) read.answer) ∙ e in
    let back = read-legal s read.bytes zero in
    let struct : a.payload ≡ stored (value_of s) = ap (λ (x : Answer). x.payload) (read.answer ∙ accepted-answer s zero) in
    record {
      same = ap (λ (q : Payload). layout (held q)) struct ∙ ap layout (stored-held (value_of s)) ∙ back.same;
      legal = subst LegalPayload (sym struct) (stored-legal (value_of s) back.legal);
    }
