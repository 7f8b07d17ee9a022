-- Units as bytes in a lent array, seven bytes each, and back.
-- Assumes nothing.
use Prim.Native.Nat.{ℕ, zero, suc, ◌+◌, ◌-◌, ◌*◌, ◌/◌, ◌≤◌, ◌<◌}
use native.Mathlib.Omega.{arith}
use mathlib.Core.Path.{◌≡◌, ◌∙◌, ap, ap₂, sym, refl}
use mathlib.Core.List.{List, [], ◌∷◌, ◌++◌, append_assoc, append-nil}
use lib.ListN.{length, get_or, take, drop, replicate, length-append, get_or-eq_default}
use lib.Seq.{length-take-le, take_at}
use Rattle.lists.specs.Each.{Each}
use Rattle.lists.specs.Bytes.{Bytes}
use Rattle.lists.specs.Room.{filled, over, over_at}
use Rattle.lists.specs.Flat.{taken}
use Rattle.lists.proofs.Each.{each-drop}
use Rattle.lists.proofs.Flat.{length_taken, get_d-taken, taken-take, taken-drop, flat-more, length-flat, flat-taken, flat-filled}
use Rattle.lists.proofs.Lay.{length_over, take-over, over_at-over_at}
use Rattle.refusal.specs.Verdict.{Verdict}
use Rattle.refusal.specs.Verdict.{Accepted, Refused}
use Rattle.refusal.specs.Answers.{lent_of}
use Rattle.line21.specs.declared.AccessUnit.{AccessUnit}
use Rattle.line21.specs.declared.Payload.{Payload}
use Rattle.line21.specs.Value.{Line21, ByteUnit, Typed, blank}
use Rattle.line21.specs.Reading.{answer_of}
use Rattle.line21.specs.Writing.{value_verdict}
use Rattle.line21.specs.Lent.{access_unit_bytes, access_units_bytes, access_unit_in, access_units_in, run_in, payload_in}

seven : (u : AccessUnit) → length (access_unit_bytes u) ≡ 7
seven u = refl

bytes-unit_in : (u : AccessUnit) (rest : List ℕ) → access_unit_in (access_unit_bytes u ++ rest) ≡ u
unfolding access_unit_in
bytes-unit_in u rest = refl

length-units_bytes : (us : List AccessUnit) → length (access_units_bytes us) ≡ 7 * length us
length-units_bytes = length-flat access_unit_bytes 7 seven

-- a struct's units are told by their bytes
pub payload-told : (p : Payload) → length p.units ≡ 291 → payload_in p.flags p.m (access_units_bytes p.units) ≡ p
payload-told p places = ap made (ap₂ (taken access_unit_in 7) (sym places) (sym (append-nil (access_units_bytes p.units))) ∙ flat-taken access_unit_bytes 7 seven access_unit_in bytes-unit_in p.units [])
  where
    made : List AccessUnit → Payload
    made us = record { flags = p.flags; m = p.m; units = us }

pub lent-held : (p : Payload) → Typed p → payload_in p.flags p.m (access_units_bytes p.units) ≡ p
lent-held p t = payload-told p t.places

-- in a slice, the unit at an index is the one that stands there, and beyond the last whole one it is blank
pub unit-there : (s : List ℕ) (i : ℕ) → i < length s / 7 → get_or (run_in s) i blank ≡ access_unit_in (drop (7 * i) s)
unit-there s i h = get_d-taken access_unit_in 7 blank (length s / 7) i s h

pub unit-beyond : (s : List ℕ) (i : ℕ) → length s / 7 ≤ i → get_or (run_in s) i blank ≡ blank
unit-beyond s i h =
    let past : length (run_in s) ≤ i = omega (arith, length_taken access_unit_in 7 (length s / 7) s) in
    get_or-eq_default (run_in s) blank past

-- the first 291 are those of an array
pub unit-either : (s : List ℕ) (i : ℕ) → i < length s / 7 → i < 291 → get_or (run_in s) i blank ≡ get_or (access_units_in s) i blank
unit-either s i here few = unit-there s i here ∙ sym (get_d-taken access_unit_in 7 blank 291 i s few)

-- m units from index i on, where the run has them, as the array that begins there tells them
pub run-from : (s : List ℕ) (i m : ℕ) → m ≤ 291 → i + m ≤ length s / 7 → take m (access_units_in (drop (7 * i) s)) ≡ take m (drop i (run_in s))
run-from s i m few inside =
    let left = length s / 7 - i in
    let split : i + left ≡ length s / 7 = omega arith in
    taken-take access_unit_in 7 m 291 (drop (7 * i) s) few
    ∙ sym (ap (take m) (taken-drop access_unit_in 7 i (length s / 7) left s split) ∙ taken-take access_unit_in 7 m left (drop (7 * i) s) (omega arith))

-- what bytes tell is typed
byte_at : (s : List ℕ) → Bytes s → (i : ℕ) → get_or s i 0 < 256
byte_at [] h i = omega arith
byte_at (b ∷ s) h zero = h.0
byte_at (b ∷ s) h (suc i) = byte_at s h.1 i

pub byte-units : (k : ℕ) (s : List ℕ) → Bytes s → Each ByteUnit (taken access_unit_in 7 k s)
unfolding access_unit_in
byte-units zero s h = tt
byte-units (suc k) s h = (
  record { field1-data1 = byte_at s h 3; field1-data2 = byte_at s h 4; field2-data1 = byte_at s h 5; field2-data2 = byte_at s h 6 },
  byte-units k (drop 7 s) (each-drop (λ (b : ℕ). b < 256) 7 s h),
)

pub typed-in : (flags m : ℕ) (s : List ℕ) → flags < 256 → Bytes s → Typed (payload_in flags m s)
typed-in flags m s byte h = record { byte = byte; places = length_taken access_unit_in 7 291 s; bytes = byte-units 291 s h }

-- no flags byte is refused
pub verdict-flags : (flags m room : ℕ) (us : List AccessUnit)
    → value_verdict (record { flags = flags; m = m; units = us }) room ≡ value_verdict (record { flags = 0; m = m; units = us }) room
unfolding value_verdict
verdict-flags flags m room us = refl

-- units laid one behind the other over an array of 2,037 bytes
module _ (us : List AccessUnit) (out : List ℕ) where
  pub length-laid : length us ≤ 291 → length out ≡ 2037 → length (over (access_units_bytes us) out) ≡ 2037
  length-laid few e =
      let fits : length (access_units_bytes us) ≤ length out = omega (arith, length-units_bytes us) in
      length_over (access_units_bytes us) out fits ∙ e

  -- one unit more
  pub laid-unit : (u : AccessUnit) (at : ℕ) → 7 * length us ≡ at → over_at at (access_unit_bytes u) (over (access_units_bytes us) out) ≡ over (access_units_bytes (us ++ (u ∷ []))) out
  laid-unit u at e =
      let some : 0 ≤ length out = omega arith in
      let next : 0 + length (access_units_bytes us) ≡ at = omega (arith, length-units_bytes us) in
      over_at-over_at 0 (access_units_bytes us) (access_unit_bytes u) out at some next
      ∙ ap (λ (bytes : List ℕ). over bytes out) (sym (flat-more access_unit_bytes us u))

  -- the same told by the array's front
  pub front-unit : (u : AccessUnit) (at next : ℕ) → at ≤ length out → 7 * length us ≡ at → at + 7 ≡ next → take at out ≡ access_units_bytes us
      → take next (over_at at (access_unit_bytes u) out) ≡ access_units_bytes (us ++ (u ∷ []))
  front-unit u at next fits e more front =
      let behind = drop 7 (drop at out) in
      let long : length (take at out ++ access_unit_bytes u) ≡ next = simp length-append (omega (arith, length-take-le at out fits)) in
      ap (take next) (sym (append_assoc (take at out) (access_unit_bytes u) behind))
      ∙ take_at (take at out ++ access_unit_bytes u) behind next long
      ∙ ap (λ (bytes : List ℕ). bytes ++ access_unit_bytes u) front
      ∙ sym (flat-more access_unit_bytes us u)

  -- the array behind them cleared holds blank units
  pub cleared : (at : ℕ) → 7 * length us ≡ at → length us ≤ 291 → take at (over (access_units_bytes us) out) ++ replicate (2037 - at) 0 ≡ access_units_bytes (filled us 291 blank)
  cleared at e few =
      let long : length (access_units_bytes us) ≡ at = length-units_bytes us ∙ e in
      ap₂ (λ (front : List ℕ) (k : ℕ). front ++ replicate {A = ℕ} (2037 - k) 0) (take-over (access_units_bytes us) out at long) (sym long)
      ∙ sym (flat-filled access_unit_bytes 7 seven blank refl us 291 few)

-- a refusal leaves the array
pub refused-lent : (verdict : Verdict) (v : Line21) (new lent : List ℕ) → ((answer_of verdict v).refusal.number ≡ 0 → ⊥) → lent_of verdict new lent ≡ lent
refused-lent Accepted v new lent h = absurd (h refl)
refused-lent (Refused reason item) v new lent h = refl
