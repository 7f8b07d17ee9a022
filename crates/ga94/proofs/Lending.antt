-- Records as bytes in a lent array: what is laid is told again, and an array of bytes tells a value as the code's types hold it.
-- Assumes nothing.
use Prim.Native.Nat.{ℕ, ◌+◌, ◌*◌, ◌≤◌, ◌<◌}
use native.Mathlib.Nat.{add-zero}
use native.Mathlib.Omega.{arith}
use mathlib.Core.Path.{◌≡◌, ◌∙◌, ap, sym, subst, refl}
use mathlib.Core.Bool.{Bool}
use mathlib.Core.List.{List, [], ◌∷◌, ◌++◌}
use borrow.Author.Tests.{lt-ltb}
use lib.ListN.{length, get_or, take, drop, replicate}
use lib.Seq.{get_or-drop, length-take-le}
use Rattle.lists.specs.Bytes.{Bytes}
use Rattle.lists.specs.Room.{filled, over, over_at}
use Rattle.lists.proofs.Each.{each-of, each_at}
use Rattle.lists.proofs.Flat.{length_taken, get_d-taken, length-flat, flat-whole, flat-next, flat-room, flat-filled, flat-over, flat-front}
use Rattle.lists.proofs.Lay.{sets-over_at}
use Rattle.ga94.specs.declared.Record.{Record}
use Rattle.ga94.specs.declared.Numbers.{Numbers}
use Rattle.ga94.specs.Value.{ByteRecord, CaptionUnit, blank, stored, held, Typed}
use Rattle.ga94.specs.Lent.{record_bytes, records_bytes, record_in, lent_records, stored_if, stored_at, unit_in, numbers_of}

-- ---- one record

pub length-record : (r : Record) → length (record_bytes r) ≡ 4
length-record r = refl

pub record-back : (r : Record) (rest : List ℕ) → record_in (record_bytes r ++ rest) ≡ r
unfolding record_in
record-back r rest = refl

-- stored within an array, its bytes are laid over
pub stored-laid : (i : ℕ) (r : Record) (s : List ℕ) → i < 31 → length s ≡ 124 → stored_at i r s ≡ over_at (4 * i) (record_bytes r) s
unfolding stored_at
stored-laid i r s h e = ap (λ (t : Bool). stored_if t i r s) (lt-ltb i 31 h) ∙ sets-over_at (4 * i) (record_bytes r) s (omega arith)

-- ---- all places of an array

pub lent_length : (s : List ℕ) → length (lent_records s) ≡ 31
lent_length s = length_taken record_in 4 31 s

pub lent_at : (s : List ℕ) (i : ℕ) → i < 31 → get_or (lent_records s) i blank ≡ record_in (drop (4 * i) s)
lent_at s i h = get_d-taken record_in 4 blank 31 i s h

-- what stands at an index
pub record-at : (s : List ℕ) (at : ℕ)
    → record_in (drop at s)
    ≡ record { cc_valid = get_or s at 0; cc_type = get_or s (at + 1) 0; cc_data_1 = get_or s (at + 2) 0; cc_data_2 = get_or s (at + 3) 0 }
unfolding record_in
record-at s at = simp (get_or-drop, add-zero)

pub length-lent : (rs : List Record) → length (records_bytes rs) ≡ 4 * length rs
length-lent rs = length-flat record_bytes 4 length-record rs

-- ---- records that fill the array are told again

pub lent-records : (rs : List Record) → length rs ≡ 31 → lent_records (records_bytes rs) ≡ rs
lent-records rs e = flat-whole record_bytes 4 length-record record_in record-back rs 31 e

pub lent-unit : (u : CaptionUnit) → length u.records ≡ 31 → unit_in (numbers_of u) (records_bytes u.records) ≡ u
lent-unit u e =
    ap (λ (rs : List Record).
    record {
      process_em_data_flag = u.process_em_data_flag;
      process_cc_data_flag = u.process_cc_data_flag;
      additional_data_flag = u.additional_data_flag;
      em_data = u.em_data;
      n = u.n;
      records = rs;
      z = u.z;
    })
    (lent-records u.records e)

-- ---- and bytes that tell records are laid again

record_same : (s : List ℕ) → 4 ≤ length s → record_bytes (record_in s) ≡ take 4 s
unfolding record_in
record_same [] h = let f : ⊥ = omega arith in absurd f
record_same (a ∷ []) h = let f : ⊥ = omega arith in absurd f
record_same (a ∷ b ∷ []) h = let f : ⊥ = omega arith in absurd f
record_same (a ∷ b ∷ c ∷ []) h = let f : ⊥ = omega arith in absurd f
record_same (a ∷ b ∷ c ∷ d ∷ s) h = refl

-- the value that numbers and an array tell, stored again: its numbers, and the bytes of its n records with zeros behind them
module _ (v : Numbers) (s : List ℕ) (few : v.n ≤ 31) where
  pub lent-numbers : numbers_of (stored (held (unit_in v s))) ≡ v
  lent-numbers =
      let count = length-take-le v.n (lent_records s) (omega (arith, lent_length s)) in
      ap (λ (n : ℕ).
      record {
        process_em_data_flag = v.process_em_data_flag;
        process_cc_data_flag = v.process_cc_data_flag;
        additional_data_flag = v.additional_data_flag;
        em_data = v.em_data;
        n = n;
        z = v.z;
      })
      count

  pub lent-front : length s ≡ 124 → records_bytes (stored (held (unit_in v s))).records ≡ filled (take (4 * v.n) s) 124 0
  lent-front e = flat-front record_bytes 4 length-record record_in record_same blank refl 31 v.n s few (omega arith)

-- ---- an array of bytes tells bytes

byte-record : (s : List ℕ) → Bytes s → (at : ℕ) → at + 4 ≤ length s → ByteRecord (record_in (drop at s))
unfolding record_in
byte-record s h at fits =
    record {
      data-1 = omega (arith, get_or-drop at s 2 0, each_at (λ (b : ℕ). b < 256) 0 s h (at + 2) (omega arith));
      data-2 = omega (arith, get_or-drop at s 3 0, each_at (λ (b : ℕ). b < 256) 0 s h (at + 3) (omega arith));
    }

pub lent-typed : (v : Numbers) (s : List ℕ) → Bytes s → length s ≡ 124 → Typed (unit_in v s)
lent-typed v s h e =
    record {
      places = lent_length s;
      bytes =
          each-of ByteRecord blank (lent_records s)
          (λ i below.
          let place : i < 31 = omega (arith, below, lent_length s) in
          subst ByteRecord (sym (lent_at s i place)) (byte-record s h (4 * i) (omega arith)));
    }

-- ---- room beyond the records is zeros

pub lent-filled : (rs : List Record) → length rs ≤ 31 → records_bytes (filled rs 31 blank) ≡ filled (records_bytes rs) 124 0
lent-filled rs h = flat-filled record_bytes 4 length-record blank refl rs 31 h

-- records laid over an array of zeros
pub lent-over : (rs : List Record) → length rs ≤ 31 → over (records_bytes rs) (replicate 124 0) ≡ records_bytes (filled rs 31 blank)
lent-over rs h = flat-over record_bytes 4 length-record blank refl rs 31 h

-- ---- records laid one behind the other over an array of 124 bytes

module _ (rs : List Record) (s : List ℕ) where
  -- the next one, where it comes
  pub lent-next : (i : ℕ) → i < length rs
      → over_at (4 * i) (record_bytes (get_or rs i blank)) (over (records_bytes (take i rs)) s) ≡ over (records_bytes (take (i + 1) rs)) s
  lent-next i h = flat-next record_bytes 4 length-record blank rs s i h

  -- it keeps its length
  pub lent-room : length rs ≤ 31 → length s ≡ 124 → length (over (records_bytes rs) s) ≡ 124
  lent-room h e = flat-room record_bytes 4 length-record rs 31 s h e
