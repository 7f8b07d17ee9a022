-- Units that are gathered into one number: none is refused exactly where the number is clear.
-- Assumes nothing.
use Prim.Native.Nat.{ℕ, ◌+◌, ◌*◌, ◌/◌, ◌%◌, ◌^◌, ◌<◌}
use native.Mathlib.Omega.{arith}
use mathlib.Core.Path.{◌≡◌, ◌∙◌, ap, subst, sym}
use mathlib.Core.Logic.{◌↔◌}
use lib.Bits.{bit_or, or_add_and, and_le_l, and_le_r, or_lt, or_shr, or_mod}
use Rattle.refusal.specs.Verdict.{Accepted}
use Rattle.line21.specs.declared.AccessUnit.{AccessUnit}
use Rattle.line21.specs.Writing.{unit_verdict}
use Rattle.line21.proofs.Numbers.{unit-accepted, accepted-unit}
use Rattle.line21_judge.specs.Seen.{Clear}

-- an OR has no more bits than w exactly where neither number has
fits_both : (w a b : ℕ) → bit_or a b < 2 ^ w → (a < 2 ^ w) × (b < 2 ^ w)
fits_both w a b h = (omega (arith, or_add_and a b, and_le_r a b), omega (arith, or_add_and a b, and_le_l a b))

-- the byte of an OR is the OR of the bytes
low_or : (a b : ℕ) → bit_or a b % 256 ≡ bit_or (a % 256) (b % 256)
low_or a b = or_mod a b 8

byte_or : (k a b : ℕ) → bit_or a b / 2 ^ k % 256 ≡ bit_or (a / 2 ^ k % 256) (b / 2 ^ k % 256)
byte_or k a b = ap (λ (n : ℕ). n % 256) (or_shr a b k) ∙ low_or (a / 2 ^ k) (b / 2 ^ k)

pub clear_or : (a b : ℕ) → Clear (bit_or a b) ↔ (Clear a × Clear b)
clear_or a b = (
  λ c.
      let one = fits_both 1 (a % 256) (b % 256) (subst (λ (n : ℕ). n < 2) (low_or a b) c.valid_1) in
      let two = fits_both 1 (a / 256 % 256) (b / 256 % 256) (subst (λ (n : ℕ). n < 2) (byte_or 8 a b) c.valid_2) in
      let six = fits_both 6 (a / 65536 % 256) (b / 65536 % 256) (subst (λ (n : ℕ). n < 64) (byte_or 16 a b) c.pad) in
      (record { valid_1 = one.0; valid_2 = two.0; pad = six.0 }, record { valid_1 = one.1; valid_2 = two.1; pad = six.1 }),
  λ h. record {
    valid_1 = subst (λ (n : ℕ). n < 2) (sym (low_or a b)) (or_lt 1 (a % 256) (b % 256) h.0.valid_1 h.1.valid_1);
    valid_2 = subst (λ (n : ℕ). n < 2) (sym (byte_or 8 a b)) (or_lt 1 (a / 256 % 256) (b / 256 % 256) h.0.valid_2 h.1.valid_2);
    pad = subst (λ (n : ℕ). n < 64) (sym (byte_or 16 a b)) (or_lt 6 (a / 65536 % 256) (b / 65536 % 256) h.0.pad h.1.pad);
  },
)

-- before the first unit
pub clear_none : Clear 0
clear_none = record { valid_1 = omega arith; valid_2 = omega arith; pad = omega arith }

-- the first four bytes of a unit as one number
abbrev pub word_of : AccessUnit → ℕ
word_of u = u.cc_valid_1 + 256 * u.cc_valid_2 + 65536 * u.padding + 16777216 * u.field1_data1

module _ (u : AccessUnit) (a : u.cc_valid_1 < 256) (b : u.cc_valid_2 < 256) (c : u.padding < 256) where
  first : word_of u % 256 ≡ u.cc_valid_1
  first = omega arith

  second : word_of u / 256 % 256 ≡ u.cc_valid_2
  second = omega arith

  third : word_of u / 65536 % 256 ≡ u.padding
  third = omega arith

  pub clear-word : Clear (word_of u) ↔ unit_verdict u ≡ Accepted
  clear-word = (
    λ h. unit-accepted u (record {
      valid_1 = subst (λ (n : ℕ). n < 2) first h.valid_1;
      valid_2 = subst (λ (n : ℕ). n < 2) second h.valid_2;
      pad = subst (λ (n : ℕ). n < 64) third h.pad;
    }),
    λ e.
        let fits = accepted-unit u e in
        record {
          valid_1 = subst (λ (n : ℕ). n < 2) (sym first) fits.valid_1;
          valid_2 = subst (λ (n : ℕ). n < 2) (sym second) fits.valid_2;
          pad = subst (λ (n : ℕ). n < 64) (sym third) fits.pad;
        },
  )
