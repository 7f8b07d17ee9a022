-- `bits::peek` meets its contract: its bits stand in the window from byte `at / 8` on.
use Prim.Native.Nat.{ℕ, ◌+◌, ◌-◌, ◌*◌, ◌/◌, ◌%◌, ◌^◌, ◌≤◌, ◌<◌}
use native.Mathlib.Nat.{lt_of_lt_of_le, mod-lt}
use native.Mathlib.Omega.{arith}
use mathlib.Core.Path.{◌≡◌, ◌∙◌, ap, ap₂, sym, subst}
use mathlib.Core.List.{List}
use lib.Pow.{pow_pos, pow_mono}
use Rattle.bits.specs.Peek.{peek_of}
use Rattle.bits.proofs.Numbers.{one_shifted}
use Rattle.bits.proofs.Windows.{peek-window}
use Rattle.bits.proofs.peek.Goals as goal

-- what is left of a division by the code's power
remainder-lt : (n w : ℕ) → w ≤ 32 → n % (1 * 2 ^ w % 18446744073709551616) < 4294967296
remainder-lt n w h = lt_of_lt_of_le (subst (λ (m : ℕ). n % m < 2 ^ w) (sym (one_shifted w (omega arith))) (mod-lt n (pow_pos w))) (pow_mono h)

-- the bits that the code takes from the window
taken : (s : List ℕ) (at w : ℕ) → w ≤ 32 → peek_of s (8 * (at / 8)) 40 / 2 ^ (40 - at % 8 - w) % (1 * 2 ^ w % 18446744073709551616) ≡ peek_of s at w
taken s at w h =
    let j = at % 8 in
    let inside : j + w ≤ 40 = omega arith in
    let left : 40 - j - w ≡ 40 - (j + w) = omega arith in
    let place : 8 * (at / 8) + j ≡ at = omega arith in
    ap₂ (λ (n m : ℕ). peek_of s (8 * (at / 8)) 40 / 2 ^ n % m) left (one_shifted w (omega arith))
    ∙ sym (peek-window s (at / 8) j w inside)
    ∙ ap (λ (n : ℕ). peek_of s n w) place

pub overflow_cast-result-2 : goal.overflow_cast-result-2
overflow_cast-result-2 c = record { fits = remainder-lt _ c.min-width.result (omega arith) }

pub returns : goal.returns
returns c =
    let w = c.min-width.result in
    ap (λ (n : ℕ). n / 2 ^ (40 - c.args.at % 8 - w) % (1 * 2 ^ w % 18446744073709551616)) c.window.ensures
    ∙ taken c.args.s.now c.args.at w (omega arith)
    ∙ ap (peek_of c.args.s.now c.args.at) c.min-width.ensures
