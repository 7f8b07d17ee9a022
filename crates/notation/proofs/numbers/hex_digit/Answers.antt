-- `notation::numbers::hex_digit` meets its contract: its tests are those of the definition, in the same order.
use Prim.Native.Nat.{ℕ, ◌-◌, ◌<◌}
use native.Mathlib.Omega.{arith}
use mathlib.Core.Bool.{Bool, true, false, not}
use mathlib.Core.Path.{◌≡◌, ◌∙◌, ap, ap₂, sym}
use Rattle.std.proofs.Common.{Some, None}
use borrow.Author.Tests.{le-ltb, lt-ltb}
use lib.Dec.{ltb}
use Rattle.notation.specs.Inside.{told_if}
use Rattle.notation.specs.Value.{between, choose, hex_digit}
use Rattle.notation.proofs.Digits.{between-bounds}
use Rattle.notation.proofs.numbers.hex_digit.Goals as goal

-- what is chosen by three tests
chosen : Bool → Bool → Bool → ℕ → ℕ
chosen digit upper lower c = choose digit (c - 0x30) (choose upper (c - 0x37) (choose lower (c - 0x57) 16))

module _ (c : ℕ) where
  digit : between 0x30 0x39 c ≡ true → c - 0x30 ≡ hex_digit c
  unfolding hex_digit chosen
  digit e = sym (ap (λ (t : Bool). chosen t (between 0x41 0x46 c) (between 0x61 0x66 c) c) e)

  upper : between 0x30 0x39 c ≡ false → between 0x41 0x46 c ≡ true → c - 0x37 ≡ hex_digit c
  unfolding hex_digit chosen
  upper d e = sym (ap₂ (λ (s t : Bool). chosen s t (between 0x61 0x66 c) c) d e)

  lower : between 0x30 0x39 c ≡ false → between 0x41 0x46 c ≡ false → between 0x61 0x66 c ≡ true → c - 0x57 ≡ hex_digit c
  unfolding hex_digit chosen
  lower d u e = sym (ap₂ (λ (s t : Bool). chosen s t (between 0x61 0x66 c) c) d u ∙ ap (λ (t : Bool). chosen false false t c) e)

  other : between 0x30 0x39 c ≡ false → between 0x41 0x46 c ≡ false → between 0x61 0x66 c ≡ false → 16 ≡ hex_digit c
  unfolding hex_digit chosen
  other d u e = sym (ap₂ (λ (s t : Bool). chosen s t (between 0x61 0x66 c) c) d u ∙ ap (λ (t : Bool). chosen false false t c) e)

-- a digit's value is below 16, and of any other character it is 16
told : (c v : ℕ) → v ≡ hex_digit c → v < 16 → Some v ≡ told_if (not (ltb 15 (hex_digit c))) (hex_digit c)
told c v e h = ap Some e ∙ sym (ap (λ (t : Bool). told_if (not t) (hex_digit c)) (le-ltb 15 (hex_digit c) (omega arith)))

untold : (c : ℕ) → 16 ≡ hex_digit c → None ≡ told_if (not (ltb 15 (hex_digit c))) (hex_digit c)
untold c e = sym (ap (λ (t : Bool). told_if (not t) (hex_digit c)) (lt-ltb 15 (hex_digit c) (omega arith)))

pub returns-then-between : goal.returns-then-between
returns-then-between c =
    let is = sym c.between.ensures ∙ c.if-between.true in
    let bounds = between-bounds 0x30 0x39 c.args.c is in
    told c.args.c _ (digit c.args.c is) (omega arith)

pub returns-then-between-2 : goal.returns-then-between-2
returns-then-between-2 c =
    let is = sym c.between-2.ensures ∙ c.if-between-2.true in
    let bounds = between-bounds 0x41 0x46 c.args.c is in
    told c.args.c _ (upper c.args.c (sym c.between.ensures ∙ c.if-between.false) is) (omega arith)

pub returns-then-between-3 : goal.returns-then-between-3
returns-then-between-3 c =
    let is = sym c.between-3.ensures ∙ c.if-between-3.true in
    let bounds = between-bounds 0x61 0x66 c.args.c is in
    told c.args.c _ (lower c.args.c (sym c.between.ensures ∙ c.if-between.false) (sym c.between-2.ensures ∙ c.if-between-2.false) is) (omega arith)

pub returns : goal.returns
returns c =
    untold c.args.c
    (other c.args.c (sym c.between.ensures ∙ c.if-between.false) (sym c.between-2.ensures ∙ c.if-between-2.false) (sym c.between-3.ensures ∙ c.if-between-3.false))
