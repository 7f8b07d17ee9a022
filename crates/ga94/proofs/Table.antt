-- The bytes of the content are the items of Table 3 of document 003, with their numbers of bits.
-- Assumes nothing.
use Prim.Native.Nat.{ℕ, zero, suc, ◌+◌, ◌*◌, ◌/◌, ◌%◌, ◌≤◌, ◌<◌}
use native.Mathlib.Omega.{arith}
use mathlib.Core.Path.{◌≡◌, ◌∙◌, ap, ap₂, sym, refl}
use mathlib.Core.List.{List, [], ◌∷◌, ◌++◌}
use lib.ListN.{length}
use Rattle.lists.specs.Each.{Each}
use Rattle.lists.specs.Flat.{flat}
use Rattle.bits.specs.Bits.{bits, bits_of}
use Rattle.bits.proofs.Numbers.{bits-add, bits-mod}
use Rattle.ga94.specs.declared.Record.{Record}
use Rattle.ga94.specs.Value.{Content, LegalRecord, Legal}
use Rattle.ga94.specs.Layout.{construct_bytes, content_bytes, construct_bits, item_bits}

-- marker_bits, cc_valid and cc_type share a byte
head-bits : (v t : ℕ) → v < 2 → t < 4 → bits 8 (0xF8 + 4 * v + t) ≡ bits 5 31 ++ (bits 1 v ++ bits 2 t)
head-bits zero zero h g = refl
head-bits zero (suc zero) h g = refl
head-bits zero (suc (suc zero)) h g = refl
head-bits zero (suc (suc (suc zero))) h g = refl
head-bits zero (suc (suc (suc (suc t)))) h g = let f : ⊥ = omega arith in absurd f
head-bits (suc zero) zero h g = refl
head-bits (suc zero) (suc zero) h g = refl
head-bits (suc zero) (suc (suc zero)) h g = refl
head-bits (suc zero) (suc (suc (suc zero))) h g = refl
head-bits (suc zero) (suc (suc (suc (suc t)))) h g = let f : ⊥ = omega arith in absurd f
head-bits (suc (suc v)) t h g = let f : ⊥ = omega arith in absurd f

-- the three flags share a byte with cc_count
three-flags : (a b : ℕ) → a < 2 → b < 2 → bits 3 (4 * a + 2 * b + 0) ≡ bits 1 a ++ (bits 1 b ++ bits 1 0)
three-flags zero zero h g = refl
three-flags zero (suc zero) h g = refl
three-flags zero (suc (suc b)) h g = let f : ⊥ = omega arith in absurd f
three-flags (suc zero) zero h g = refl
three-flags (suc zero) (suc zero) h g = refl
three-flags (suc zero) (suc (suc b)) h g = let f : ⊥ = omega arith in absurd f
three-flags (suc (suc a)) b h g = let f : ⊥ = omega arith in absurd f

flags-bits : (a b d n : ℕ) → a < 2 → b < 2 → d ≡ 0 → n ≤ 31 → bits 8 (128 * a + 64 * b + 32 * d + n) ≡ bits 1 a ++ (bits 1 b ++ (bits 1 d ++ bits 5 n))
flags-bits a b d n h g e few =
    let x = 128 * a + 64 * b + 32 * d + n in
    let high : x / 32 ≡ 4 * a + 2 * b + 0 = omega arith in
    let low : x % 32 ≡ n = omega arith in
    bits-add 3 5 x
    ∙ ap₂ (λ (k : ℕ) (ys : List ℕ). bits 3 k ++ ys) high (sym (bits-mod 5 x) ∙ ap (bits 5) low)
    ∙ ap (λ (ys : List ℕ). ys ++ bits 5 n) (three-flags a b h g)
    ∙ ap (λ (k : ℕ). bits 1 a ++ (bits 1 b ++ (bits 1 k ++ bits 5 n))) (sym e)

-- the constructs, and the byte of ones behind them
constructs-bits : (rs : List Record) → Each LegalRecord rs → bits_of (flat construct_bytes rs ++ (0xFF ∷ [])) ≡ flat construct_bits rs ++ bits 8 0xFF
constructs-bits [] legal = refl
constructs-bits (r ∷ rs) legal =
    ap₂ (λ (xs ys : List ℕ). xs ++ (bits 8 r.cc_data_1 ++ (bits 8 r.cc_data_2 ++ ys)))
    (head-bits r.cc_valid r.cc_type legal.0.valid legal.0.type)
    (constructs-bits rs legal.1)

pub table-3 : (c : Content) → Legal c → bits_of (content_bytes c) ≡ item_bits c
table-3 c legal =
    ap₂ (λ (xs ys : List ℕ). bits 32 0x47413934 ++ (bits 8 3 ++ (xs ++ (bits 8 c.em_data ++ ys))))
    (flags-bits c.process_em_data_flag c.process_cc_data_flag c.additional_data_flag (length c.records)
    legal.em_flag legal.cc_flag legal.no_additional legal.few)
    (constructs-bits c.records legal.each)
