-- A layout by its bytes, as the writer stores them: two bytes, those of cc_count and the constructs, and zeros.
-- Assumes nothing.
use Prim.Native.Nat.{ℕ, zero, suc, ◌+◌, ◌-◌, ◌*◌, ◌/◌, ◌%◌, ◌≤◌, ◌<◌}
use native.Mathlib.Omega.{arith}
use mathlib.Core.Path.{◌≡◌, ◌∙◌, ap, ap₂, sym, subst}
use mathlib.Core.List.{List, [], ◌∷◌, ◌++◌, append_assoc}
use borrow.Rule.Slice.PartMut.{put_mid}
use lib.ListN.{length, take, drop, set, replicate, length-append, length-replicate, length-set, replicate-append-replicate}
use lib.Seq.{sets-eq}
use Rattle.lists.specs.Bytes.{Bytes}
use Rattle.lists.proofs.Lay.{cleared}
use Rattle.lists.proofs.Each.{each_append, each-replicate}
use Rattle.bits.specs.Bits.{bits, num, bits_of, bytes_of}
use Rattle.bits.proofs.Numbers.{AreBits, num-append, num-bits-small, bits-add, are-append, are-zeros, bits_are}
use Rattle.bits.proofs.Stream.{bits_of-append, bits_of-zeros, bits_of-same, bytes_of-bytes, bits_of-bytes_of, bytes_of-front}
use Rattle.scte20.specs.declared.Record.{Record}
use Rattle.scte20.specs.Value.{Content}
use Rattle.scte20.specs.Layout.{constructs_bits, item_bits, padding, layout, size_in}
use Rattle.scte20_writer.specs.Inside.{counted_bits, counted_size, counted_bytes, Counts}
use Rattle.scte20.proofs.Constructs.{length-constructs}
use Rattle.scte20.proofs.Sizes.{padded, length-items, length-layout, constructs-are, layout-bytes, bits_of-layout}

-- zeros, and more of them
pub zeros-more : (xs : List ℕ) (i j : ℕ) → (xs ++ replicate i 0) ++ replicate j 0 ≡ xs ++ replicate (i + j) 0
zeros-more xs i j = append_assoc xs (replicate i 0) (replicate j 0) ∙ ap (λ (r : List ℕ). xs ++ r) (replicate-append-replicate i j 0)

-- ---- cc_count and the constructs

length-counted : (rs : List Record) → length (counted_bits rs) ≡ 5 + 26 * length rs
length-counted rs = omega (arith, length-constructs rs)

counted-are : (rs : List Record) → AreBits (counted_bits rs)
counted-are rs = are-append (bits 5 (length rs)) (constructs_bits rs) (bits_are 5 (length rs)) (constructs-are rs)

-- how many zeros fill their last byte
abbrev filling : ℕ → ℕ
filling n = 8 * counted_size n - (5 + 26 * n)

counted-whole : (rs : List Record) → bits_of (counted_bytes rs) ≡ counted_bits rs ++ replicate (filling (length rs)) 0
counted-whole rs =
    let k = counted_size (length rs) in
    let p = filling (length rs) in
    let q = 8 - p in
    let most : p ≤ 8 = omega arith in
    let xs = counted_bits rs ++ replicate p 0 in
    let whole : length xs ≡ 8 * k = length-append (counted_bits rs) (replicate p 0) ∙ ap₂ (λ (a b : ℕ). a + b) (length-counted rs) (length-replicate p 0) ∙ omega arith in
    let eight : p + q ≡ 8 = omega arith in
    let split : counted_bits rs ++ replicate 8 0 ≡ xs ++ replicate q 0 = ap (λ (n : ℕ). counted_bits rs ++ replicate n 0) (sym eight) ∙ sym (zeros-more (counted_bits rs) p q) in
    let front : bytes_of k (xs ++ replicate q 0) ≡ bytes_of k xs = bytes_of-front k xs (replicate q 0) (omega (arith, whole)) in
    ap (λ (ys : List ℕ). bits_of (bytes_of k ys)) split
    ∙ ap bits_of front
    ∙ bits_of-bytes_of k xs whole (are-append (counted_bits rs) (replicate p 0) (counted-are rs) (are-zeros p))

-- ---- the layout

size-two : (f n : ℕ) → 2 ≤ size_in f n
size-two zero n = omega arith
size-two (suc f) n = omega arith

-- user_data_type_code, reserved and the flag take two bytes
pub layout-long : (c : Content) → 2 ≤ length (layout c)
layout-long c = omega (arith, length-layout c, size-two c.flag (length c.records))

-- reserved and the flag are one byte
second-byte : (r f : ℕ) → r < 128 → f < 2 → bits 8 (r * 2 + f) ≡ bits 7 r ++ bits 1 f
second-byte r f h g =
    let high : (r * 2 + f) / 2 ≡ r = omega arith in
    let low : bits 1 (r * 2 + f) ≡ bits 1 f = let same : (r * 2 + f) / 1 % 2 ≡ f / 1 % 2 = omega arith in ap (λ (b : ℕ). b ∷ []) same in
    bits-add 7 1 (r * 2 + f) ∙ ap₂ (λ (x : ℕ) (ys : List ℕ). bits 7 x ++ ys) high low

-- with flag 0
flag-0 : (r : ℕ) (rs : List Record) (z : ℕ) → r < 128 → layout (record { reserved = r; flag = 0; records = rs; z = z }) ≡ 3 ∷ (r * 2 + 0) ∷ replicate z 0
unfolding padding
flag-0 r rs z h =
    let two : num (bits 7 r ++ bits 1 0) ≡ r * 2 + 0 = num-append (bits 7 r) (bits 1 0) ∙ ap (λ (n : ℕ). n * 2 + 0) (num-bits-small 7 r h) in
    ap (λ (b : ℕ). 3 ∷ b ∷ replicate z 0) two

pub bare-layout : (c : Content) → c.flag ≡ 0 → c.reserved < 128 → layout c ≡ 3 ∷ (c.reserved * 2 + c.flag) ∷ replicate c.z 0
bare-layout c e h =
    subst (λ (f : ℕ). layout (record { reserved = c.reserved; flag = f; records = c.records; z = c.z }) ≡ 3 ∷ (c.reserved * 2 + f) ∷ replicate c.z 0) (sym e)
    (flag-0 c.reserved c.records c.z h)

-- with flag 1
module _ (r : ℕ) (rs : List Record) (z : ℕ) where
  abbrev full : Content
  full = record { reserved = r; flag = 1; records = rs; z = z }

  full-long : 2 + counted_size (length rs) ≤ length (layout full)
  full-long = omega (arith, length-layout full)

  -- how many bytes follow those of the constructs
  abbrev behind : ℕ
  behind = length (layout full) - (2 + counted_size (length rs))

  -- the sampled count, the padding and the stuffing are as many zeros as those in the last byte of the constructs and the bytes behind it
  zeros-count : 4 + (padding (length (item_bits full)) + 8 * z) ≡ filling (length rs) + 8 * behind
  zeros-count = omega (arith, length-items full, padded (length (item_bits full)), length-layout full)

  -- the first two bytes, then bits
  abbrev headed : List ℕ → List ℕ
  headed xs = bits 8 3 ++ (bits 7 r ++ (bits 1 1 ++ xs))

  full-bits : bits_of (layout full) ≡ headed (counted_bits rs ++ replicate (4 + (padding (length (item_bits full)) + 8 * z)) 0)
  full-bits =
      let p = padding (length (item_bits full)) in
      bits_of-layout full
      ∙ zeros-more (item_bits full) p (8 * z)
      ∙ ap headed (zeros-more (counted_bits rs) 4 (p + 8 * z))

  -- the bytes that are stored
  abbrev pieces : List ℕ
  pieces = 3 ∷ (r * 2 + 1) ∷ (counted_bytes rs ++ replicate behind 0)

  module _ (h : r < 128) where
    pieces-bytes : Bytes pieces
    pieces-bytes = (
      omega arith,
      (
        omega arith,
        each_append (λ (b : ℕ). b < 256) (counted_bytes rs) (replicate behind 0)
            (bytes_of-bytes (counted_size (length rs)) (counted_bits rs ++ replicate 8 0) (are-append (counted_bits rs) (replicate 8 0) (counted-are rs) (are-zeros 8)))
            (each-replicate (λ (b : ℕ). b < 256) behind 0 (omega arith)),
      ),
    )

    pieces-bits : bits_of pieces ≡ headed (counted_bits rs ++ replicate (filling (length rs) + 8 * behind) 0)
    pieces-bits =
        ap (λ (ys : List ℕ). bits 8 3 ++ (ys ++ bits_of (counted_bytes rs ++ replicate behind 0))) (second-byte r 1 h (omega arith))
        ∙ ap headed
        (bits_of-append (counted_bytes rs) (replicate behind 0)
        ∙ ap₂ (λ (a b : List ℕ). a ++ b) (counted-whole rs) (bits_of-zeros behind)
        ∙ zeros-more (counted_bits rs) (filling (length rs)) (8 * behind))

    full-layout : layout full ≡ pieces
    full-layout =
        bits_of-same (layout full) pieces (layout-bytes full) pieces-bytes
        (full-bits ∙ ap (λ (n : ℕ). headed (counted_bits rs ++ replicate n 0)) zeros-count ∙ sym pieces-bits)

pub flagged-layout : (c : Content) → c.flag ≡ 1 → c.reserved < 128
    → layout c ≡ 3 ∷ (c.reserved * 2 + c.flag) ∷ (counted_bytes c.records ++ replicate (length (layout c) - (2 + counted_size (length c.records))) 0)
flagged-layout c e h =
    subst
    (λ (f : ℕ). let d : Content = record { reserved = c.reserved; flag = f; records = c.records; z = c.z } in
    layout d ≡ 3 ∷ (c.reserved * 2 + f) ∷ (counted_bytes c.records ++ replicate (length (layout d) - (2 + counted_size (length c.records))) 0))
    (sym e)
    (full-layout c.reserved c.records c.z h)

-- and they fit it
pub flagged-long : (c : Content) → c.flag ≡ 1 → 2 + counted_size (length c.records) ≤ length (layout c)
flagged-long c e =
    subst (λ (f : ℕ). 2 + counted_size (length c.records) ≤ length (layout (record { reserved = c.reserved; flag = f; records = c.records; z = c.z }))) (sym e)
    (full-long c.reserved c.records c.z)

-- ---- the output as it is stored

module _ (c : Content) (h : c.reserved < 128) (out : List ℕ) (fills : length out ≡ length (layout c)) where
  abbrev second : ℕ
  second = c.reserved * 2 + c.flag

  -- the output behind two stores
  abbrev two : List ℕ
  two = set (set out 0 3) 1 second

  length_two : length two ≡ length (layout c)
  length_two = length-set (set out 0 3) 1 second ∙ length-set out 0 3 ∙ fills

  two-stored : two ≡ 3 ∷ second ∷ drop 2 out
  two-stored = sets-eq (3 ∷ second ∷ []) out 0 (omega (arith, layout-long c))

  pub bare-stored : c.flag ≡ 0 → (part : List ℕ) → part ≡ replicate (length (take (length two - 2) (drop 2 two))) 0 → put_mid 2 (length two - 2) two part ≡ layout c
  bare-stored e part zeros =
      let all : length two - 2 ≡ c.z = omega (arith, length_two, ap length (bare-layout c e h), length-replicate {A = ℕ} c.z 0) in
      cleared two part 2 zeros
      ∙ ap₂ (λ (xs : List ℕ) (n : ℕ). take 2 xs ++ replicate n 0) two-stored all
      ∙ sym (bare-layout c e h)

  -- cc_count and the constructs behind them, then zeros
  pub flagged-stored : c.flag ≡ 1 → (end : ℕ) (xs : List ℕ) → Counts c.records two end xs → take end xs ++ replicate (length xs - end) 0 ≡ layout c
  flagged-stored e end xs counts =
      let rest : length xs - end ≡ length (layout c) - (2 + counted_size (length c.records)) = omega (arith, counts.long, counts.ends, length_two) in
      ap₂ (λ (a : List ℕ) (n : ℕ). a ++ replicate n 0) (counts.front ∙ ap (λ (ys : List ℕ). take 2 ys ++ counted_bytes c.records) two-stored) rest
      ∙ sym (flagged-layout c e h)

  -- they fit
  pub flagged-ends : c.flag ≡ 1 → (end : ℕ) (xs : List ℕ) → Counts c.records two end xs → end ≤ length xs
  flagged-ends e end xs counts = omega (arith, counts.long, counts.ends, length_two, flagged-long c e)
