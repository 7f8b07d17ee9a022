-- How long the content is, in bits and in bytes, and what bits the bytes of a layout have.
-- Assumes nothing.
use Prim.Native.Nat.{ℕ, zero, suc, ◌+◌, ◌-◌, ◌*◌, ◌/◌, ◌≤◌, ◌<◌}
use native.Mathlib.Omega.{arith}
use mathlib.Core.Path.{◌≡◌, ◌∙◌, ap, ap₂, refl}
use mathlib.Core.List.{List, [], ◌∷◌, ◌++◌}
use lib.ListN.{length, drop, replicate, length-append, length-replicate}
use Rattle.lists.specs.Bytes.{Bytes}
use Rattle.lists.proofs.Each.{each-replicate}
use Rattle.lists.proofs.Each.{each_append}
use Rattle.bits.specs.Bits.{bits, bits_of, bytes_of}
use Rattle.bits.proofs.Numbers.{AreBits, bits_are, are-append, are-zeros}
use Rattle.bits.proofs.Stream.{bits_of-append, bits_of-zeros, length-bytes_of, bytes_of-bytes, bits_of-bytes_of}
use Rattle.scte20.specs.declared.Record.{Record}
use Rattle.scte20.specs.Value.{Content}
use Rattle.scte20.specs.Layout.{construct_bits, constructs_bits, flagged_bits, item_bits, padding, content_bits, content_bytes, layout, size_in}
use Rattle.scte20.specs.Places.{bits_in}
use Rattle.scte20.proofs.Constructs.{length-constructs}

-- ---- sizes

length-flagged : (f : ℕ) (rs : List Record) → 16 + length (flagged_bits f rs) ≡ bits_in f (length rs)
length-flagged zero rs = refl
length-flagged (suc f) rs = omega (arith, length-append (constructs_bits rs) (bits 4 0), length-constructs rs)

pub length-items : (c : Content) → length (item_bits c) ≡ bits_in c.flag (length c.records)
length-items c = omega (arith, length-flagged c.flag c.records)

-- zero bits up to a whole byte
pub padded : (n : ℕ) → n + padding n ≡ 8 * ((n + 7) / 8)
unfolding padding
padded n = omega arith

size-bits : (f n : ℕ) → 8 * ((bits_in f n + 7) / 8) ≡ 8 * size_in f n
size-bits zero n = refl
size-bits (suc f) n = refl

-- the items and the alignment are whole bytes
pub padded-size : (f n : ℕ) → bits_in f n + padding (bits_in f n) ≡ 8 * size_in f n
padded-size f n = padded (bits_in f n) ∙ size-bits f n

pub length-content : (c : Content) → length (content_bits c) ≡ 8 * size_in c.flag (length c.records)
length-content c =
    length-append (item_bits c) (replicate (padding (length (item_bits c))) 0)
    ∙ ap (λ (k : ℕ). length (item_bits c) + k) (length-replicate (padding (length (item_bits c))) 0)
    ∙ ap (λ (k : ℕ). k + padding k) (length-items c)
    ∙ padded-size c.flag (length c.records)

pub content-bytes : (c : Content) → length (content_bits c) / 8 ≡ size_in c.flag (length c.records)
content-bytes c = omega (arith, length-content c)

pub content-whole : (c : Content) → length (content_bits c) ≡ 8 * (length (content_bits c) / 8)
content-whole c = omega (arith, length-content c)

pub content-size : (c : Content) → length (content_bytes c) ≡ size_in c.flag (length c.records)
content-size c = length-bytes_of (length (content_bits c) / 8) (content_bits c) ∙ content-bytes c

pub length-layout : (c : Content) → length (layout c) ≡ size_in c.flag (length c.records) + c.z
length-layout c =
    length-append (content_bytes c) (replicate c.z 0) ∙ ap₂ (λ (a b : ℕ). a + b) (content-size c) (length-replicate c.z 0)

pub sizes-told : (size_in 0 0 ≡ 2) × (size_in 1 0 ≡ 4) × (size_in 1 1 ≡ 7) × (size_in 1 31 ≡ 104)
sizes-told = (refl, refl, refl, refl)

-- ---- bits

pub construct-are : (r : Record) → AreBits (construct_bits r)
construct-are r = omega arith

pub constructs-are : (rs : List Record) → AreBits (constructs_bits rs)
constructs-are [] = tt
constructs-are (r ∷ rs) = are-append (construct_bits r) (constructs_bits rs) (construct-are r) (constructs-are rs)

flagged-are : (f : ℕ) (rs : List Record) → AreBits (flagged_bits f rs)
flagged-are zero rs = tt
flagged-are (suc f) rs =
    are-append (bits 5 (length rs)) (constructs_bits rs ++ bits 4 0) (bits_are 5 (length rs))
    (are-append (constructs_bits rs) (bits 4 0) (constructs-are rs) (bits_are 4 0))

items-are : (c : Content) → AreBits (item_bits c)
items-are c =
    let head = bits 8 3 ++ (bits 7 c.reserved ++ bits 1 c.flag) in
    are-append head (flagged_bits c.flag c.records) (omega arith) (flagged-are c.flag c.records)

pub content-are : (c : Content) → AreBits (content_bits c)
content-are c =
    let p = padding (length (item_bits c)) in
    are-append (item_bits c) (replicate p 0) (items-are c) (are-zeros p)

pub layout-bytes : (c : Content) → Bytes (layout c)
layout-bytes c =
    each_append (λ (b : ℕ). b < 256) (content_bytes c) (replicate c.z 0)
    (bytes_of-bytes (length (content_bits c) / 8) (content_bits c) (content-are c))
    (each-replicate (λ (b : ℕ). b < 256) c.z 0 (omega arith))

-- the bits of a layout: the content's, and zeros
pub bits_of-layout : (c : Content) → bits_of (layout c) ≡ content_bits c ++ replicate (8 * c.z) 0
bits_of-layout c =
    bits_of-append (content_bytes c) (replicate c.z 0)
    ∙ ap₂ (λ (u v : List ℕ). u ++ v) (bits_of-bytes_of (length (content_bits c) / 8) (content_bits c) (content-whole c) (content-are c)) (bits_of-zeros c.z)

-- ---- the first byte

size_some : (f n : ℕ) → 1 ≤ size_in f n
size_some zero n = omega arith
size_some (suc f) n = omega arith

-- a layout begins with the byte 03, the user_data_type_code
pub begins : (c : Content) → (rest : List ℕ) × (layout c ≡ 3 ∷ rest)
begins c =
    let k = length (content_bits c) / 8 - 1 in
    let more : length (content_bits c) / 8 ≡ suc k = omega (arith, content-bytes c, size_some c.flag (length c.records)) in
    (bytes_of k (drop 8 (content_bits c)) ++ replicate c.z 0, ap (λ (n : ℕ). bytes_of n (content_bits c) ++ replicate c.z 0) more)
