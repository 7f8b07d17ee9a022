-- How many bytes the content and the body take, and what bits the body has.
-- Assumes nothing.
use Prim.Native.Nat.{ℕ, ◌+◌, ◌*◌, ◌<◌}
use native.Mathlib.Omega.{arith}
use mathlib.Core.Path.{◌≡◌, ◌∙◌, ap, ap₂, refl}
use mathlib.Core.List.{List, [], ◌∷◌, ◌++◌}
use lib.ListN.{length, replicate, length-append, length-replicate}
use Rattle.lists.specs.Bytes.{Bytes}
use Rattle.lists.specs.Each.{Each}
use Rattle.lists.specs.Flat.{flat}
use Rattle.lists.proofs.Each.{each_append, each-replicate}
use Rattle.lists.proofs.Flat.{length-flat}
use Rattle.bits.specs.Bits.{bits_of}
use Rattle.bits.proofs.Stream.{bits_of-append, bits_of-zeros}
use Rattle.ga94.specs.declared.Record.{Record}
use Rattle.ga94.specs.Value.{Content, LegalRecord, Legal}
use Rattle.ga94.specs.Layout.{construct_bytes, flags_byte, content_bytes, layout, size_of}

pub length-constructs : (rs : List Record) → length (flat construct_bytes rs) ≡ 3 * length rs
length-constructs rs = length-flat construct_bytes 3 (λ r. refl) rs

pub content-size : (c : Content) → length (content_bytes c) ≡ size_of (length c.records)
content-size c = omega (arith, length-append (flat construct_bytes c.records) (0xFF ∷ []), length-constructs c.records)

pub length-layout : (c : Content) → length (layout c) ≡ size_of (length c.records) + c.z
length-layout c =
    length-append (content_bytes c) (replicate c.z 0) ∙ ap₂ (λ (a b : ℕ). a + b) (content-size c) (length-replicate c.z 0)

pub sizes-told : (size_of 0 ≡ 8) × (size_of 1 ≡ 11) × (size_of 31 ≡ 101)
sizes-told = (refl, refl, refl)

-- ---- bytes

constructs-bytes : (rs : List Record) → Each LegalRecord rs → Bytes (flat construct_bytes rs)
constructs-bytes [] legal = tt
constructs-bytes (r ∷ rs) legal =
    let small : r.cc_valid < 2 = legal.0.valid in
    let narrow : r.cc_type < 4 = legal.0.type in
    let head : 0xF8 + 4 * r.cc_valid + r.cc_type < 256 = omega arith in
    (head, (legal.0.bytes.data-1, (legal.0.bytes.data-2, constructs-bytes rs legal.1)))

pub flags-lt : (c : Content) → Legal c → flags_byte c < 256
flags-lt c legal = omega (arith, legal.em_flag, legal.cc_flag, legal.no_additional, legal.few)

pub layout-bytes : (c : Content) → Legal c → Bytes (layout c)
layout-bytes c legal =
    let flags : flags_byte c < 256 = flags-lt c legal in
    let end : Bytes (0xFF ∷ []) = (omega arith, tt) in
    let constructs : Bytes (flat construct_bytes c.records ++ (0xFF ∷ [])) =
    each_append (λ (b : ℕ). b < 256) (flat construct_bytes c.records) (0xFF ∷ []) (constructs-bytes c.records legal.each) end
    in
    let front : Bytes (content_bytes c) = (omega arith, (omega arith, (omega arith, (omega arith, (omega arith, (flags, (legal.em, constructs))))))) in
    each_append (λ (b : ℕ). b < 256) (content_bytes c) (replicate c.z 0) front (each-replicate (λ (b : ℕ). b < 256) c.z 0 (omega arith))

-- the bits of a layout: the content's, and zeros
pub bits_of-layout : (c : Content) → bits_of (layout c) ≡ bits_of (content_bytes c) ++ replicate (8 * c.z) 0
bits_of-layout c =
    bits_of-append (content_bytes c) (replicate c.z 0) ∙ ap (λ (xs : List ℕ). bits_of (content_bytes c) ++ xs) (bits_of-zeros c.z)

-- a layout begins with ATSC_identifier and user_data_type_code
pub begins : (c : Content) → (rest : List ℕ) × (layout c ≡ 0x47 ∷ 0x41 ∷ 0x39 ∷ 0x34 ∷ 0x03 ∷ rest)
begins c =
    (flags_byte c ∷ c.em_data ∷ ((flat construct_bytes c.records ++ (0xFF ∷ [])) ++ replicate c.z 0), refl)
