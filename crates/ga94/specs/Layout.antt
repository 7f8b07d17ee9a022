-- The bytes of a GA94 unit's body, from its value alone. RULES, "GA94"; document 003, Table 3.
use Rattle.std.specs.Prelude.{ℕ, ◌+◌, ◌*◌, List, [], ◌∷◌, ◌++◌, length, replicate}
use Rattle.lists.specs.Flat.{flat}
use Rattle.bits.specs.Bits.{bits}
use Rattle.ga94.specs.declared.Record.{Record}
use Rattle.ga94.specs.Value.{Content}

-- a construct: marker_bits 11111, cc_valid, cc_type, and the data bytes as they are
abbrev pub construct_bytes : Record → List ℕ
construct_bytes r = (0xF8 + 4 * r.cc_valid + r.cc_type) ∷ r.cc_data_1 ∷ r.cc_data_2 ∷ []

-- the three flags, then cc_count
abbrev pub flags_byte : Content → ℕ
flags_byte c =
    128 * c.process_em_data_flag
    + 64 * c.process_cc_data_flag
    + 32 * c.additional_data_flag
    + length c.records

-- ATSC_identifier, user_data_type_code, flags and cc_count, em_data, the constructs, and marker_bits 1111 1111
abbrev pub content_bytes : Content → List ℕ
content_bytes c =
    0x47 ∷ 0x41 ∷ 0x39 ∷ 0x34 ∷ 0x03 ∷ flags_byte c ∷ c.em_data ∷ (flat construct_bytes c.records ++ (0xFF ∷ []))

-- then z zero bytes of stuffing
abbrev pub layout : Content → List ℕ
layout c = content_bytes c ++ replicate c.z 0

-- how many bytes the content of n constructs takes
abbrev pub size_of : ℕ → ℕ
size_of n = 8 + 3 * n

-- The same item by item, as Table 3 lists them with their numbers of bits. That the bytes are these bits is a theorem
-- (`table-3`).

abbrev pub construct_bits : Record → List ℕ
construct_bits r =
    bits 5 31
    ++ (bits 1 r.cc_valid
    ++ (bits 2 r.cc_type ++ (bits 8 r.cc_data_1 ++ bits 8 r.cc_data_2)))

abbrev pub item_bits : Content → List ℕ
item_bits c =
    bits 32 0x47413934
    ++ (bits 8 3
    ++ (bits 1 c.process_em_data_flag
    ++ (bits 1 c.process_cc_data_flag
    ++ (bits 1 c.additional_data_flag
    ++ (bits 5 (length c.records)
    ++ (bits 8 c.em_data ++ (flat construct_bits c.records ++ bits 8 0xFF)))))))
