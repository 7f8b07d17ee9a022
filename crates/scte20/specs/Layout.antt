-- The bytes of a caption unit's body, from its value alone. RULES, "Picture area"; document 001, 5.4 to 5.8. Most
-- significant bit first.
use Rattle.std.specs.Prelude.{ℕ, zero, suc, ◌+◌, ◌-◌, ◌*◌, ◌/◌, ◌%◌, List, [], ◌∷◌, ◌++◌, length, replicate}
use Rattle.bits.specs.Bits.{bits, bytes_of, reversed}
use Rattle.scte20.specs.declared.Record.{Record}
use Rattle.scte20.specs.Value.{Content, field_of}

-- a construct: its five numbers in the order of the struct, the data bytes turned, then the marker
abbrev pub construct_bits : Record → List ℕ
construct_bits r =
    bits 2 r.cc_priority
    ++ (bits 2 (field_of r)
    ++ (bits 5 r.line_offset
    ++ (bits 8 (reversed r.cc_data_1) ++ (bits 8 (reversed r.cc_data_2) ++ (1 ∷ [])))))

abbrev pub constructs_bits : List Record → List ℕ
constructs_bits [] = []
constructs_bits (r ∷ rs) = construct_bits r ++ constructs_bits rs

-- behind the flag: nothing where it is 0, else cc_count, the constructs, and non_real_time_video_count, which is 0
abbrev pub flagged_bits : ℕ → List Record → List ℕ
flagged_bits zero rs = []
flagged_bits (suc f) rs = bits 5 (length rs) ++ (constructs_bits rs ++ bits 4 0)

-- user_data_type_code, reserved, vbi_data_flag, and what is behind it
abbrev pub item_bits : Content → List ℕ
item_bits c = bits 8 3 ++ (bits 7 c.reserved ++ (bits 1 c.flag ++ flagged_bits c.flag c.records))

-- how many zero bits follow n bits up to a whole byte
unfoldable pub padding : ℕ → ℕ
padding n = (8 - n % 8) % 8

abbrev pub content_bits : Content → List ℕ
content_bits c = item_bits c ++ replicate (padding (length (item_bits c))) 0

abbrev pub content_bytes : Content → List ℕ
content_bytes c = bytes_of (length (content_bits c) / 8) (content_bits c)

-- then z zero bytes of stuffing
abbrev pub layout : Content → List ℕ
layout c = content_bytes c ++ replicate c.z 0

-- how many bytes the content takes: (25 + 26n) / 8 rounded up, or 2
abbrev pub size_in : ℕ → ℕ → ℕ
size_in zero n = 2
size_in (suc f) n = (25 + 26 * n + 7) / 8
