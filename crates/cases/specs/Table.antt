-- The starred cases of RULES, "Cases": what each carriage's definitions answer. A carriage adds its constructor, its
-- line of `Comes` and its rows.
use Rattle.std.specs.Prelude.{ℕ, ◌≡◌, Bool, true, false, List, [], ◌∷◌, ◌++◌, take, replicate}
use Rattle.refusal.specs.declared.Refusal.{Refusal}
use Rattle.refusal.specs.Answers.{accepted, refused}
use Rattle.kind.specs.declared.Kind.{Kind}
use Rattle.kind.specs.declared.Kind.TheVariants.{Scte20, Ga94}
use Rattle.units.specs.Layout.{layout_unit}
use Rattle.scte20.specs.declared.Record.{Record}
use Rattle.scte20.specs.Value as scte20
use Rattle.ga94.specs.declared.Record as ga94-record
use Rattle.ga94.specs.Value as ga94
use Rattle.picture.specs.declared.Answer as picture
use Rattle.picture.specs.Kinds as kinds
use Rattle.picture.specs.Reading as areas
use Rattle.listing.specs.Texts as listing
use Rattle.line21.specs.declared.AccessUnit.{AccessUnit}
use Rattle.line21.specs.Value as line21
use Rattle.line21.specs.Reading as payloads
use Rattle.sdp.specs.Value as sdp
use Rattle.subtitling.specs.Reading as packets

-- an input, and the answer to it: the refusal, of number 0 where the input is accepted, and the value. An area is read
-- for one kind of caption unit, and has at most one value of it. What `cclist` prints for an area is a case too
pub data Case : Type 0 where
  area : (kind : Kind) → List ℕ → Refusal → List (kinds.Content kind) → Case
  prints : List ℕ → List ℕ → Case
  payload : List ℕ → Refusal → line21.Line21 → Case
  packet : List ℕ → Refusal → sdp.Sdp → Case

-- the answer with a caption unit's value, or with none
abbrev has_caption : {A : Type 0} → List A → Bool
has_caption [] = false
has_caption (c ∷ cs) = true

abbrev caption_value : {A : Type 0} → A → List A → A
caption_value none [] = none
caption_value none (c ∷ cs) = c

-- the struct that `cclist` prints
abbrev answered : areas.Answer Scte20 → picture.Answer
answered a = record { refusal = a.refusal; present = a.present; unit = a.unit }

-- the definitions give that answer
abbrev pub Comes : Case → Type 0
Comes (area kind input refusal found) =
    areas.read_of kind input
    ≡ record {
      refusal = refusal;
      present = has_caption found;
      unit = kinds.stored kind (caption_value (kinds.none kind) found);
    }
Comes (prints input text) = listing.text_of (answered (areas.read_of Scte20 input)) ≡ text
Comes (payload input refusal value) =
    payloads.read_of input ≡ record { refusal = refusal; payload = line21.stored value }
Comes (packet input refusal value) =
    (packets.read_of input ≡ record { refusal = refusal; packet = sdp.numbers_of value })
    × (packets.read_rows_of input ≡ sdp.rows_of value)

-- A's bytes, with the byte in which the marker stands
abbrev pub marked : ℕ → List ℕ
marked b = 0x00 ∷ 0x00 ∷ 0x01 ∷ 0xB2 ∷ 0x03 ∷ 0x81 ∷ 0x08 ∷ 0xAC ∷ 0xA4 ∷ b ∷ 0x00 ∷ []

-- reserved 64, flag 1, A's record: priority 0, field 1, line 11, bytes 94 2C; and z
abbrev with_record : ℕ → scte20.Content
with_record z = record { reserved = 64; flag = 1; records = r ∷ []; z = z }
  where
    r : Record
    r = record { cc_priority = 0; field_number = record { 0 = 1 }; line_offset = 11; cc_data_1 = 0x94; cc_data_2 = 0x2C }

-- Q's bytes, with the byte of the flags and cc_count
abbrev pub flagged : ℕ → List ℕ
flagged b = layout_unit (0x47 ∷ 0x41 ∷ 0x39 ∷ 0x34 ∷ 0x03 ∷ b ∷ 0xFF ∷ 0xFC ∷ 0x94 ∷ 0x2C ∷ 0xFF ∷ [])

abbrev pub q : List ℕ
q = flagged 0xC1

-- flags 1, 1, 0, em_data 255, Q's record: cc_valid 1, cc_type 0, bytes 94 2C
abbrev with_pair : ga94.Content
with_pair =
    record {
      process_em_data_flag = 1;
      process_cc_data_flag = 1;
      additional_data_flag = 0;
      em_data = 255;
      records = r ∷ [];
      z = 0;
    }
  where
    r : ga94-record.Record
    r = record { cc_valid = 1; cc_type = 0; cc_data_1 = 0x94; cc_data_2 = 0x2C }

-- reserved, a flag, no records
abbrev bare : ℕ → ℕ → scte20.Content
bare reserved flag = record { reserved = reserved; flag = flag; records = []; z = 0 }

-- the same of reserved 64
abbrev without_records : ℕ → scte20.Content
without_records = bare 64

-- 03 0A and two bytes: a data group (003, Table 1)
abbrev group : List ℕ
group = layout_unit (0x03 ∷ 0x0A ∷ 0x94 ∷ 0x2C ∷ [])

-- a payload's flags byte and its units
abbrev units : ℕ → List AccessUnit → line21.Line21
units flags us = record { flags = flags; units = us }

-- valid flags, padding, the bytes of field 1, the bytes of field 2
abbrev pub unit : ℕ → ℕ → ℕ → ℕ → ℕ → ℕ → ℕ → AccessUnit
unit v1 v2 pad a b c d =
    record { cc_valid_1 = v1; cc_valid_2 = v2; padding = pad; field1_data1 = a; field1_data2 = b; field2_data1 = c; field2_data2 = d }

-- five empty slots, counter 0
abbrev empty : sdp.Sdp
empty = record { counter = 0; slots = replicate 5 sdp.empty_row }

-- K's words up to the last
abbrev words : ℕ → List ℕ
words last =
    0x000 ∷ 0x3FF ∷ 0x3FF ∷ 0x143 ∷ 0x102 ∷ 0x10D ∷ 0x151 ∷ 0x115 ∷ 0x10D ∷ 0x102
    ∷ 0x200 ∷ 0x200 ∷ 0x200 ∷ 0x200 ∷ 0x200 ∷ 0x274 ∷ 0x200 ∷ 0x200 ∷ 0x217 ∷ last ∷ []

-- priority field line data
abbrev head_line : List ℕ
head_line =
    0x70 ∷ 0x72 ∷ 0x69 ∷ 0x6F ∷ 0x72 ∷ 0x69 ∷ 0x74 ∷ 0x79 ∷ 0x20
    ∷ 0x66 ∷ 0x69 ∷ 0x65 ∷ 0x6C ∷ 0x64 ∷ 0x20
    ∷ 0x6C ∷ 0x69 ∷ 0x6E ∷ 0x65 ∷ 0x20
    ∷ 0x64 ∷ 0x61 ∷ 0x74 ∷ 0x61 ∷ 0x0A ∷ []

-- refused, and a space
abbrev refused_text : List ℕ
refused_text = 0x72 ∷ 0x65 ∷ 0x66 ∷ 0x75 ∷ 0x73 ∷ 0x65 ∷ 0x64 ∷ 0x20 ∷ []

abbrev pub table : List Case
table =
    -- case A: 00 00 01 B2 03 81 08 AC A4 D2 00: reserved 64, flag 1, one record, z = 0
    area Scte20 (marked 0xD2) accepted (with_record 0 ∷ [])
    -- case B: A with a further 00: the same, z = 1
    ∷ area Scte20 (marked 0xD2 ++ (0x00 ∷ [])) accepted (with_record 1 ∷ [])
    -- case C: 00 00 01 B2 03 81 00 00: no records
    ∷ area Scte20 (layout_unit (0x03 ∷ 0x81 ∷ 0x00 ∷ 0x00 ∷ [])) accepted (without_records 1 ∷ [])
    -- case D: 00 00 01 B2 03 80: flag 0
    ∷ area Scte20 (layout_unit (0x03 ∷ 0x80 ∷ [])) accepted (without_records 0 ∷ [])
    -- case E: 00 00 01 B2 03: 5 at reserved, bit 8 of the body
    ∷ area Scte20 (layout_unit (0x03 ∷ [])) (refused 5 40) []
    -- case F: A without its last byte: 5 at the sampled video count, of which one bit is left
    ∷ area Scte20 (take 10 (marked 0xD2)) (refused 5 79) []
    -- case G: empty area: none
    ∷ area Scte20 [] accepted []
    -- case H: 00 00 01 B3: 2
    ∷ area Scte20 (0x00 ∷ 0x00 ∷ 0x01 ∷ 0xB3 ∷ []) (refused 2 0) []
    -- case I: A twice: 4
    ∷ area Scte20 (marked 0xD2 ++ marked 0xD2) (refused 4 0) []
    -- case J: A with D2 made D0 (marker): 18 at the marker
    ∷ area Scte20 (marked 0xD0) (refused 18 78) []
    -- case Q: 00 00 01 B2 47 41 39 34 03 C1 FF FC 94 2C FF: flags 1, 1, 0, em_data 255, one record, z = 0
    ∷ area Ga94 q accepted (with_pair ∷ [])
    -- case R: 00 00 01 B2 47 41 39 34: 5 at the type, with which the body ends
    ∷ area Ga94 (take 8 q) (refused 5 64) []
    -- case S: Q with C1 made E1 (third flag): 16 at that flag
    ∷ area Ga94 (flagged 0xE1) (refused 16 74) []
    -- case T: A, then Q, for SCTE 20: as A
    ∷ area Scte20 (marked 0xD2 ++ q) accepted (with_record 0 ∷ [])
    -- case U: A, then Q, for GA94: as Q
    ∷ area Ga94 (marked 0xD2 ++ q) accepted (with_pair ∷ [])
    -- case V: 00 00 01 B2 03 0A 94 2C: none
    ∷ area Scte20 group accepted []
    -- case W: V, then A: as A
    ∷ area Scte20 (group ++ marked 0xD2) accepted (with_record 0 ∷ [])
    -- case X: 00 00 01 B2 03 08: reserved 4, flag 0
    ∷ area Scte20 (layout_unit (0x03 ∷ 0x08 ∷ [])) accepted (bare 4 0 ∷ [])
    -- case Y: 00 00 01 B2 03 0B 00 00: reserved 5, flag 1, no records
    ∷ area Scte20 (layout_unit (0x03 ∷ 0x0B ∷ 0x00 ∷ 0x00 ∷ [])) accepted (bare 5 1 ∷ [])
    -- cclist A: the first line, then 0 1 11 94 2C
    ∷ prints (marked 0xD2)
    (head_line ++ (0x30 ∷ 0x20 ∷ 0x31 ∷ 0x20 ∷ 0x31 ∷ 0x31 ∷ 0x20 ∷ 0x39 ∷ 0x34 ∷ 0x20 ∷ 0x32 ∷ 0x43 ∷ 0x0A ∷ []))
    -- cclist C: the first line only
    ∷ prints (layout_unit (0x03 ∷ 0x81 ∷ 0x00 ∷ 0x00 ∷ [])) head_line
    -- cclist D: the first line only
    ∷ prints (layout_unit (0x03 ∷ 0x80 ∷ [])) head_line
    -- cclist G: none
    ∷ prints [] (0x6E ∷ 0x6F ∷ 0x6E ∷ 0x65 ∷ 0x0A ∷ [])
    -- cclist V: none
    ∷ prints group (0x6E ∷ 0x6F ∷ 0x6E ∷ 0x65 ∷ 0x0A ∷ [])
    -- cclist E: refused 5 at 40
    ∷ prints (layout_unit (0x03 ∷ [])) (refused_text ++ (0x35 ∷ 0x20 ∷ 0x61 ∷ 0x74 ∷ 0x20 ∷ 0x34 ∷ 0x30 ∷ 0x0A ∷ []))
    -- cclist F: refused 5 at 79
    ∷ prints (take 10 (marked 0xD2)) (refused_text ++ (0x35 ∷ 0x20 ∷ 0x61 ∷ 0x74 ∷ 0x20 ∷ 0x37 ∷ 0x39 ∷ 0x0A ∷ []))
    -- cclist J: refused 18 at 78
    ∷ prints (marked 0xD0) (refused_text ++ (0x31 ∷ 0x38 ∷ 0x20 ∷ 0x61 ∷ 0x74 ∷ 0x20 ∷ 0x37 ∷ 0x38 ∷ 0x0A ∷ []))
    -- case K: 20 words: five empty slots, counter 0
    ∷ packet (words 0x252) accepted empty
    -- case L: K with last word 253: 12 at that word
    ∷ packet (words 0x253) (refused 12 19) sdp.none
    -- case M: payload 00 80 94 2C 00 00: valid 1, 0; padding 0; 94 2C, 00 00
    ∷ payload (0x00 ∷ 0x80 ∷ 0x94 ∷ 0x2C ∷ 0x00 ∷ 0x00 ∷ []) accepted (units 0x00 (unit 1 0 0 0x94 0x2C 0x00 0x00 ∷ []))
    -- case N: payload 00: no units
    ∷ payload (0x00 ∷ []) accepted (units 0x00 [])
    ∷ []
