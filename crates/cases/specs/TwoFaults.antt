-- Inputs with two faults, and which of them decides: RULES, "Order of checks". A row names the call, its input, the
-- reason of the fault that decides, its number and its place. The reason tells apart what shares a number. Writing has
-- place 0, and so has film.
use Rattle.std.specs.Prelude.{ℕ, ◌≡◌, Bool, true, false, List, [], ◌∷◌, ◌++◌, length, replicate, take}
use Rattle.refusal.specs.declared.Reason.{Reason}
use Rattle.refusal.specs.declared.Reason.TheVariants.{TooLong, NoStart, StartCode, SecondUnit, Ends, Unfixed, FieldNumberZero, DescriptorLine, FieldFalls, LineDoesNotRise, FifthPriority, SampledVideo, WordRange, WordParity, SdpChecksum, Unfit, NoRoom, Unholdable, AdditionalData, NotShown, OtherLine, UnknownUnit, SurplusUnit, UnitLine, NoInner, InnerOverrun, InnerChecksum}
use Rattle.refusal.specs.declared.Fixed.TheVariants as fixed
use Rattle.refusal.specs.declared.Misfit.TheVariants as misfit
use Rattle.refusal.specs.declared.Excess.TheVariants as excess
use Rattle.refusal.specs.Verdict.{Verdict}
use Rattle.refusal.specs.Verdict.{Accepted, Refused}
use Rattle.refusal.specs.Numbers.{refusal_of}
use Rattle.refusal.specs.Answers.{refused}
use Rattle.kind.specs.declared.Kind.{Kind}
use Rattle.kind.specs.declared.Kind.TheVariants.{Scte20, Ga94}
use Rattle.units.specs.Layout.{layout_unit}
use Rattle.scte20.specs.declared.Record.{Record}
use Rattle.scte20.specs.declared.CaptionUnit.{CaptionUnit}
use Rattle.scte20.specs.Value as scte20
use Rattle.ga94.specs.declared.Record as ga94-record
use Rattle.ga94.specs.Value as atsc
use Rattle.picture.specs.Kinds as kinds
use Rattle.picture.specs.Reading.{area_verdict}
use Rattle.picture.specs.Writing.{unit_bytes, replace_verdict}
use Rattle.line21.specs.declared.AccessUnit.{AccessUnit}
use Rattle.line21.specs.declared.Payload.{Payload}
use Rattle.line21.specs.Reading.{length_verdict}
use Rattle.line21.specs.Writing as payloads
use Rattle.sdp.specs.Value as sdp
use Rattle.subtitling.specs.Reading.{packet_verdict, value_of}
use Rattle.subtitling.specs.Writing as packets
use Rattle.reel.specs.Writing.{call_verdict}
use Rattle.pes.specs.Value as pes
use Rattle.pes.specs.Layout as pes-layout
use Rattle.pes.specs.Reading.{field_verdict}
use Rattle.pes.specs.Writing as fields
use Rattle.multi.specs.Reading.{multi_verdict}
use Rattle.multi.specs.Lent as multipackets
use Rattle.multi.specs.Writing as multi-writing
use Rattle.pes_convert.specs.Converting.{own_verdict, convert_verdict}
use Rattle.film.specs.declared.Shown.{Shown}
use Rattle.film.specs.Calls.{picture_verdict}
use Rattle.cases.specs.Table.{marked, q, unit}

-- a call with its input, which for writing and replacing has the room of the output last; the reason; the number; the
-- place
pub data FaultCase : Type 0 where
  area : Kind → List ℕ → Reason → ℕ → ℕ → FaultCase
  packet : List ℕ → Reason → ℕ → ℕ → FaultCase
  payload : List ℕ → Reason → ℕ → ℕ → FaultCase
  write_unit : (kind : Kind) → kinds.CaptionUnit kind → ℕ → Reason → ℕ → FaultCase
  write_packet : sdp.Sdp → ℕ → Reason → ℕ → FaultCase
  write_payload : Payload → ℕ → Reason → ℕ → FaultCase
  write_reel : ℕ → List AccessUnit → ℕ → Reason → ℕ → FaultCase
  film : Shown → CaptionUnit → Reason → ℕ → FaultCase
  field : List ℕ → Reason → ℕ → ℕ → FaultCase
  write_field : pes.Told → ℕ → Reason → ℕ → FaultCase
  multi : List ℕ → Reason → ℕ → ℕ → FaultCase
  write_multi : multipackets.Told → ℕ → Reason → ℕ → FaultCase
  convert : List ℕ → ℕ → Reason → ℕ → ℕ → FaultCase
  convert_value : sdp.Sdp → ℕ → Reason → ℕ → FaultCase
  replace : (kind : Kind) → List ℕ → kinds.CaptionUnit kind → ℕ → Reason → ℕ → ℕ → FaultCase

abbrev why : Verdict → List Reason
why Accepted = []
why (Refused reason item) = reason ∷ []

-- the verdict refuses for this reason, and that is told as this number and place
abbrev pub Decides : Verdict → Reason → ℕ → ℕ → Type 0
Decides verdict reason number place = (why verdict ≡ reason ∷ []) × (refusal_of verdict ≡ refused number place)

abbrev pub Decided : FaultCase → Type 0
Decided (area kind s reason number place) = Decides (area_verdict kind s) reason number place
Decided (packet s reason number place) = Decides (packet_verdict s) reason number place
Decided (payload s reason number place) = Decides (length_verdict (length s)) reason number place
Decided (write_unit kind u room reason number) =
    Decides (kinds.write_verdict kind u (length (unit_bytes kind (kinds.held kind u))) room) reason number 0
Decided (write_packet v room reason number) = Decides (packets.value_verdict v room) reason number 0
Decided (write_payload p room reason number) = Decides (payloads.value_verdict p room) reason number 0
Decided (write_reel size us room reason number) = Decides (call_verdict 0 size us room) reason number 0
Decided (film how u reason number) = Decides (picture_verdict how u) reason number 0
Decided (field s reason number place) = Decides (field_verdict s) reason number place
Decided (write_field t room reason number) = Decides (fields.value_verdict t room) reason number 0
Decided (multi s reason number place) = Decides (multi_verdict s) reason number place
Decided (write_multi t room reason number) = Decides (multi-writing.value_verdict t room) reason number 0
Decided (convert s room reason number place) =
    Decides (convert_verdict (packet_verdict s) (value_of s) room) reason number place
Decided (convert_value v room reason number) = Decides (convert_verdict (own_verdict v) v room) reason number 0
Decided (replace kind s u room reason number place) = Decides (replace_verdict kind s u room) reason number place

-- A: one legal record
abbrev a : List ℕ
a = marked 0xD2

-- A with its marker 0
abbrev j : List ℕ
j = marked 0xD0

-- a foreign unit of five bytes
abbrev foreign : List ℕ
foreign = layout_unit (0x04 ∷ [])

-- a data group of eight bytes (003, Table 1), which is foreign
abbrev group : List ℕ
group = layout_unit (0x03 ∷ 0x09 ∷ 0x94 ∷ 0x2C ∷ [])

-- four records of priority 0 in field 1, on lines 10 to 13, and the last 26 bits and those behind them as they are
-- given
abbrev fifth : List ℕ → List ℕ
fifth last =
    layout_unit
    (0x03 ∷ 0x81 ∷ 0x28 ∷ 0xA8 ∷ 0xA4 ∷ 0xD2 ∷ 0x2B ∷ 0x29 ∷ 0x34 ∷ 0x8B ∷ 0x0A ∷ 0x4D ∷ 0x22 ∷ 0xD2 ∷ 0x93 ∷ 0x48 ∷ last)

-- a GA94 body: ATSC_identifier, and what follows it
abbrev ga94 : List ℕ → List ℕ
ga94 rest = 0x47 ∷ 0x41 ∷ 0x39 ∷ 0x34 ∷ rest

-- a GA94 value as it is told: the third flag, em_data, records, z; the other flags 1
abbrev ga94Value : ℕ → ℕ → List ga94-record.Record → ℕ → atsc.CaptionUnit
ga94Value additional em rs z =
    atsc.stored
    (record {
      process_em_data_flag = 1;
      process_cc_data_flag = 1;
      additional_data_flag = additional;
      em_data = em;
      records = rs;
      z = z;
    })

-- a GA94 record: cc_valid, cc_type
abbrev pair : ℕ → ℕ → ga94-record.Record
pair v t = record { cc_valid = v; cc_type = t; cc_data_1 = 0x94; cc_data_2 = 0x2C }

-- K with some of its words changed: DID, 51, LENGTH, format, the first descriptor, the footer, the SDP checksum, CS
abbrev k : ℕ → ℕ → ℕ → ℕ → ℕ → ℕ → ℕ → ℕ → List ℕ
k did first long format line foot total cs =
    0x000 ∷ 0x3FF ∷ 0x3FF ∷ did ∷ 0x102 ∷ 0x10D ∷ first ∷ 0x115 ∷ long ∷ format
    ∷ line ∷ 0x200 ∷ 0x200 ∷ 0x200 ∷ 0x200 ∷ foot ∷ 0x200 ∷ 0x200 ∷ total ∷ cs ∷ []

-- a packet of one structure of 55 55 27 and zeros, its first slot on line 6, with some of its words changed: the second
-- descriptor, the run-in, the framing code, the footer; the checksums are not those of these words
abbrev one : ℕ → ℕ → ℕ → ℕ → ℕ → List ℕ
one line first second framing foot =
    0x000 ∷ 0x3FF ∷ 0x3FF ∷ 0x143 ∷ 0x102 ∷ 0x23A ∷ 0x151 ∷ 0x115 ∷ 0x23A ∷ 0x102
    ∷ 0x206 ∷ line ∷ 0x200 ∷ 0x200 ∷ 0x200 ∷ first ∷ second ∷ framing
    ∷ (replicate 42 0x200 ++ (foot ∷ 0x200 ∷ 0x200 ∷ 0x200 ∷ 0x200 ∷ []))

-- a value of caption content, held in a struct: reserved, flag, records, z
abbrev told : ℕ → ℕ → List Record → ℕ → CaptionUnit
told reserved flag rs z = scte20.stored (record { reserved = reserved; flag = flag; records = rs; z = z })

-- the same of reserved 64, flag 1
abbrev value : List Record → ℕ → CaptionUnit
value = told 64 1

-- a record: priority, field, line
abbrev caption : ℕ → ℕ → ℕ → Record
caption p f l =
    record {
      cc_priority = p;
      field_number = record { 0 = f };
      line_offset = l;
      cc_data_1 = 0x94;
      cc_data_2 = 0x2C;
    }

-- five records of priority 0 in field 1, and those behind them
abbrev five : List Record → List Record
five rs = caption 0 1 10 ∷ caption 0 1 11 ∷ caption 0 1 12 ∷ caption 0 1 13 ∷ caption 0 1 14 ∷ rs

-- a slot: mark, line, reserved, odd field; its row
abbrev slot : ℕ → ℕ → ℕ → List ℕ → sdp.SlotRow
slot full line reserved row =
    sdp.together (record { full = full; line = line; reserved = reserved; field = record { 0 = 1 } }) row

-- a packet of these two slots and three empty ones
abbrev two : ℕ → sdp.SlotRow → sdp.SlotRow → sdp.Sdp
two counter x y = record { counter = counter; slots = x ∷ y ∷ replicate 3 sdp.empty_row }

-- units of a reel: a legal one, one of padding 64, and one of cc_valid_1 2
abbrev fair : AccessUnit
fair = unit 1 0 0 0x94 0x2C 0 0

abbrev padded : AccessUnit
padded = unit 1 0 64 0x94 0x2C 0 0

abbrev invalid : AccessUnit
invalid = unit 2 0 0 0x94 0x2C 0 0

-- a payload of m units
abbrev payload_of : ℕ → List AccessUnit → Payload
payload_of m us = record { flags = 0; m = m; units = us }

-- a unit of teletext in the stream, its row all FF: the byte of reserved bits, parity and line, and the framing code
abbrev wire : ℕ → ℕ → List ℕ
wire line code = 0x03 ∷ 0x2C ∷ line ∷ code ∷ replicate 42 0xFF

-- so many units of stuffing
abbrev stuffed : ℕ → List ℕ
stuffed k = pes-layout.layout_units (replicate k (pes.stuffing (replicate 44 0xFF)))

-- a unit that is told: id, parity, line
abbrev line : ℕ → ℕ → ℕ → pes.DataUnit
line id parity l =
    pes.teletext
    (record { data_unit_id = id; field_parity = parity; line_offset = l; row = replicate 42 0 })

-- what is told of a data field: data_identifier, n and units
abbrev field_of : ℕ → ℕ → List pes.DataUnit → pes.Told
field_of identifier n us = record { data_identifier = identifier; n = n; units = us }

-- the flag, DID, SDID, DC and the priority, and what is behind them
abbrev opened : ℕ → ℕ → ℕ → ℕ → List ℕ → List ℕ
opened did sdid dc priority rest = 0x000 ∷ 0x3FF ∷ 0x3FF ∷ did ∷ sdid ∷ dc ∷ priority ∷ rest

-- an inner packet that is told: line, field, DID, SDID, and its user words among those that are lent
abbrev head : ℕ → ℕ → ℕ → ℕ → ℕ → ℕ → List ℕ
head l f did sdid at count = l ∷ f ∷ did ∷ sdid ∷ at ∷ count ∷ []

-- what is told of a multipacket: priority, heads and words
abbrev multi_of : ℕ → List (List ℕ) → List ℕ → multipackets.Told
multi_of priority heads words = record { priority = priority; heads = heads; words = words }

-- a picture that shows its top field first, and whether the first is repeated; the set line
abbrev shown : Bool → ℕ → Shown
shown repeat line = record { top_field_first = true; repeat_first_field = repeat; line_offset = line }

abbrev pub two_faults : List FaultCase
two_faults =
    -- READING AN AREA
    -- 1 and 2: too long, and no start code
    area Scte20 (replicate 16385 1) TooLong 1 0
    -- 2 and 3: begins 00 00 01 B3
    ∷ area Scte20 (0x00 ∷ 0x00 ∷ 0x01 ∷ 0xB3 ∷ []) NoStart 2 0
    -- 3 and 4: a second caption unit before a bad start code
    ∷ area Scte20 (a ++ (a ++ (0x00 ∷ 0x00 ∷ 0x01 ∷ 0xB3 ∷ []))) StartCode 3 0
    -- 4 and content: two caption units, each with its marker 0
    ∷ area Scte20 (j ++ j) SecondUnit 4 0
    -- 18 and 5: cc_count 31, and one construct there, its marker 0
    ∷ area Scte20 (layout_unit (0x03 ∷ 0x81 ∷ 0xF8 ∷ 0xAC ∷ 0xA4 ∷ 0xD0 ∷ 0x00 ∷ [])) (Unfixed fixed.Marker) 18 78
    -- 5 and 7: a second construct of field 0, with only 25 bits left; the unit behind a foreign one
    ∷ area Scte20 (foreign ++ layout_unit (0x03 ∷ 0x81 ∷ 0x10 ∷ 0xAC ∷ 0xA4 ∷ 0xD2 ∷ 0x0B ∷ 0x29 ∷ 0x34 ∷ [])) Ends 5 119
    -- 7 and 8, and what would be a fifth priority 0: field 0 behind four of field 1
    ∷ area Scte20 (fifth (0x38 ∷ 0xA4 ∷ 0xD2 ∷ 0x00 ∷ [])) FieldNumberZero 7 159
    -- 7 and 18: field 0, and the marker 0
    ∷ area Scte20 (layout_unit (0x03 ∷ 0x81 ∷ 0x08 ∷ 0x2C ∷ 0xA4 ∷ 0xD0 ∷ 0x00 ∷ [])) FieldNumberZero 7 55
    -- 8 and 9: a fifth priority 0, whose line does not rise
    ∷ area Scte20 (fifth (0xB4 ∷ 0xA4 ∷ 0xD2 ∷ 0x00 ∷ [])) LineDoesNotRise 8 161
    -- 9 and 18: a fifth priority 0, its marker 0
    ∷ area Scte20 (fifth (0xB8 ∷ 0xA4 ∷ 0xD0 ∷ 0x00 ∷ [])) FifthPriority 9 157
    -- 18 and 10: a marker 0, and a sampled video count of 1
    ∷ area Scte20 (layout_unit (0x03 ∷ 0x81 ∷ 0x08 ∷ 0xAC ∷ 0xA4 ∷ 0xD0 ∷ 0x20 ∷ [])) (Unfixed fixed.Marker) 18 78
    -- 18 and 19: a marker 0, and an alignment bit 1
    ∷ area Scte20 (layout_unit (0x03 ∷ 0x81 ∷ 0x08 ∷ 0xAC ∷ 0xA4 ∷ 0xD0 ∷ 0x01 ∷ [])) (Unfixed fixed.Marker) 18 78
    -- 10 and 19: a sampled video count of 1, and an alignment bit 1
    ∷ area Scte20 (layout_unit (0x03 ∷ 0x81 ∷ 0x08 ∷ 0xAC ∷ 0xA4 ∷ 0xD2 ∷ 0x21 ∷ [])) SampledVideo 10 79
    -- 19 and 19: an alignment bit 1, and a stuffing byte 01
    ∷ area Scte20 (layout_unit (0x03 ∷ 0x81 ∷ 0x08 ∷ 0xAC ∷ 0xA4 ∷ 0xD2 ∷ 0x01 ∷ 0x01 ∷ [])) (Unfixed fixed.Alignment) 19 87
    -- 19 and 19: two alignment bits 1, of which the first decides
    ∷ area Scte20 (layout_unit (0x03 ∷ 0x81 ∷ 0x08 ∷ 0xAC ∷ 0xA4 ∷ 0xD2 ∷ 0x05 ∷ [])) (Unfixed fixed.Alignment) 19 85
    -- 19 and 19: two bits 1 in the stuffing behind flag 0, in a unit behind a foreign one
    ∷ area Scte20 (foreign ++ layout_unit (0x03 ∷ 0x80 ∷ 0x00 ∷ 0x30 ∷ [])) (Unfixed fixed.Stuffing) 19 98
    -- 3 and 4: two caption units, a data group between them, and a bad start code behind them
    ∷ area Scte20 (a ++ (group ++ (a ++ (0x00 ∷ 0x00 ∷ 0x01 ∷ 0xB3 ∷ [])))) StartCode 3 0
    -- 4 and 18: two caption units, each with its marker 0, and a data group between them
    ∷ area Scte20 (j ++ (group ++ j)) SecondUnit 4 0
    -- 18 and no 4: a data group, and behind it a caption unit with its marker 0
    ∷ area Scte20 (group ++ j) (Unfixed fixed.Marker) 18 142
    -- READING AN AREA FOR GA94
    -- 3 and 4: a second GA94 unit before a bad start code
    ∷ area Ga94 (q ++ (q ++ (0x00 ∷ 0x00 ∷ 0x01 ∷ 0xB3 ∷ []))) StartCode 3 0
    -- 4 and content: two GA94 units, each without its type
    ∷ area Ga94 (layout_unit (ga94 []) ++ layout_unit (ga94 [])) SecondUnit 4 0
    -- 16 and 5: the third flag, and no em_data; the unit behind a foreign one
    ∷ area Ga94 (foreign ++ layout_unit (ga94 (0x03 ∷ 0xE1 ∷ []))) AdditionalData 16 114
    -- 16 and 18: the third flag, and a marker bit 0
    ∷ area Ga94 (layout_unit (ga94 (0x03 ∷ 0xE1 ∷ 0xFF ∷ 0xF4 ∷ 0x94 ∷ 0x2C ∷ 0xFF ∷ []))) AdditionalData 16 74
    -- 5 and 18: a construct of which two bytes are there, with a marker bit 0
    ∷ area Ga94 (layout_unit (ga94 (0x03 ∷ 0xC1 ∷ 0xFF ∷ 0xF4 ∷ 0x94 ∷ []))) Ends 5 88
    -- 18 and 5: cc_count 31, and one construct there, with a marker bit 0
    ∷ area Ga94 (layout_unit (ga94 (0x03 ∷ 0xDF ∷ 0xFF ∷ 0xF4 ∷ 0x94 ∷ 0x2C ∷ []))) (Unfixed fixed.Marker) 18 88
    -- 18 and 18: marker_bits 11110 in the second construct, and FE in the place of FF
    ∷ area Ga94 (layout_unit (ga94 (0x03 ∷ 0xC2 ∷ 0xFF ∷ 0xFC ∷ 0x94 ∷ 0x2C ∷ 0xF4 ∷ 0x94 ∷ 0x2C ∷ 0xFE ∷ [])))
    (Unfixed fixed.Marker) 18 112
    -- 18 and 19: marker_bits FE in the place of FF, and a stuffing byte 02
    ∷ area Ga94 (layout_unit (ga94 (0x03 ∷ 0xC0 ∷ 0xFF ∷ 0xFE ∷ 0x02 ∷ []))) (Unfixed fixed.Marker) 18 88
    -- 19 and 19: two bits 1 in the stuffing
    ∷ area Ga94 (layout_unit (ga94 (0x03 ∷ 0xC0 ∷ 0xFF ∷ 0xFF ∷ 0x00 ∷ 0x05 ∷ []))) (Unfixed fixed.Stuffing) 19 109
    -- a fault of SCTE 20 and one of GA94: each is the fault of its own reading
    ∷ area Ga94 (j ++ layout_unit (ga94 (0x03 ∷ 0xE0 ∷ []))) AdditionalData 16 162
    ∷ area Scte20 (layout_unit (ga94 (0x03 ∷ 0xE0 ∷ [])) ++ j) (Unfixed fixed.Marker) 18 158
    -- READING A PACKET
    -- 1 and 2: 246 words, and no flag
    ∷ packet (replicate 246 1) TooLong 1 246
    -- 5 and 2: 19 words, and no flag
    ∷ packet (replicate 19 1) Ends 5 19
    -- 2 and 11: no flag, and words above 1023
    ∷ packet (replicate 20 1024) NoStart 2 0
    -- 2 and 2: the second and the third word are not the flag's
    ∷ packet (0x000 ∷ replicate 19 1) NoStart 2 1
    -- 11 and 6: the last user word's parity, and DID 44
    ∷ packet (k 0x244 0x151 0x10D 0x102 0x200 0x274 0x117 0x252) WordParity 11 18
    -- 11 and 6: CS above 1023, and DID 44
    ∷ packet (k 0x244 0x151 0x10D 0x102 0x200 0x274 0x217 0x652) WordRange 11 19
    -- 6 and 13: DID 44, and LENGTH 0E
    ∷ packet (k 0x244 0x151 0x10E 0x102 0x200 0x274 0x217 0x252) (Unfixed fixed.Identifier) 6 3
    -- 13 and 6: a word less than DC says, and 52 in the place of 51
    ∷ packet (take 19 (k 0x143 0x152 0x10D 0x102 0x200 0x274 0x200 0x252) ++ (0x200 ∷ 0x252 ∷ []))
    (Unfit misfit.DataCount) 13 5
    -- 6 and 13: 52 in the place of 51, and LENGTH 0E
    ∷ packet (k 0x143 0x152 0x10E 0x102 0x200 0x274 0x217 0x252) (Unfixed fixed.Identifier) 6 6
    -- 13 and 6: LENGTH 0E, and format 03
    ∷ packet (k 0x143 0x151 0x10E 0x203 0x200 0x274 0x217 0x252) (Unfit misfit.SdpLength) 13 8
    -- 6 and 7: format 03, and a descriptor of line 1
    ∷ packet (k 0x143 0x151 0x10D 0x203 0x101 0x274 0x217 0x252) (Unfixed fixed.FormatCode) 6 9
    -- 7 and 13: a descriptor of line 1, and a DC that does not fit one structure
    ∷ packet (k 0x143 0x151 0x10D 0x102 0x101 0x274 0x217 0x252) DescriptorLine 7 10
    -- 13 and 6: a DC that does not fit one structure, and the footer 75
    ∷ packet (k 0x143 0x151 0x10D 0x102 0x206 0x175 0x217 0x252) (Unfit misfit.Structures) 13 5
    -- 13 and 20: a DC that does not fit two structures, and 54 in the place of the first 55
    ∷ packet (one 0x206 0x154 0x255 0x227 0x274) (Unfit misfit.Structures) 13 5
    -- 20 and 20: 54 in the place of the second 55, and framing code 26
    ∷ packet (one 0x200 0x255 0x154 0x126 0x274) (Unfixed fixed.RunIn) 20 16
    -- 20 and 6: framing code 26, and the footer 75
    ∷ packet (one 0x200 0x255 0x255 0x126 0x175) (Unfixed fixed.FramingCode) 20 17
    -- 6 and 12: the footer 75, and the SDP checksum of a packet with a structure
    ∷ packet (one 0x200 0x255 0x255 0x227 0x175) (Unfixed fixed.Footer) 6 60
    -- 6 and 12: the footer 75, and the SDP checksum
    ∷ packet (k 0x143 0x151 0x10D 0x102 0x200 0x175 0x217 0x252) (Unfixed fixed.Footer) 6 15
    -- 12 and 12: the SDP checksum, and CS
    ∷ packet (k 0x143 0x151 0x10D 0x102 0x200 0x274 0x218 0x252) SdpChecksum 12 18
    -- READING A PAYLOAD
    -- 1 and 13: 1,458 bytes
    ∷ payload (replicate 1458 0) TooLong 1 1458
    -- WRITING A UNIT
    -- 15 and 15: z 16,385, and a record of priority 4
    ∷ write_unit Scte20 (value (caption 4 1 10 ∷ []) 16385) 0 (Unholdable excess.Stuffing) 15
    -- 15 and 7: line 32, and field 0
    ∷ write_unit Scte20 (value (caption 0 0 32 ∷ []) 0) 0 (Unholdable excess.LineOffset) 15
    -- 7 and 15: field 0 in one record, and priority 4 in the next
    ∷ write_unit Scte20 (value (caption 0 0 10 ∷ caption 4 1 10 ∷ []) 0) 0 FieldNumberZero 7
    -- 8 and 8: a field that falls, and in the next record a line that does not rise
    ∷ write_unit Scte20 (value (caption 0 2 10 ∷ caption 0 1 10 ∷ caption 0 1 10 ∷ []) 0) 0 FieldFalls 8
    -- 9 and 15: a fifth priority 0, and in the next record priority 4
    ∷ write_unit Scte20 (value (five (caption 4 1 15 ∷ [])) 0) 0 FifthPriority 9
    -- 9 and 1: a fifth priority 0, and a result of more than 16,384 bytes
    ∷ write_unit Scte20 (value (five []) 16384) 0 FifthPriority 9
    -- 1 and 14: a result of more than 16,384 bytes, and no room
    ∷ write_unit Scte20 (value [] 16384) 0 TooLong 1
    -- 15 and 7: reserved and flag that make 09, and a record of field 0
    ∷ write_unit Scte20 (told 4 1 (caption 0 0 10 ∷ []) 0) 0 (Unholdable excess.GroupType) 15
    -- 15 and 15: flag 0 with a record, and reserved and flag that make 0A
    ∷ write_unit Scte20 (told 5 0 (caption 0 1 10 ∷ []) 0) 0 (Unholdable excess.FlagWithRecords) 15
    -- 15 and 1: reserved and flag that make 0A, and a result of more than 16,384 bytes
    ∷ write_unit Scte20 (told 5 0 [] 16384) 0 (Unholdable excess.GroupType) 15
    -- WRITING A GA94 UNIT
    -- 15 and 16: em_data 256, and the third flag
    ∷ write_unit Ga94 (ga94Value 1 256 [] 0) 0 (Unholdable excess.EmData) 15
    -- 15 and 16: z 16,385, and the third flag
    ∷ write_unit Ga94 (ga94Value 1 255 [] 16385) 0 (Unholdable excess.Stuffing) 15
    -- 16 and 15: the third flag, and a record of cc_type 4
    ∷ write_unit Ga94 (ga94Value 1 255 (pair 1 4 ∷ []) 0) 0 AdditionalData 16
    -- 15 and 15: cc_valid 2, and cc_type 4
    ∷ write_unit Ga94 (ga94Value 0 255 (pair 2 4 ∷ []) 0) 0 (Unholdable excess.CcValid) 15
    -- 15 and 1: cc_type 4 in the second record, and a result of more than 16,384 bytes
    ∷ write_unit Ga94 (ga94Value 0 255 (pair 1 0 ∷ pair 1 4 ∷ []) 16384) 0 (Unholdable excess.CcType) 15
    -- 1 and 14: a result of more than 16,384 bytes, and no room
    ∷ write_unit Ga94 (ga94Value 0 255 [] 16384) 0 TooLong 1
    -- WRITING A PACKET
    -- 15 and 15: counter 65,536, and a slot of reserved 4
    ∷ write_packet (two 65536 (slot 1 6 4 sdp.zero_row) sdp.empty_row) 0 (Unholdable excess.Counter) 15
    -- 15 and 7: reserved 4, and line 3
    ∷ write_packet (two 0 (slot 1 3 4 sdp.zero_row) sdp.empty_row) 0 (Unholdable excess.SlotReserved) 15
    -- 15 and 7: an empty slot that holds line 3
    ∷ write_packet (two 0 (slot 0 3 0 sdp.zero_row) sdp.empty_row) 0 (Unholdable excess.SlotUnwritable) 15
    -- 7 and 15: line 3 in one slot, and reserved 4 in the next
    ∷ write_packet (two 0 (slot 1 3 0 sdp.zero_row) (slot 1 6 4 sdp.zero_row)) 0 DescriptorLine 7
    -- WRITING A PAYLOAD
    -- 15 and 15: m 292, and a padding of 64
    ∷ write_payload (payload_of 292 (unit 0 0 64 0 0 0 0 ∷ [])) 0 (Unholdable excess.Count) 15
    -- 15 and 14: a padding of 64, and no room
    ∷ write_payload (payload_of 1 (unit 0 0 64 0 0 0 0 ∷ [])) 0 (Unholdable excess.Padding) 15
    -- WRITING A REEL
    -- 15 and 15: size 0, and a padding of 64
    ∷ write_reel 0 (padded ∷ []) 6 (Unholdable excess.PayloadSize) 15
    -- 15 and 14: size 292, and no room
    ∷ write_reel 292 (fair ∷ []) 0 (Unholdable excess.PayloadSize) 15
    -- 15 and 14: in payload 1 a padding of 64, and no room for it
    ∷ write_reel 1 (padded ∷ fair ∷ []) 0 (Unholdable excess.Padding) 15
    -- 14 and 15: no room for payload 1, and in payload 2 a padding of 64
    ∷ write_reel 1 (fair ∷ padded ∷ []) 5 NoRoom 14
    -- 15 and 14: in payload 2 a padding of 64, and no room for it
    ∷ write_reel 1 (fair ∷ padded ∷ []) 6 (Unholdable excess.Padding) 15
    -- 14 and 15: no room for payload 2, and in payload 3 a padding of 64
    ∷ write_reel 1 (fair ∷ fair ∷ padded ∷ []) 11 NoRoom 14
    -- 15 and 15: in payload 1 a padding of 64, and in payload 2 cc_valid_1 is 2
    ∷ write_reel 1 (padded ∷ invalid ∷ []) 12 (Unholdable excess.Padding) 15
    -- 14 and 15: no room for payload 1, of two units, and in the last, of one, a padding of 64
    ∷ write_reel 2 (fair ∷ fair ∷ padded ∷ []) 10 NoRoom 14
    -- 15 and 14: in that last one a padding of 64, and no room for it
    ∷ write_reel 2 (fair ∷ fair ∷ padded ∷ []) 11 (Unholdable excess.Padding) 15
    -- CARRYING A FILM PICTURE
    -- 15 and 15: a set line of 32, and a record of priority 4
    ∷ film (shown true 32) (value (caption 4 1 10 ∷ []) 0) (Unholdable excess.SetLine) 15
    -- 15 and 7: a set line of 32, and a record of field 0
    ∷ film (shown true 32) (value (caption 0 0 10 ∷ []) 0) (Unholdable excess.SetLine) 15
    -- 15 and 21: z 16,385, and a record of field 3 where two fields are shown
    ∷ film (shown false 11) (value (caption 0 3 11 ∷ []) 16385) (Unholdable excess.Stuffing) 15
    -- 7 and 22: a record on another line, and field 0 in the next
    ∷ film (shown true 11) (value (caption 0 1 10 ∷ caption 0 0 11 ∷ []) 0) FieldNumberZero 7
    -- 8 and 21: field 3 where two fields are shown, and a field that falls in the next record
    ∷ film (shown false 11) (value (caption 0 3 11 ∷ caption 0 2 11 ∷ []) 0) FieldFalls 8
    -- 9 and 22: a fifth priority 0, and four records on other lines
    ∷ film (shown true 11) (value (five []) 0) FifthPriority 9
    -- 21 and 22: a record on another line, and behind it one of field 3 where two fields are shown
    ∷ film (shown false 11) (value (caption 0 1 10 ∷ caption 0 3 11 ∷ []) 0) NotShown 21
    -- 21 and 22: one record of field 3, where two fields are shown, on another line
    ∷ film (shown false 11) (value (caption 0 3 10 ∷ []) 0) NotShown 21
    -- 22 and no 21: the same where the first field is repeated
    ∷ film (shown true 11) (value (caption 0 3 10 ∷ []) 0) OtherLine 22
    -- READING A DATA FIELD
    -- 6 and 23: data_identifier 20, and a unit of id 04
    ∷ field (0x20 ∷ 0x04 ∷ []) (Unfixed fixed.Identifier) 6 0
    -- 23 and 5: id 04, and no length
    ∷ field (0x10 ∷ 0x04 ∷ []) UnknownUnit 23 1
    -- 23 and 13: id 04, and length 2D
    ∷ field (0x10 ∷ 0x04 ∷ 0x2D ∷ []) UnknownUnit 23 1
    -- 13 and 5: length 2D, and nothing behind it; in teletext, and in stuffing
    ∷ field (0x10 ∷ 0x02 ∷ 0x2D ∷ []) (Unfit misfit.UnitLength) 13 2
    ∷ field (0x10 ∷ 0xFF ∷ 0x2B ∷ []) (Unfit misfit.UnitLength) 13 2
    -- 13 and 6: length 2D, and reserved bits 00
    ∷ field (0x10 ∷ 0x03 ∷ 0x2D ∷ 0x07 ∷ []) (Unfit misfit.UnitLength) 13 2
    -- 6 and 7: reserved bits 10, and line 6
    ∷ field (0x1F ∷ wire 0x86 0xE4) (Unfixed fixed.UnitReserved) 6 3
    -- 7 and 5: line 6, and no framing code
    ∷ field (0x10 ∷ 0x03 ∷ 0x2C ∷ 0xC6 ∷ []) UnitLine 7 3
    -- 7 and 6: line 23, and framing code 27
    ∷ field (0x10 ∷ wire 0xF7 0x27) UnitLine 7 3
    -- 6 and 5: framing code 27, and a row of one byte
    ∷ field (0x10 ∷ 0x03 ∷ 0x2C ∷ 0xC7 ∷ 0x27 ∷ 0xFF ∷ []) (Unfixed fixed.UnitFraming) 6 4
    -- 7 and 23: line 1 in the first unit, and id 04 in the second
    ∷ field (0x10 ∷ (wire 0xC1 0xE4 ++ (0x04 ∷ []))) UnitLine 7 3
    -- 6 and 7: framing code 27 in the second unit, and line 6 in the third
    ∷ field (0x10 ∷ (stuffed 1 ++ (wire 0xE7 0x27 ++ wire 0xC6 0xE4))) (Unfixed fixed.UnitFraming) 6 50
    -- 6 and 24: framing code 27 in the 31st unit, and a byte behind it
    ∷ field (0x10 ∷ (stuffed 30 ++ (wire 0xE7 0x27 ++ (0x02 ∷ [])))) (Unfixed fixed.UnitFraming) 6 1384
    -- 24 and 23: a byte behind the 31st unit, which would be an unknown id
    ∷ field (0x10 ∷ (stuffed 31 ++ (0x04 ∷ []))) SurplusUnit 24 1427
    -- WRITING A DATA FIELD
    -- 15 and 15: data_identifier 32, and n 32
    ∷ write_field (field_of 32 32 []) 0 (Unholdable excess.DataIdentifier) 15
    -- 15 and 7: n 32, and a unit of line 6
    ∷ write_field (field_of 16 32 (line 3 1 6 ∷ [])) 0 (Unholdable excess.Count) 15
    -- 15 and 15: id 4, and parity 2
    ∷ write_field (field_of 16 1 (line 4 2 7 ∷ [])) 0 (Unholdable excess.DataUnitId) 15
    -- 15 and 7: parity 2, and line 6
    ∷ write_field (field_of 16 1 (line 3 2 6 ∷ [])) 0 (Unholdable excess.FieldParity) 15
    -- 15 and 14: line 32, and no room
    ∷ write_field (field_of 16 1 (line 3 1 32 ∷ [])) 0 (Unholdable excess.LineOffset) 15
    -- 7 and 15: line 6 in one unit, and id 4 in the next
    ∷ write_field (field_of 16 2 (line 3 1 6 ∷ line 4 1 7 ∷ [])) 0 UnitLine 7
    -- 7 and 14: line 23 behind stuffing, and no room
    ∷ write_field (field_of 16 2 (pes.stuffing (replicate 44 0) ∷ line 2 0 23 ∷ [])) 0 UnitLine 7
    -- READING A MULTIPACKET
    -- 1 and 2: 263 words, and no flag
    ∷ multi (replicate 263 0x001) TooLong 1 263
    -- 5 and 2: seven words, and no flag
    ∷ multi (replicate 7 0x001) Ends 5 7
    -- 2 and 11: second word 3FE, and DID 1024
    ∷ multi (0x000 ∷ 0x3FE ∷ 0x3FF ∷ 0x400 ∷ 0x203 ∷ 0x206 ∷ 0x200 ∷ 0x20A ∷ 0x250 ∷ 0x101 ∷ 0x200 ∷ 0x151 ∷ 0x1F8 ∷ []) NoStart 2 1
    -- 11 and 11: a priority of wrong parity, and CS 1024
    ∷ multi (opened 0x143 0x203 0x206 0x100 (0x20A ∷ 0x250 ∷ 0x101 ∷ 0x200 ∷ 0x151 ∷ 0x400 ∷ [])) WordParity 11 6
    -- 11 and 6: b9 of CS is its b8, and DID 44
    ∷ multi (opened 0x244 0x203 0x206 0x200 (0x20A ∷ 0x250 ∷ 0x101 ∷ 0x200 ∷ 0x151 ∷ 0x0F9 ∷ [])) WordParity 11 12
    -- 6 and 6: DID 44, and SDID 02
    ∷ multi (opened 0x244 0x102 0x206 0x200 (0x20A ∷ 0x250 ∷ 0x101 ∷ 0x200 ∷ 0x151 ∷ 0x1F8 ∷ [])) (Unfixed fixed.Identifier) 6 3
    -- 6 and 13: SDID 02, and DC one more
    ∷ multi (opened 0x143 0x102 0x107 0x200 (0x20A ∷ 0x250 ∷ 0x101 ∷ 0x200 ∷ 0x151 ∷ 0x1F8 ∷ [])) (Unfixed fixed.Identifier) 6 4
    -- 13 and 26: DC 2, and no inner packet
    ∷ multi (opened 0x143 0x203 0x102 0x200 (0x248 ∷ [])) (Unfit misfit.DataCount) 13 5
    -- 26 and 12: no inner packet, and a wrong CS
    ∷ multi (opened 0x143 0x203 0x101 0x200 (0x101 ∷ [])) NoInner 26 7
    -- 26 and 11: three words of a header, the first with wrong parity
    ∷ multi (opened 0x143 0x203 0x104 0x200 (0x300 ∷ 0x250 ∷ 0x101 ∷ 0x29B ∷ [])) InnerOverrun 26 7
    -- 26 and 11: NDC counts a word that is not there, and has wrong parity
    ∷ multi (opened 0x143 0x203 0x206 0x200 (0x20A ∷ 0x250 ∷ 0x101 ∷ 0x201 ∷ 0x151 ∷ 0x1F9 ∷ [])) InnerOverrun 26 7
    -- 11 and 11: a user word of wrong parity, and NCS 1024
    ∷ multi (opened 0x143 0x203 0x107 0x200 (0x20A ∷ 0x250 ∷ 0x101 ∷ 0x101 ∷ 0x35A ∷ 0x400 ∷ 0x203 ∷ [])) WordParity 11 11
    -- 11 and 6: b9 of NCS is its b8, and b6 of LINE/FIELD
    ∷ multi (opened 0x143 0x203 0x206 0x200 (0x14A ∷ 0x250 ∷ 0x101 ∷ 0x200 ∷ 0x351 ∷ 0x138 ∷ [])) WordParity 11 11
    -- 6 and 5: b7 of LINE/FIELD, and subtitles without user words
    ∷ multi (opened 0x143 0x203 0x206 0x200 (0x18A ∷ 0x143 ∷ 0x102 ∷ 0x200 ∷ 0x245 ∷ 0x160 ∷ [])) (Unfixed fixed.LineField) 6 7
    -- 5 and 12: subtitles without user words, and a wrong NCS
    ∷ multi (opened 0x143 0x203 0x206 0x200 (0x20A ∷ 0x143 ∷ 0x102 ∷ 0x200 ∷ 0x101 ∷ 0x29C ∷ [])) Ends 5 11
    -- 6 and 12: subtitles that begin with 50, and a wrong NCS
    ∷ multi (opened 0x143 0x203 0x113 0x200 (0x20A ∷ 0x143 ∷ 0x102 ∷ 0x10D ∷ 0x250 ∷ 0x115 ∷ 0x10D ∷ 0x102 ∷ 0x200 ∷ 0x200 ∷ 0x200 ∷ 0x200 ∷ 0x200 ∷ 0x274 ∷ 0x200 ∷ 0x200 ∷ 0x217 ∷ 0x101 ∷ 0x2B5 ∷ [])) (Unfixed fixed.Identifier) 6 11
    -- 12 and no 5: a multipacket inside, which is carried, and a wrong NCS
    ∷ multi (opened 0x143 0x203 0x206 0x200 (0x20A ∷ 0x143 ∷ 0x203 ∷ 0x200 ∷ 0x101 ∷ 0x19D ∷ [])) InnerChecksum 12 11
    -- 12 and 26: a wrong NCS, and behind it an inner packet of one word
    ∷ multi (opened 0x143 0x203 0x107 0x200 (0x20A ∷ 0x250 ∷ 0x101 ∷ 0x200 ∷ 0x101 ∷ 0x10A ∷ 0x1B3 ∷ [])) InnerChecksum 12 11
    -- 12 and 12: a wrong NCS, and a wrong CS
    ∷ multi (opened 0x143 0x203 0x206 0x200 (0x20A ∷ 0x250 ∷ 0x101 ∷ 0x200 ∷ 0x101 ∷ 0x102 ∷ [])) InnerChecksum 12 11
    -- 26 and 12: an inner packet of one word behind another, and a wrong CS
    ∷ multi (opened 0x143 0x203 0x107 0x200 (0x20A ∷ 0x250 ∷ 0x101 ∷ 0x200 ∷ 0x151 ∷ 0x10A ∷ 0x102 ∷ [])) InnerOverrun 26 12
    -- 6 and 6: b6 of LINE/FIELD in one inner packet, and b7 in the next
    ∷ multi (opened 0x143 0x203 0x110 0x200 (0x20A ∷ 0x250 ∷ 0x101 ∷ 0x200 ∷ 0x151 ∷ 0x14A ∷ 0x250 ∷ 0x101 ∷ 0x200 ∷ 0x151 ∷ 0x18A ∷ 0x250 ∷ 0x101 ∷ 0x200 ∷ 0x151 ∷ 0x11A ∷ [])) (Unfixed fixed.LineField) 6 12
    -- WRITING A MULTIPACKET
    -- 15 and 26: priority 256, and no inner packet
    ∷ write_multi (multi_of 256 [] []) 0 (Unholdable excess.PriorityWord) 15
    -- 26 and 14: no inner packet, and no room
    ∷ write_multi (multi_of 0 [] []) 0 NoInner 26
    -- 15 and 15: line 32, and field 2
    ∷ write_multi (multi_of 0 (head 32 2 0x50 1 0 0 ∷ []) []) 0 (Unholdable excess.InnerLine) 15
    -- 15 and 15: field 2, and DID 256
    ∷ write_multi (multi_of 0 (head 31 2 256 1 0 0 ∷ []) []) 0 (Unholdable excess.InnerField) 15
    -- 15 and 15: SDID 256, and a user word where none is lent
    ∷ write_multi (multi_of 0 (head 31 1 0x50 256 0 1 ∷ []) []) 0 (Unholdable excess.InnerIdentifier) 15
    -- 15 and 11: a user word beyond the one that is lent, which has wrong parity
    ∷ write_multi (multi_of 0 (head 31 1 0x50 1 0 2 ∷ []) (0x100 ∷ [])) 0 (Unholdable excess.InnerPart) 15
    -- 11 and 5: subtitles of one user word, which has wrong parity
    ∷ write_multi (multi_of 0 (head 10 1 0x43 2 0 1 ∷ []) (0x100 ∷ [])) 0 WordParity 11
    -- 5 and 15: subtitles without user words, and line 32 in the next
    ∷ write_multi (multi_of 0 (head 10 1 0x43 2 0 0 ∷ head 32 1 0x50 1 0 0 ∷ []) []) 0 Ends 5
    -- 15 and 13: line 32 behind 51 inner packets, which make 256 user words
    ∷ write_multi (multi_of 0 (replicate 51 (head 0 0 0x50 1 0 0) ++ (head 32 0 0x50 1 0 0 ∷ [])) []) 0 (Unholdable excess.InnerLine) 15
    -- 13 and 14: 51 inner packets, and no room
    ∷ write_multi (multi_of 0 (replicate 51 (head 0 0 0x50 1 0 0)) []) 0 (Unfit misfit.UserWords) 13
    -- CONVERTING A PACKET
    -- 6 and 7: the footer 75, and a full slot of line 6
    ∷ convert (one 0x200 0x255 0x255 0x227 0x175) 0 (Unfixed fixed.Footer) 6 60
    -- 15 and 7: counter 65,536, and line 6
    ∷ convert_value (two 65536 (slot 1 6 0 sdp.zero_row) sdp.empty_row) 0 (Unholdable excess.Counter) 15
    -- 15 and 7: line 6 in one slot, and reserved 4 in the next: the packet is judged first
    ∷ convert_value (two 0 (slot 1 6 0 sdp.zero_row) (slot 1 7 4 sdp.zero_row)) 0 (Unholdable excess.SlotReserved) 15
    -- 7 and 7: line 6 in one slot, which a packet may have, and line 3 in the next, which it may not
    ∷ convert_value (two 0 (slot 1 6 0 sdp.zero_row) (slot 1 3 0 sdp.zero_row)) 0 DescriptorLine 7
    -- 7 and 14: line 6 in the second slot, and no room
    ∷ convert_value (two 0 (slot 1 7 0 sdp.zero_row) (slot 1 6 0 sdp.zero_row)) 0 UnitLine 7
    -- REPLACING
    -- 18 and 15: an area whose caption unit, behind a foreign one, has its marker 0, and a value of z 16,385
    ∷ replace Scte20 (foreign ++ j) (value [] 16385) 0 (Unfixed fixed.Marker) 18 118
    -- 4 and 7: two caption units, and a value of field 0
    ∷ replace Scte20 (a ++ a) (value (caption 0 0 10 ∷ []) 0) 0 SecondUnit 4 0
    -- 15 and 14: a value of priority 4, and no room
    ∷ replace Scte20 a (value (caption 4 1 10 ∷ []) 0) 0 (Unholdable excess.Priority) 15 0
    -- 1 and 14: a new area of 16,389 bytes, of which the new unit has 16,384, and no room
    ∷ replace Scte20 (foreign ++ a) (value [] 16376) 0 TooLong 1 0
    -- 18 and 15: a data group, then a caption unit with its marker 0, and a value that makes 09
    ∷ replace Scte20 (group ++ j) (told 4 1 [] 0) 0 (Unfixed fixed.Marker) 18 142
    -- 15 and 14: a data group alone, a value that makes 0A, and no room
    ∷ replace Scte20 group (told 5 0 [] 0) 0 (Unholdable excess.GroupType) 15 0
    -- 16 and 15: a GA94 unit with the third flag, behind a foreign one, and a value of em_data 256
    ∷ replace Ga94 (foreign ++ layout_unit (ga94 (0x03 ∷ 0xE0 ∷ 0xFF ∷ 0xFF ∷ []))) (ga94Value 0 256 [] 0) 0 AdditionalData 16 114
    -- 4 and 16: two GA94 units, and a value with the third flag
    ∷ replace Ga94 (q ++ q) (ga94Value 1 255 [] 0) 0 SecondUnit 4 0
    -- 1 and 14: a new area of 16,389 bytes, of which the new unit has 16,384, and no room
    ∷ replace Ga94 (foreign ++ q) (ga94Value 0 255 [] 16372) 0 TooLong 1 0
    ∷ []
