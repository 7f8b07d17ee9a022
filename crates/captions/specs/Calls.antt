-- What the calls of the C interface mean: each is a call of its carriage, of the value that plain numbers and lent
-- memory tell. c/captions.h has the same in C's words.
use Rattle.std.specs.Prelude.{ℕ, min, List, get_or}
use Rattle.lists.specs.Flat.{taken}
use Rattle.kind.specs.declared.Kind.TheVariants.{Scte20, Ga94}
use Rattle.scte20.specs.declared.Numbers.{Numbers}
use Rattle.ga94.specs.declared.Numbers as ga94
use Rattle.picture.specs.Lent.{Head, ReadsInto}
use Rattle.sdp.specs.declared.Slot.{Slot}
use Rattle.sdp.specs.declared.Packet.{Packet}
use Rattle.captions.specs.declared.UnitHead.{UnitHead}
use Rattle.captions.specs.declared.Ga94Head.{Ga94Head}

-- THE PICTURE AREA

-- the same answer with the numbers apart
abbrev pub head_in : UnitHead → Head Scte20
head_in r =
    record {
      refusal = r.refusal;
      present = r.present;
      numbers = record { reserved = r.reserved; vbi_data_flag = r.vbi_data_flag; n = r.n; z = r.z };
    }

-- the promise of `captions_area_read`
abbrev pub AreaReads : List ℕ → List ℕ → UnitHead → List ℕ → Type 0
AreaReads s lent r exit = ReadsInto Scte20 s lent (head_in r) exit

-- a unit's numbers. One that a byte cannot hold is 255, which no reserved bits and no flag are: it is refused with 15,
-- in its place in the order of RULES
unfoldable pub numbers_in : ℕ → ℕ → ℕ → ℕ → Numbers
numbers_in reserved flag n z = record { reserved = min reserved 255; vbi_data_flag = min flag 255; n = n; z = z }

-- GA94

-- the same answer with the numbers apart
abbrev pub ga94_head_in : Ga94Head → Head Ga94
ga94_head_in r =
    record {
      refusal = r.refusal;
      present = r.present;
      numbers = record {
        process_em_data_flag = r.process_em_data_flag;
        process_cc_data_flag = r.process_cc_data_flag;
        additional_data_flag = r.additional_data_flag;
        em_data = r.em_data;
        n = r.n;
        z = r.z;
      };
    }

-- the promise of `captions_ga94_read`
abbrev pub Ga94Reads : List ℕ → List ℕ → Ga94Head → List ℕ → Type 0
Ga94Reads s lent r exit = ReadsInto Ga94 s lent (ga94_head_in r) exit

-- a unit's numbers, as they are passed: the value holds each of them
abbrev pub ga94_numbers_in : ℕ → ℕ → ℕ → ℕ → ℕ → ℕ → ga94.Numbers
ga94_numbers_in process_em_data_flag process_cc_data_flag additional_data_flag em_data n z =
    record {
      process_em_data_flag = process_em_data_flag;
      process_cc_data_flag = process_cc_data_flag;
      additional_data_flag = additional_data_flag;
      em_data = em_data;
      n = n;
      z = z;
    }

-- THE SUBTITLING PACKET

-- the slot that the first four bytes tell
unfoldable pub slot_in : List ℕ → Slot
slot_in s = record { full = get_or s 0 0; line = get_or s 1 0; reserved = get_or s 2 0; field = record { 0 = get_or s 3 0 } }

abbrev pub packet_in : ℕ → List ℕ → Packet
packet_in counter s = record { counter = counter; slots = taken slot_in 4 5 s }
