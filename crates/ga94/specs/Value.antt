-- The value of a GA94 caption unit, and when it is legal. RULES, "GA94"; document 003, Table 3.
use Rattle.std.specs.Prelude.{ℕ, ◌≤◌, ◌<◌, ◌≡◌, List, [], length, take}
use Rattle.lists.specs.Each.{Each}
use Rattle.lists.specs.Room.{filled}
use Rattle.ga94.specs.declared.Record.{Record}

-- the three flags, em_data, records, z
pub record Content : Type 0 where
  pub process_em_data_flag : ℕ
  pub process_cc_data_flag : ℕ
  pub additional_data_flag : ℕ
  pub em_data : ℕ
  pub records : List Record
  pub z : ℕ

-- the two data bytes are bytes
pub record ByteRecord (r : Record) : Type 0 where
  pub data-1 : r.cc_data_1 < 256
  pub data-2 : r.cc_data_2 < 256

-- a record with other data bytes
abbrev pub with_data : Record → ℕ → ℕ → Record
with_data r a b =
    record { cc_valid = r.cc_valid; cc_type = r.cc_type; cc_data_1 = a; cc_data_2 = b }

-- cc_valid is a bit, cc_type has two
pub record LegalRecord (r : Record) : Type 0 where
  pub valid : r.cc_valid < 2
  pub type : r.cc_type < 4
  pub bytes : ByteRecord r

-- RULES, "GA94", "The value": the first two flags and em_data are carried, the third flag is not set
pub record Legal (c : Content) : Type 0 where
  pub em_flag : c.process_em_data_flag < 2
  pub cc_flag : c.process_cc_data_flag < 2
  pub no_additional : c.additional_data_flag ≡ 0
  pub em : c.em_data < 256
  pub few : length c.records ≤ 31
  pub each : Each LegalRecord c.records

-- a record of zeros, which fills the room beyond the n records
abbrev pub blank : Record
blank = record { cc_valid = 0; cc_type = 0; cc_data_1 = 0; cc_data_2 = 0 }

-- no value: what a refusal holds
abbrev pub none : Content
none =
    record {
      process_em_data_flag = 0;
      process_cc_data_flag = 0;
      additional_data_flag = 0;
      em_data = 0;
      records = [];
      z = 0;
    }

-- a value as it is told to a writer and by a reader: how many records there are, and beside it 31 of them
pub record CaptionUnit : Type 0 where
  pub process_em_data_flag : ℕ
  pub process_cc_data_flag : ℕ
  pub additional_data_flag : ℕ
  pub em_data : ℕ
  pub n : ℕ
  pub records : List Record
  pub z : ℕ

-- a value so told: n records, and zeros beyond them
abbrev pub stored : Content → CaptionUnit
stored c =
    record {
      process_em_data_flag = c.process_em_data_flag;
      process_cc_data_flag = c.process_cc_data_flag;
      additional_data_flag = c.additional_data_flag;
      em_data = c.em_data;
      n = length c.records;
      records = filled c.records 31 blank;
      z = c.z;
    }

-- the value that is told: entries beyond n are not looked at
abbrev pub held : CaptionUnit → Content
held u =
    record {
      process_em_data_flag = u.process_em_data_flag;
      process_cc_data_flag = u.process_cc_data_flag;
      additional_data_flag = u.additional_data_flag;
      em_data = u.em_data;
      records = take u.n u.records;
      z = u.z;
    }

-- a legal value, of no more records than there are places
pub record LegalCaptionUnit (u : CaptionUnit) : Type 0 where
  pub few : u.n ≤ 31
  pub value : Legal (held u)

-- what the types of a lent array tell: data bytes are bytes, and there are 31 places
pub record Typed (u : CaptionUnit) : Type 0 where
  pub places : length u.records ≡ 31
  pub bytes : Each ByteRecord u.records
