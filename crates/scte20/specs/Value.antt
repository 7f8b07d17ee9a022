-- The value of a caption unit, when it is legal, and how the code's structs hold it. RULES, "Picture area"; document
-- 001, 5.4 to 5.8.
use Rattle.std.specs.Prelude.{ℕ, ◌+◌, ◌*◌, ◌≤◌, ◌<◌, ◌≡◌, Bool, true, false, ◌&&◌, ◌⊎◌, List, [], ◌∷◌, eqb, length, take}
use Rattle.lists.specs.Each.{Each}
use Rattle.lists.specs.Room.{filled}
use Rattle.kind.specs.Ours.{group_type}
use Rattle.scte20.specs.declared.Record.{Record}
use Rattle.scte20.specs.declared.CaptionUnit.{CaptionUnit}

-- reserved, flag, records, z
pub record Content : Type 0 where
  pub reserved : ℕ
  pub flag : ℕ
  pub records : List Record
  pub z : ℕ

-- the byte that reserved and flag make, behind user_data_type_code (001, 5.4)
abbrev pub flag_byte : ℕ → ℕ → ℕ
flag_byte reserved flag = 2 * reserved + flag

-- which display field a record is of
abbrev pub field_of : Record → ℕ
field_of r = r.field_number.0

-- the two data bytes are bytes
pub record ByteRecord (r : Record) : Type 0 where
  pub data-1 : r.cc_data_1 < 256
  pub data-2 : r.cc_data_2 < 256

-- a record with other data bytes
abbrev pub with_data : Record → ℕ → ℕ → Record
with_data r a b =
    record {
      cc_priority = r.cc_priority;
      field_number = r.field_number;
      line_offset = r.line_offset;
      cc_data_1 = a;
      cc_data_2 = b;
    }

-- what the layout holds: priority 0 to 3, field_number up to 3, line_offset 0 to 31, two bytes
pub record Ranged (r : Record) : Type 0 where
  pub priority : r.cc_priority < 4
  pub field : field_of r ≤ 3
  pub line : r.line_offset < 32
  pub bytes : ByteRecord r

-- field_number 0 is forbidden
pub record LegalRecord (r : Record) : Type 0 where
  pub ranged : Ranged r
  pub allowed : 1 ≤ field_of r

-- a record may follow another of a lower field, or one of its own field on a lower line (000, 6.2, third requirement)
abbrev pub Follows : Record → Record → Type 0
Follows earlier r =
    (field_of earlier < field_of r) ⊎ (field_of earlier ≡ field_of r × earlier.line_offset < r.line_offset)

abbrev pub InOrder : List Record → Type 0
InOrder [] = Unit {0}
InOrder (r ∷ []) = Unit {0}
InOrder (r ∷ next ∷ rs) = Follows r next × InOrder (next ∷ rs)

-- 1 where a test holds, else 0
abbrev pub count_if : Bool → ℕ
count_if true = 1
count_if false = 0

-- how many records of one field have priority 0
abbrev pub urgent : ℕ → List Record → ℕ
urgent f [] = 0
urgent f (r ∷ rs) = count_if (eqb (field_of r) f && eqb r.cc_priority 0) + urgent f rs

-- RULES, "Picture area", "The value"
pub record Legal (c : Content) : Type 0 where
  pub reserved : c.reserved < 128
  pub flag : c.flag < 2
  pub few : length c.records ≤ 31
  pub each : Each LegalRecord c.records
  pub order : InOrder c.records
  pub four : (f : ℕ) → urgent f c.records ≤ 4
  pub bare : c.flag ≡ 0 → c.records ≡ []
  -- with such a byte the unit would be a data group's, and foreign (crate `kind`)
  pub no_group : group_type (flag_byte c.reserved c.flag) ≡ false

-- a record of zeros, which fills the room beyond the n records
abbrev pub blank : Record
blank =
    record {
      cc_priority = 0;
      field_number = record { 0 = 0 };
      line_offset = 0;
      cc_data_1 = 0;
      cc_data_2 = 0;
    }

-- no value: what a refusal holds
abbrev pub none : Content
none = record { reserved = 0; flag = 0; records = []; z = 0 }

-- the struct that holds a value: n records, and zeros beyond them
abbrev pub stored : Content → CaptionUnit
stored c =
    record {
      reserved = c.reserved;
      vbi_data_flag = c.flag;
      n = length c.records;
      records = filled c.records 31 blank;
      z = c.z;
    }

-- the value that a struct holds: entries beyond n are not looked at
abbrev pub held : CaptionUnit → Content
held u = record { reserved = u.reserved; flag = u.vbi_data_flag; records = take u.n u.records; z = u.z }

-- the same of the struct that the code holds a value in: n is no more than its array has places, and the value is legal
pub record LegalCaptionUnit (u : CaptionUnit) : Type 0 where
  pub few : u.n ≤ 31
  pub value : Legal (held u)

-- what every struct of the code satisfies by its type: data bytes are bytes, and the array has 31 places
pub record Typed (u : CaptionUnit) : Type 0 where
  pub places : length u.records ≡ 31
  pub bytes : Each ByteRecord u.records
