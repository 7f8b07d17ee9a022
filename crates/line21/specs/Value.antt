-- A Line 21 payload's value, when it is legal, and how structs hold it. RULES, "Line 21 payload"; 004, Table 2.
use Rattle.std.specs.Prelude.{ℕ, ◌≤◌, ◌<◌, ◌≡◌, List, [], length, take}
use Rattle.lists.specs.Each.{Each}
use Rattle.lists.specs.Room.{filled}
use Rattle.line21.specs.declared.AccessUnit.{AccessUnit}
use Rattle.line21.specs.declared.Payload.{Payload}

-- the flags byte, and the m access units in order
pub record Line21 : Type 0 where
  pub flags : ℕ
  pub units : List AccessUnit

-- the four data bytes are bytes, whatever the flags say
pub record ByteUnit (u : AccessUnit) : Type 0 where
  pub field1-data1 : u.field1_data1 < 256
  pub field1-data2 : u.field1_data2 < 256
  pub field2-data1 : u.field2_data1 < 256
  pub field2-data2 : u.field2_data2 < 256

-- a unit with other data bytes
abbrev pub with_data : AccessUnit → ℕ → ℕ → ℕ → ℕ → AccessUnit
with_data u a b c d =
    record {
      cc_valid_1 = u.cc_valid_1;
      cc_valid_2 = u.cc_valid_2;
      padding = u.padding;
      field1_data1 = a;
      field1_data2 = b;
      field2_data1 = c;
      field2_data2 = d;
    }

-- the flags are one bit each, and the padding is 0 to 63
pub record HoldableUnit (u : AccessUnit) : Type 0 where
  pub valid_1 : u.cc_valid_1 < 2
  pub valid_2 : u.cc_valid_2 < 2
  pub pad : u.padding < 64

pub record LegalAccessUnit (u : AccessUnit) : Type 0 where
  pub numbers : HoldableUnit u
  pub bytes : ByteUnit u

-- m from 0 to 291
pub record Legal (v : Line21) : Type 0 where
  pub byte : v.flags < 256
  pub count : length v.units ≤ 291
  pub each : Each LegalAccessUnit v.units

-- the value that a struct holds: entries beyond m are not looked at
abbrev pub held : Payload → Line21
held p = record { flags = p.flags; units = take p.m p.units }

-- the same of the struct that holds a value: m is no more than its array has places, and the m units are legal
pub record LegalPayload (p : Payload) : Type 0 where
  pub few : p.m ≤ 291
  pub value : Legal (held p)

-- what every struct of the code satisfies by its type: bytes are bytes, and the array has 291 places
pub record Typed (p : Payload) : Type 0 where
  pub byte : p.flags < 256
  pub places : length p.units ≡ 291
  pub bytes : Each ByteUnit p.units

-- a unit of zeros, which fills the room beyond the m units
abbrev pub blank : AccessUnit
blank =
    record {
      cc_valid_1 = 0;
      cc_valid_2 = 0;
      padding = 0;
      field1_data1 = 0;
      field1_data2 = 0;
      field2_data1 = 0;
      field2_data2 = 0;
    }

-- no value: what a refusal holds
abbrev pub none : Line21
none = record { flags = 0; units = [] }

-- the struct that holds a value: m units, and zeros beyond them
abbrev pub stored : Line21 → Payload
stored v = record { flags = v.flags; m = length v.units; units = filled v.units 291 blank }
