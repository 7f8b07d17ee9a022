-- Every `CaptionUnit` that the code holds is `Typed`: the logic says so of what a local of that type owns.
-- Assumes nothing.
use mathlib.Core.List.{List, [], ◌∷◌}
use mir.Val.{Val}
use denote.Shadow.{shadow}
use denote.Array.{each}
use Rattle.lists.specs.Each.{Each}
use Rattle.scte20.specs.declared.Record.{Record}
use Rattle.scte20.specs.declared.CaptionUnit.{CaptionUnit}
use Rattle.scte20.specs.Value.{ByteRecord, Typed}
use Rattle.scte20.specs.contracts.Record as rec
use Rattle.scte20.specs.contracts.CaptionUnit as unit

pub byte-record : (r : Record) (v : Val) → shadow ((rec.the_row).own_val r (v ∷ [])) → ByteRecord r
byte-record r v h = let two = h.1.1.1.1.1 in record { data-1 = two.0.1; data-2 = two.1.0.1 }

byte-records : (rs : List Record) (vs : List Val) → shadow (each (rec.the_row).Denot (rec.the_row).own_val rs vs) → Each ByteRecord rs
byte-records [] vs h = tt
byte-records (r ∷ rs) [] h = absurd h
byte-records (r ∷ rs) (v ∷ vs) h = (byte-record r v h.0, byte-records rs vs h.1)

pub typed : (u : CaptionUnit) (vs : List Val) → shadow ((unit.the_row).own_val u vs) → Typed u
typed u vs h =
    let records = h.1.1.1.1.1.0 in
    record {
      places = records.1.0.1;
      bytes = byte-records u.records records.0 records.1.1;
    }
