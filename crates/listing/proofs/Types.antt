-- The numbers of a caption unit's records are bytes, and it has 31 places: the logic says so of what a local of that type owns.
-- Assumes nothing.
use mathlib.Core.Path.{◌≡◌}
use mathlib.Core.List.{List, [], ◌∷◌}
use mir.Val.{Val}
use denote.Shadow.{shadow}
use denote.Array.{each}
use lib.ListN.{length}
use Rattle.lists.specs.Each.{Each}
use Rattle.scte20.specs.declared.CaptionUnit.{CaptionUnit}
use Rattle.scte20.specs.declared.Record.{Record}
use Rattle.scte20.specs.contracts.CaptionUnit as unit
use Rattle.scte20.specs.contracts.Record as one
use Rattle.listing.proofs.Lengths.{ByteRecord}

byte-record : (r : Record) (v : Val) → shadow ((one.the_row).own_val r (v ∷ [])) → ByteRecord r
byte-record r v h = record { priority = h.1.1.0.1; field = h.1.1.1.0.1.1.0.1; line = h.1.1.1.1.0.1 }

byte-records : (rs : List Record) (vs : List Val) → shadow (each (one.the_row).Denot (one.the_row).own_val rs vs) → Each ByteRecord rs
byte-records [] vs h = tt
byte-records (r ∷ rs) [] h = absurd h
byte-records (r ∷ rs) (v ∷ vs) h = (byte-record r v h.0, byte-records rs vs h.1)

pub typed : (u : CaptionUnit) (vs : List Val) → shadow ((unit.the_row).own_val u vs) → (length u.records ≡ 31) × Each ByteRecord u.records
typed u vs h =
    let records = h.1.1.1.1.1.0 in
    (records.1.0.1, byte-records u.records records.0 records.1.1)
