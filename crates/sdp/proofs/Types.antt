-- Every `Packet` and every five rows that the code holds are `Typed`: the logic says so of what a local of their types owns.
-- Assumes nothing.
use Prim.Native.Nat.{ℕ}
use mathlib.Core.Path.{◌≡◌}
use mathlib.Core.List.{List, [], ◌∷◌}
use mir.Syntax.{w8}
use mir.Val.{Val}
use denote.Shadow.{shadow}
use denote.Plain.{UInt}
use denote.Array.{Array, each}
use lib.ListN.{length}
use Rattle.lists.specs.Each.{Each}
use Rattle.lists.specs.Bytes.{Bytes}
use Rattle.sdp.specs.declared.Packet.{Packet}
use Rattle.sdp.specs.Value.{Row, Typed}
use Rattle.sdp.specs.contracts.Packet as packet

bytes : (row : List ℕ) (vs : List Val) → shadow (each ℕ (UInt w8).own_val row vs) → Bytes row
bytes [] vs h = tt
bytes (b ∷ row) [] h = absurd h
bytes (b ∷ row) (v ∷ vs) h = (h.0.1, bytes row vs h.1)

-- what a local of type `[u8; 42]` owns
abbrev pub OwnsRow : List ℕ → List Val → Type 0
OwnsRow row vs = shadow ((Array (UInt w8) 42).own_val row vs)

pub row : (r : List ℕ) (vs : List Val) → OwnsRow r vs → Row r
row r vs h = (h.1.0.1, bytes r h.0 h.1.1)

rows-each : (rs : List (List ℕ)) (vs : List Val) → shadow (each (List ℕ) (Array (UInt w8) 42).own_val rs vs) → Each Row rs
rows-each [] vs h = tt
rows-each (r ∷ rs) [] h = absurd h
rows-each (r ∷ rs) (v ∷ vs) h = (row r (v ∷ []) h.0, rows-each rs vs h.1)

-- and one of type `Packet`
abbrev pub OwnsPacket : Packet → List Val → Type 0
OwnsPacket p vs = shadow ((packet.the_field).row.own_val ((packet.the_field).into p) vs)

pub five : (p : Packet) (vs : List Val) → OwnsPacket p vs → length p.slots ≡ 5
five p vs h = h.1.1.1.0.1.0.1

pub typed : (p : Packet) (vs : List Val) → OwnsPacket p vs → (rs : List (List ℕ)) (us : List Val) → shadow ((Array (Array (UInt w8) 42) 5).own_val rs us) → Typed p rs
typed p vs h rs us g = record { slots = five p vs h; five = g.1.0.1; each = rows-each rs g.0 g.1.1 }
