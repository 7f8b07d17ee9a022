-- Each call's promise fixes its answer and what lent memory holds.
-- Assumes nothing.
use Prim.Native.Nat.{ℕ, ◌<◌}
use mathlib.Core.Path.{◌≡◌, ap}
use mathlib.Core.Logic.{⊎_elim}
use mathlib.Core.List.{List}
use Rattle.refusal.specs.declared.Written.{Written}
use Rattle.refusal.proofs.Outputs.{wrote-determined}
use Rattle.kind.specs.declared.Kind.TheVariants.{Scte20}
use Rattle.scte20.specs.declared.Numbers.{Numbers}
use Rattle.scte20.specs.Lent.{unit_in}
use Rattle.picture.specs.Writing.{Writes, Replaces}
use Rattle.picture.proofs.Theorems as picture
use Rattle.subtitling.specs.Writing as packets
use Rattle.subtitling.proofs.Theorems as subtitling
use Rattle.line21.specs.Lent.{payload_in}
use Rattle.line21.proofs.Theorems as payloads
use Rattle.film_lent.specs.declared.Head as film-lent
use Rattle.film_lent.specs.Lent.{PictureInto, CloseInto}
use Rattle.film_lent.proofs.Theorems as films
use Rattle.pes.specs.Lent.{field_in}
use Rattle.pes.specs.Writing as fields
use Rattle.pes.proofs.Theorems as data-field
use Rattle.pes_convert.specs.Converting.{ConvertsValue}
use Rattle.pes_convert.proofs.Theorems as converting
use Rattle.captions.specs.declared.UnitHead.{UnitHead}
use Rattle.captions.specs.Calls.{head_in, AreaReads, packet_in}
use Rattle.line21_writer.specs.Calls.{PayloadWrites}
use Rattle.captions.proofs.Numbers.{apart, byte-or-wide}

pub area-read-determined : (s lent : List ℕ) (a : UnitHead) (exit : List ℕ) (b : UnitHead) (end : List ℕ)
    → AreaReads s lent a exit → AreaReads s lent b end → (a ≡ b) × (exit ≡ end)
area-read-determined s lent a exit b end p q =
    let same = picture.read-into-determined Scte20 s lent (head_in a) exit (head_in b) end p q in
    (ap apart same.0, same.1)

pub unit-write-determined : (v : Numbers) (lent out : List ℕ) (a : Written) (exit : List ℕ) (b : Written) (end : List ℕ)
    → Writes Scte20 (unit_in v lent) out a exit → Writes Scte20 (unit_in v lent) out b end → (a ≡ b) × (exit ≡ end)
unit-write-determined v lent = picture.write-determined Scte20 (unit_in v lent)

pub area-replace-determined : (s : List ℕ) (v : Numbers) (lent out : List ℕ) (a : Written) (exit : List ℕ) (b : Written) (end : List ℕ)
    → Replaces Scte20 s (unit_in v lent) out a exit → Replaces Scte20 s (unit_in v lent) out b end → (a ≡ b) × (exit ≡ end)
area-replace-determined s v lent = picture.replace-determined Scte20 s (unit_in v lent)

pub packet-write-determined : (counter : ℕ) (lent : List ℕ) (rows : List (List ℕ)) (out : List ℕ) (a : Written) (exit : List ℕ) (b : Written) (end : List ℕ)
    → packets.Writes (packet_in counter lent) rows out a exit → packets.Writes (packet_in counter lent) rows out b end
    → (a ≡ b) × (exit ≡ end)
packet-write-determined counter lent = subtitling.write-determined (packet_in counter lent)

pub payload-write-determined : (flags m : ℕ) (lent out : List ℕ) (a : Written) (exit : List ℕ) (b : Written) (end : List ℕ)
    → PayloadWrites flags m lent out a exit → PayloadWrites flags m lent out b end → (a ≡ b) × (exit ≡ end)
payload-write-determined flags m lent out a exit b end p q = ⊎_elim small large (byte-or-wide flags)
  where
    small : flags < 256 → (a ≡ b) × (exit ≡ end)
    small h = payloads.write-determined (payload_in flags m lent) out a exit b end (p.within h) (q.within h)

    large : 255 < flags → (a ≡ b) × (exit ≡ end)
    large h = wrote-determined _ _ _ _ _ (p.beyond h) b end (q.beyond h)

pub film-picture-determined : (film : List ℕ) (top repeat line : ℕ) (v : Numbers) (records lent : List ℕ) (a : film-lent.Head) (exit end : List ℕ) (b : film-lent.Head) (out fin : List ℕ)
    → PictureInto film top repeat line (unit_in v records) lent a exit end → PictureInto film top repeat line (unit_in v records) lent b out fin
    → (a ≡ b) × (exit ≡ out) × (end ≡ fin)
film-picture-determined film top repeat line v records = films.picture-into-determined film top repeat line (unit_in v records)

pub film-close-determined : (film lent : List ℕ) (a : film-lent.Head) (exit end : List ℕ) (b : film-lent.Head) (out fin : List ℕ)
    → CloseInto film lent a exit end → CloseInto film lent b out fin → (a ≡ b) × (exit ≡ out) × (end ≡ fin)
film-close-determined = films.close-into-determined

pub pes-write-determined : (identifier n : ℕ) (units out : List ℕ) (a : Written) (exit : List ℕ) (b : Written) (end : List ℕ)
    → fields.Writes (field_in identifier n units) out a exit → fields.Writes (field_in identifier n units) out b end → (a ≡ b) × (exit ≡ end)
pes-write-determined identifier n units = data-field.write-determined (field_in identifier n units)

pub pes-convert-value-determined : (counter : ℕ) (slots : List ℕ) (rows : List (List ℕ)) (out : List ℕ) (a : Written) (exit : List ℕ) (b : Written) (end : List ℕ)
    → ConvertsValue (packet_in counter slots) rows out a exit → ConvertsValue (packet_in counter slots) rows out b end → (a ≡ b) × (exit ≡ end)
pes-convert-value-determined counter slots = converting.convert-value-determined (packet_in counter slots)
