-- When each call of the C interface succeeds, of the numbers and the bytes as they are passed.
-- Assumes nothing.
use Prim.Native.Nat.{ℕ, ◌<◌}
use native.Mathlib.Omega.{arith}
use mathlib.Core.Path.{◌≡◌, ap}
use mathlib.Core.Logic.{◌↔◌, ⊎_elim}
use mathlib.Core.List.{List}
use Rattle.refusal.specs.declared.Written.{Written}
use Rattle.kind.specs.declared.Kind.TheVariants.{Scte20}
use Rattle.scte20.specs.Lent.{unit_in}
use Rattle.picture.specs.Value.{Area}
use Rattle.picture.specs.Value as area
use Rattle.picture.specs.Writing.{Writes, Replaces}
use Rattle.picture.proofs.Theorems as picture
use Rattle.subtitling.specs.Writing as packets
use Rattle.subtitling.proofs.Theorems as subtitling
use Rattle.line21.specs.Lent.{payload_in}
use Rattle.line21.proofs.Theorems as payloads
use Rattle.pes.specs.Lent.{field_in}
use Rattle.pes.specs.Writing as fields
use Rattle.pes.proofs.Theorems as data-field
use Rattle.captions.specs.declared.UnitHead.{UnitHead}
use Rattle.captions.specs.Calls.{head_in, AreaReads, numbers_in, packet_in}
use Rattle.line21_writer.specs.Calls.{PayloadWrites}
use Rattle.captions.specs.Arguments.{plain, Fits, FitsIn, FitsPacket, FitsPayload, FitsField}
use Rattle.captions.proofs.Numbers.{plain-exactly, byte-or-wide}

-- THE PICTURE AREA

pub area-read-exactly : (s lent : List ℕ) (r : UnitHead) (exit : List ℕ) → AreaReads s lent r exit
    → r.refusal.number ≡ 0 ↔ ((v : Area Scte20) × area.Legal Scte20 v × (area.layout Scte20 v ≡ s))
area-read-exactly s lent r exit p = picture.into-exactly Scte20 s lent (head_in r) exit p

pub unit-write-exactly : (reserved flag n z : ℕ) (records out : List ℕ) (r : Written) (exit : List ℕ)
    → Writes Scte20 (unit_in (numbers_in reserved flag n z) records) out r exit
    → r.refusal.number ≡ 0 ↔ Fits Scte20 records out (plain reserved flag n z)
unit-write-exactly reserved flag n z records out r exit w =
    plain-exactly reserved flag n z records (Fits Scte20 records out) (λ v fits. fits.0)
    (picture.writes-exactly Scte20 (unit_in (numbers_in reserved flag n z) records) out r exit w)

pub area-replace-exactly : (s : List ℕ) (reserved flag n z : ℕ) (records out : List ℕ) (r : Written) (exit : List ℕ)
    → Replaces Scte20 s (unit_in (numbers_in reserved flag n z) records) out r exit
    → r.refusal.number ≡ 0 ↔ FitsIn Scte20 s records out (plain reserved flag n z)
area-replace-exactly s reserved flag n z records out r exit p =
    plain-exactly reserved flag n z records (FitsIn Scte20 s records out) (λ v fits. fits.3)
    (picture.replaces-exactly Scte20 s (unit_in (numbers_in reserved flag n z) records) out r exit p)

-- THE SUBTITLING PACKET

pub packet-write-exactly : (counter : ℕ) (slots : List ℕ) (rows : List (List ℕ)) (out : List ℕ) (r : Written) (exit : List ℕ)
    → packets.Writes (packet_in counter slots) rows out r exit
    → r.refusal.number ≡ 0 ↔ FitsPacket (packet_in counter slots) rows out
packet-write-exactly counter slots = subtitling.writes-exactly (packet_in counter slots)

-- THE LINE 21 PAYLOAD

-- a success had flags that a byte holds
pub flags_byte : (flags m : ℕ) (lent out : List ℕ) (r : Written) (exit : List ℕ) → PayloadWrites flags m lent out r exit
    → r.refusal.number ≡ 0 → flags < 256
flags_byte flags m lent out r exit w e =
    ⊎_elim (λ h. h)
    (λ h. let f : ⊥ = omega (arith, ap (λ (x : Written). x.refusal.number) (w.beyond h).counted) in absurd f)
    (byte-or-wide flags)

pub payload-write-exactly : (flags m : ℕ) (sent out : List ℕ) (r : Written) (exit : List ℕ)
    → PayloadWrites flags m sent out r exit → r.refusal.number ≡ 0 ↔ FitsPayload flags m sent out
payload-write-exactly flags m sent out r exit w = (
  λ e. (payloads.writes-exactly (payload_in flags m sent) out r exit (w.within (flags_byte flags m sent out r exit w e))).0 e,
  λ h. (payloads.writes-exactly (payload_in flags m sent) out r exit (w.within h.0.value.byte)).1 h,
)

-- THE PES DATA FIELD

pub pes-write-exactly : (identifier n : ℕ) (units out : List ℕ) (r : Written) (exit : List ℕ)
    → fields.Writes (field_in identifier n units) out r exit → r.refusal.number ≡ 0 ↔ FitsField identifier n units out
pes-write-exactly identifier n units = data-field.writes-exactly (field_in identifier n units)
