-- What was written reads back, and what was read writes back, over the calls of the C interface.
-- Assumes nothing.
use Prim.Native.Nat.{ℕ, ◌*◌, ◌≤◌, ◌<◌}
use native.Mathlib.Omega.{arith}
use mathlib.Core.Path.{◌≡◌, ◌∙◌, ap, sym, subst, refl}
use mathlib.Core.Bool.{true, false, true≢false}
use mathlib.Core.List.{List, [], ◌∷◌}
use lib.ListN.{length, take, length-map}
use Rattle.lists.specs.Flat.{flat}
use Rattle.lists.specs.Room.{filled, over}
use Rattle.refusal.specs.Verdict.{Accepted}
use Rattle.refusal.specs.declared.Written.{Written}
use Rattle.refusal.specs.Answers.{accepted, written}
use Rattle.kind.specs.declared.Kind.TheVariants.{Scte20}
use Rattle.scte20.specs.declared.Numbers.{Numbers}
use Rattle.scte20.specs.Value.{Content}
use Rattle.scte20.specs.Lent.{unit_in}
use Rattle.picture.specs.Lent.{Head}
use Rattle.picture.specs.Value.{Area, uncaptioned, captioned}
use Rattle.picture.specs.Value as area
use Rattle.picture.specs.Reading as areas
use Rattle.picture.specs.Writing.{unit_bytes, Writes, Replaces}
use Rattle.picture.proofs.Areas.{legal-read}
use Rattle.picture.specs.Lent as lent-area
use Rattle.picture.proofs.Theorems as picture
use Rattle.sdp.specs.declared.Packet.{Packet}
use Rattle.sdp.specs.Value.{SlotRow, numbers_of}
use Rattle.subtitling.specs.declared.Answer.{Answer}
use Rattle.subtitling.specs.Reading as packet
use Rattle.subtitling.specs.Writing as packets
use Rattle.subtitling.proofs.Theorems as subtitling
use Rattle.line21.specs.declared.Head as line21
use Rattle.line21.specs.Reading.{read_of, head_of, Reads}
use Rattle.line21.specs.Lent as units
use Rattle.line21.proofs.Theorems as payloads
use Rattle.captions.specs.declared.UnitHead.{UnitHead}
use Rattle.captions.specs.Calls.{head_in, AreaReads, numbers_in, packet_in}
use Rattle.line21_writer.specs.Calls.{PayloadWrites}
use Rattle.captions.specs.Arguments.{plain, passed, slot_bytes}
use Rattle.captions.proofs.Numbers.{apart, numbers-told, legal-same, packet-told, slots_same}
use Rattle.captions.proofs.Succeeding.{flags_byte}

-- THE PICTURE AREA

abbrev head_with : Numbers → Head Scte20
head_with v = record { refusal = accepted; present = true; numbers = v }

pub unit-written-read : (reserved flag n z : ℕ) (records out : List ℕ) (w : Written) (end : List ℕ)
    → Writes Scte20 (unit_in (numbers_in reserved flag n z) records) out w end
    → w.refusal.number ≡ 0 → length records ≡ 155 → (lent : List ℕ) (r : UnitHead) (exit : List ℕ)
    → AreaReads (take w.len end) lent r exit
    → (r ≡ apart (head_with (plain reserved flag n z))) × (exit ≡ filled (take (5 * n) records) 155 0)
unit-written-read reserved flag n z records out w end wrote e long lent r exit read =
    let v = numbers_in reserved flag n z in
    let same = legal-same reserved flag n z records ((picture.writes-exactly Scte20 (unit_in v records) out w end wrote).0 e).0 in
    let back = picture.written-read-into Scte20 (plain reserved flag n z) records out w end (subst (λ (x : Numbers). Writes Scte20 (unit_in x records) out w end) same wrote) e long lent (head_in r) exit read in
    (ap apart back.0, back.1)

pub area-replaced-read : (x : Area Scte20) → area.Legal Scte20 x
    → (reserved flag n z : ℕ) (records out : List ℕ) (w : Written) (end : List ℕ)
    → Replaces Scte20 (area.layout Scte20 x) (unit_in (numbers_in reserved flag n z) records) out w end → w.refusal.number ≡ 0
    → length records ≡ 155
    → (lent : List ℕ) (r : UnitHead) (exit : List ℕ) → AreaReads (take w.len end) lent r exit
    → (r ≡ apart (head_with (plain reserved flag n z))) × (exit ≡ filled (take (5 * n) records) 155 0)
area-replaced-read x h reserved flag n z records out w end p e long lent r exit read =
    let v = numbers_in reserved flag n z in
    let same = legal-same reserved flag n z records ((picture.replaces-exactly Scte20 (area.layout Scte20 x) (unit_in v records) out w end p).0 e).3 in
    let back = picture.replaced-read-into Scte20 x h (plain reserved flag n z) records out w end (subst (λ (y : Numbers). Replaces Scte20 (area.layout Scte20 x) (unit_in y records) out w end) same p) e long lent (head_in r) exit read in
    (ap apart back.0, back.1)

-- the numbers that an area's caption unit was read as are bytes, and are passed on as they are
module _ (before : List (List ℕ)) (c : Content) (after : List (List ℕ)) (h : area.Legal Scte20 (captioned before c after))
    (lent : List ℕ) (a : UnitHead) (kept : List ℕ) (read : AreaReads (area.layout Scte20 (captioned before c after)) lent a kept) where
  shown-head : head_in a ≡ lent-area.head_of Scte20 (areas.answer_of Scte20 Accepted (c ∷ []))
  shown-head = read.answer ∙ ap (lent-area.head_of Scte20) (legal-read Scte20 (captioned before c after) h)

  passed-told : passed a ≡ (head_in a).numbers
  passed-told =
      let reserved : a.reserved < 256 = omega (arith, ap (λ (x : Head Scte20). x.numbers.reserved) shown-head, h.units.1.reserved) in
      let flag : a.vbi_data_flag < 256 = omega (arith, ap (λ (x : Head Scte20). x.numbers.vbi_data_flag) shown-head, h.units.1.flag) in
      numbers-told a.reserved a.vbi_data_flag a.n a.z reserved flag

  pub area-read-written : (out : List ℕ) (r : Written) (exit : List ℕ) → Writes Scte20 (unit_in (passed a) kept) out r exit
      → length (unit_bytes Scte20 c) ≤ length out → (r ≡ written (length (unit_bytes Scte20 c))) × (exit ≡ over (unit_bytes Scte20 c) out)
  area-read-written out r exit w =
      picture.read-into-written Scte20 before c after h lent (head_in a) kept read out r exit
      (subst (λ (x : Numbers). Writes Scte20 (unit_in x kept) out r exit) passed-told w)

-- an area without one answers "none"
none-absent : (us : List (List ℕ)) → area.Legal Scte20 (uncaptioned us)
    → (lent : List ℕ) (a : UnitHead) (kept : List ℕ) → AreaReads (area.layout Scte20 (uncaptioned us)) lent a kept → a.present ≡ false
none-absent us h lent a kept read =
    let s = area.layout Scte20 (uncaptioned us) in
    let reads : areas.Reads Scte20 s (areas.read_of Scte20 s) = record { bytes = read.bytes; answer = refl } in
    ap (λ (x : Head Scte20). x.present) (picture.read-into-as-read Scte20 s lent (head_in a) kept read (areas.read_of Scte20 s) reads).0
    ∙ ap (λ (x : areas.Answer Scte20). x.present) (picture.the-answer Scte20 (uncaptioned us) h (areas.read_of Scte20 s) reads)

pub area-put-back : (x : Area Scte20) → area.Legal Scte20 x
    → (lent : List ℕ) (a : UnitHead) (kept : List ℕ) → AreaReads (area.layout Scte20 x) lent a kept → a.present ≡ true
    → (reserved flag n z : ℕ) (records out : List ℕ) (r : Written) (exit : List ℕ)
    → Replaces Scte20 (area.layout Scte20 x) (unit_in (numbers_in reserved flag n z) records) out r exit → r.refusal.number ≡ 0
    → (room : List ℕ) (again : Written) (end : List ℕ) → Replaces Scte20 (take r.len exit) (unit_in (passed a) kept) room again end
    → length (area.layout Scte20 x) ≤ length room
    → (again ≡ written (length (area.layout Scte20 x))) × (end ≡ over (area.layout Scte20 x) room)
area-put-back (captioned before c after) h lent a kept read there reserved flag n z records out r exit p e room again end q =
    picture.put-back-into Scte20 (captioned before c after) h lent (head_in a) kept read there (unit_in (numbers_in reserved flag n z) records)
    out r exit p e room again end
    (subst (λ (x : Numbers). Replaces Scte20 (take r.len exit) (unit_in x kept) room again end) (passed-told before c after h lent a kept read) q)
area-put-back (uncaptioned us) h lent a kept read there reserved flag n z records out r exit p e room again end q =
    absurd (true≢false (sym there ∙ none-absent us h lent a kept read))

-- THE SUBTITLING PACKET

pub packet-written-read : (counter : ℕ) (slots : List ℕ) (rows : List (List ℕ)) (out : List ℕ) (w : Written) (end : List ℕ)
    → packets.Writes (packet_in counter slots) rows out w end → w.refusal.number ≡ 0 → length slots ≡ 20
    → (lent : List (List ℕ)) (r : Answer) (exit : List (List ℕ)) → packet.ReadsInto (take w.len end) lent r exit
    → (r.refusal ≡ accepted) × (r.packet.counter ≡ counter) × (flat slot_bytes r.packet.slots ≡ slots)
    × (exit ≡ rows)
packet-written-read counter slots rows out w end wrote e long lent r exit read =
    let back = subtitling.written-read-into (packet_in counter slots) rows out w end wrote e lent r exit read in (
      ap (λ (x : Answer). x.refusal) back.0,
      ap (λ (x : Answer). x.packet.counter) back.0,
      ap (λ (x : Answer). flat slot_bytes x.packet.slots) back.0 ∙ slots_same counter slots long,
      back.1,
    )

pub packet-read-written : (s : List ℕ) (lent : List (List ℕ)) (a : Answer) (kept : List (List ℕ))
    → packet.ReadsInto s lent a kept → a.refusal.number ≡ 0
    → (out : List ℕ) (r : Written) (exit : List ℕ)
    → packets.Writes (packet_in a.packet.counter (flat slot_bytes a.packet.slots)) kept out r exit
    → length s ≤ length out → (r ≡ written (length s)) × (exit ≡ over s out)
packet-read-written s lent a kept read e out r exit w =
    let v = (subtitling.into-exactly s lent a kept read).0 e in
    let told : a ≡ record { refusal = accepted; packet = numbers_of v.0 } =
    subtitling.the-answer v.0 v.1 a (subst (λ (t : List ℕ). packet.Reads t a) (sym v.2) read.answer) in
    let five : length a.packet.slots ≡ 5 =
    ap (λ (x : Answer). length x.packet.slots) told ∙ length-map v.0.slots (λ (x : SlotRow). x.slot) ∙ v.1.five in
    subtitling.read-into-written s lent a kept read e out r exit (subst (λ (p : Packet). packets.Writes p kept out r exit) (packet-told a.packet five) w)

-- THE LINE 21 PAYLOAD

pub payload-written-read : (flags m : ℕ) (sent out : List ℕ) (w : Written) (end : List ℕ)
    → PayloadWrites flags m sent out w end → w.refusal.number ≡ 0
    → length sent ≡ 2037 → (lent : List ℕ) (r : line21.Head) (exit : List ℕ)
    → units.ReadsInto (take w.len end) lent r exit
    → (r ≡ record { refusal = accepted; flags = flags; m = m }) × (exit ≡ filled (take (7 * m) sent) 2037 0)
payload-written-read flags m sent out w end wrote e =
    payloads.written-read-into flags m sent out w end (wrote.within (flags_byte flags m sent out w end wrote e)) e

pub payload-read-written : (s lent : List ℕ) (a : line21.Head) (kept : List ℕ) → units.ReadsInto s lent a kept
    → a.refusal.number ≡ 0
    → (out : List ℕ) (r : Written) (exit : List ℕ) → PayloadWrites a.flags a.m kept out r exit
    → length s ≤ length out
    → (r ≡ written (length s)) × (exit ≡ over s out)
payload-read-written s lent a kept read e out r exit w =
    let v = (payloads.into-exactly s lent a kept read).0 e in
    let told = payloads.the-answer v.0 v.1 (read_of s) (subst (λ (t : List ℕ). Reads t (read_of s)) (sym v.2) (record { bytes = read.bytes; answer = refl })) in
    let byte : a.flags < 256 = omega (arith, ap (λ (h : line21.Head). h.flags) (read.answer ∙ ap head_of told), v.1.byte) in
    payloads.read-into-written s lent a kept read e out r exit (w.within byte)
