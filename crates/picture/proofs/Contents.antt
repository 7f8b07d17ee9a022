-- What the laws of an area need of the content of each kind: the laws of crates `scte20` and `ga94`, over the kind.
-- Assumes nothing.
use Prim.Native.Nat.{ℕ, ◌*◌, ◌≤◌, ◌<◌}
use native.Mathlib.Omega.{arith}
use mathlib.Core.Path.{◌≡◌, refl}
use mathlib.Core.Bool.{true}
use mathlib.Core.List.{List, []}
use lib.ListN.{length, take, replicate}
use Rattle.lists.specs.Bytes.{Bytes}
use Rattle.lists.specs.Room.{filled}
use Rattle.lists.proofs.Fill.{length-filled}
use Rattle.refusal.specs.declared.Reason.{Reason}
use Rattle.refusal.specs.declared.Reason.TheVariants.{TooLong, NoRoom}
use Rattle.refusal.specs.declared.Item.{Item}
use Rattle.refusal.specs.declared.Item.TheVariants.{Whole}
use Rattle.refusal.specs.Verdict.{Accepted, Refused}
use Rattle.refusal.specs.Numbers.{refusal_of}
use Rattle.refusal.specs.Checks.{first}
use Rattle.refusal.specs.Answers.{refused, AtBit}
use Rattle.bits.specs.Bits.{bits_of}
use Rattle.bits.proofs.Quiet.{quiet}
use Rattle.kind.specs.declared.Kind.{Kind}
use Rattle.kind.specs.declared.Kind.TheVariants.{Scte20, Ga94}
use Rattle.kind.specs.Ours.{ours}
use Rattle.scte20.specs.Value as scte20
use Rattle.scte20.proofs.Sizes as scte20-sizes
use Rattle.scte20.proofs.Own.{legal-ours}
use Rattle.scte20.proofs.Contents as scte20-contents
use Rattle.scte20.proofs.Layouts as scte20-layouts
use Rattle.scte20.proofs.Placed as scte20-placed
use Rattle.scte20.proofs.Faults as scte20-faults
use Rattle.scte20.proofs.Quiet as scte20-quiet
use Rattle.scte20.proofs.Sequence as scte20-sequence
use Rattle.scte20.proofs.Writable as scte20-writable
use Rattle.scte20.proofs.Lending as scte20-lending
use Rattle.scte20.proofs.Theorems as scte20-theorems
use Rattle.ga94.specs.Value as ga94
use Rattle.ga94.proofs.Sizes as ga94-sizes
use Rattle.ga94.proofs.Contents as ga94-contents
use Rattle.ga94.proofs.Layouts as ga94-layouts
use Rattle.ga94.proofs.Placed as ga94-placed
use Rattle.ga94.proofs.Faults as ga94-faults
use Rattle.ga94.proofs.Quiet as ga94-quiet
use Rattle.ga94.proofs.Sequence as ga94-sequence
use Rattle.ga94.proofs.Writable as ga94-writable
use Rattle.ga94.proofs.Lending as ga94-lending
use Rattle.ga94.proofs.Theorems as ga94-theorems
use Rattle.picture.specs.Kinds.{Content, LegalContent, none, body_of, content_verdict, value_of, Stands, body_checks}
use Rattle.picture.specs.Kinds.{CaptionUnit, stored, held, LegalCaptionUnit, Typed, stuffing, whole_verdict, write_verdict, ForValue, value_checks}
use Rattle.picture.specs.Kinds.{Numbers, count, width, places, unit_in, numbers_of, bytes_of}

-- THE VALUE AND ITS BYTES

-- a legal caption unit's body is of its kind
pub caption-ours : (k : Kind) (c : Content k) → LegalContent k c → ours k (body_of k c) ≡ true
unfolding ours
caption-ours Scte20 c h = legal-ours c h
caption-ours Ga94 c h = refl

pub body_bytes : (k : Kind) (c : Content k) → LegalContent k c → Bytes (body_of k c)
body_bytes Scte20 c h = scte20-sizes.layout-bytes c
body_bytes Ga94 c h = ga94-sizes.layout-bytes c h

-- no 1 in it stands behind 23 zeros
pub body-quiet : (k : Kind) (c : Content k) → LegalContent k c → quiet 0 (bits_of (body_of k c)) ≡ true
body-quiet Scte20 c h = scte20-quiet.layout-quiet c h
body-quiet Ga94 c h = ga94-quiet.layout-quiet c h

pub value-legal : (k : Kind) (s : List ℕ) → Bytes s → content_verdict k s ≡ Accepted → LegalContent k (value_of k s)
value-legal Scte20 s b e = scte20-contents.value-legal s b e
value-legal Ga94 s b e = ga94-contents.value-legal s b e

pub value-body : (k : Kind) (s : List ℕ) → Bytes s → content_verdict k s ≡ Accepted → body_of k (value_of k s) ≡ s
value-body Scte20 s b e = scte20-contents.value-layout s b e
value-body Ga94 s b e = ga94-contents.value-layout s b e

pub body-accepted : (k : Kind) (c : Content k) → LegalContent k c → length (body_of k c) ≤ 16384 → content_verdict k (body_of k c) ≡ Accepted
body-accepted Scte20 c h short = scte20-layouts.layout-accepted c h short
body-accepted Ga94 c h short = ga94-layouts.layout-accepted c h short

pub body-value : (k : Kind) (c : Content k) → LegalContent k c → value_of k (body_of k c) ≡ c
body-value Scte20 c h = scte20-layouts.layout-value c h
body-value Ga94 c h = ga94-layouts.layout-value c h

pub only_one : (k : Kind) (c d : Content k) → LegalContent k c → LegalContent k d → body_of k c ≡ body_of k d → c ≡ d
only_one Scte20 c d h g e = scte20-theorems.only_one c d h g e
only_one Ga94 c d h g e = ga94-theorems.only_one c d h g e

-- a body within the limit is refused at a bit of it or at its end, and there stands what the number says
pub content-placed : (k : Kind) (s : List ℕ) → Bytes s → length s ≤ 16384 → (reason : Reason) (item : Item) → content_verdict k s ≡ Refused reason item
    → AtBit (8 * length s) (Stands k s) reason item
content-placed Scte20 s b short reason item e = scte20-placed.content-placed s short reason item e
content-placed Ga94 s b short reason item e = ga94-placed.content-placed s b short reason item e

-- and where such a thing stands it is refused
pub content-stands : (k : Kind) (s : List ℕ) → Bytes s → (number bit : ℕ) → Stands k s number bit → content_verdict k s ≡ Accepted → ⊥
content-stands Scte20 s b number bit stands e = scte20-faults.content-stands s b number bit stands e
content-stands Ga94 s b number bit stands e = ga94-faults.content-stands s b number bit stands e

pub body-order : (k : Kind) (s : List ℕ) → content_verdict k s ≡ first (body_checks k s)
body-order Scte20 s = scte20-sequence.reading-order s
body-order Ga94 s = ga94-sequence.reading-order s

-- WRITING

pub stored-held : (k : Kind) (c : Content k) → held k (stored k c) ≡ c
stored-held Scte20 c = scte20-theorems.stored-held c
stored-held Ga94 c = ga94-theorems.stored-held c

pub stored-legal : (k : Kind) (c : Content k) → LegalContent k c → LegalCaptionUnit k (stored k c)
stored-legal Scte20 c h = scte20-theorems.stored-legal c h
stored-legal Ga94 c h = ga94-theorems.stored-legal c h

pub legal-held : (k : Kind) (u : CaptionUnit k) → LegalCaptionUnit k u → LegalContent k (held k u)
legal-held Scte20 u h = h.value
legal-held Ga94 u h = h.value

pub value-order : (k : Kind) (u : CaptionUnit k) (size room : ℕ) → write_verdict k u size room ≡ first (value_checks k u size room)
value-order Scte20 u size room = scte20-sequence.writing-order u size room
value-order Ga94 u size room = ga94-sequence.writing-order u size room

pub accepted-write : (k : Kind) (u : CaptionUnit k) (size room : ℕ) → Typed k u → write_verdict k u size room ≡ Accepted
    → LegalCaptionUnit k u × (size ≤ 16384) × (size ≤ room)
accepted-write Scte20 u size room t e = scte20-writable.accepted-write u size room t e
accepted-write Ga94 u size room t e = ga94-writable.accepted-write u size room t e

pub write-accepted : (k : Kind) (u : CaptionUnit k) (size room : ℕ) → Typed k u → LegalCaptionUnit k u → length (body_of k (held k u)) ≤ size
    → size ≤ 16384 → size ≤ room → write_verdict k u size room ≡ Accepted
write-accepted Scte20 u size room t h part short fits = scte20-writable.write-accepted u size room t h part short fits
write-accepted Ga94 u size room t h part short fits = ga94-writable.write-accepted u size room t h part short fits

pub stuffing-within : (k : Kind) (u : CaptionUnit k) → length (body_of k (held k u)) ≤ 16384 → stuffing k u ≤ 16384
stuffing-within Scte20 u h = scte20-writable.z-within u h
stuffing-within Ga94 u h = ga94-writable.z-within u h

pub write-unplaced : (k : Kind) (u : CaptionUnit k) (size room : ℕ) → (refusal_of (write_verdict k u size room)).place ≡ 0
write-unplaced Scte20 u size room = scte20-writable.write-unplaced u size room
write-unplaced Ga94 u size room = ga94-writable.write-unplaced u size room

pub whole-15 : (k : Kind) (u : CaptionUnit k) (size room : ℕ) → (whole_verdict k u ≡ Accepted → ⊥) → refusal_of (write_verdict k u size room) ≡ refused 15 0
whole-15 Scte20 u size room h = scte20-writable.whole-15 u size room h
whole-15 Ga94 u size room h = ga94-writable.whole-15 u size room h

pub illegal-value : (k : Kind) (u : CaptionUnit k) (size room : ℕ) → Typed k u → (LegalCaptionUnit k u → ⊥) → ForValue k (refusal_of (write_verdict k u size room))
illegal-value Scte20 u size room t h = scte20-writable.value-refused u size room (λ e. h (scte20-writable.accepted-unit u t e))
illegal-value Ga94 u size room t h = ga94-writable.value-refused u size room (λ e. h (ga94-writable.accepted-unit u t e))

pub long-refused : (k : Kind) (u : CaptionUnit k) (size room : ℕ) → Typed k u → LegalCaptionUnit k u → stuffing k u ≤ 16384 → 16384 < size
    → write_verdict k u size room ≡ Refused TooLong Whole
long-refused Scte20 u size room t h z long = scte20-writable.long-refused u size room (scte20-writable.unit-accepted u t h z) long
long-refused Ga94 u size room t h z long = ga94-writable.long-refused u size room (ga94-writable.unit-accepted u t h z) long

pub no-room-refused : (k : Kind) (u : CaptionUnit k) (size room : ℕ) → Typed k u → LegalCaptionUnit k u → stuffing k u ≤ 16384 → size ≤ 16384 → room < size
    → write_verdict k u size room ≡ Refused NoRoom Whole
no-room-refused Scte20 u size room t h z short long = scte20-writable.no-room-refused u size room (scte20-writable.unit-accepted u t h z) short long
no-room-refused Ga94 u size room t h z short long = ga94-writable.no-room-refused u size room (ga94-writable.unit-accepted u t h z) short long

-- LENT RECORDS

-- how many records a value has beside it
abbrev pub room_of : (k : Kind) → CaptionUnit k → ℕ
room_of Scte20 u = length u.records
room_of Ga94 u = length u.records

pub stored-room : (k : Kind) (c : Content k) → LegalContent k c → room_of k (stored k c) ≡ 31
stored-room Scte20 c h = length-filled c.records 31 scte20.blank h.few
stored-room Ga94 c h = length-filled c.records 31 ga94.blank h.few

pub none-room : (k : Kind) → room_of k (stored k (none k)) ≡ 31
none-room Scte20 = refl
none-room Ga94 = refl

-- the array of no value is all zeros
pub cleared : (k : Kind) → bytes_of k (stored k (none k)) ≡ replicate (places k) 0
cleared Scte20 = scte20-lending.lent-filled [] (omega arith)
cleared Ga94 = ga94-lending.lent-filled [] (omega arith)

pub lent-unit : (k : Kind) (u : CaptionUnit k) → room_of k u ≡ 31 → unit_in k (numbers_of k u) (bytes_of k u) ≡ u
lent-unit Scte20 u e = scte20-lending.lent-unit u e
lent-unit Ga94 u e = ga94-lending.lent-unit u e

-- a lent array of a kind is short
pub places-few : (k : Kind) → places k ≤ 155
places-few Scte20 = omega arith
places-few Ga94 = omega arith

-- a lent array is a list of bytes, so that the value it tells is one of the code's
pub lent-typed : (k : Kind) (v : Numbers k) (s : List ℕ) → Bytes s → length s ≡ places k → Typed k (unit_in k v s)
lent-typed Scte20 v s bytes e = scte20-lending.lent-typed v s bytes e
lent-typed Ga94 v s bytes e = ga94-lending.lent-typed v s bytes e

pub legal-few : (k : Kind) (v : Numbers k) (s : List ℕ) → LegalCaptionUnit k (unit_in k v s) → count k v ≤ 31
legal-few Scte20 v s h = h.few
legal-few Ga94 v s h = h.few

pub lent-numbers : (k : Kind) (v : Numbers k) (s : List ℕ) → count k v ≤ 31 → numbers_of k (stored k (held k (unit_in k v s))) ≡ v
lent-numbers Scte20 v s few = scte20-lending.lent-numbers v s few
lent-numbers Ga94 v s few = ga94-lending.lent-numbers v s few

pub lent-front : (k : Kind) (v : Numbers k) (s : List ℕ) → count k v ≤ 31 → length s ≡ places k
    → bytes_of k (stored k (held k (unit_in k v s))) ≡ filled (take (width k * count k v) s) (places k) 0
lent-front Scte20 v s few e = scte20-lending.lent-front v s few e
lent-front Ga94 v s few e = ga94-lending.lent-front v s few e
