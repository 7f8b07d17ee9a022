-- The content of each kind of caption unit: what its own crate, `scte20` or `ga94`, defines. All else of an area is said
-- once, over the kind.
use Rattle.std.specs.Prelude.{ℕ, List}
use Rattle.refusal.specs.declared.Refusal.{Refusal}
use Rattle.refusal.specs.Verdict.{Verdict}
use Rattle.bits.specs.Bits.{bits_of}
use Rattle.kind.specs.declared.Kind.{Kind}
use Rattle.kind.specs.declared.Kind.TheVariants.{Scte20, Ga94}
use Rattle.scte20.specs.declared.Numbers as scte20-numbers
use Rattle.scte20.specs.declared.CaptionUnit as scte20-unit
use Rattle.scte20.specs.Value as scte20
use Rattle.scte20.specs.Layout as scte20-layout
use Rattle.scte20.specs.Reading as scte20-reading
use Rattle.scte20.specs.Writing as scte20-writing
use Rattle.scte20.specs.Lent as scte20-lent
use Rattle.scte20.specs.Order as scte20-order
use Rattle.scte20.specs.Places as scte20-places
use Rattle.ga94.specs.declared.Numbers as ga94-numbers
use Rattle.ga94.specs.Value as ga94
use Rattle.ga94.specs.Layout as ga94-layout
use Rattle.ga94.specs.Reading as ga94-reading
use Rattle.ga94.specs.Writing as ga94-writing
use Rattle.ga94.specs.Lent as ga94-lent
use Rattle.ga94.specs.Order as ga94-order
use Rattle.ga94.specs.Places as ga94-places

-- THE VALUE

abbrev pub Content : Kind → Type 0
Content Scte20 = scte20.Content
Content Ga94 = ga94.Content

abbrev pub LegalContent : (k : Kind) → Content k → Type 0
LegalContent Scte20 c = scte20.Legal c
LegalContent Ga94 c = ga94.Legal c

-- no value
abbrev pub none : (k : Kind) → Content k
none Scte20 = scte20.none
none Ga94 = ga94.none

-- its bytes, stuffing and all: the body of a unit
abbrev pub body_of : (k : Kind) → Content k → List ℕ
body_of Scte20 c = scte20-layout.layout c
body_of Ga94 c = ga94-layout.layout c

-- READING

abbrev pub content_verdict : Kind → List ℕ → Verdict
content_verdict Scte20 s = scte20-reading.content_verdict s
content_verdict Ga94 s = ga94-reading.content_verdict s

abbrev pub value_of : (k : Kind) → List ℕ → Content k
value_of Scte20 s = scte20-reading.value_of s
value_of Ga94 s = ga94-reading.value_of s

-- what is wrong at a bit of a body, for each number that reading it gives
abbrev pub Stands : Kind → List ℕ → ℕ → ℕ → Type 0
Stands Scte20 s number bit = scte20-places.Stands (bits_of s) number bit
Stands Ga94 s number bit = ga94-places.Stands (bits_of s) number bit

-- all checks of a body, in the order of RULES
abbrev pub body_checks : Kind → List ℕ → List Verdict
body_checks Scte20 s = scte20-order.reading_checks s
body_checks Ga94 s = ga94-order.reading_checks s

-- WRITING

-- a value as it is told: the count of records, and beside it 31 of them
abbrev pub CaptionUnit : Kind → Type 0
CaptionUnit Scte20 = scte20-unit.CaptionUnit
CaptionUnit Ga94 = ga94.CaptionUnit

abbrev pub stored : (k : Kind) → Content k → CaptionUnit k
stored Scte20 c = scte20.stored c
stored Ga94 c = ga94.stored c

abbrev pub held : (k : Kind) → CaptionUnit k → Content k
held Scte20 u = scte20.held u
held Ga94 u = ga94.held u

abbrev pub LegalCaptionUnit : (k : Kind) → CaptionUnit k → Type 0
LegalCaptionUnit Scte20 u = scte20.LegalCaptionUnit u
LegalCaptionUnit Ga94 u = ga94.LegalCaptionUnit u

abbrev pub Typed : (k : Kind) → CaptionUnit k → Type 0
Typed Scte20 u = scte20.Typed u
Typed Ga94 u = ga94.Typed u

-- how many zero bytes of stuffing it asks for
abbrev pub stuffing : (k : Kind) → CaptionUnit k → ℕ
stuffing Scte20 u = u.z
stuffing Ga94 u = u.z

-- 15 of the whole value
abbrev pub whole_verdict : (k : Kind) → CaptionUnit k → Verdict
whole_verdict Scte20 u = scte20-writing.whole_verdict u
whole_verdict Ga94 u = ga94-writing.whole_verdict u

-- all checks of writing, where the result has `size` bytes and the output `room`
abbrev pub write_verdict : (k : Kind) → CaptionUnit k → ℕ → ℕ → Verdict
write_verdict Scte20 u size room = scte20-writing.write_verdict u size room
write_verdict Ga94 u size room = ga94-writing.write_verdict u size room

-- what a value that is not legal is refused with
abbrev pub ForValue : Kind → Refusal → Type 0
ForValue Scte20 r = scte20-writing.ForValue r
ForValue Ga94 r = ga94-writing.ForValue r

-- all checks of writing, in the order of RULES
abbrev pub value_checks : (k : Kind) → CaptionUnit k → ℕ → ℕ → List Verdict
value_checks Scte20 u size room = scte20-order.writing_checks u size room
value_checks Ga94 u size room = ga94-order.writing_checks u size room

-- LENT RECORDS

-- a value without its records
abbrev pub Numbers : Kind → Type 0
Numbers Scte20 = scte20-numbers.Numbers
Numbers Ga94 = ga94-numbers.Numbers

-- how many records
abbrev pub count : (k : Kind) → Numbers k → ℕ
count Scte20 v = v.n
count Ga94 v = v.n

-- how many bytes a lent record has, and a lent array
abbrev pub width : Kind → ℕ
width Scte20 = 5
width Ga94 = 4

abbrev pub places : Kind → ℕ
places Scte20 = 155
places Ga94 = 124

-- the value that numbers and a lent array tell
abbrev pub unit_in : (k : Kind) → Numbers k → List ℕ → CaptionUnit k
unit_in Scte20 v s = scte20-lent.unit_in v s
unit_in Ga94 v s = ga94-lent.unit_in v s

-- the numbers and the bytes that tell it
abbrev pub numbers_of : (k : Kind) → CaptionUnit k → Numbers k
numbers_of Scte20 u = scte20-lent.numbers_of u
numbers_of Ga94 u = ga94-lent.numbers_of u

abbrev pub bytes_of : (k : Kind) → CaptionUnit k → List ℕ
bytes_of Scte20 u = scte20-lent.records_bytes u.records
bytes_of Ga94 u = ga94-lent.records_bytes u.records
