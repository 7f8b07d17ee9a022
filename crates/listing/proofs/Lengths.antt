-- How long the texts are: each fits.
-- Assumes nothing.
use Prim.Native.Nat.{◌+◌, ◌*◌, ◌≤◌, ◌<◌}
use native.Mathlib.Omega.{arith}
use mathlib.Core.List.{List, [], ◌∷◌}
use lib.ListN.{length, length-append}
use Rattle.lists.specs.Each.{Each}
use Rattle.refusal.specs.declared.Refusal.{Refusal}
use Rattle.scte20.specs.declared.Record.{Record}
use Rattle.scte20.specs.Value.{field_of}
use Rattle.listing.specs.Texts.{head_text, record_text, records_text, refused_text}
use Rattle.listing.proofs.Digits.{decimal-byte, decimal-number}

-- a refusal's two numbers have at most 20 digits each
pub refused-fits : (r : Refusal) → length (refused_text r) ≤ 640
refused-fits r = simp length-append (omega (arith, decimal-number r.number, decimal-number r.place))

-- a record whose numbers are bytes
pub record ByteRecord (r : Record) : Type 0 where
  pub priority : r.cc_priority < 256
  pub field : field_of r < 256
  pub line : r.line_offset < 256

-- three numbers of at most three digits, two of two, and what stands between them
record-short : (r : Record) → ByteRecord r → length (record_text r) ≤ 18
record-short r h =
    simp length-append
    (omega (arith, decimal-byte r.cc_priority h.priority, decimal-byte (field_of r) h.field, decimal-byte r.line_offset h.line))

records-short : (rs : List Record) → Each ByteRecord rs → length (records_text rs) ≤ 18 * length rs
records-short [] h = omega arith
records-short (r ∷ rs) h = omega (arith, length-append (record_text r) (records_text rs), record-short r h.0, records-short rs h.1)

-- the head and all 31 lines
pub listed-fits : (rs : List Record) → Each ByteRecord rs → length rs ≤ 31 → length head_text + length (records_text rs) ≤ 640
listed-fits rs h few = omega (arith, records-short rs h)
