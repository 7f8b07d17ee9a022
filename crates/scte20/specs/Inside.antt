-- What functions promise each other on the way to an answer: what reading and writing keep of the records before. A
-- signer may pass it over: it decides as `record_verdict` does.
use Rattle.std.specs.Prelude.{ℕ, ◌+◌, ◌/◌, ◌%◌, ◌^◌, ◌≤◌, min, ◌≡◌, Bool, true, false, not, ◌&&◌, List, [], ◌∷◌, eqb, ltb}
use Rattle.lists.specs.Room.{over}
use Rattle.refusal.specs.Verdict.{Verdict}
use Rattle.refusal.specs.Verdict.{Accepted}
use Rattle.refusal.specs.declared.Reason.TheVariants.{FieldNumberZero, FieldFalls, LineDoesNotRise, FifthPriority}
use Rattle.refusal.specs.declared.Item.TheVariants.{Bit}
use Rattle.refusal.specs.Checks.{refuse_if, first}
use Rattle.bits.specs.Bits.{bits_of, reversed}
use Rattle.scte20.specs.declared.Record.{Record}
use Rattle.scte20.specs.declared.Last.{Last}
use Rattle.scte20.specs.Value.{field_of, count_if, urgent}
use Rattle.scte20.specs.Reading.{constructs_verdict, records_at}
use Rattle.scte20.specs.Lent.{records_bytes}

-- of the records before, the latest first: the latest's field and line, and how many of that field have priority 0, no
-- more than four of them counted
abbrev pub last_of : List Record → Last
last_of [] = record { field_number = record { 0 = 0 }; line_offset = 0; urgent = 0 }
last_of (r ∷ before) =
    record {
      field_number = r.field_number;
      line_offset = r.line_offset;
      urgent = min (urgent (field_of r) (r ∷ before)) 4;
    }

-- fields never rise from the latest record back
abbrev pub FieldsDescend : List Record → Type 0
FieldsDescend [] = Unit {0}
FieldsDescend (r ∷ []) = Unit {0}
FieldsDescend (r ∷ s ∷ rs) = (field_of s ≤ field_of r) × FieldsDescend (s ∷ rs)

-- `record_verdict` by that
unfoldable pub last_verdict : ℕ → Last → Record → Verdict
last_verdict at last r =
    first
    (refuse_if (eqb (field_of r) 0) FieldNumberZero (Bit (at + 2))
    ∷ refuse_if (ltb (field_of r) last.field_number.0) FieldFalls (Bit (at + 2))
    ∷ refuse_if (eqb last.field_number.0 (field_of r) && not (ltb last.line_offset r.line_offset))
    LineDoesNotRise (Bit (at + 4))
    ∷ refuse_if (eqb r.cc_priority 0 && (eqb last.field_number.0 (field_of r) && ltb 3 last.urgent))
    FifthPriority (Bit at)
    ∷ [])

-- how many of the latest's field count on for the next record: all, where its field is the same
abbrev pub kept : Bool → ℕ → ℕ
kept true k = k
kept false k = 0

-- after one record more: the count of priority 0 starts again at each field
unfoldable pub last_after : Last → Record → Last
last_after last r =
    record {
      field_number = r.field_number;
      line_offset = r.line_offset;
      urgent =
          min (count_if (eqb r.cc_priority 0) + kept (eqb last.field_number.0 (field_of r)) last.urgent) 4;
    }

-- a construct as one number of 26 bits, as it is taken from the stream
unfoldable pub construct_of : ℕ → Record
construct_of c =
    record {
      cc_priority = c / 2 ^ 24;
      field_number = record { 0 = c / 2 ^ 22 % 4 };
      line_offset = c / 2 ^ 17 % 32;
      cc_data_1 = reversed (c / 2 ^ 9 % 256);
      cc_data_2 = reversed (c / 2 % 256);
    }

-- what reading n constructs answers, and what it leaves at the front of the array where it accepts
pub record Runs (body : List ℕ) (n : ℕ) (lent : List ℕ) (r : Verdict) (exit : List ℕ) : Type 0 where
  pub verdict : r ≡ constructs_verdict [] n 21 (bits_of body)
  pub left : r ≡ Accepted → exit ≡ over (records_bytes (records_at n 21 (bits_of body))) lent
