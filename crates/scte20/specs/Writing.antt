-- What writing a caption unit's body answers, and what the lent output then holds, for every value and output. RULES,
-- "Order of checks": the whole value, record after record, the length of the result, the room.
use Rattle.std.specs.Prelude.{ℕ, ◌+◌, ◌≡◌, not, ◌&&◌, ◌⊎◌, List, [], ◌∷◌, eqb, ltb, length}
use Rattle.refusal.specs.declared.Refusal.{Refusal}
use Rattle.refusal.specs.Verdict.{Verdict}
use Rattle.refusal.specs.Verdict.{Accepted}
use Rattle.refusal.specs.declared.Reason.TheVariants.{Unholdable}
use Rattle.refusal.specs.declared.Excess.TheVariants.{Count, Reserved, Flag, Stuffing, FlagWithRecords, GroupType, Priority, FieldNumber, LineOffset}
use Rattle.refusal.specs.declared.Item.TheVariants.{Whole, Bit}
use Rattle.refusal.specs.Checks.{refuse_if, and_then, first, fit_verdict}
use Rattle.refusal.specs.Answers.{refused, Judged, laid_of, body_left}
use Rattle.kind.specs.Ours.{group_type}
use Rattle.scte20.specs.declared.Record.{Record}
use Rattle.scte20.specs.declared.CaptionUnit.{CaptionUnit}
use Rattle.scte20.specs.Value.{flag_byte, field_of, held, Typed}
use Rattle.scte20.specs.Layout.{layout}
use Rattle.scte20.specs.Rules.{record_verdict}

-- 15: n above 31, reserved above 127, a flag that is no bit, z above 16,384, flag 0 with records, reserved and flag that
-- make 09 or 0A
unfoldable pub whole_verdict : CaptionUnit → Verdict
whole_verdict u =
    first
    (refuse_if (ltb 31 u.n) (Unholdable Count) Whole
    ∷ refuse_if (ltb 127 u.reserved) (Unholdable Reserved) Whole
    ∷ refuse_if (ltb 1 u.vbi_data_flag) (Unholdable Flag) Whole
    ∷ refuse_if (ltb 16384 u.z) (Unholdable Stuffing) Whole
    ∷ refuse_if (eqb u.vbi_data_flag 0 && not (eqb u.n 0)) (Unholdable FlagWithRecords) Whole
    ∷ refuse_if (group_type (flag_byte u.reserved u.vbi_data_flag)) (Unholdable GroupType) Whole
    ∷ [])

-- 15: a number that the construct, which would begin at bit `at`, cannot hold
unfoldable pub range_verdict : ℕ → Record → Verdict
range_verdict at r =
    first
    (refuse_if (ltb 3 r.cc_priority) (Unholdable Priority) (Bit at)
    ∷ refuse_if (ltb 3 (field_of r)) (Unholdable FieldNumber) (Bit (at + 2))
    ∷ refuse_if (ltb 31 r.line_offset) (Unholdable LineOffset) (Bit (at + 4))
    ∷ [])

-- each record in order 15, 7, 8, 9, behind these records, the latest first
abbrev pub records_verdict : List Record → ℕ → List Record → Verdict
records_verdict before at [] = Accepted
records_verdict before at (r ∷ rs) =
    first
    (range_verdict at r
    ∷ record_verdict at before r
    ∷ records_verdict (r ∷ before) (at + 26) rs
    ∷ [])

-- the value's own checks. Entries beyond n are not looked at
unfoldable pub value_verdict : CaptionUnit → Verdict
value_verdict u = and_then (whole_verdict u) (records_verdict [] 21 (held u).records)

-- what a value that is not legal is refused with: 15, 7, 8 or 9
abbrev pub ForValue : Refusal → Type 0
ForValue r = (r ≡ refused 15 0) ⊎ ((r ≡ refused 7 0) ⊎ ((r ≡ refused 8 0) ⊎ (r ≡ refused 9 0)))

-- then those of the result, which has `size` bytes
abbrev pub write_verdict : CaptionUnit → ℕ → ℕ → Verdict
write_verdict u size room = and_then (value_verdict u) (fit_verdict 16384 size room)

-- the same where the result is the body with so many bytes before and after it
abbrev pub body_verdict : CaptionUnit → ℕ → ℕ → ℕ → Verdict
body_verdict u before after room = write_verdict u (before + length (layout (held u)) + after) room

-- the promise of `write_from`, of the struct that it is told by numbers and a lent array (`unit_in`). By its type the
-- data bytes are bytes and there are 31 places; the code shows that too
pub record Writes (u : CaptionUnit) (before after : ℕ) (out : List ℕ) (answer : Judged ℕ) (exit : List ℕ) : Type 0 where
  pub typed : Typed u
  pub counted : answer ≡ laid_of (body_verdict u before after (length out)) (layout (held u))
  pub left : exit ≡ body_left (body_verdict u before after (length out)) before (layout (held u)) out
