-- What writing a GA94 unit's body answers, and what the lent output then holds, for every value and output. RULES,
-- "Order of checks": the whole value, the third flag, record after record, the length of the result, the room.
use Rattle.std.specs.Prelude.{ℕ, ◌+◌, ◌≡◌, not, ◌⊎◌, List, [], ◌∷◌, eqb, ltb, length}
use Rattle.refusal.specs.declared.Refusal.{Refusal}
use Rattle.refusal.specs.Verdict.{Verdict}
use Rattle.refusal.specs.Verdict.{Accepted}
use Rattle.refusal.specs.declared.Reason.TheVariants.{Unholdable, AdditionalData}
use Rattle.refusal.specs.declared.Excess.TheVariants.{Count, Flag, EmData, Stuffing, CcValid, CcType}
use Rattle.refusal.specs.declared.Item.TheVariants.{Whole, Bit}
use Rattle.refusal.specs.Checks.{refuse_if, and_then, first, fit_verdict}
use Rattle.refusal.specs.Answers.{refused, Judged, laid_of, body_left}
use Rattle.ga94.specs.declared.Record.{Record}
use Rattle.ga94.specs.Value.{CaptionUnit, held, Typed}
use Rattle.ga94.specs.Layout.{layout}

-- 15: n above 31, a flag that is no bit, em_data above 255, z above 16,384
unfoldable pub whole_verdict : CaptionUnit → Verdict
whole_verdict u =
    first
    (refuse_if (ltb 31 u.n) (Unholdable Count) Whole
    ∷ refuse_if (ltb 1 u.process_em_data_flag) (Unholdable Flag) Whole
    ∷ refuse_if (ltb 1 u.process_cc_data_flag) (Unholdable Flag) Whole
    ∷ refuse_if (ltb 1 u.additional_data_flag) (Unholdable Flag) Whole
    ∷ refuse_if (ltb 255 u.em_data) (Unholdable EmData) Whole
    ∷ refuse_if (ltb 16384 u.z) (Unholdable Stuffing) Whole
    ∷ [])

-- 16: the third flag is set
unfoldable pub flag_verdict : CaptionUnit → Verdict
flag_verdict u = refuse_if (not (eqb u.additional_data_flag 0)) AdditionalData Whole

-- 15: a number that the construct, which would begin at bit `at`, cannot hold
unfoldable pub range_verdict : ℕ → Record → Verdict
range_verdict at r =
    first
    (refuse_if (ltb 1 r.cc_valid) (Unholdable CcValid) (Bit (at + 5))
    ∷ refuse_if (ltb 3 r.cc_type) (Unholdable CcType) (Bit (at + 6))
    ∷ [])

-- each record in order
abbrev pub records_verdict : ℕ → List Record → Verdict
records_verdict at [] = Accepted
records_verdict at (r ∷ rs) = and_then (range_verdict at r) (records_verdict (at + 24) rs)

-- the value's own checks. Entries beyond n are not looked at
unfoldable pub value_verdict : CaptionUnit → Verdict
value_verdict u = first (whole_verdict u ∷ flag_verdict u ∷ records_verdict 56 (held u).records ∷ [])

-- what a value that is not legal is refused with: 15 or 16
abbrev pub ForValue : Refusal → Type 0
ForValue r = (r ≡ refused 15 0) ⊎ (r ≡ refused 16 0)

-- then those of the result, which has `size` bytes
abbrev pub write_verdict : CaptionUnit → ℕ → ℕ → Verdict
write_verdict u size room = and_then (value_verdict u) (fit_verdict 16384 size room)

-- the same where the result is the body with so many bytes before and after it
abbrev pub body_verdict : CaptionUnit → ℕ → ℕ → ℕ → Verdict
body_verdict u before after room = write_verdict u (before + length (layout (held u)) + after) room

-- the promise of `write_from`, of the value that it is told by numbers and a lent array (`unit_in`). By its type the
-- data bytes are bytes and there are 31 places; the code shows that too
pub record Writes (u : CaptionUnit) (before after : ℕ) (out : List ℕ) (answer : Judged ℕ) (exit : List ℕ) : Type 0 where
  pub typed : Typed u
  pub counted : answer ≡ laid_of (body_verdict u before after (length out)) (layout (held u))
  pub left : exit ≡ body_left (body_verdict u before after (length out)) before (layout (held u)) out
