-- The rules over a record and those before it: 7, 8, 9. RULES, "Picture area" and "Order of checks".
use Rattle.std.specs.Prelude.{ℕ, ◌+◌, Bool, false, not, ◌&&◌, List, [], ◌∷◌, eqb, ltb}
use Rattle.refusal.specs.Verdict.{Verdict}
use Rattle.refusal.specs.declared.Reason.TheVariants.{FieldNumberZero, FieldFalls, LineDoesNotRise, FifthPriority}
use Rattle.refusal.specs.declared.Item.TheVariants.{Bit}
use Rattle.refusal.specs.Checks.{refuse_if, first}
use Rattle.scte20.specs.declared.Record.{Record}
use Rattle.scte20.specs.Value.{field_of, urgent}

-- the field is lower than that of the record just before. The records before stand with the latest first
abbrev pub falls : List Record → Record → Bool
falls [] r = false
falls (last ∷ earlier) r = ltb (field_of r) (field_of last)

-- the field is the same, and the line no higher
abbrev pub not_rising : List Record → Record → Bool
not_rising [] r = false
not_rising (last ∷ earlier) r = eqb (field_of last) (field_of r) && not (ltb last.line_offset r.line_offset)

-- 7, then 8 for the field and 8 for the line, then 9. The construct begins at bit `at`
unfoldable pub record_verdict : ℕ → List Record → Record → Verdict
record_verdict at before r =
    first
    (refuse_if (eqb (field_of r) 0) FieldNumberZero (Bit (at + 2))
    ∷ refuse_if (falls before r) FieldFalls (Bit (at + 2))
    ∷ refuse_if (not_rising before r) LineDoesNotRise (Bit (at + 4))
    ∷ refuse_if (eqb r.cc_priority 0 && ltb 3 (urgent (field_of r) before)) FifthPriority (Bit at)
    ∷ [])
