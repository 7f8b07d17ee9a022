-- RULES, "Order of checks", for a film picture: all checks of the call, each of the input alone, in the order of RULES;
-- and when a picture is accepted.
use Rattle.std.specs.Prelude.{ℕ, ◌+◌, ◌≤◌, ◌≡◌, ◌⊎◌, Bool, not, ◌&&◌, List, [], ◌∷◌, ◌++◌, eqb, ltb, length}
use Rattle.lists.specs.Each.{Each}
use Rattle.refusal.specs.Verdict.{Verdict}
use Rattle.refusal.specs.declared.Reason.TheVariants.{Unholdable, NotShown, OtherLine}
use Rattle.refusal.specs.declared.Excess.TheVariants.{SetLine}
use Rattle.refusal.specs.declared.Item.TheVariants.{Whole, Bit}
use Rattle.refusal.specs.declared.Refusal.{Refusal}
use Rattle.refusal.specs.Checks.{refuse_if}
use Rattle.refusal.specs.Answers.{refused}
use Rattle.scte20.specs.declared.Record.{Record}
use Rattle.scte20.specs.declared.CaptionUnit.{CaptionUnit}
use Rattle.scte20.specs.Value.{field_of, held, LegalCaptionUnit}
use Rattle.scte20.specs.Writing.{ForValue}
use Rattle.scte20.specs.Order.{own_checks}
use Rattle.film.specs.declared.Shown.{Shown}
use Rattle.film.specs.Display.{fields_shown}

-- 21 of each record, in order. The first construct begins at bit `at`
abbrev pub repeat_checks : Bool → ℕ → List Record → List Verdict
repeat_checks repeat at [] = []
repeat_checks repeat at (r ∷ rs) =
    refuse_if (eqb (field_of r) 3 && not repeat) NotShown (Bit (at + 2)) ∷ repeat_checks repeat (at + 26) rs

-- 22 of each record, in order
abbrev pub line_checks : ℕ → ℕ → List Record → List Verdict
line_checks line at [] = []
line_checks line at (r ∷ rs) =
    refuse_if (not (eqb r.line_offset line)) OtherLine (Bit (at + 4)) ∷ line_checks line (at + 26) rs

abbrev pub picture_checks : Shown → CaptionUnit → List Verdict
picture_checks how u =
    -- 15: a set line above 31
    refuse_if (ltb 31 how.line_offset) (Unholdable SetLine) Whole
    -- 15 of the whole value; 15, 7, 8, 8, 9 of each record: the unit's own, as in writing it
    ∷ (own_checks u
    -- 21: a record of field 3, where the first field is not repeated
    ++ (repeat_checks how.repeat_first_field 21 (held u).records
    -- 22: a record on another line
    ++ line_checks how.line_offset 21 (held u).records))

-- what a picture that is not carried is refused with: 15, 7, 8, 9, 21 or 22
abbrev pub ForPicture : Refusal → Type 0
ForPicture r = ForValue r ⊎ ((r ≡ refused 21 0) ⊎ (r ≡ refused 22 0))

-- a picture that is carried: a line that can be, a value that can be written, and each record of a field that is shown
-- and on that line
pub record Carried (how : Shown) (u : CaptionUnit) : Type 0 where
  pub line : how.line_offset ≤ 31
  pub value : LegalCaptionUnit u
  pub stuffing : u.z ≤ 16384
  pub shown : Each (λ (r : Record). field_of r ≤ length (fields_shown how.repeat_first_field)) (held u).records
  pub on_line : Each (λ (r : Record). r.line_offset ≡ how.line_offset) (held u).records
