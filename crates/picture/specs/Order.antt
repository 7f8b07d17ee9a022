-- RULES, "Order of checks", for the picture area: all checks of reading, of writing a unit and of replacing one, each
-- of the input alone, in the order of RULES. The checks of a caption unit's body, and those of a value, are listed in
-- crates `scte20` and `ga94`.
use Rattle.std.specs.Prelude.{ℕ, ◌+◌, not, ◌&&◌, List, [], ◌∷◌, ◌++◌, map, ltb, length, drop}
use Rattle.refusal.specs.Verdict.{Verdict}
use Rattle.refusal.specs.declared.Reason.TheVariants.{TooLong, NoStart, StartCode, SecondUnit}
use Rattle.refusal.specs.declared.Item.TheVariants.{Whole}
use Rattle.refusal.specs.Checks.{refuse_if}
use Rattle.refusal.specs.Order.{each_of}
use Rattle.kind.specs.declared.Kind.{Kind}
use Rattle.kind.specs.Ours.{ours}
use Rattle.units.specs.Split.{cut_of, opened, all_opened, empty, put_if}
use Rattle.picture.specs.Kinds.{CaptionUnit, held, body_checks, value_checks}
use Rattle.picture.specs.Reading.{placed}
use Rattle.picture.specs.Writing.{unit_bytes, replaced_of}

-- a caption unit: its first byte in the area, and its body
pub record Caption : Type 0 where
  pub unit : ℕ
  pub body : List ℕ

-- the caption units among pieces, the first of which begins at `at`: a piece is four start bytes and a body
abbrev pub captions_of : Kind → ℕ → List (List ℕ) → List Caption
captions_of k at [] = []
captions_of k at (piece ∷ pieces) =
    put_if (ours k (drop 4 piece)) (record { unit = at; body = drop 4 piece })
    (captions_of k (at + length piece) pieces)

-- the checks of a body, told in its area
abbrev pub caption_checks : Kind → Caption → List Verdict
caption_checks k c = map (placed c.unit) (body_checks k c.body)

abbrev pub reading_checks : Kind → List ℕ → List Verdict
reading_checks k s =
    -- 1: longer than 16,384 bytes
    refuse_if (ltb 16384 (length s)) TooLong Whole
    -- 2: not empty, and does not begin 00 00 01 B2
    ∷ refuse_if (not (empty s) && not (opened s)) NoStart Whole
    -- 3: a 00 00 01 that is not followed by B2
    ∷ refuse_if (not (all_opened (cut_of s).pieces)) StartCode Whole
    -- 4: more than one caption unit
    ∷ refuse_if (ltb 1 (length (captions_of k 0 (cut_of s).pieces))) SecondUnit Whole
    -- 5 on: the caption content, from left to right
    ∷ each_of (caption_checks k) (captions_of k 0 (cut_of s).pieces)

-- a unit that is written: the checks of the value, then 1 and 14
abbrev pub writing_checks : (k : Kind) → CaptionUnit k → ℕ → List Verdict
writing_checks k u room = value_checks k u (length (unit_bytes k (held k u))) room

-- all checks of reading the area, then those of writing, with 1 and 14 on the whole new area
abbrev pub replacing_checks : (k : Kind) → List ℕ → CaptionUnit k → ℕ → List Verdict
replacing_checks k s u room = reading_checks k s ++ value_checks k u (length (replaced_of k s (held k u))) room
