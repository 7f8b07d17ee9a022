-- What writing a caption unit of one kind and replacing one in an area answer, and what the lent output then holds, for
-- every value, area and output. RULES, "Picture area", "GA94" and "Order of checks".
use Rattle.std.specs.Prelude.{ℕ, List, ◌++◌, length}
use Rattle.lists.specs.Bytes.{Bytes}
use Rattle.refusal.specs.Verdict.{Verdict}
use Rattle.refusal.specs.declared.Written.{Written}
use Rattle.refusal.specs.Checks.{and_then}
use Rattle.refusal.specs.Answers.{Wrote}
use Rattle.kind.specs.declared.Kind.{Kind}
use Rattle.units.specs.declared.Found.{Found}
use Rattle.units.specs.declared.Found.TheVariants.{NotUnits, Nowhere, At, Many}
use Rattle.units.specs.Layout.{layout_unit}
use Rattle.around.specs.Around.{exchanged}
use Rattle.picture.specs.Kinds.{Content, body_of, CaptionUnit, held, Typed, write_verdict}
use Rattle.picture.specs.Reading.{captions_in, area_verdict}

-- a unit: its four start bytes, its content, and z zero bytes
abbrev pub unit_bytes : (k : Kind) → Content k → List ℕ
unit_bytes k c = layout_unit (body_of k c)

-- the promise of writing. By their types the data bytes are bytes and there are 31 places; the code shows that too
pub record Writes (k : Kind) (u : CaptionUnit k) (out : List ℕ) (answer : Written) (exit : List ℕ) : Type 0 where
  pub typed : Typed k u
  pub wrote :
      Wrote (write_verdict k u (length (unit_bytes k (held k u))) (length out)) (unit_bytes k (held k u)) out answer exit

-- the new unit in the place of the caption unit, stuffing and all; behind the last byte where there is none
abbrev pub replaced_in : Found → List ℕ → List ℕ → List ℕ
replaced_in (NotUnits reason item) s new = s
replaced_in Nowhere s new = s ++ new
replaced_in (At unit end) s new = exchanged s unit end new
replaced_in (Many n) s new = s

abbrev pub replaced_of : (k : Kind) → List ℕ → Content k → List ℕ
replaced_of k s c = replaced_in (captions_in k s) s (unit_bytes k c)

-- the checks of reading the area, then those of writing: 1 and 14 look at the new area as a whole
abbrev pub replace_verdict : (k : Kind) → List ℕ → CaptionUnit k → ℕ → Verdict
replace_verdict k s u room = and_then (area_verdict k s) (write_verdict k u (length (replaced_of k s (held k u))) room)

-- the promise of replacing
pub record Replaces (k : Kind) (s : List ℕ) (u : CaptionUnit k) (out : List ℕ) (answer : Written) (exit : List ℕ)
    : Type 0 where
  pub bytes : Bytes s
  pub typed : Typed k u
  pub wrote : Wrote (replace_verdict k s u (length out)) (replaced_of k s (held k u)) out answer exit
