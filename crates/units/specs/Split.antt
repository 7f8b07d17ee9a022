-- How an area is cut into units, for every list of bytes. RULES, "Picture area" and "Order of checks": 1, 2, 3.
use Rattle.std.specs.Prelude.{ℕ, ◌+◌, Bool, true, false, not, ◌&&◌, List, [], ◌∷◌, map, eqb, ltb, length, get_or, drop}
use Rattle.refusal.specs.Verdict.{Verdict}
use Rattle.refusal.specs.Verdict.{Accepted, Refused}
use Rattle.refusal.specs.declared.Reason.TheVariants.{TooLong, NoStart, StartCode}
use Rattle.refusal.specs.declared.Item.TheVariants.{Whole}
use Rattle.refusal.specs.Checks.{refuse_if, first}
use Rattle.units.specs.declared.Found.{Found}
use Rattle.units.specs.declared.Found.TheVariants as found
use Rattle.units.specs.Layout.{prefixed}

-- an area's bytes, cut before each appearance of 00 00 01: what stands before the first, and a piece from each up to
-- the next
pub record Cut : Type 0 where
  pub before : List ℕ
  pub pieces : List (List ℕ)

-- the cut of bytes that a byte is put in front of
abbrev pub cut_at : Bool → ℕ → Cut → Cut
cut_at true b cut = record { before = []; pieces = (b ∷ cut.before) ∷ cut.pieces }
cut_at false b cut = record { before = b ∷ cut.before; pieces = cut.pieces }

abbrev pub cut_of : List ℕ → Cut
cut_of [] = record { before = []; pieces = [] }
cut_of (b ∷ s) = cut_at (prefixed (b ∷ s)) b (cut_of s)

-- how many bytes stand before the first 00 00 01, or before the end
abbrev pub reach : List ℕ → ℕ
reach s = length (cut_of s).before

-- 00 00 01 B2 stands at the front
abbrev pub opened : List ℕ → Bool
opened s = prefixed s && eqb (get_or s 3 0) 0xB2

abbrev pub all_opened : List (List ℕ) → Bool
all_opened [] = true
all_opened (piece ∷ pieces) = opened piece && all_opened pieces

abbrev pub empty : List ℕ → Bool
empty [] = true
empty (b ∷ s) = false

-- 1 longer than 16,384 bytes; 2 a non-empty area without its first start code
unfoldable pub front_verdict : List ℕ → Verdict
front_verdict s =
    first
    (refuse_if (ltb 16384 (length s)) TooLong Whole
    ∷ refuse_if (not (empty s) && not (opened s)) NoStart Whole
    ∷ [])

-- 3 a 00 00 01 that is not followed by B2, anywhere
unfoldable pub split_verdict : List ℕ → Verdict
split_verdict s = first (front_verdict s ∷ refuse_if (not (all_opened (cut_of s).pieces)) StartCode Whole ∷ [])

-- what follows the four start bytes of each unit
abbrev pub bodies_of : List ℕ → List (List ℕ)
bodies_of s = map (λ (piece : List ℕ). drop 4 piece) (cut_of s).pieces

-- where a unit stands: its first byte, and the first behind it
pub record Span : Type 0 where
  pub unit : ℕ
  pub end : ℕ

-- put in front where a test holds
abbrev pub put_if : {A : Type 0} → Bool → A → List A → List A
put_if true x xs = x ∷ xs
put_if false x xs = xs

-- those of the bodies that are of one kind
abbrev pub of_kind : (List ℕ → Bool) → List (List ℕ) → List (List ℕ)
of_kind ours [] = []
of_kind ours (body ∷ bodies) = put_if (ours body) body (of_kind ours bodies)

-- where the units with such a body stand, for pieces the first of which begins at `at`
abbrev pub spans_of : (List ℕ → Bool) → ℕ → List (List ℕ) → List Span
spans_of ours at [] = []
spans_of ours at (piece ∷ pieces) =
    put_if (ours (drop 4 piece)) (record { unit = at; end = at + length piece })
    (spans_of ours (at + length piece) pieces)

abbrev pub found_of : Verdict → List Span → Found
found_of (Refused reason item) spans = found.NotUnits reason item
found_of Accepted [] = found.Nowhere
found_of Accepted (span ∷ []) = found.At span.unit span.end
found_of Accepted (span ∷ next ∷ spans) = found.Many (length (span ∷ next ∷ spans))

-- what the search for the units of one kind answers
abbrev pub scan_of : (List ℕ → Bool) → List ℕ → Found
scan_of ours s = found_of (split_verdict s) (spans_of ours 0 (cut_of s).pieces)

-- the first 00 00 01 from index `from` on, or the end
abbrev pub next_of : List ℕ → ℕ → ℕ
next_of s from = from + reach (drop from s)
