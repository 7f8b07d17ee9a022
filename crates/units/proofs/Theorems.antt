-- The theorems of an area's units (docs/RULES.md, "Picture area").
-- How to read it: docs/NOTATION.md.
--
-- What they speak of is defined in specs/: the bytes of a list of bodies in Layout, without the search; how an area is
-- cut, and what the search for the units of one kind answers, in Split. The kind is any test of a body. What an answer
-- tells of the area, the other way round, is shown in proofs/Spans: `found_at` and `many-second`. Assumes nothing.
use Prim.Native.Nat.{ℕ, ◌+◌, ◌≤◌}
use mathlib.Core.Path.{◌≡◌}
use mathlib.Core.Logic.{◌↔◌}
use mathlib.Core.Bool.{Bool, true, false}
use mathlib.Core.List.{List, ◌∷◌, ◌++◌}
use lib.ListN.{length}
use Rattle.lists.specs.Each.{Each}
use Rattle.refusal.specs.declared.Reason.{Reason}
use Rattle.refusal.specs.declared.Item.{Item}
use Rattle.refusal.specs.Verdict.{Accepted, Refused}
use Rattle.units.specs.declared.Found.{Found}
use Rattle.units.specs.declared.Found.TheVariants as found
use Rattle.units.specs.Layout.{Clean, layout, started}
use Rattle.units.specs.Split.{split_verdict, bodies_of, of_kind, scan_of, next_of}
use Rattle.units.proofs.Accepting as accepting
use Rattle.units.proofs.Spans as spans

-- A LIST OF UNITS

-- Bytes are accepted exactly when some clean list of bodies has them as its layout, and they are no more than 16,384.
pub accepted-exactly : (s : List ℕ) → split_verdict s ≡ Accepted
    ↔ ((bodies : List (List ℕ)) × Each Clean bodies × (length s ≤ 16384) × (layout bodies ≡ s))
accepted-exactly = accepting.accepted-exactly

-- That list is the only one.
pub only_one : (bodies others : List (List ℕ)) → Each Clean bodies → Each Clean others → layout bodies ≡ layout others
    → bodies ≡ others
only_one = accepting.only_one

-- WHAT THE SEARCH ANSWERS

-- What is no list of units is refused as the split refuses it.
pub refused-split : (ours : List ℕ → Bool) (s : List ℕ) (reason : Reason) (item : Item)
    → scan_of ours s ≡ found.NotUnits reason item ↔ split_verdict s ≡ Refused reason item
refused-split = spans.refused-split

-- No unit of the kind is found exactly where the area is the layout of clean bodies that are all of another kind.
pub nowhere-exactly : (ours : List ℕ → Bool) (s : List ℕ) → scan_of ours s ≡ found.Nowhere
    ↔ ((bodies : List (List ℕ)) × Each Clean bodies × Each (λ (b : List ℕ). ours b ≡ false) bodies
    × (length s ≤ 16384) × (layout bodies ≡ s))
nowhere-exactly = spans.nowhere-exactly

-- The only unit of the kind is found where it stands.
pub at-found : (ours : List ℕ → Bool) (before : List (List ℕ)) (body : List ℕ) (after : List (List ℕ))
    → Each Clean before → Clean body → Each Clean after
    → Each (λ (b : List ℕ). ours b ≡ false) before → Each (λ (b : List ℕ). ours b ≡ false) after → ours body ≡ true
    → length (layout (before ++ (body ∷ after))) ≤ 16384
    → scan_of ours (layout (before ++ (body ∷ after)))
    ≡ found.At (length (layout before)) (length (layout before) + 4 + length body)
at-found = spans.at-found

-- Several units of the kind are counted.
pub second-many : (ours : List ℕ → Bool) (s : List ℕ) → split_verdict s ≡ Accepted
    → 2 ≤ length (of_kind ours (bodies_of s)) → scan_of ours s ≡ found.Many (length (of_kind ours (bodies_of s)))
second-many = spans.second-many

-- ONE ANSWER

-- For each function, two answers that keep its promise are equal.
pub scan-determined : (ours : List ℕ → Bool) (s : List ℕ) (a b : Found) → a ≡ scan_of ours s → b ≡ scan_of ours s → a ≡ b
scan-determined = accepting.scan-determined

pub next-determined : (s : List ℕ) (from a b : ℕ) → a ≡ next_of s from → b ≡ next_of s from → a ≡ b
next-determined = accepting.next-determined

pub open-determined : (out a b : List ℕ) → a ≡ started out → b ≡ started out → a ≡ b
open-determined = accepting.open-determined
