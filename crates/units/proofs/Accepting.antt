-- Which bytes are a list of units, that the list is the only one, and that each function's promise fixes its answer.
-- Assumes nothing.
use Prim.Native.Nat.{ℕ, ◌≤◌}
use native.Mathlib.Omega.{arith}
use mathlib.Core.Path.{◌≡◌, ◌∙◌, ap, sym}
use mathlib.Core.Logic.{◌↔◌}
use mathlib.Core.Bool.{Bool}
use mathlib.Core.List.{List}
use lib.ListN.{length}
use Rattle.lists.specs.Each.{Each}
use Rattle.refusal.specs.Verdict.{Accepted}
use Rattle.units.specs.declared.Found.{Found}
use Rattle.units.specs.Layout.{Clean, layout, started}
use Rattle.units.specs.Split.{split_verdict, bodies_of, scan_of, next_of}
use Rattle.units.proofs.Splits.{split-layout, split-clean, split-short, layout-bodies, layout-accepted}

pub accepted-exactly : (s : List ℕ) → split_verdict s ≡ Accepted
    ↔ ((bodies : List (List ℕ)) × Each Clean bodies × (length s ≤ 16384) × (layout bodies ≡ s))
accepted-exactly s = (
  λ e. (bodies_of s, split-clean s e, split-short s e, split-layout s e),
  λ w.
      let short : length (layout w.0) ≤ 16384 = omega (arith, w.2, ap length w.3) in
      ap split_verdict (sym w.3) ∙ layout-accepted w.0 w.1 short,
)

pub only_one : (bodies others : List (List ℕ)) → Each Clean bodies → Each Clean others → layout bodies ≡ layout others → bodies ≡ others
only_one bodies others h g e = sym (layout-bodies bodies h) ∙ ap bodies_of e ∙ layout-bodies others g

-- ONE ANSWER

pub scan-determined : (ours : List ℕ → Bool) (s : List ℕ) (a b : Found) → a ≡ scan_of ours s → b ≡ scan_of ours s → a ≡ b
scan-determined ours s a b p q = p ∙ sym q

pub next-determined : (s : List ℕ) (from a b : ℕ) → a ≡ next_of s from → b ≡ next_of s from → a ≡ b
next-determined s from a b p q = p ∙ sym q

pub open-determined : (out a b : List ℕ) → a ≡ started out → b ≡ started out → a ≡ b
open-determined out a b p q = p ∙ sym q
