-- RULES, "Order of checks": an order of checks is a list of verdicts, of which the first that refuses decides.
use Rattle.std.specs.Prelude.{ℕ, Bool, true, false, ◌&&◌, ◌||◌, List, [], ◌∷◌, ltb}
use Rattle.refusal.specs.declared.Reason.{Reason}
use Rattle.refusal.specs.declared.Reason.TheVariants.{TooLong, NoRoom}
use Rattle.refusal.specs.declared.Item.{Item}
use Rattle.refusal.specs.declared.Item.TheVariants.{Whole}
use Rattle.refusal.specs.Verdict.{Verdict}
use Rattle.refusal.specs.Verdict.{Accepted, Refused}

-- one check: refused for the reason, at the item, where its test finds a fault
abbrev pub refuse_if : Bool → Reason → Item → Verdict
refuse_if true reason item = Refused reason item
refuse_if false reason item = Accepted

-- the first verdict unless it accepts, then the second
abbrev pub and_then : Verdict → Verdict → Verdict
and_then Accepted next = next
and_then (Refused reason item) next = Refused reason item

-- the first verdict that refuses, else accepted
abbrev pub first : List Verdict → Verdict
first [] = Accepted
first (verdict ∷ rest) = and_then verdict (first rest)

-- the last checks of writing: 1 for the length of the result, then 14
abbrev pub fit_verdict : ℕ → ℕ → ℕ → Verdict
fit_verdict limit size room =
    first (refuse_if (ltb limit size) TooLong Whole ∷ refuse_if (ltb room size) NoRoom Whole ∷ [])

-- whether a line is neither 0 nor one of those from `low` to 22
abbrev pub outside : ℕ → ℕ → Bool
outside low l = ltb 0 l && (ltb l low || ltb 22 l)

-- the check of a line
abbrev pub line_verdict : ℕ → Reason → Item → ℕ → Verdict
line_verdict low reason item l = refuse_if (outside low l) reason item
