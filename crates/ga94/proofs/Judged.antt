-- Judging the records of a value one after the other: where those before i are accepted, the checks of record i come next.
-- Assumes nothing.
use Prim.Native.Nat.{ℕ, ◌+◌, ◌*◌, ◌≤◌, ◌<◌}
use native.Mathlib.Omega.{arith}
use native.Mathlib.Numerals.{add-one}
use mathlib.Core.Path.{◌≡◌, ◌∙◌, ap, ap₂, sym}
use mathlib.Core.List.{List, ◌∷◌}
use lib.ListN.{length, drop, get_or, drop_of_length-le}
use lib.Seq.{drop-cons}
use Rattle.refusal.specs.Verdict.{Accepted}
use Rattle.refusal.specs.Checks.{and_then}
use Rattle.ga94.specs.declared.Record.{Record}
use Rattle.ga94.specs.Value.{blank}
use Rattle.ga94.specs.Writing.{range_verdict, records_verdict}

module _ (rs : List Record) (i : ℕ) where
  -- record i, which is r, comes next
  pub records-here : (r : Record) → i < length rs → get_or rs i blank ≡ r
      → records_verdict (56 + 24 * i) (drop i rs) ≡ and_then (range_verdict (56 + 24 * i) r) (records_verdict (56 + 24 * (i + 1)) (drop (i + 1) rs))
  records-here r more here =
      let at = 56 + 24 * i in
      let far : at + 24 ≡ 56 + 24 * (i + 1) = omega arith in
      let split : drop i rs ≡ r ∷ drop (i + 1) rs = drop-cons rs i blank more ∙ ap₂ (λ (s : Record) (k : ℕ). s ∷ drop k rs) here (sym (add-one i)) in
      ap (records_verdict at) split ∙ ap (λ (k : ℕ). and_then (range_verdict at r) (records_verdict k (drop (i + 1) rs))) far

  -- all records are judged
  pub records-done : length rs ≤ i → records_verdict (56 + 24 * i) (drop i rs) ≡ Accepted
  records-done done = ap (records_verdict (56 + 24 * i)) (drop_of_length-le rs done)
