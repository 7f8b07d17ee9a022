-- Judging the records of a value one after the other: where those before i are accepted, the checks of record i come next.
-- Assumes nothing.
use Prim.Native.Nat.{ℕ, ◌+◌, ◌*◌, ◌≤◌, ◌<◌}
use native.Mathlib.Omega.{arith}
use native.Mathlib.Numerals.{add-one}
use mathlib.Core.Path.{◌≡◌, ◌∙◌, ap, ap₂, sym, refl}
use mathlib.Core.List.{List, [], ◌∷◌}
use lib.ListN.{length, drop, get_or, drop_of_length-le}
use lib.Seq.{drop-cons}
use Rattle.refusal.specs.Verdict.{Verdict}
use Rattle.refusal.specs.Verdict.{Accepted}
use Rattle.refusal.specs.Checks.{and_then}
use Rattle.refusal.proofs.Checks.{and_then-last}
use Rattle.scte20.specs.declared.Record.{Record}
use Rattle.scte20.specs.declared.Last.{Last}
use Rattle.scte20.specs.Value.{blank}
use Rattle.scte20.specs.Rules.{record_verdict}
use Rattle.scte20.specs.Inside.{last_of, last_verdict, last_after, FieldsDescend}
use Rattle.scte20.specs.Writing.{range_verdict, records_verdict}
use Rattle.scte20.proofs.Order.{last-record, record-descend, last-after}

-- what holds where i records are judged and accepted: `last` is what counts of them, and the records from i on decide as all of them do
pub record Judging (rs : List Record) (last : Last) (i : ℕ) : Type 0 where
  -- the records before i, the latest first
  pub before : List Record
  pub latest : last ≡ last_of before
  pub back : FieldsDescend before
  pub left : records_verdict [] 21 rs ≡ records_verdict before (21 + 26 * i) (drop i rs)

pub judging-first : (rs : List Record) → Judging rs (last_of []) 0
judging-first rs = record { before = []; latest = refl; back = tt; left = refl }

-- the turn of record i, which is r
module _ (rs : List Record) (last : Last) (i : ℕ) (r : Record) (judging : Judging rs last i) (more : i < length rs) (here : get_or rs i blank ≡ r) where
  -- judged by what the code keeps
  judged : let at = 21 + 26 * i in record_verdict at judging.before r ≡ last_verdict at last r
  judged =
      let at = 21 + 26 * i in
      sym (last-record at judging.before r judging.back) ∙ ap (λ (l : Last). last_verdict at l r) (sym judging.latest)

  -- its checks come next
  pub records-here :
      let at = 21 + 26 * i in
      records_verdict [] 21 rs
      ≡ and_then (range_verdict at r) (and_then (last_verdict at last r) (and_then (records_verdict (r ∷ judging.before) (at + 26) (drop (i + 1) rs)) Accepted))
  records-here =
      let at = 21 + 26 * i in
      let rest = records_verdict (r ∷ judging.before) (at + 26) (drop (i + 1) rs) in
      let split : drop i rs ≡ r ∷ drop (i + 1) rs = drop-cons rs i blank more ∙ ap₂ (λ (s : Record) (k : ℕ). s ∷ drop k rs) here (sym (add-one i)) in
      judging.left
      ∙ ap (records_verdict judging.before at) split
      ∙ ap (λ (v : Verdict). and_then (range_verdict at r) (and_then v (and_then rest Accepted))) judged

  -- and where they accept, one record more is judged
  pub judging-next : let at = 21 + 26 * i in range_verdict at r ≡ Accepted → last_verdict at last r ≡ Accepted → Judging rs (last_after last r) (i + 1)
  judging-next ranged legal =
      let at = 21 + 26 * i in
      let before = judging.before in
      let fits : record_verdict at before r ≡ Accepted = judged ∙ legal in
      let far : at + 26 ≡ 21 + 26 * (i + 1) = omega arith in
      let on : records_verdict [] 21 rs ≡ records_verdict (r ∷ before) (at + 26) (drop (i + 1) rs) = records-here ∙ (simp (ranged, legal, and_then-last)) in
      record {
        before = r ∷ before;
        latest = ap (λ (l : Last). last_after l r) judging.latest ∙ last-after at before r judging.back fits;
        back = record-descend at before r judging.back fits;
        left = on ∙ ap (λ (k : ℕ). records_verdict (r ∷ before) k (drop (i + 1) rs)) far;
      }

-- all records are judged
pub judging-accepted : (rs : List Record) (last : Last) (i : ℕ) → Judging rs last i → length rs ≤ i → records_verdict [] 21 rs ≡ Accepted
judging-accepted rs last i judging done = judging.left ∙ ap (records_verdict judging.before (21 + 26 * i)) (drop_of_length-le rs done)
