-- The constructs of a body: each as one number of 26 bits, and all of them one after the other.
-- Assumes nothing.
use Prim.Native.Nat.{ℕ, zero, suc, ◌+◌, ◌-◌, ◌*◌, ◌/◌, ◌%◌, ◌≤◌, ◌<◌}
use native.Mathlib.Omega.{arith}
use native.Mathlib.Numerals.{add-one}
use mathlib.Core.Path.{◌≡◌, ◌∙◌, ap, ap₂, sym, subst, refl}
use mathlib.Core.List.{List, [], ◌∷◌}
use borrow.Author.Tests.{eq-eqb, ne_eqb}
use lib.ListN.{length, get_or, take}
use lib.Seq.{length-take-le, take_all}
use Rattle.lists.specs.Room.{over, over_at}
use Rattle.refusal.specs.Verdict.{Verdict}
use Rattle.refusal.specs.Verdict.{Accepted, Refused}
use Rattle.refusal.specs.declared.Reason.TheVariants.{Unfixed}
use Rattle.refusal.specs.declared.Fixed.TheVariants.{Marker}
use Rattle.refusal.specs.declared.Item.TheVariants.{Bit}
use Rattle.refusal.specs.Checks.{and_then}
use Rattle.refusal.proofs.Checks.{and_then-last}
use Rattle.bits.specs.Bits.{field}
use Rattle.bits.proofs.Numbers.{AreBits}
use Rattle.bits.proofs.Fields.{field_lt, field-within}
use Rattle.scte20.specs.declared.Record.{Record}
use Rattle.scte20.specs.declared.Last.{Last}
use Rattle.scte20.specs.Value.{blank}
use Rattle.scte20.specs.Rules.{record_verdict}
use Rattle.scte20.specs.Reading.{missing, construct_at, marker_verdict, constructs_verdict, records_at}
use Rattle.scte20.specs.Lent.{record_bytes, records_bytes}
use Rattle.scte20.specs.Inside.{construct_of, last_of, last_verdict, last_after, FieldsDescend}
use Rattle.scte20.proofs.Constructs.{length-records}
use Rattle.scte20.proofs.Order.{last-record, record-descend, last-after}
use Rattle.scte20.proofs.Lending.{lent-next, lent-room}

module _ (xs : List ℕ) (at : ℕ) (h : AreBits xs) (fits : at + 26 ≤ length xs) where
  priority-at : field xs at 26 / 16777216 ≡ field xs at 2
  priority-at =
      let small : field xs at 26 < 67108864 = field_lt xs at 26 h in
      let here : at + 0 ≡ at = omega arith in
      omega (arith, field-within xs at 26 0 2 h fits (omega arith), ap (λ (k : ℕ). field xs k 2) here)

  field_at : field xs at 26 / 4194304 % 4 ≡ field xs (at + 2) 2
  field_at = sym (field-within xs at 26 2 2 h fits (omega arith))

  line_at : field xs at 26 / 131072 % 32 ≡ field xs (at + 4) 5
  line_at = sym (field-within xs at 26 4 5 h fits (omega arith))

  data-1-at : field xs at 26 / 512 % 256 ≡ field xs (at + 9) 8
  data-1-at = sym (field-within xs at 26 9 8 h fits (omega arith))

  data-2-at : field xs at 26 / 2 % 256 ≡ field xs (at + 17) 8
  data-2-at = sym (field-within xs at 26 17 8 h fits (omega arith))

  -- a construct by its number is the one that stands there
  pub construct-at : construct_of (field xs at 26) ≡ construct_at at xs
  unfolding construct_of construct_at
  construct-at = simp (priority-at, field_at, line_at, data-1-at, data-2-at)

  marker-at : field xs (at + 25) 1 ≡ field xs at 26 % 2
  marker-at = omega (arith, field-within xs at 26 25 1 h fits (omega arith))

  -- its last bit is the marker
  pub marker-one : field xs at 26 % 2 ≡ 1 → marker_verdict at xs ≡ Accepted
  unfolding marker_verdict
  marker-one e = simp (eq-eqb (field xs (at + 25) 1) 1 (marker-at ∙ e))

  pub marker-other : (field xs at 26 % 2 ≡ 1 → ⊥) → marker_verdict at xs ≡ Refused (Unfixed Marker) (Bit (at + 25))
  unfolding marker_verdict
  marker-other e = simp (ne_eqb (field xs (at + 25) 1) 1 (λ one. e (sym marker-at ∙ one)))

pub get_d-records_at : (n at i : ℕ) (xs : List ℕ) → i < n → get_or (records_at n at xs) i blank ≡ construct_at (at + 26 * i) xs
get_d-records_at zero at i xs h = let f : ⊥ = omega arith in absurd f
get_d-records_at (suc n) at zero xs h = let here : at ≡ at + 26 * 0 = omega arith in ap (λ (k : ℕ). construct_at k xs) here
get_d-records_at (suc n) at (suc i) xs h =
    let near : i < n = omega arith in
    let far : at + 26 + 26 * i ≡ at + 26 * suc i = omega arith in
    get_d-records_at n (at + 26) i xs near ∙ ap (λ (k : ℕ). construct_at k xs) far

-- the first i records of a body's bits, the latest first
abbrev pub behind : ℕ → List ℕ → List Record
behind zero xs = []
behind (suc i) xs = construct_at (21 + 26 * i) xs ∷ behind i xs

-- what holds where i of n constructs are read and accepted, and their records' bytes laid over the front of what was lent
pub record Going (xs : List ℕ) (n : ℕ) (lent records : List ℕ) (last : Last) (i : ℕ) : Type 0 where
  pub within : i ≤ n
  pub latest : last ≡ last_of (behind i xs)
  pub back : FieldsDescend (behind i xs)
  pub left : constructs_verdict [] n 21 xs ≡ constructs_verdict (behind i xs) (n - i) (21 + 26 * i) xs
  pub laid : records ≡ over (records_bytes (take i (records_at n 21 xs))) lent

pub going-first : (xs : List ℕ) (n : ℕ) (lent : List ℕ) → Going xs n lent lent (last_of []) 0
going-first xs n lent =
    let all : n ≡ n - 0 = omega arith in
    record {
      within = omega arith;
      latest = refl;
      back = tt;
      left = ap (λ (k : ℕ). constructs_verdict [] k 21 xs) all;
      laid = refl;
    }

-- the turn of construct i
module _ (xs : List ℕ) (n : ℕ) (lent records : List ℕ) (last : Last) (i : ℕ) (going : Going xs n lent records last i) (more : i < n) where
  -- the array keeps its length
  pub going-room : n ≤ 31 → length lent ≡ 155 → length records ≡ 155
  going-room few e =
      let rs = records_at n 21 xs in
      let front : length (take i rs) ≤ 31 = omega (arith, length-take-le i rs (omega (arith, length-records n 21 xs))) in
      ap length going.laid ∙ lent-room (take i rs) lent front e

  -- its record, judged by what the code keeps
  judged : let at = 21 + 26 * i in let r = construct_at at xs in record_verdict at (behind i xs) r ≡ last_verdict at last r
  judged =
      let at = 21 + 26 * i in
      let r = construct_at at xs in
      sym (last-record at (behind i xs) r going.back) ∙ ap (λ (l : Last). last_verdict at l r) (sym going.latest)

  -- the checks of this construct come next
  pub constructs-here :
      let at = 21 + 26 * i in
      let r = construct_at at xs in
      constructs_verdict [] n 21 xs
      ≡ and_then (missing at 26 xs)
      (and_then (last_verdict at last r)
      (and_then (marker_verdict at xs) (and_then (constructs_verdict (r ∷ behind i xs) (n - (i + 1)) (at + 26) xs) Accepted)))
  constructs-here =
      let at = 21 + 26 * i in
      let rest = constructs_verdict (construct_at at xs ∷ behind i xs) (n - (i + 1)) (at + 26) xs in
      let left : n - i ≡ suc (n - (i + 1)) = omega arith in
      going.left
      ∙ ap (λ (k : ℕ). constructs_verdict (behind i xs) k at xs) left
      ∙ ap (λ (v : Verdict). and_then (missing at 26 xs) (and_then v (and_then (marker_verdict at xs) (and_then rest Accepted)))) judged

  -- and where they accept, one construct more is read
  pub going_next :
      let at = 21 + 26 * i in
      let r = construct_at at xs in
      missing at 26 xs ≡ Accepted → last_verdict at last r ≡ Accepted → marker_verdict at xs ≡ Accepted
      → Going xs n lent (over_at (5 * i) (record_bytes r) records) (last_after last r) (i + 1)
  going_next long legal marked =
      let at = 21 + 26 * i in
      let r = construct_at at xs in
      let before = behind i xs in
      let fits : record_verdict at before r ≡ Accepted = judged ∙ legal in
      let next : behind (i + 1) xs ≡ r ∷ before = ap (λ (k : ℕ). behind k xs) (add-one i) in
      let far : at + 26 ≡ 21 + 26 * (i + 1) = omega arith in
      let on : constructs_verdict [] n 21 xs ≡ constructs_verdict (r ∷ before) (n - (i + 1)) (at + 26) xs = constructs-here ∙ (simp (long, legal, marked, and_then-last)) in
      let inside : i < length (records_at n 21 xs) = omega (arith, length-records n 21 xs) in
      record {
        within = omega arith;
        latest = ap (λ (l : Last). last_after l r) going.latest ∙ last-after at before r going.back fits ∙ ap last_of (sym next);
        back = subst FieldsDescend (sym next) (record-descend at before r going.back fits);
        left = on ∙ ap₂ (λ (rs : List Record) (k : ℕ). constructs_verdict rs (n - (i + 1)) k xs) (sym next) far;
        laid =
            ap₂ (λ (s : Record) (bytes : List ℕ). over_at (5 * i) (record_bytes s) bytes) (sym (get_d-records_at n 21 i xs more)) going.laid
            ∙ lent-next (records_at n 21 xs) lent i inside;
      }

-- all n constructs are read
module _ (xs : List ℕ) (n : ℕ) (lent records : List ℕ) (last : Last) (i : ℕ) (going : Going xs n lent records last i) (done : n ≤ i) where
  pub going-accepted : constructs_verdict [] n 21 xs ≡ Accepted
  going-accepted =
      let none : n - i ≡ 0 = omega arith in
      going.left ∙ ap (λ (k : ℕ). constructs_verdict (behind i xs) k (21 + 26 * i) xs) none

  pub going-laid : records ≡ over (records_bytes (records_at n 21 xs)) lent
  going-laid =
      let all : take i (records_at n 21 xs) ≡ records_at n 21 xs = take_all i (records_at n 21 xs) (omega (arith, length-records n 21 xs)) in
      going.laid ∙ ap (λ (rs : List Record). over (records_bytes rs) lent) all
