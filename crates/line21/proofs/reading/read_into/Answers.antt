-- The units are laid where the head's number is 0, which is where the verdict accepts.
use Rattle.std.proofs.Common.{◌≡◌, ◌∙◌, ap, sym, ℕ, ◌-◌, ◌*◌, ◌≤◌, ◌<◌, List, ◌++◌, length, take, drop, replicate, subst, arith, rules}
use borrow.Rule.Slice.PartMut.{put_mid}
use Rattle.lists.proofs.Each.{each-of}
use Rattle.lists.proofs.Lay.{cleared as cleared-part}
use Rattle.refusal.specs.Verdict.{Verdict}
use Rattle.refusal.specs.Verdict.{Accepted}
use Rattle.refusal.specs.Answers.{lent_of}
use Rattle.line21.specs.declared.Head.{Head}
use Rattle.line21.specs.Reading.{length_verdict, unit_count, value_of, answer_of, read_of, head_of}
use Rattle.line21.specs.Lent.{access_units_bytes}
use Rattle.line21.proofs.Length.{accepted-whole}
use Rattle.line21.proofs.Units.{length-read_units}
use Rattle.line21.proofs.Answers.{accepted-verdict}
use Rattle.line21.proofs.LentUnits.{cleared}
use Rattle.line21.proofs.reading.read_into.Goals as goal
use Rattle.line21.proofs.reading.read_into.Goals.{Start, Else-head-ne0}

-- a head of number 0 is that of an accepted payload, and counts its units
module _ (s : List ℕ) (head : Head) (e : head ≡ head_of (read_of s)) (zero : head.refusal.number ≡ 0) where
  accepted : length_verdict (length s) ≡ Accepted
  accepted = accepted-verdict s (sym (ap (λ (h : Head). h.refusal.number) e) ∙ zero)

  few : length (value_of s).units ≤ 291
  few = omega (arith, length-read_units (unit_count (length s)) (drop 1 s), (accepted-whole (length s) accepted).most)

  counted : head.m ≡ length (value_of s).units
  counted = ap (λ (h : Head). h.m) e ∙ ap (λ (v : Verdict). (answer_of v (value_of s)).payload.m) accepted

  lent-anew : (lent : List ℕ) → access_units_bytes (answer_of Accepted (value_of s)).payload.units ≡ lent_of (length_verdict (length s)) (access_units_bytes (read_of s).payload.units) lent
  lent-anew lent = ap (λ (v : Verdict). lent_of v (access_units_bytes (answer_of v (value_of s)).payload.units) lent) (sym accepted)

-- past the test
module _ (c : Else-head-ne0) where
  fits : length (value_of c.args.s.now).units ≤ 291
  fits = few c.args.s.now c.read_head-head.result c.read_head-head.ensures c.if-head-ne0.false

  m-units : c.read_head-head.result.m ≡ length (value_of c.args.s.now).units
  m-units = counted c.args.s.now c.read_head-head.result c.read_head-head.ensures c.if-head-ne0.false

pub overflow_mul-head : goal.overflow_mul-head
overflow_mul-head c = omega (arith, fits (goal.at.overflow_mul-head c).Else-head-ne0, m-units (goal.at.overflow_mul-head c).Else-head-ne0)

pub slice_bounds-fill-count : goal.slice_bounds-fill-count
slice_bounds-fill-count c =
    let at = (goal.at.slice_bounds-fill-count c).Else-head-ne0 in
    omega (arith, fits at, m-units at)

pub slice_bounds-fill-start : goal.slice_bounds-fill-start
slice_bounds-fill-start c =
    let at = (goal.at.slice_bounds-fill-start c).Else-head-ne0 in
    omega (arith, fits at, m-units at)

-- the part from a on comes back as zeros
filled-from : (xs part : List ℕ) (a n : ℕ) → length xs ≡ n
    → part ≡ replicate (length (take (n - a) (drop a xs))) 0 → put_mid a (n - a) xs part ≡ take a xs ++ replicate (n - a) 0
filled-from xs part a n e =
    subst (λ (k : ℕ). part ≡ replicate {A = ℕ} (length (take (k - a) (drop a xs))) 0 → put_mid a (k - a) xs part ≡ take a xs ++ replicate {A = ℕ} (k - a) 0) e
    (cleared-part xs part a)

pub returns : goal.returns
returns c =
    let s = c.args.s.now in
    let lent = c.args.units.now in
    let head = c.read_head-head.result in
    let at = (goal.at.returns c).Else-head-ne0 in
    let us = (value_of s).units in
    let size : 7 * length us ≡ 7 * head.m = ap (λ (k : ℕ). 7 * k) (sym (m-units at)) in
    let long : length c.collect_into.new.units ≡ 2037 = omega arith in
    record {
      bytes = each-of (λ (b : ℕ). b < 256) 0 s (λ i h. omega (arith, c.type_inv.s i));
      answer = c.read_head-head.ensures;
      left =
          filled-from c.collect_into.new.units c.fill.new.self (7 * head.m) 2037 long (c.fill.ensures.after (λ y e. search rules))
          ∙ ap (λ (xs : List ℕ). take (7 * head.m) xs ++ replicate {A = ℕ} (2037 - 7 * head.m) 0) c.collect_into.ensures
          ∙ cleared us lent (7 * head.m) size (fits at)
          ∙ lent-anew s head c.read_head-head.ensures c.if-head-ne0.false lent;
    }
