-- `scte20_value::is_value` meets its contract: where it answers yes, all that `value_verdict` asks was tested.
use Prim.Native.Nat.{ℕ, ◌≤◌}
use native.Mathlib.Omega.{arith}
use mathlib.Core.Path.{◌≡◌, ◌∙◌}
use mathlib.Core.Bool.{true, not, false≢true}
use mathlib.Core.List.{[]}
use borrow.Author.Tests.{eq-eqb}
use lib.Dec.{eqb}
use lib.ListN.{take}
use Rattle.std.proofs.lemmas.Bool.Decides.{nat_tests}
use Rattle.refusal.specs.Verdict.{Accepted}
use Rattle.refusal.proofs.Checks.{and_then-accepted}
use Rattle.scte20.specs.Lent.{lent_records, unit_in}
use Rattle.scte20.specs.Writing.{records_verdict, value_verdict}
use Rattle.scte20.proofs.Holding.{no_group, whole-accepted}
use Rattle.scte20_value.proofs.is_value.Goals.{Joined-v-le127, then-v-le-MAX_RECORDS, else-v-le-MAX_RECORDS, then-are_records, else-are_records, then-v-le127, else-v-le127}
use Rattle.scte20_value.proofs.is_value.Goals as goal

-- a number that differs by the code's test differs
differs : (a b : ℕ) → not (eqb a b) ≡ true → a ≡ b → ⊥
differs a b is e = let same = eq-eqb a b e in false≢true ((simp same) ∙ is)

-- the tests in front of that of the flag
held : (c : Joined-v-le127) → c.if-v-le127.value ≡ true
    → let v = c.args.v in
    (v.n ≤ 31) × (v.reserved ≤ 127) × (v.z ≤ 16384) × (records_verdict [] 21 (take v.n (lent_records c.args.records.now)) ≡ Accepted)
held c all =
    elim c.if-v-le127.branch [
      | else-v-le127 w ↦ absurd (false≢true (cc))
      | then-v-le127 w3 ↦
          elim c.if-are_records.branch [
            | else-are_records w ↦ absurd (false≢true (cc))
            | then-are_records w2 ↦
                elim c.if-v-le-MAX_RECORDS.branch [
                  | else-v-le-MAX_RECORDS w ↦ absurd (grind (arith, nat_tests))
                  | then-v-le-MAX_RECORDS w1 ↦ (w1.if-v-le-MAX_RECORDS.true, grind (arith, nat_tests), grind (arith, nat_tests), w1.are_records.ensures (cc))
                ]
          ]
    ]

pub returns-in-1 : goal.returns-in-1
unfolding value_verdict
returns-in-1 c is =
    let v = c.args.v in
    let h = held (goal.at.returns-in-1 c).Joined-v-le127 c.if-v-le-MAX_BYTES.true in
    let flag : v.vbi_data_flag ≡ 1 = c.in-1.is in
    and_then-accepted _ _
    (whole-accepted (unit_in v c.args.records.now) record {
      few = h.0;
      reserved = h.1;
      flag = omega arith;
      stuffing = h.2;
      bare = λ e. let f : ⊥ = omega arith in absurd f;
      no_group = no_group v.reserved v.vbi_data_flag (omega arith) (λ four one. differs v.reserved 4 is four) (λ five zero. let f : ⊥ = omega arith in absurd f);
    })
    h.3

pub returns-then-v-eq0 : goal.returns-then-v-eq0
unfolding value_verdict
returns-then-v-eq0 c is =
    let v = c.args.v in
    let h = held (goal.at.returns-then-v-eq0 c).Joined-v-le127 c.if-v-le-MAX_BYTES.true in
    let flag : v.vbi_data_flag ≡ 0 = c.in-0.is in
    and_then-accepted _ _
    (whole-accepted (unit_in v c.args.records.now) record {
      few = h.0;
      reserved = h.1;
      flag = omega arith;
      stuffing = h.2;
      bare = λ e. c.if-v-eq0.true;
      no_group = no_group v.reserved v.vbi_data_flag (omega arith) (λ four one. let f : ⊥ = omega arith in absurd f) (λ five zero. differs v.reserved 5 is five);
    })
    h.3
