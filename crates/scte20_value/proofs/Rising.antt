-- Records that are judged by one number each, which field and line make, and by a count: where the number rises and the count stays within four, the
-- rules accept.
-- Assumes nothing.
use Prim.Native.Nat.{ℕ, ◌+◌, ◌*◌, ◌/◌, ◌≤◌, ◌<◌}
use native.Mathlib.Omega.{arith}
use mathlib.Core.Path.{◌≡◌, ◌∙◌, ap, refl}
use mathlib.Core.Bool.{Bool, true, false, not, ◌&&◌}
use mathlib.Core.List.{List, []}
use borrow.Author.Tests.{eqb-true, ne_eqb, lt-ltb, le-ltb}
use lib.Dec.{eqb, ltb}
use lib.ListN.{length, get_or}
use Rattle.refusal.specs.Verdict.{Accepted}
use Rattle.scte20.specs.declared.Record.{Record}
use Rattle.scte20.specs.declared.Last.{Last}
use Rattle.scte20.specs.Value.{blank, field_of, count_if}
use Rattle.scte20.specs.Inside.{last_of, last_verdict, kept, last_after}
use Rattle.scte20.proofs.Holding.{range-accepted}
use Rattle.scte20.proofs.Judged.{Judging, judging-first, judging-next}

-- what holds where i records are accepted: `place` is the number of the latest, and no more than `urgent` records of its field have priority 0
pub record Rising (rs : List Record) (place urgent i : ℕ) : Type 0 where
  pub last : Last
  pub judging : Judging rs last i
  -- before the first record it is 31, so that no record of field 0 rises above it
  pub from : 31 ≤ place
  pub field : place / 32 ≡ last.field_number.0
  pub line : last.field_number.0 * 32 + last.line_offset ≤ place
  pub count : last.urgent ≤ urgent

pub rising-first : (rs : List Record) → Rising rs 31 0 0
rising-first rs =
    record {
      last = last_of [];
      judging = judging-first rs;
      from = omega arith;
      field = refl;
      line = omega arith;
      count = omega arith;
    }

-- the second is false where the first holds
both_false : (a b : Bool) → (a ≡ true → b ≡ false) → (a && b) ≡ false
both_false true b h = h refl
both_false false b h = refl

-- the count with one record more
counted : (a b : Bool) (before there : ℕ) → (b ≡ true → before ≤ there) → count_if a + kept b before ≤ count_if a + there
counted a true before there h = omega (arith, h refl)
counted a false before there h = omega arith

-- the turn of record i, which is r, its number `next`: `there` of the count goes on, and `then` is the count behind it
module _ (rs : List Record) (place urgent i : ℕ) (rising : Rising rs place urgent i) (r : Record) (next : ℕ) (told : next ≡ 32 * field_of r + r.line_offset)
    (priority : r.cc_priority ≤ 3) (field : field_of r ≤ 3) (line : r.line_offset ≤ 31) (above : place < next)
    (there then : ℕ) (on : 32 * field_of r ≤ place → there ≡ urgent) (more : then ≡ count_if (eqb r.cc_priority 0) + there) (four : then ≤ 4) where
  abbrev last : Last
  last = rising.last

  -- in the same field the line rises
  rises : eqb last.field_number.0 (field_of r) ≡ true → not (ltb last.line_offset r.line_offset) ≡ false
  rises e =
      let same : last.field_number.0 ≡ field_of r = eqb-true _ _ e in
      let less : last.line_offset < r.line_offset = omega (arith, rising.line) in
      simp (lt-ltb _ _ less)

  goes_on : eqb last.field_number.0 (field_of r) ≡ true → last.urgent ≤ there
  goes_on e =
      let same : last.field_number.0 ≡ field_of r = eqb-true _ _ e in
      let within : 32 * field_of r ≤ place = omega (arith, rising.line) in
      omega (arith, on within, rising.count)

  few : eqb r.cc_priority 0 ≡ true → (eqb last.field_number.0 (field_of r) && ltb 3 last.urgent) ≡ false
  few zero =
      let one : then ≡ 1 + there = more ∙ ap (λ (t : Bool). count_if t + there) zero in
      both_false (eqb last.field_number.0 (field_of r)) (ltb 3 last.urgent) (λ same. let most : last.urgent ≤ 3 = omega (arith, goes_on same) in le-ltb 3 last.urgent most)

  legal : (at : ℕ) → last_verdict at last r ≡ Accepted
  unfolding last_verdict
  legal at =
      let some : field_of r ≡ 0 → ⊥ = λ e. omega (arith, e, rising.from) in
      let no-fall : last.field_number.0 ≤ field_of r = omega (arith, rising.line) in
      simp (ne_eqb _ 0 some, le-ltb (field_of r) last.field_number.0 no-fall, both_false _ _ rises, both_false _ _ few)

  pub rising-next : i < length rs → get_or rs i blank ≡ r → Rising rs next then (i + 1)
  unfolding last_after
  rising-next inside here =
      record {
        last = last_after last r;
        judging = judging-next rs last i r rising.judging inside here (range-accepted (21 + 26 * i) r (priority, field, line)) (legal (21 + 26 * i));
        from = omega (arith, rising.from);
        field = omega arith;
        line = omega arith;
        count = omega (arith, counted (eqb r.cc_priority 0) _ _ there goes_on);
      }
