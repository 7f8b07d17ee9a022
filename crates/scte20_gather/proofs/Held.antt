-- Constructs that were found right are accepted.
-- Assumes nothing.
use Prim.Native.Nat.{ℕ, zero, suc, ◌+◌, ◌*◌, ◌/◌, ◌%◌, ◌≤◌, ◌<◌, min}
use native.Mathlib.Omega.{arith}
use mathlib.Core.Path.{◌≡◌, ◌∙◌, ap, sym, subst, refl}
use mathlib.Core.Bool.{Bool, true, false}
use mathlib.Core.List.{List, []}
use borrow.Author.Tests.{ne_eqb, eqb-true, lt-ltb, le-ltb}
use lib.Dec.{eqb}
use lib.ListN.{length, get_or}
use Rattle.refusal.specs.Verdict.{Accepted}
use Rattle.bits.specs.Bits.{bits_of, field}
use Rattle.bits.proofs.Stream.{length-bits_of, bits_of-are}
use Rattle.scte20.specs.declared.Record.{Record}
use Rattle.scte20.specs.declared.Last.{Last}
use Rattle.scte20.specs.Value.{count_if, field_of}
use Rattle.scte20.specs.Reading.{construct_at, constructs_verdict}
use Rattle.scte20.specs.Inside.{construct_of, kept, last_of, last_verdict, last_after}
use Rattle.scte20.proofs.Bytewise.{missing-none}
use Rattle.scte20.proofs.Stepwise.{construct-at, marker-one, Going, going-first, going_next, going-accepted}
use Rattle.scte20_gather.specs.Inside.{Numbered, place_in, urgent_in, Held}
use Rattle.scte20_gather.proofs.Numbering.{numbered-field}

-- what is kept of the constructs before: field and line of the latest as one number, and how many of its field have priority 0
record Keeps (before urgent : ℕ) (last : Last) : Type 0 where
  above : 31 ≤ before
  latest-field : last.field_number.0 ≡ before / 32
  latest-line : 0 < before / 32 → last.line_offset ≡ before % 32
  counted : last.urgent ≡ urgent

-- a record is right where its field does not fall, its line rises in a field, and it is no fifth of priority 0 there
legal : (at : ℕ) (last : Last) (r : Record) (first same : Bool) → eqb r.cc_priority 0 ≡ first → eqb last.field_number.0 (field_of r) ≡ same
    → 0 < field_of r → last.field_number.0 ≤ field_of r → (same ≡ true → last.line_offset < r.line_offset)
    → count_if first + kept same last.urgent < 5 → last_verdict at last r ≡ Accepted
unfolding last_verdict
legal at last r true true ep es some on line few =
    simp (ne_eqb (field_of r) 0 (λ e. omega arith), le-ltb (field_of r) last.field_number.0 on, ep, es, lt-ltb _ _ (line refl), le-ltb 3 last.urgent (omega (arith, few)))
legal at last r true false ep es some on line few =
    simp (ne_eqb (field_of r) 0 (λ e. omega arith), le-ltb (field_of r) last.field_number.0 on, ep, es)
legal at last r false true ep es some on line few =
    simp (ne_eqb (field_of r) 0 (λ e. omega arith), le-ltb (field_of r) last.field_number.0 on, ep, es, lt-ltb _ _ (line refl))
legal at last r false false ep es some on line few =
    simp (ne_eqb (field_of r) 0 (λ e. omega arith), le-ltb (field_of r) last.field_number.0 on, ep, es)

-- one construct more, by its number
module _ (before urgent c : ℕ) (last : Last) (keeps : Keeps before urgent last) (rises : before < place_in c) (few : urgent_in before urgent c < 5) where
  abbrev r : Record
  r = construct_of c

  field_is : field_of r ≡ place_in c / 32
  unfolding construct_of place_in
  field_is = omega arith

  line-is : r.line_offset ≡ place_in c % 32
  unfolding construct_of place_in
  line-is = omega arith

  count-is : count_if (eqb r.cc_priority 0) + kept (eqb last.field_number.0 (field_of r)) last.urgent ≡ urgent_in before urgent c
  unfolding construct_of urgent_in
  count-is = simp (keeps.latest-field, field_is, keeps.counted)

  next-legal : (at : ℕ) → last_verdict at last r ≡ Accepted
  next-legal at =
      legal at last r _ _ refl refl (omega (arith, field_is, keeps.above, rises)) (omega (arith, field_is, keeps.latest-field, rises))
      (λ same.
      let one : last.field_number.0 ≡ field_of r = eqb-true _ _ same in
      let some : 0 < before / 32 = omega (arith, one, keeps.latest-field, field_is, keeps.above, rises) in
      omega (arith, keeps.latest-line some, line-is, field_is, keeps.latest-field, one, rises))
      (subst (λ (n : ℕ). n < 5) (sym count-is) few)

  next-keeps : Keeps (place_in c) (urgent_in before urgent c) (last_after last r)
  unfolding last_after
  next-keeps =
      record {
        above = omega (arith, keeps.above, rises);
        latest-field = field_is;
        latest-line = λ some. line-is;
        counted = ap (λ (n : ℕ). min n 4) count-is ∙ (omega (arith, few));
      }

-- from construct i on
module _ (body found : List ℕ) (n : ℕ) (numbered : Numbered body n found) (fits : 21 + 26 * n ≤ 8 * length body) where
  held_on : (k i before urgent : ℕ) (lent records : List ℕ) (last : Last) → i + k ≡ n → Going (bits_of body) n lent records last i → Keeps before urgent last
      → Held before urgent k i found → constructs_verdict [] n 21 (bits_of body) ≡ Accepted
  held_on zero i before urgent lent records last e going keeps held = going-accepted (bits_of body) n lent records last i going (omega arith)
  held_on (suc k) i before urgent lent records last e going keeps held =
      let xs = bits_of body in
      let at = 21 + 26 * i in
      let c = get_or found i 0 in
      let below : i < n = omega arith in
      let inside : at + 26 ≤ length xs = omega (arith, length-bits_of body) in
      let number : c ≡ field xs at 26 = numbered-field body found n numbered i below fits in
      let same : construct_of c ≡ construct_at at xs = ap construct_of number ∙ construct-at xs at (bits_of-are body) inside in
      let whole = missing-none body at 26 (omega (arith, inside, length-bits_of body)) in
      let right = subst (λ (r : Record). last_verdict at last r ≡ Accepted) same (next-legal before urgent c last keeps held.0 held.2 at) in
      let marked = marker-one xs at (bits_of-are body) inside (ap (λ (x : ℕ). x % 2) (sym number) ∙ held.1) in
      held_on k (i + 1) (place_in c) (urgent_in before urgent c) lent _ _ (omega arith)
      (going_next xs n lent records last i going below whole right marked)
      (subst (λ (r : Record). Keeps (place_in c) (urgent_in before urgent c) (last_after last r)) same (next-keeps before urgent c last keeps held.0 held.2))
      held.3

  pub held-accepted : Held 31 0 n 0 found → constructs_verdict [] n 21 (bits_of body) ≡ Accepted
  held-accepted held =
      held_on n 0 31 0 [] [] (last_of []) (omega arith) (going-first (bits_of body) n [])
      (record { above = omega arith; latest-field = refl; latest-line = λ some. omega arith; counted = refl })
      held
