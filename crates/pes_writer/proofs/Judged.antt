-- The checks of writing in the order in which the code comes to them.
-- Assumes nothing.
use Prim.Native.Nat.{ℕ, ◌+◌, ◌*◌, ◌/◌, ◌≤◌, ◌<◌}
use native.Mathlib.Omega.{arith}
use mathlib.Core.Path.{◌≡◌, ◌∙◌, ap}
use mathlib.Core.Bool.{Bool}
use mathlib.Core.List.{List}
use borrow.Author.Tests.{lt-ltb, le-ltb}
use lib.Dec.{ltb}
use lib.ListN.{length, get_or, take, drop, drop_of_length-le}
use lib.Seq.{get_or-take, length-take-le}
use Rattle.std.specs.Prelude.{Err}
use Rattle.lists.proofs.FlatOf.{get_d-taken}
use Rattle.lists.proofs.Lay.{rest-whole}
use Rattle.refusal.specs.Verdict.{Verdict}
use Rattle.refusal.specs.Verdict.{Accepted, Refused}
use Rattle.refusal.specs.declared.Reason.{Reason}
use Rattle.refusal.specs.declared.Reason.TheVariants.{NoRoom, Unholdable}
use Rattle.refusal.specs.declared.Excess.TheVariants.{Count, DataIdentifier}
use Rattle.refusal.specs.declared.Item.{Item}
use Rattle.refusal.specs.declared.Item.TheVariants.{Whole}
use Rattle.refusal.specs.Checks.{refuse_if, and_then}
use Rattle.pes.specs.Value.{DataUnit, Told, blank, held}
use Rattle.pes.specs.Layout.{layout}
use Rattle.pes.specs.Writing.{written_verdict, written_units, value_verdict}
use Rattle.pes.specs.Lent.{unit_in, units_in, field_in}
use Rattle.pes.proofs.Lending.{places, length_front}
use Rattle.pes.proofs.Writable.{units-from, value-identifier, value-many, value-units}

module _ (identifier n room : ℕ) (lent : List ℕ) where
  abbrev value : Told
  value = field_in identifier n lent

  abbrev us : List DataUnit
  us = take n (units_in lent)

  -- what the units from unit i on decide, and the room
  pub behind : ℕ → Verdict
  behind i = and_then (written_units (drop i us)) (refuse_if (ltb room (length (layout (held value)))) NoRoom Whole)

  pub wrong-identifier : (identifier / 16 ≡ 1 → ⊥) → value_verdict value room ≡ Refused (Unholdable DataIdentifier) Whole
  wrong-identifier e = value-identifier value room e

  pub many : identifier / 16 ≡ 1 → 31 < n → value_verdict value room ≡ Refused (Unholdable Count) Whole
  many right h = value-many value room right h

  pub all-units : identifier / 16 ≡ 1 → n ≤ 31 → value_verdict value room ≡ behind 0
  unfolding behind
  all-units right few = value-units value room right few

  module _ (few : n ≤ 31) where
    counted : length us ≡ n
    counted = length-take-le n (units_in lent) (omega (arith, places lent, few))

    here : (i : ℕ) → i < n → get_or us i blank ≡ unit_in (drop (45 * i) lent)
    here i inside = get_or-take n (units_in lent) i blank inside ∙ get_d-taken unit_in 45 blank 31 i lent (omega (arith, few, inside))

    next : (i : ℕ) → i < n → written_units (drop i us) ≡ and_then (written_verdict (unit_in (drop (45 * i) lent))) (written_units (drop (i + 1) us))
    next i inside =
        units-from us i (omega (arith, counted, inside))
        ∙ ap (λ (x : DataUnit). and_then (written_verdict x) (written_units (drop (i + 1) us))) (here i inside)

    abbrev last : Verdict
    last = refuse_if (ltb room (length (layout (held value)))) NoRoom Whole

    -- unit i is let through, or refused
    pub behind-accepted : (i : ℕ) → i < n → written_verdict (unit_in (drop (45 * i) lent)) ≡ Accepted → behind i ≡ behind (i + 1)
    unfolding behind
    behind-accepted i inside e =
        ap (λ (v : Verdict). and_then v last) (next i inside ∙ ap (λ (v : Verdict). and_then v (written_units (drop (i + 1) us))) e)

    pub behind-refused : (i : ℕ) (fault : Reason × Item) → i < n → written_verdict (unit_in (drop (45 * i) lent)) ≡ Err fault → behind i ≡ Err fault
    unfolding behind
    behind-refused i fault inside e =
        ap (λ (v : Verdict). and_then v last) (next i inside ∙ ap (λ (v : Verdict). and_then v (written_units (drop (i + 1) us))) e)

    -- none is left, and the room decides
    room-decides : (i : ℕ) → n ≤ i → length lent ≡ 1395 → behind i ≡ refuse_if (ltb room (1 + 46 * n)) NoRoom Whole
    unfolding behind
    room-decides i past whole =
        ap (λ (xs : List DataUnit). and_then (written_units xs) last) (drop_of_length-le us (omega (arith, counted, past)))
        ∙ ap (λ (k : ℕ). refuse_if (ltb room k) NoRoom Whole) (length_front identifier n lent few whole)

    pub no-room : (i : ℕ) → n ≤ i → length lent ≡ 1395 → room < 1 + 46 * n → behind i ≡ Refused NoRoom Whole
    no-room i past whole short = room-decides i past whole ∙ ap (λ (t : Bool). refuse_if t NoRoom Whole) (lt-ltb _ _ short)

    pub fits : (i : ℕ) → n ≤ i → length lent ≡ 1395 → 1 + 46 * n ≤ room → behind i ≡ Accepted
    fits i past whole enough = room-decides i past whole ∙ ap (λ (t : Bool). refuse_if t NoRoom Whole) (le-ltb _ _ enough)

pub ruleset steps = (rest-whole, wrong-identifier, many, all-units, behind-accepted, behind-refused, no-room, fits)
