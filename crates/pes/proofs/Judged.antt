-- The checks in the order in which the code comes to them.
-- Assumes nothing.
use Prim.Native.Nat.{ℕ, suc, ◌+◌, ◌-◌, ◌*◌, ◌/◌, ◌≤◌, ◌<◌}
use native.Mathlib.Omega.{arith}
use mathlib.Core.Path.{◌≡◌, ◌∙◌, ap, ap₂}
use mathlib.Core.List.{List}
use borrow.Author.Tests.{eq-eqb, ne_eqb}
use lib.ListN.{length, get_or, drop, length-drop}
use lib.Seq.{drop-drop}
use Rattle.lists.proofs.Lay.{rest-whole}
use Rattle.refusal.specs.Verdict.{Verdict}
use Rattle.refusal.specs.Verdict.{Accepted, Refused}
use Rattle.refusal.specs.declared.Reason.{Reason}
use Rattle.refusal.specs.declared.Reason.TheVariants.{Ends, Unfixed, SurplusUnit}
use Rattle.refusal.specs.declared.Fixed.TheVariants.{Identifier}
use Rattle.refusal.specs.declared.Item.{Item}
use Rattle.refusal.specs.declared.Item.TheVariants.{Byte}
use Rattle.std.specs.Prelude.{Err}
use Rattle.refusal.specs.Checks.{and_then}
use Rattle.refusal.proofs.Checks.{and_then-last}
use Rattle.pes.specs.Reading.{unit_verdict, units_verdict, field_verdict}
use Rattle.pes.proofs.Units.{units-end, units-surplus, units-here}
use Rattle.pes.proofs.Field.{field-parts}

module _ (s : List ℕ) where
  -- what the units from unit i on decide
  unfoldable pub behind : ℕ → Verdict
  behind i = units_verdict (31 - i) (1 + 46 * i) (drop (1 + 46 * i) s)

  pub field-empty : length s ≡ 0 → field_verdict s ≡ Refused Ends (Byte 0)
  field-empty e = field-parts s ∙ simp (eq-eqb (length s) 0 e)

  -- it has data_identifier
  module _ (some : length s ≡ 0 → ⊥) where
    pub field-other : (get_or s 0 0 / 16 ≡ 1 → ⊥) → field_verdict s ≡ Refused (Unfixed Identifier) (Byte 0)
    field-other e = field-parts s ∙ simp (ne_eqb (length s) 0 some, ne_eqb (get_or s 0 0 / 16) 1 e)

    pub field-units : get_or s 0 0 / 16 ≡ 1 → field_verdict s ≡ behind 0
    unfolding behind
    field-units e = field-parts s ∙ simp (ne_eqb (length s) 0 some, eq-eqb (get_or s 0 0 / 16) 1 e, and_then-last)

  module _ (i : ℕ) where
    pub behind-end : length s ≤ 1 + 46 * i → behind i ≡ Accepted
    unfolding behind
    behind-end h = units-end (31 - i) (1 + 46 * i) (drop (1 + 46 * i) s) (omega (arith, length-drop (1 + 46 * i) s))

    pub behind-surplus : 31 ≤ i → 1 + 46 * i < length s → behind i ≡ Refused SurplusUnit (Byte (1 + 46 * i))
    unfolding behind
    behind-surplus last h =
        let at = 1 + 46 * i in
        let none : 31 - i ≡ 0 = omega arith in
        let some : 0 < length (drop at s) = omega (arith, length-drop at s) in
        ap (λ (k : ℕ). units_verdict k at (drop at s)) none ∙ units-surplus at (drop at s) some

    pub behind-next : i < 31 → 1 + 46 * i < length s → behind i ≡ and_then (unit_verdict (1 + 46 * i) (drop (1 + 46 * i) s)) (behind (i + 1))
    unfolding behind
    behind-next few h =
        let here = 1 + 46 * i in
        let one : 31 - i ≡ suc (31 - (i + 1)) = omega arith in
        let next : here + 46 ≡ 1 + 46 * (i + 1) = omega arith in
        let some : 0 < length (drop here s) = omega (arith, length-drop here s) in
        ap (λ (k : ℕ). units_verdict k here (drop here s)) one
        ∙ units-here (31 - (i + 1)) here (drop here s) some
        ∙ ap₂ (λ (k : ℕ) (u : List ℕ). and_then (unit_verdict here (drop here s)) (units_verdict (31 - (i + 1)) k u)) next
        (drop-drop 46 here s ∙ ap (λ (k : ℕ). drop k s) next)

    -- unit i is let through, or refused
    pub behind-accepted : i < 31 → 1 + 46 * i < length s → unit_verdict (1 + 46 * i) (drop (1 + 46 * i) s) ≡ Accepted → behind i ≡ behind (i + 1)
    behind-accepted few h e = behind-next few h ∙ ap (λ (v : Verdict). and_then v (behind (i + 1))) e

    pub behind-refused : (fault : Reason × Item) → i < 31 → 1 + 46 * i < length s
        → unit_verdict (1 + 46 * i) (drop (1 + 46 * i) s) ≡ Err fault → behind i ≡ Err fault
    behind-refused fault few h e = behind-next few h ∙ ap (λ (v : Verdict). and_then v (behind (i + 1))) e

pub ruleset steps = (rest-whole, field-empty, field-other, field-units, behind-end, behind-surplus, behind-accepted, behind-refused)
