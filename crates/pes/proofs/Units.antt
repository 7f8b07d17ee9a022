-- Units, one behind the other: in which order they are judged, that legal ones are accepted, and that bytes which are
-- accepted are those of the units that are read from them.
-- Assumes nothing.
use Prim.Native.Nat.{ℕ, zero, suc, ◌+◌, ◌*◌, ◌≤◌, ◌<◌}
use native.Mathlib.Omega.{arith}
use mathlib.Core.Path.{◌≡◌, ◌∙◌, ap, ap₂, sym, refl}
use mathlib.Core.List.{List, [], ◌∷◌, ◌++◌}
use lib.ListN.{length, drop, length-append, length-drop, take-append-drop}
use lib.Seq.{drop_at}
use Rattle.lists.specs.Each.{Each}
use Rattle.lists.specs.Bytes.{Bytes}
use Rattle.lists.specs.Flat.{taken}
use Rattle.lists.proofs.Each.{each-drop, each_map}
use Rattle.lists.proofs.FlatOf.{length-flat, flat-taken}
use Rattle.refusal.specs.Verdict.{Accepted, Refused}
use Rattle.refusal.specs.declared.Reason.TheVariants.{SurplusUnit}
use Rattle.refusal.specs.declared.Item.TheVariants.{Byte}
use Rattle.refusal.specs.Checks.{and_then}
use Rattle.refusal.proofs.Checks.{refused-not-accepted, accepted-and_then, and_then-accepted}
use Rattle.refusal.proofs.Sequence.{first-append}
use Rattle.pes.specs.Value.{DataUnit, LegalUnit}
use Rattle.pes.specs.Layout.{layout_unit, layout_units}
use Rattle.pes.specs.Order.{unit_checks, units_checks}
use Rattle.pes.specs.Reading.{unit_verdict, units_verdict, read_unit}
use Rattle.pes.proofs.Unit.{Sized, legal-sized, length-layout, read_back, unit-accepted, accepted-whole, laid-again}

-- THE ORDER

-- no byte is left
pub units-end : (k at : ℕ) (u : List ℕ) → length u ≡ 0 → units_verdict k at u ≡ Accepted
unfolding units_verdict
units-end zero at [] e = refl
units-end (suc k) at [] e = refl
units-end k at (b ∷ u) e = let f : ⊥ = omega arith in absurd f

-- a byte is left behind the last unit
pub units-surplus : (at : ℕ) (u : List ℕ) → 0 < length u → units_verdict 0 at u ≡ Refused SurplusUnit (Byte at)
unfolding units_verdict
units-surplus at [] h = let f : ⊥ = omega arith in absurd f
units-surplus at (b ∷ u) h = refl

-- or one more unit is judged, and then those behind it
pub units-here : (k at : ℕ) (u : List ℕ) → 0 < length u
    → units_verdict (suc k) at u ≡ and_then (unit_verdict at u) (units_verdict k (at + 46) (drop 46 u))
unfolding units_verdict unit_verdict
units-here k at [] h = let f : ⊥ = omega arith in absurd f
units-here k at (b ∷ u) h = first-append (unit_checks at (b ∷ u)) (units_checks k (at + 46) (drop 46 (b ∷ u)))

-- LEGAL UNITS

pub length-units : (us : List DataUnit) → Each LegalUnit us → length (layout_units us) ≡ 46 * length us
length-units us h = length-flat layout_unit 46 Sized length-layout us (each_map LegalUnit Sized legal-sized us h)

pub units-back : (us : List DataUnit) → Each LegalUnit us → taken read_unit 46 (length us) (layout_units us ++ []) ≡ us
units-back us h = flat-taken layout_unit 46 LegalUnit (λ x legal. length-layout x (legal-sized x legal)) read_unit read_back us h []

pub units-accepted : (k at : ℕ) (us : List DataUnit) → Each LegalUnit us → length us ≤ k → units_verdict k at (layout_units us) ≡ Accepted
units-accepted k at [] h few = units-end k at [] refl
units-accepted zero at (x ∷ us) h few = let f : ⊥ = omega arith in absurd f
units-accepted (suc k) at (x ∷ us) h few =
    let wide = length-layout x (legal-sized x h.0) in
    let some : 0 < length (layout_units (x ∷ us)) = omega (arith, length-append (layout_unit x) (layout_units us), wide) in
    units-here k at (layout_units (x ∷ us)) some
    ∙ and_then-accepted _ _ (unit-accepted at x (layout_units us) h.0)
    (ap (units_verdict k (at + 46)) (drop_at (layout_unit x) (layout_units us) 46 wide) ∙ units-accepted k (at + 46) us h.1 (omega arith))

-- BYTES THAT ARE ACCEPTED

-- they are n units, which lay them again
pub record Made (k : ℕ) (u : List ℕ) : Type 0 where
  pub n : ℕ
  pub few : n ≤ k
  pub long : length u ≡ 46 * n
  pub same : layout_units (taken read_unit 46 n u) ≡ u
  pub legal : Each LegalUnit (taken read_unit 46 n u)

none_made : (k : ℕ) (u : List ℕ) → length u ≡ 0 → Made k u
none_made k [] e = record { n = 0; few = omega arith; long = refl; same = refl; legal = tt }
none_made k (b ∷ u) e = let f : ⊥ = omega arith in absurd f

more-made : (k at : ℕ) (u : List ℕ) → Bytes u → unit_verdict at u ≡ Accepted → Made k (drop 46 u) → Made (suc k) u
more-made k at u bytes e m =
    let long = (accepted-whole at u e).long in
    let first = laid-again at u bytes e in
    record {
      n = suc m.n;
      few = omega (arith, m.few);
      long = omega (arith, m.long, length-drop 46 u, long);
      same = ap₂ (λ (xs ys : List ℕ). xs ++ ys) first.0 m.same ∙ take-append-drop 46 u;
      legal = (first.1, m.legal);
    }

none_more : (at : ℕ) (u : List ℕ) → units_verdict 0 at u ≡ Accepted → Made 0 u
none_more at [] e = none_made 0 [] refl
none_more at (b ∷ u) e = refused-not-accepted _ _ (sym (units-surplus at (b ∷ u) (omega arith)) ∙ e)

one-more : (k at : ℕ) (u : List ℕ) → Bytes u → units_verdict (suc k) at u ≡ Accepted
    → (units_verdict k (at + 46) (drop 46 u) ≡ Accepted → Made k (drop 46 u)) → Made (suc k) u
one-more k at [] bytes e behind = none_made (suc k) [] refl
one-more k at (b ∷ u) bytes e behind =
    let both = accepted-and_then _ _ (sym (units-here k at (b ∷ u) (omega arith)) ∙ e) in
    more-made k at (b ∷ u) bytes both.0 (behind both.1)

pub accepted-units : (k at : ℕ) (u : List ℕ) → Bytes u → units_verdict k at u ≡ Accepted → Made k u
accepted-units zero at u bytes e = none_more at u e
accepted-units (suc k) at u bytes e =
    one-more k at u bytes e (λ next. accepted-units k (at + 46) (drop 46 u) (each-drop (λ (x : ℕ). x < 256) 46 u bytes) next)
