-- Where an area is accepted, a new caption unit has a place in it, and `replace` keeps its promise as `exchange` does there.
-- Assumes nothing.
use Rattle.std.specs.Prelude.{Err}
use Prim.Native.Nat.{ℕ, ◌≤◌}
use native.Mathlib.Omega.{arith}
use mathlib.Core.Path.{◌≡◌, ◌∙◌, ap, ap₂, sym, subst, refl}
use mathlib.Core.List.{List, ◌++◌, append-nil}
use lib.ListN.{length}
use lib.Seq.{take-length, drop-length}
use Rattle.refusal.specs.declared.Reason.TheVariants.{SecondUnit}
use Rattle.refusal.specs.declared.Item.TheVariants.{Whole}
use Rattle.refusal.specs.declared.Reason.{Reason}
use Rattle.refusal.specs.declared.Item.{Item}
use Rattle.refusal.specs.Verdict.{Verdict}
use Rattle.refusal.specs.Verdict.{Accepted}
use Rattle.refusal.specs.declared.Written.{Written}
use Rattle.refusal.specs.Numbers.{refusal_of}
use Rattle.refusal.specs.Checks.{and_then}
use Rattle.refusal.specs.Answers.{Wrote}
use Rattle.refusal.proofs.Checks.{refused-not-accepted}
use Rattle.units.specs.declared.Found.{Found}
use Rattle.units.specs.declared.Found.TheVariants.{NotUnits, Nowhere, At, Many}
use Rattle.units.proofs.Spans.{nowhere-exactly}
use Rattle.kind.specs.declared.Kind.{Kind}
use Rattle.picture.specs.declared.Spot.{Spot}
use Rattle.kind.specs.Ours.{ours}
use Rattle.picture.specs.Kinds.{CaptionUnit, held, write_verdict}
use Rattle.picture.specs.Reading.{captions_in, found_verdict, area_verdict}
use Rattle.picture.specs.Inside.{spot_of}
use Rattle.around.specs.Around.{exchanged}
use Rattle.picture.specs.Writing.{unit_bytes, replaced_in, replaced_of, replace_verdict}
use Rattle.picture.proofs.Placing.{unit-within}

-- the place lies within the area
pub record Within (s : List ℕ) (spot : Spot) : Type 0 where
  pub forward : spot.start ≤ spot.end
  pub inside : spot.end ≤ length s
  pub short : length s ≤ 16384

module _ (k : Kind) where
  found_within : (s : List ℕ) (f : Found) → captions_in k s ≡ f → found_verdict k f s ≡ Accepted → Within s (spot_of f (length s))
  found_within s (NotUnits reason item) e ok = refused-not-accepted reason item ok
  found_within s Nowhere e ok = let w = (nowhere-exactly (ours k) s).0 e in record { forward = omega arith; inside = omega arith; short = w.3 }
  found_within s (At unit end) e ok = let w = unit-within k s unit end e in record { forward = omega (arith, w.0); inside = w.1; short = w.2 }
  found_within s (Many n) e ok = refused-not-accepted SecondUnit Whole ok

  pub spot-within : (s : List ℕ) → area_verdict k s ≡ Accepted → Within s (spot_of (captions_in k s) (length s))
  spot-within s ok = found_within s (captions_in k s) refl ok

  -- what is exchanged there is what is replaced
  found-replaced : (s new : List ℕ) (f : Found) → found_verdict k f s ≡ Accepted
      → exchanged s (spot_of f (length s)).start (spot_of f (length s)).end new ≡ replaced_in f s new
  found-replaced s new (NotUnits reason item) ok = refused-not-accepted reason item ok
  found-replaced s new Nowhere ok = ap₂ (λ (front back : List ℕ). front ++ (new ++ back)) (take-length s) (drop-length s) ∙ ap (λ (r : List ℕ). s ++ r) (append-nil new)
  found-replaced s new (At unit end) ok = refl
  found-replaced s new (Many n) ok = refused-not-accepted SecondUnit Whole ok

  module _ (s : List ℕ) (u : CaptionUnit k) (out : List ℕ) where
    -- the area's own refusal comes first, and nothing was stored
    pub replace-refused : (why : Reason × Item) → area_verdict k s ≡ Err why → (answer : Written) → answer ≡ record { refusal = refusal_of (Err why); len = 0 }
        → Wrote (replace_verdict k s u (length out)) (replaced_of k s (held k u)) out answer out
    replace-refused (reason, item) told answer refused =
        subst (λ (v : Verdict). Wrote (and_then v (write_verdict k u (length (replaced_of k s (held k u))) (length out))) (replaced_of k s (held k u)) out answer out) (sym told)
        (record { counted = refused; left = refl })

    -- an area that is accepted leaves it to the exchange
    pub replace-accepted : (answer : Written) (exit : List ℕ) (spot : Spot) → area_verdict k s ≡ Accepted → spot ≡ spot_of (captions_in k s) (length s)
        → (let new = exchanged s spot.start spot.end (unit_bytes k (held k u)) in Wrote (write_verdict k u (length new) (length out)) new out answer exit)
        → Wrote (replace_verdict k s u (length out)) (replaced_of k s (held k u)) out answer exit
    replace-accepted answer exit spot ok there wrote =
        let same : exchanged s spot.start spot.end (unit_bytes k (held k u)) ≡ replaced_of k s (held k u) =
        ap (λ (p : Spot). exchanged s p.start p.end (unit_bytes k (held k u))) there ∙ found-replaced s (unit_bytes k (held k u)) (captions_in k s) ok in
        subst (λ (v : Verdict). Wrote (and_then v (write_verdict k u (length (replaced_of k s (held k u))) (length out))) (replaced_of k s (held k u)) out answer exit) (sym ok)
        (subst (λ (new : List ℕ). Wrote (write_verdict k u (length new) (length out)) new out answer exit) same wrote)
