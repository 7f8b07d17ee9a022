-- What the checks of a reel say, payload after payload.
-- Assumes nothing.
use Prim.Native.Nat.{ℕ, ◌+◌, ◌-◌, ◌*◌, ◌/◌, ◌%◌, ◌≤◌, ◌<◌, min}
use native.Mathlib.Omega.{arith}
use mathlib.Core.Path.{◌≡◌, ◌∙◌, ap, ap₂, sym, refl}
use mathlib.Core.Bool.{Bool, true, false, not}
use mathlib.Core.List.{List, [], ◌∷◌, ◌++◌, map}
use borrow.Author.Tests.{le-ltb, ne_eqb, eq-eqb, eqb-false}
use lib.Dec.{eqb, ltb}
use lib.ListN.{length, take, drop, length-drop, drop_of_length-le}
use lib.Seq.{length-take-le}
use Rattle.lists.proofs.Flat.{length_taken}
use Rattle.refusal.specs.Verdict.{Verdict}
use Rattle.refusal.specs.Verdict.{Accepted, Refused}
use Rattle.refusal.specs.declared.Reason.TheVariants.{Unholdable}
use Rattle.refusal.specs.declared.Excess.TheVariants.{PayloadSize, RunLength}
use Rattle.refusal.specs.declared.Item.TheVariants.{Whole}
use Rattle.refusal.specs.Checks.{refuse_if, and_then, first}
use Rattle.refusal.specs.Numbers.{refusal_of}
use Rattle.refusal.specs.Answers.{refused}
use Rattle.refusal.proofs.Checks.{accepted-and_then, accepted-within, accepted-refuse_if, accepted-equal, and_then-last}
use Rattle.line21.specs.declared.AccessUnit.{AccessUnit}
use Rattle.line21.specs.Value.{stored, held}
use Rattle.line21.specs.Layout.{layout}
use Rattle.line21.specs.Writing.{value_verdict}
use Rattle.line21.specs.Lent.{access_unit_in, run_in, payload_in}
use Rattle.line21.proofs.Answers.{stored-units}
use Rattle.line21.proofs.Layouts.{length-layout_units}
use Rattle.line21.proofs.LentUnits.{run-from}
use Rattle.line21.proofs.Numbers.{verdict-same}
use Rattle.reel.specs.Cut.{cut}
use Rattle.reel.specs.Writing.{payload, reel, reel_layout, size_verdict, reel_verdict, call_verdict}
use Rattle.reel.specs.Lent.{run_verdict}
use Rattle.reel.proofs.Cutting.{cut-next}

-- the size is let through exactly where it is 1 to 291
pub accepted-size : (size : ℕ) → size_verdict size ≡ Accepted → (1 ≤ size) × (size ≤ 291)
unfolding size_verdict
accepted-size size e =
    let none = accepted-and_then _ _ e in
    let some = eqb-false size 0 (accepted-refuse_if _ _ _ none.0) in
    (omega (arith, some), accepted-within 291 size _ _ (accepted-and_then _ _ none.1).0)

pub size-accepted : (size : ℕ) → 1 ≤ size → size ≤ 291 → size_verdict size ≡ Accepted
unfolding size_verdict
size-accepted size some few = simp (ne_eqb size 0 (λ e. omega arith), le-ltb 291 size few)

-- and another is refused with 15, whatever the rest says
fifteen : (a b : Bool) (rest : Verdict)
    → (first (refuse_if a (Unholdable PayloadSize) Whole ∷ refuse_if b (Unholdable PayloadSize) Whole ∷ []) ≡ Accepted → refusal_of rest ≡ refused 15 0)
    → refusal_of (and_then (first (refuse_if a (Unholdable PayloadSize) Whole ∷ refuse_if b (Unholdable PayloadSize) Whole ∷ [])) rest) ≡ refused 15 0
fifteen true b rest h = refl
fifteen false true rest h = refl
fifteen false false rest h = h refl

pub size-15 : (size : ℕ) (rest : Verdict) → (size_verdict size ≡ Accepted → ⊥) → refusal_of (and_then (size_verdict size) rest) ≡ refused 15 0
unfolding size_verdict
size-15 size rest h = fifteen (eqb size 0) (ltb 291 size) rest (λ e. absurd (h e))

-- a lent run of whole units is judged as its units are
pub run-whole : (flags size : ℕ) (s : List ℕ) (room : ℕ) → length s % 7 ≡ 0 → run_verdict flags size s room ≡ call_verdict flags size (run_in s) room
unfolding run_verdict
run-whole flags size s room e = simp (eq-eqb (length s % 7) 0 e, and_then-last)

pub run-sized : (flags size : ℕ) (s : List ℕ) (room : ℕ) → size_verdict size ≡ Accepted → length s % 7 ≡ 0
    → run_verdict flags size s room ≡ reel_verdict (reel flags size (run_in s)) room
run-sized flags size s room sized e =
    run-whole flags size s room e ∙ ap (λ (v : Verdict). and_then v (reel_verdict (reel flags size (run_in s)) room)) sized

-- one that ends within a unit is refused
pub run-part : (flags size : ℕ) (s : List ℕ) (room : ℕ) → size_verdict size ≡ Accepted → (length s % 7 ≡ 0 → ⊥)
    → run_verdict flags size s room ≡ Refused (Unholdable RunLength) Whole
unfolding run_verdict
run-part flags size s room sized h = simp (sized, ne_eqb (length s % 7) 0 h)

-- whatever its size: both refusals are 15
pub run-cut-off : (flags size : ℕ) (s : List ℕ) (room : ℕ) → (length s % 7 ≡ 0 → ⊥) → refusal_of (run_verdict flags size s room) ≡ refused 15 0
unfolding run_verdict size_verdict
run-cut-off flags size s room h =
    simp (ne_eqb (length s % 7) 0 h) (fifteen (eqb size 0) (ltb 291 size) (Refused (Unholdable RunLength) Whole) (λ e. refl))

-- and one that is let through ends with one
pub record Judged (flags size : ℕ) (s : List ℕ) (room : ℕ) : Type 0 where
  pub some : 1 ≤ size
  pub few : size ≤ 291
  pub whole : length s % 7 ≡ 0
  pub each : reel_verdict (reel flags size (run_in s)) room ≡ Accepted

pub accepted-run : (flags size : ℕ) (s : List ℕ) (room : ℕ) → run_verdict flags size s room ≡ Accepted → Judged flags size s room
unfolding run_verdict
accepted-run flags size s room e =
    let first = accepted-and_then _ _ e in
    let second = accepted-and_then _ _ first.1 in
    let sized = accepted-size size first.0 in
    record {
      some = sized.0;
      few = sized.1;
      whole = accepted-equal (length s % 7) 0 _ _ second.0;
      each = (accepted-and_then _ _ second.1).0;
    }

-- no flags byte is refused
pub same_flags : (f g : ℕ) (ps : List (List AccessUnit)) (room : ℕ) → reel_verdict (map (payload f) ps) room ≡ reel_verdict (map (payload g) ps) room
same_flags f g [] room = refl
same_flags f g (us ∷ ps) room =
    ap₂ and_then
    (verdict-same (stored (payload f us)) (stored (payload g us)) room refl refl)
    (same_flags f g ps (room - length (layout (payload f us))))

pub any-flags : (f g size : ℕ) (s : List ℕ) (room : ℕ) → run_verdict f size s room ≡ run_verdict g size s room
unfolding run_verdict
any-flags f g size s room =
    let part = refuse_if (not (eqb (length s % 7) 0)) (Unholdable RunLength) Whole in
    ap (λ (v : Verdict). and_then (size_verdict size) (and_then part (and_then v Accepted))) (same_flags f g (cut size (run_in s)) room)

-- from unit i on the next payload has m units, and stands as the array that begins there tells it
module _ (flags size : ℕ) (some : 1 ≤ size) (few : size ≤ 291) (s : List ℕ) where
  abbrev run : List AccessUnit
  run = run_in s

  units : length run ≡ length s / 7
  units = length_taken access_unit_in 7 (length s / 7) s

  module _ (i m : ℕ) (below : i < length s / 7) (next : m ≡ min size (length s / 7 - i)) where
    abbrev piece : List AccessUnit
    piece = take m (drop i run)

    pieces : cut size (drop i run) ≡ piece ∷ cut size (drop (i + m) run)
    pieces = cut-next size some run i m (omega (arith, units)) (omega (arith, units))

    told : piece ≡ (held (payload_in flags m (drop (7 * i) s))).units
    told = sym (run-from s i m (omega arith) (omega arith))

    count : length piece ≡ m
    count = let inside : m ≤ length (drop i run) = omega (arith, units, length-drop i run) in length-take-le m (drop i run) inside

    long : length (layout (payload flags piece)) ≡ 1 + 5 * m
    long = omega (arith, length-layout_units piece, count)

    -- the checks: those of this payload, then those of the others
    pub verdict-next : (g room : ℕ) → reel_verdict (reel flags size (drop i run)) room
        ≡ and_then (value_verdict (payload_in g m (drop (7 * i) s)) room) (reel_verdict (reel flags size (drop (i + m) run)) (room - (1 + 5 * m)))
    verdict-next g room =
        ap (λ (ps : List (List AccessUnit)). reel_verdict (map (payload flags) ps) room) pieces
        ∙ ap₂ (λ (v : Verdict) (n : ℕ). and_then v (reel_verdict (reel flags size (drop (i + m) run)) (room - n)))
        (verdict-same (stored (payload flags piece)) (payload_in g m (drop (7 * i) s)) room count (stored-units (payload flags piece) ∙ told))
        long

    -- the bytes: those of this payload, then those of the others
    pub layout-next : reel_layout (reel flags size (drop i run))
        ≡ layout (held (payload_in flags m (drop (7 * i) s))) ++ reel_layout (reel flags size (drop (i + m) run))
    layout-next =
        ap (λ (ps : List (List AccessUnit)). reel_layout (map (payload flags) ps)) pieces
        ∙ ap (λ (us : List AccessUnit). layout (payload flags us) ++ reel_layout (reel flags size (drop (i + m) run))) told

  -- behind the last unit there is no payload
  pub none_left : (i : ℕ) → length s / 7 ≤ i → reel flags size (drop i run) ≡ []
  none_left i past =
      let all : length run ≤ i = omega (arith, units) in
      ap (reel flags size) (drop_of_length-le run all)
