-- The walk over an area's units: what holds where the search stands, and how a unit takes it on.
-- Assumes nothing.
use Prim.Native.Nat.{ℕ, ◌+◌, ◌≤◌, ◌<◌}
use native.Mathlib.Omega.{arith}
use mathlib.Core.Path.{◌≡◌, ◌∙◌, ap, ap₂, sym, refl}
use mathlib.Core.Bool.{Bool, true, false, not}
use mathlib.Core.List.{List, [], ◌∷◌, ◌++◌, append_assoc, append-nil}
use lib.ListN.{length, get_or, drop, length-append, drop_of_length-le}
use lib.Seq.{get_or-drop}
use Rattle.lists.specs.Part.{part}
use Rattle.lists.proofs.Part.{length_part}
use Rattle.refusal.specs.Verdict.{Verdict}
use Rattle.refusal.specs.Verdict.{Accepted, Refused}
use Rattle.refusal.specs.declared.Reason.{Reason}
use Rattle.refusal.specs.declared.Reason.TheVariants.{StartCode}
use Rattle.refusal.specs.declared.Item.{Item}
use Rattle.refusal.specs.declared.Item.TheVariants.{Whole}
use Rattle.refusal.specs.Checks.{refuse_if, and_then}
use Rattle.refusal.proofs.Checks.{and_then-last}
use Rattle.units.specs.declared.Found.{Found}
use Rattle.units.specs.declared.Found.TheVariants as found
use Rattle.units.specs.Layout.{prefixed, layout_unit}
use Rattle.units.specs.Split.{Span, all_opened, cut_of, found_of, front_verdict, next_of, put_if, scan_of, spans_of, split_verdict}
use Rattle.units.specs.Inside.{Few, Notes}
use Rattle.units.proofs.Opened.{accepted-short, accepted-prefixed}
use Rattle.units.proofs.Kept.{few}
use Rattle.units.proofs.Steps.{unit-cut, next-within, next-prefixed, first-refused}

-- what the pieces from `at` on answer behind the units of the kind so far
abbrev answer : (List ℕ → Bool) → ℕ → List (List ℕ) → List Span → Found
answer ours at pieces spans = found_of (refuse_if (not (all_opened pieces)) StartCode Whole) (spans ++ spans_of ours at pieces)

-- the search stands at `at`, where a unit begins or the area ends
pub record Going (ours : List ℕ → Bool) (s : List ℕ) (so_far : Found) (at : ℕ) : Type 0 where
  pub short : length s ≤ 16384
  pub within : at ≤ length s
  pub here : at < length s → prefixed (drop at s) ≡ true
  -- the units of the kind before `at`
  pub spans : List Span
  pub kept : so_far ≡ found_of Accepted spans
  pub few : length spans ≤ at
  pub answers : scan_of ours s ≡ answer ours at (cut_of (drop at s)).pieces spans

-- where the front is refused the search answers so
pub front-refused : (ours : List ℕ → Bool) (s : List ℕ) (reason : Reason) (item : Item) → front_verdict s ≡ Refused reason item → scan_of ours s ≡ found.NotUnits reason item
unfolding split_verdict
front-refused ours s reason item e =
    ap
    (λ (v : Verdict). found_of (and_then v (and_then (refuse_if (not (all_opened (cut_of s).pieces)) StartCode Whole) Accepted)) (spans_of ours 0 (cut_of s).pieces))
    e

-- and in no bytes there is nothing
pub empty-nowhere : (ours : List ℕ → Bool) (s : List ℕ) → length s ≡ 0 → scan_of ours s ≡ found.Nowhere
unfolding split_verdict front_verdict
empty-nowhere ours [] e = refl
empty-nowhere ours (b ∷ s) e = let f : ⊥ = omega arith in absurd f

-- else it begins
pub begins : (ours : List ℕ → Bool) (s : List ℕ) → front_verdict s ≡ Accepted → Going ours s found.Nowhere 0
unfolding split_verdict
begins ours s e =
    let codes = refuse_if (not (all_opened (cut_of s).pieces)) StartCode Whole in
    record {
      short = accepted-short s e;
      within = omega arith;
      here = accepted-prefixed s e;
      spans = [];
      kept = refl;
      few = omega arith;
      answers = ap (λ (v : Verdict). found_of v (spans_of ours 0 (cut_of s).pieces)) (ap (λ (v : Verdict). and_then v (and_then codes Accepted)) e ∙ and_then-last codes);
    }

module _ {ours : List ℕ → Bool} {s : List ℕ} {so_far : Found} {at : ℕ} (going : Going ours s so_far at) where
  -- there is room for one more in the count
  pub room : at < length s → Few so_far
  room more = few going.spans so_far going.kept (omega (arith, going.few, going.short))

  -- 00 00 01 without B2
  pub refused : at < length s → (get_or s (at + 3) 0 ≡ 0xB2 → ⊥) → scan_of ours s ≡ found.NotUnits StartCode Whole
  refused more other =
      let pieces = (cut_of (drop at s)).pieces in
      going.answers
      ∙ ap (λ (t : Bool). found_of (refuse_if (not t) StartCode Whole) (going.spans ++ spans_of ours at pieces))
      (first-refused (drop at s) (going.here more) (λ e. other (sym (get_or-drop at s 3 0) ∙ e)))

  -- the end
  pub ended : length s ≤ at → scan_of ours s ≡ found_of Accepted going.spans
  ended past =
      going.answers
      ∙ ap (λ (l : List ℕ). answer ours at (cut_of l).pieces going.spans) (drop_of_length-le s past)
      ∙ ap (found_of Accepted) (append-nil going.spans)

  -- a unit
  module _ (fits : at + 3 < length s) (code : get_or s (at + 3) 0 ≡ 0xB2) (next : ℕ) (e : next ≡ next_of s (at + 4)) where
    inside : next ≤ length s
    inside = let four : at + 4 ≤ length s = omega arith in omega (arith, next-within s (at + 4) four)

    ahead : next < length s → prefixed (drop next s) ≡ true
    ahead more = let four : at + 4 ≤ length s = omega arith in ap (λ (k : ℕ). prefixed (drop k s)) e ∙ next-prefixed s (at + 4) four (omega arith)

    -- what it answers, by whether the unit is of the kind
    answer-next : (t : Bool) → ours (part (at + 4) next s) ≡ t
        → scan_of ours s
        ≡ found_of (refuse_if (not (all_opened (cut_of (drop next s)).pieces)) StartCode Whole)
        (going.spans ++ put_if t (record { unit = at; end = next }) (spans_of ours next (cut_of (drop next s)).pieces))
    answer-next t is =
        let body = part (at + 4) next s in
        let rest = (cut_of (drop next s)).pieces in
        let more : at < length s = omega arith in
        let end : at + length (layout_unit body) ≡ next = omega (arith, length_part s (at + 4) next inside) in
        going.answers
        ∙ ap (λ (ps : List (List ℕ)). answer ours at ps going.spans) (unit-cut s at fits (going.here more) code next e)
        ∙ ap₂
        (λ (x : Bool) (k : ℕ).
        found_of (refuse_if (not (all_opened rest)) StartCode Whole) (going.spans ++ put_if x (record { unit = at; end = k }) (spans_of ours k rest)))
        is
        end

    -- a foreign unit is passed,
    pub passed-foreign : ours (part (at + 4) next s) ≡ false → Going ours s so_far next
    passed-foreign foreign =
        record {
          short = going.short;
          within = inside;
          here = ahead;
          spans = going.spans;
          kept = going.kept;
          few = omega (arith, going.few);
          answers = answer-next false foreign;
        }

    -- and one of the kind is passed and noted
    pub passed-ours : (r : Found) → ours (part (at + 4) next s) ≡ true → Notes so_far (record { unit = at; end = next }) r → Going ours s r next
    passed-ours r is notes =
        let span : Span = record { unit = at; end = next } in
        let spans = going.spans ++ (span ∷ []) in
        let rest = (cut_of (drop next s)).pieces in
        record {
          short = going.short;
          within = inside;
          here = ahead;
          spans = spans;
          kept = notes going.spans going.kept;
          few = omega (arith, going.few, length-append going.spans (span ∷ []));
          answers = answer-next true is
              ∙ ap (found_of (refuse_if (not (all_opened rest)) StartCode Whole)) (sym (append_assoc going.spans (span ∷ []) (spans_of ours next rest)));
        }
