-- The definitions of reading, writing and replacing check in the order of RULES.
-- Assumes nothing.
use Prim.Native.Nat.{ℕ, ◌+◌, ◌≤◌, ◌<◌}
use native.Mathlib.Omega.{arith}
use mathlib.Core.Path.{◌≡◌, ◌∙◌, ap, ap₂, sym, subst, refl}
use mathlib.Core.Bool.{Bool, true}
use mathlib.Core.List.{List, [], ◌∷◌, ◌++◌, map, append-nil}
use borrow.Author.Tests.{lt-ltb}
use lib.Dec.{ltb}
use lib.ListN.{length, length-append}
use Rattle.lists.specs.Each.{Each}
use Rattle.lists.proofs.Each.{each_append}
use Rattle.refusal.specs.declared.Reason.TheVariants.{SecondUnit}
use Rattle.refusal.specs.declared.Item.TheVariants.{Whole}
use Rattle.refusal.specs.Verdict.{Verdict}
use Rattle.refusal.specs.Verdict.{Accepted, Refused}
use Rattle.refusal.specs.Checks.{refuse_if, and_then, first}
use Rattle.refusal.specs.Order.{each_of}
use Rattle.refusal.proofs.Checks.{and_then-assoc, and_then-last}
use Rattle.refusal.proofs.Sequence.{first-append}
use Rattle.units.specs.declared.Found.{Found}
use Rattle.units.specs.declared.Found.TheVariants as found
use Rattle.units.specs.Layout.{Clean, layout_unit}
use Rattle.units.specs.Layout as units
use Rattle.units.specs.Split.{Cut, cut_of, front_verdict, split_verdict, bodies_of, put_if, of_kind}
use Rattle.units.proofs.Splits.{split-short, split-layout, split-clean, layout-pieces, layout-accepted}
use Rattle.units.proofs.Spans.{length-put_if, Alone, nowhere-exactly, found_at, many-second, refused-split}
use Rattle.kind.specs.declared.Kind.{Kind}
use Rattle.kind.specs.Ours.{ours}
use Rattle.picture.specs.Kinds.{content_verdict, body_checks, CaptionUnit, held, write_verdict, value_checks}
use Rattle.picture.specs.Reading.{placed, captions_in, found_verdict, area_verdict}
use Rattle.picture.specs.Writing.{unit_bytes, replaced_of, replace_verdict}
use Rattle.picture.specs.Order.{Caption, captions_of, caption_checks, reading_checks, writing_checks, replacing_checks}
use Rattle.picture.proofs.Contents.{body-order, value-order}
use Rattle.picture.proofs.Areas.{Other}

module _ (k : Kind) where
  -- THE CAPTION UNITS OF A LIST OF BODIES

  -- they are as many as the bodies that are ours,
  length-captions : (at : ℕ) (bs : List (List ℕ)) → length (captions_of k at (map layout_unit bs)) ≡ length (of_kind (ours k) bs)
  length-captions at [] = refl
  length-captions at (body ∷ bs) =
      let next = at + length (layout_unit body) in
      let here : Caption = record { unit = at; body = body } in
      length-put_if (ours k body) here (captions_of k next (map layout_unit bs)) body (of_kind (ours k) bs) (length-captions next bs)

  -- none where all are foreign,
  captions-none : (at : ℕ) (bs : List (List ℕ)) → Each (Other k) bs → captions_of k at (map layout_unit bs) ≡ []
  captions-none at [] h = refl
  captions-none at (body ∷ bs) h =
      let next = at + length (layout_unit body) in
      ap (λ (t : Bool). put_if t (record { unit = at; body = body }) (captions_of k next (map layout_unit bs))) h.0 ∙ captions-none next bs h.1

  -- and the only one among foreign ones
  captions-only : (at : ℕ) (before : List (List ℕ)) (body : List ℕ) (after : List (List ℕ)) → Each (Other k) before → Each (Other k) after → ours k body ≡ true
      → captions_of k at (map layout_unit (before ++ (body ∷ after))) ≡ record { unit = at + length (units.layout before); body = body } ∷ []
  captions-only at [] body after hb ha mine =
      let next = at + length (layout_unit body) in
      let here : at ≡ at + 0 = omega arith in
      ap₂ (λ (t : Bool) (cs : List Caption). put_if t (record { unit = at; body = body }) cs) mine (captions-none next after ha)
      ∙ ap (λ (n : ℕ). record { unit = n; body = body } ∷ []) here
  captions-only at (other ∷ before) body after hb ha mine =
      let next = at + length (layout_unit other) in
      let here : next + length (units.layout before) ≡ at + length (units.layout (other ∷ before)) = omega (arith, length-append (layout_unit other) (units.layout before)) in
      ap (λ (t : Bool). put_if t (record { unit = at; body = other }) (captions_of k next (map layout_unit (before ++ (body ∷ after))))) hb.0
      ∙ captions-only next before body after hb.1 ha mine
      ∙ ap (λ (n : ℕ). record { unit = n; body = body } ∷ []) here

  -- READING

  -- a verdict told in an area is that of its checks
  placed-then : (unit : ℕ) (check next : Verdict) → placed unit (and_then check next) ≡ and_then (placed unit check) (placed unit next)
  placed-then unit Accepted next = refl
  placed-then unit (Refused reason item) next = refl

  placed_first : (unit : ℕ) (checks : List Verdict) → placed unit (first checks) ≡ first (map (placed unit) checks)
  placed_first unit [] = refl
  placed_first unit (check ∷ checks) = placed-then unit check (first checks) ∙ ap (λ (v : Verdict). and_then (placed unit check) v) (placed_first unit checks)

  -- the checks behind 3
  abbrev behind : List Caption → List Verdict
  behind cs = refuse_if (ltb 1 (length cs)) SecondUnit Whole ∷ each_of (caption_checks k) cs

  split-order : (s : List ℕ) → first (reading_checks k s) ≡ and_then (split_verdict s) (first (behind (captions_of k 0 (cut_of s).pieces)))
  unfolding split_verdict front_verdict
  split-order s = simp (and_then-assoc, and_then-last)

  -- of an area that is the layout of bodies
  layout-order : (s : List ℕ) (bs : List (List ℕ)) → Each Clean bs → length s ≤ 16384 → units.layout bs ≡ s
      → first (reading_checks k s) ≡ first (behind (captions_of k 0 (map layout_unit bs)))
  layout-order s bs clean short same =
      let within : length (units.layout bs) ≤ 16384 = subst (λ (t : List ℕ). length t ≤ 16384) (sym same) short in
      split-order s
      ∙ ap (λ (t : List ℕ). and_then (split_verdict t) (first (behind (captions_of k 0 (cut_of t).pieces)))) (sym same)
      ∙ ap₂ (λ (v : Verdict) (cut : Cut). and_then v (first (behind (captions_of k 0 cut.pieces)))) (layout-accepted bs clean within) (layout-pieces bs clean)

  found-order : (s : List ℕ) (f : Found) → captions_in k s ≡ f → found_verdict k f s ≡ first (reading_checks k s)
  found-order s (found.NotUnits reason item) e =
      sym (split-order s ∙ ap (λ (v : Verdict). and_then v (first (behind (captions_of k 0 (cut_of s).pieces)))) ((refused-split (ours k) s reason item).0 e))
  found-order s found.Nowhere e =
      let w = (nowhere-exactly (ours k) s).0 e in
      sym (layout-order s w.0 w.1 w.3 w.4 ∙ ap (λ (cs : List Caption). first (behind cs)) (captions-none 0 w.0 w.2))
  found-order s (found.At unit end) e =
      let w : Alone (ours k) s unit end = found_at (ours k) s unit end e in
      let all = w.before ++ (w.body ∷ w.after) in
      let clean = each_append Clean w.before (w.body ∷ w.after) w.clean-before (w.clean, w.clean_after) in
      let there : 0 + length (units.layout w.before) ≡ unit = omega (arith, w.starts) in
      let one = captions-only 0 w.before w.body w.after w.foreign_before w.foreign_after w.mine ∙ ap (λ (n : ℕ). record { unit = n; body = w.body } ∷ []) there in
      sym
      (layout-order s all clean w.short w.whole
      ∙ ap (λ (cs : List Caption). first (behind cs)) one
      ∙ ap first (append-nil (map (placed unit) (body_checks k w.body)))
      ∙ sym (placed_first unit (body_checks k w.body))
      ∙ ap (placed unit) (sym (body-order k w.body))
      ∙ ap (λ (body : List ℕ). placed unit (content_verdict k body)) (sym w.lies))
  found-order s (found.Many n) e =
      let w = many-second (ours k) s n e in
      let cs = captions_of k 0 (map layout_unit (bodies_of s)) in
      let two : 1 < length cs = omega (arith, length-captions 0 (bodies_of s), w.0, w.1) in
      sym
      (layout-order s (bodies_of s) (split-clean s w.2) (split-short s w.2) (split-layout s w.2)
      ∙ ap (λ (t : Bool). and_then (refuse_if t SecondUnit Whole) (first (each_of (caption_checks k) cs))) (lt-ltb 1 (length cs) two))

  pub reading-order : (s : List ℕ) → area_verdict k s ≡ first (reading_checks k s)
  reading-order s = found-order s (captions_in k s) refl

  -- WRITING AND REPLACING

  pub writing-order : (u : CaptionUnit k) (room : ℕ) → write_verdict k u (length (unit_bytes k (held k u))) room ≡ first (writing_checks k u room)
  writing-order u room = value-order k u (length (unit_bytes k (held k u))) room

  pub replacing-order : (s : List ℕ) (u : CaptionUnit k) (room : ℕ) → replace_verdict k s u room ≡ first (replacing_checks k s u room)
  replacing-order s u room =
      ap₂ and_then (reading-order s) (value-order k u (length (replaced_of k s (held k u))) room)
      ∙ sym (first-append (reading_checks k s) (value_checks k u (length (replaced_of k s (held k u))) room))
