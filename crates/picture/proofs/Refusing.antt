-- Which number and place reading an area refuses with, by the fault in it, and that all else in a refusal is zero.
-- Assumes nothing.
use Prim.Native.Nat.{ℕ, ◌+◌, ◌*◌, ◌≤◌, ◌<◌}
use mathlib.Core.Path.{◌≡◌, ◌∙◌, ap, sym, subst, refl}
use mathlib.Core.Bool.{true, false}
use mathlib.Core.List.{List, [], ◌∷◌, ◌++◌}
use lib.ListN.{length, take}
use Rattle.lists.specs.Each.{Each}
use Rattle.lists.specs.Part.{part}
use Rattle.refusal.specs.declared.Reason.{Reason}
use Rattle.refusal.specs.declared.Item.{Item}
use Rattle.refusal.specs.declared.Item.TheVariants.{Bit}
use Rattle.refusal.specs.Verdict.{Verdict}
use Rattle.refusal.specs.Verdict.{Accepted, Refused}
use Rattle.refusal.specs.Numbers.{number_of, refusal_of}
use Rattle.refusal.specs.Answers.{refused, AtBit}
use Rattle.units.specs.declared.Found.{Found}
use Rattle.units.specs.Layout.{Clean, start_code}
use Rattle.units.specs.Layout as units
use Rattle.units.specs.Split.{split_verdict, of_kind}
use Rattle.units.proofs.Splits.{layout-bodies, layout-accepted}
use Rattle.units.proofs.Spans.{at-found, part_body, second-many, refused-split}
use Rattle.units.proofs.Refusals.{split-1, split-2, split-3}
use Rattle.kind.specs.declared.Kind.{Kind}
use Rattle.kind.specs.Ours.{ours}
use Rattle.picture.specs.Kinds.{Content, none, content_verdict, stored, Stands}
use Rattle.picture.specs.Value.{Foreign}
use Rattle.picture.specs.Reading.{placed_item, placed, captions_in, found_verdict, area_verdict, found_content, Answer, answer_of, Reads}
use Rattle.picture.specs.Places.{area_bit}
use Rattle.picture.proofs.Contents.{content-placed}
use Rattle.picture.proofs.Areas.{foreign-clean, foreign-other, unit-bytes, caption-short}
use Rattle.picture.proofs.Accepting.{refused-in-order, other-refused}

module _ (k : Kind) where
  -- ALL ELSE IS ZERO

  refused-answer : (verdict : Verdict) (cs : List (Content k)) → (verdict ≡ Accepted → ⊥)
      → answer_of k verdict cs ≡ record { refusal = refusal_of verdict; present = false; unit = stored k (none k) }
  refused-answer Accepted cs g = absurd (g refl)
  refused-answer (Refused reason item) cs g = refl

  pub refused-zero : (s : List ℕ) (r : Answer k) → Reads k s r → (r.refusal.number ≡ 0 → ⊥) → (r.present ≡ false) × (r.unit ≡ stored k (none k))
  refused-zero s r p h =
      let e = p.answer ∙ refused-answer (area_verdict k s) (found_content k (captions_in k s) s) (other-refused k s r p h) in
      (ap (λ (a : Answer k). a.present) e, ap (λ (a : Answer k). a.unit) e)

  -- START CODES

  module _ (s : List ℕ) (r : Answer k) (p : Reads k s r) where
    -- what is no list of units is refused as the split refuses it
    split-told : (reason : Reason) (item : Item) → split_verdict s ≡ Refused reason item → r.refusal ≡ refusal_of (Refused reason item)
    split-told reason item e =
        refused-in-order k s r p ∙ ap (λ (f : Found). refusal_of (found_verdict k f s)) ((refused-split (ours k) s reason item).1 e)

    pub refused-1 : 16384 < length s → r.refusal ≡ refused 1 0
    refused-1 h = split-told _ _ (split-1 s h)

    pub refused-2 : length s ≤ 16384 → 0 < length s → (take 4 s ≡ start_code → ⊥) → r.refusal ≡ refused 2 0
    refused-2 short some other = split-told _ _ (split-2 s short some other)

  pub refused-3 : (s front rest : List ℕ) (r : Answer k) → Reads k s r → length s ≤ 16384 → take 4 s ≡ start_code → s ≡ front ++ (0 ∷ 0 ∷ 1 ∷ rest)
      → (take 1 rest ≡ 0xB2 ∷ [] → ⊥) → r.refusal ≡ refused 3 0
  refused-3 s front rest r p short first e other = split-told s r p _ _ (split-3 s front rest short first e other)

  -- CAPTION UNITS

  pub refused-4 : (bs : List (List ℕ)) (r : Answer k) → Reads k (units.layout bs) r → Each Clean bs → length (units.layout bs) ≤ 16384
      → 2 ≤ length (of_kind (ours k) bs) → r.refusal ≡ refused 4 0
  refused-4 bs r p clean short two =
      let s = units.layout bs in
      let same = layout-bodies bs clean in
      let several = subst (λ (ds : List (List ℕ)). 2 ≤ length (of_kind (ours k) ds)) (sym same) two in
      refused-in-order k s r p
      ∙ ap (λ (f : Found). refusal_of (found_verdict k f s)) (second-many (ours k) s (layout-accepted bs clean short) several)

  pub refused-content : (before : List (List ℕ)) (body : List ℕ) (after : List (List ℕ)) (r : Answer k) → Reads k (units.layout (before ++ (body ∷ after))) r
      → Each (Foreign k) before → Clean body → ours k body ≡ true → Each (Foreign k) after → length (units.layout (before ++ (body ∷ after))) ≤ 16384
      → (reason : Reason) (item : Item) → content_verdict k body ≡ Refused reason item
      → (bit : ℕ) × (r.refusal ≡ refused (number_of reason) (area_bit before bit)) × (item ≡ Bit bit) × Stands k body (number_of reason) bit
  refused-content before body after r p fb clean mine fa short reason item e =
      let s = units.layout (before ++ (body ∷ after)) in
      let unit = length (units.layout before) in
      let end = unit + 4 + length body in
      let at = at-found (ours k) before body after (foreign-clean k before fb) clean (foreign-clean k after fa) (foreign-other k before fb) (foreign-other k after fa) mine short in
      let lies : part (unit + 4) end s ≡ body = part_body before body after unit end refl refl in
      let here : AtBit (8 * length body) (Stands k body) reason item = content-placed k body (unit-bytes before body after p.bytes) (caption-short before body after short) reason item e in
      let verdict : area_verdict k s ≡ Refused reason (placed_item unit item) =
      ap (λ (f : Found). found_verdict k f s) at ∙ ap (λ (b : List ℕ). placed unit (content_verdict k b)) lies ∙ ap (placed unit) e in (
        here.bit,
        refused-in-order k s r p ∙ ap refusal_of verdict ∙ ap (λ (i : Item). refusal_of (Refused reason (placed_item unit i))) here.here,
        here.here,
        here.stands,
      )
