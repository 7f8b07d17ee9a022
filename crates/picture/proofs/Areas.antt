-- Reading and layout of an area agree, from the units and the content. RULES, "Picture area" and "Demands", D-3.
-- Assumes nothing.
use Prim.Native.Nat.{ℕ, ◌+◌, ◌≤◌, ◌<◌}
use native.Mathlib.Omega.{arith}
use mathlib.Core.Path.{◌≡◌, ◌∙◌, ap, ap₂, sym, subst, refl}
use mathlib.Core.Bool.{false}
use mathlib.Core.List.{List, [], ◌∷◌, ◌++◌}
use lib.ListN.{length}
use Rattle.lists.specs.Each.{Each}
use Rattle.lists.specs.Bytes.{Bytes}
use Rattle.lists.specs.Part.{part}
use Rattle.lists.proofs.Each.{each_both, each_map, each_append, append-each}
use Rattle.refusal.specs.Verdict.{Verdict}
use Rattle.refusal.specs.Verdict.{Accepted, Refused}
use Rattle.refusal.specs.declared.Reason.TheVariants.{SecondUnit}
use Rattle.refusal.specs.declared.Item.TheVariants.{Whole}
use Rattle.refusal.proofs.Checks.{refused-not-accepted}
use Rattle.units.specs.declared.Found.{Found}
use Rattle.units.specs.declared.Found.TheVariants as found
use Rattle.units.specs.Layout.{Clean}
use Rattle.units.specs.Layout as units
use Rattle.units.proofs.Splits.{split-bytes, layout-append, length-around, layout-bodies, layout-accepted}
use Rattle.units.proofs.Spans.{Alone, nowhere-exactly, found_at, at-found, part_body}
use Rattle.kind.specs.declared.Kind.{Kind}
use Rattle.kind.specs.Ours.{ours}
use Rattle.picture.specs.Kinds.{Content, body_of, content_verdict, value_of}
use Rattle.picture.specs.Value.{Area, uncaptioned, captioned, layout, Foreign, Legal}
use Rattle.picture.specs.Reading.{placed_item, placed, captions_in, found_verdict, area_verdict, found_content, answer_of, read_of, shown}
use Rattle.picture.proofs.Contents.{caption-ours, value-legal, value-body, body-accepted, body-value}
use Rattle.picture.proofs.CleanBody.{legal-clean}

-- FOREIGN UNITS

abbrev pub Other : Kind → List ℕ → Type 0
Other k s = ours k s ≡ false

-- WHAT IS READ HAS A LEGAL VALUE

pub record Back (k : Kind) (s : List ℕ) : Type 0 where
  pub value : Area k
  pub legal : Legal k value
  pub same : layout k value ≡ s
  pub told : read_of k s ≡ shown k value

-- a body's verdict, placed in its area
placed-accepted : (unit : ℕ) (verdict : Verdict) → placed unit verdict ≡ Accepted → verdict ≡ Accepted
placed-accepted unit Accepted e = refl
placed-accepted unit (Refused reason item) e = absurd (refused-not-accepted reason (placed_item unit item) e)

-- a unit of an area of bytes is of bytes
pub unit-bytes : (before : List (List ℕ)) (body : List ℕ) (after : List (List ℕ)) → Bytes (units.layout (before ++ (body ∷ after))) → Bytes body
unit-bytes before body after bytes =
    let all : Bytes (units.layout before ++ units.layout (body ∷ after)) = subst Bytes (layout-append before (body ∷ after)) bytes in
    (append-each (λ (b : ℕ). b < 256) body (units.layout after) (append-each (λ (b : ℕ). b < 256) (units.layout before) _ all).1.1.1.1.1).0

pub caption-short : (before : List (List ℕ)) (body : List ℕ) (after : List (List ℕ)) → length (units.layout (before ++ (body ∷ after))) ≤ 16384 → length body ≤ 16384
caption-short before body after short = omega (arith, length-around before body after)

module _ (k : Kind) where
  pub foreign-clean : (bs : List (List ℕ)) → Each (Foreign k) bs → Each Clean bs
  foreign-clean bs h = each_map (Foreign k) Clean (λ b f. f.clean) bs h

  pub foreign-other : (bs : List (List ℕ)) → Each (Foreign k) bs → Each (Other k) bs
  foreign-other bs h = each_map (Foreign k) (Other k) (λ b f. f.other) bs h

  foreign : (bs : List (List ℕ)) → Each Clean bs → Each Bytes bs → Each (Other k) bs → Each (Foreign k) bs
  foreign bs clean bytes other =
      each_both (λ (b : List ℕ). Clean b × Bytes b) (Other k) (Foreign k) (λ b h o. record { bytes = h.1; clean = h.0; other = o }) bs
      (each_both Clean Bytes (λ (b : List ℕ). Clean b × Bytes b) (λ b c y. (c, y)) bs clean bytes) other

  module _ (s : List ℕ) (bytes : Bytes s) where
    each-bytes : (bs : List (List ℕ)) → Each Clean bs → length s ≤ 16384 → units.layout bs ≡ s → Each Bytes bs
    each-bytes bs clean short same =
        let short' : length (units.layout bs) ≤ 16384 = subst (λ (t : List ℕ). length t ≤ 16384) (sym same) short in
        let bytes' : Bytes (units.layout bs) = subst Bytes (sym same) bytes in
        subst (λ (ds : List (List ℕ)). Each Bytes ds) (layout-bodies bs clean) (split-bytes (units.layout bs) (layout-accepted bs clean short') bytes')

    bare-back : captions_in k s ≡ found.Nowhere → Back k s
    bare-back e =
        let w = (nowhere-exactly (ours k) s).0 e in
        let fs = foreign w.0 w.1 (each-bytes w.0 w.1 w.3 w.4) w.2 in
        record {
          value = uncaptioned w.0;
          legal = record { units = fs; short = subst (λ (t : List ℕ). length t ≤ 16384) (sym w.4) w.3 };
          same = w.4;
          told = ap (λ (f : Found). answer_of k (found_verdict k f s) (found_content k f s)) e;
        }

    -- the only caption unit is of bytes, and the units around it are foreign
    pub alone-foreign : (unit end : ℕ) (w : Alone (ours k) s unit end) → Each (Foreign k) w.before × Bytes w.body × Each (Foreign k) w.after
    alone-foreign unit end w =
        let all = each-bytes (w.before ++ (w.body ∷ w.after)) (each_append Clean w.before (w.body ∷ w.after) w.clean-before (w.clean, w.clean_after)) w.short w.whole in
        let parts = append-each Bytes w.before (w.body ∷ w.after) all in
        (foreign w.before w.clean-before parts.0 w.foreign_before, parts.1.0, foreign w.after w.clean_after parts.1.1 w.foreign_after)

    captioned-back : (unit end : ℕ) → captions_in k s ≡ found.At unit end → content_verdict k (part (unit + 4) end s) ≡ Accepted → Back k s
    captioned-back unit end e ok =
        let w : Alone (ours k) s unit end = found_at (ours k) s unit end e in
        let around = alone-foreign unit end w in
        let good : content_verdict k w.body ≡ Accepted = subst (λ (b : List ℕ). content_verdict k b ≡ Accepted) w.lies ok in
        let c = value_of k w.body in
        let laid : body_of k c ≡ w.body = value-body k w.body around.1 good in
        let same : layout k (captioned w.before c w.after) ≡ s = ap (λ (b : List ℕ). units.layout (w.before ++ (b ∷ w.after))) laid ∙ w.whole in
        record {
          value = captioned w.before c w.after;
          legal = record {
            units = (around.0, value-legal k w.body around.1 good, around.2);
            short = subst (λ (t : List ℕ). length t ≤ 16384) (sym same) w.short;
          };
          same = same;
          told = ap (λ (f : Found). answer_of k (found_verdict k f s) (found_content k f s)) e
              ∙ ap₂ (λ (v : Verdict) (d : Content k). answer_of k (placed unit v) (d ∷ [])) ok (ap (value_of k) w.lies);
        }

    back_from : (f : Found) → captions_in k s ≡ f → found_verdict k f s ≡ Accepted → Back k s
    back_from (found.NotUnits reason item) e ok = absurd (refused-not-accepted reason item ok)
    back_from found.Nowhere e ok = bare-back e
    back_from (found.At unit end) e ok = captioned-back unit end e (placed-accepted unit (content_verdict k (part (unit + 4) end s)) ok)
    back_from (found.Many n) e ok = absurd (refused-not-accepted SecondUnit Whole ok)

    pub accepted-back : area_verdict k s ≡ Accepted → Back k s
    accepted-back ok = back_from (captions_in k s) refl ok

  -- WHAT IS LEGAL IS READ

  -- what the search finds in a legal value's bytes
  abbrev pub found_in : Area k → Found
  found_in (uncaptioned us) = found.Nowhere
  found_in (captioned before c after) = found.At (length (units.layout before)) (length (units.layout before) + 4 + length (body_of k c))

  pub legal-found : (v : Area k) → Legal k v → captions_in k (layout k v) ≡ found_in v
  legal-found (uncaptioned us) h = (nowhere-exactly (ours k) (units.layout us)).1 (us, foreign-clean us h.units, foreign-other us h.units, h.short, refl)
  legal-found (captioned before c after) h =
      at-found (ours k) before (body_of k c) after (foreign-clean before h.units.0) (legal-clean k c h.units.1) (foreign-clean after h.units.2)
      (foreign-other before h.units.0) (foreign-other after h.units.2) (caption-ours k c h.units.1) h.short

  -- and the value there
  abbrev contents_of : Area k → List (Content k)
  contents_of (uncaptioned us) = []
  contents_of (captioned before c after) = c ∷ []

  pub legal-verdict : (v : Area k) → Legal k v → area_verdict k (layout k v) ≡ Accepted
  legal-verdict (uncaptioned us) h = ap (λ (f : Found). found_verdict k f (units.layout us)) (legal-found (uncaptioned us) h)
  legal-verdict (captioned before c after) h =
      let body = body_of k c in
      let s = units.layout (before ++ (body ∷ after)) in
      let unit = length (units.layout before) in
      let lies : part (unit + 4) (unit + 4 + length body) s ≡ body = part_body before body after unit (unit + 4 + length body) refl refl in
      ap (λ (f : Found). found_verdict k f s) (legal-found (captioned before c after) h)
      ∙ ap (placed unit) (ap (content_verdict k) lies ∙ body-accepted k c h.units.1 (caption-short before body after h.short))

  legal-content : (v : Area k) → Legal k v → found_content k (captions_in k (layout k v)) (layout k v) ≡ contents_of v
  legal-content (uncaptioned us) h = ap (λ (f : Found). found_content k f (units.layout us)) (legal-found (uncaptioned us) h)
  legal-content (captioned before c after) h =
      let body = body_of k c in
      let s = units.layout (before ++ (body ∷ after)) in
      let unit = length (units.layout before) in
      let lies : part (unit + 4) (unit + 4 + length body) s ≡ body = part_body before body after unit (unit + 4 + length body) refl refl in
      ap (λ (f : Found). found_content k f s) (legal-found (captioned before c after) h)
      ∙ ap (λ (d : Content k). d ∷ []) (ap (value_of k) lies ∙ body-value k c h.units.1)

  pub legal-read : (v : Area k) → Legal k v → read_of k (layout k v) ≡ shown k v
  legal-read v h = ap₂ (answer_of k) (legal-verdict v h) (legal-content v h) ∙ same v
    where
      same : (w : Area k) → answer_of k Accepted (contents_of w) ≡ shown k w
      same (uncaptioned us) = refl
      same (captioned before c after) = refl
