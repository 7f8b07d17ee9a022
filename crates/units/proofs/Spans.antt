-- What the search for the units of one kind answers, from the bodies alone: that there is none, which one it is and where it stands, or how many
-- there are. The kind is any test of a body. RULES, "Picture area".
-- Assumes nothing.
use Prim.Native.Nat.{ℕ, suc, ◌+◌, ◌-◌, ◌≤◌}
use native.Mathlib.Omega.{arith}
use mathlib.Core.Path.{◌≡◌, ◌∙◌, ap, ap₂, sym, subst, refl}
use mathlib.Core.Logic.{◌↔◌}
use mathlib.Core.Bool.{Bool, true, false}
use mathlib.Core.List.{List, [], ◌∷◌, ◌++◌, map, nil≢cons, head-eq_of_cons-eq, tail-eq_of_cons-eq}
use lib.ListN.{length, take, drop, length-append}
use lib.Seq.{take-append_seam, drop-append-add}
use Rattle.lists.specs.Each.{Each}
use Rattle.lists.specs.Part.{part}
use Rattle.lists.proofs.Each.{each_append, append-each}
use Rattle.refusal.specs.Verdict.{Verdict}
use Rattle.refusal.specs.Verdict.{Accepted, Refused}
use Rattle.refusal.specs.declared.Reason.{Reason}
use Rattle.refusal.specs.declared.Item.{Item}
use Rattle.units.specs.declared.Found.TheVariants as found
use Rattle.units.specs.Layout.{Clean, layout_unit, layout}
use Rattle.units.specs.Split.{Cut, cut_of, split_verdict, bodies_of, Span, put_if, of_kind, spans_of, found_of, scan_of}
use Rattle.units.proofs.Splits.{split-layout, split-clean, split-short, layout-pieces, layout-accepted, layout-append}

never : {P : Type 0} → ◌≡◌ {A = ℕ} 0 1 → P
never e = let f : ⊥ = omega arith in absurd f

-- WHAT AN ANSWER TELLS

found_of-nowhere : (verdict : Verdict) (spans : List Span) → found_of verdict spans ≡ found.Nowhere → (verdict ≡ Accepted) × (spans ≡ [])
found_of-nowhere (Refused reason item) spans e = never (cc)
found_of-nowhere Accepted [] e = (refl, refl)
found_of-nowhere Accepted (span ∷ []) e = never (cc)
found_of-nowhere Accepted (span ∷ next ∷ spans) e = never (cc)

found_of-at : (verdict : Verdict) (spans : List Span) (unit end : ℕ) → found_of verdict spans ≡ found.At unit end
    → (verdict ≡ Accepted) × (spans ≡ record { unit = unit; end = end } ∷ [])
found_of-at (Refused reason item) spans unit end e = never (cc)
found_of-at Accepted [] unit end e = never (cc)
found_of-at Accepted (span ∷ []) unit end e =
    let first : span.unit ≡ unit = cc in
    let behind : span.end ≡ end = cc in
    (refl, λ i. record { unit = first i; end = behind i } ∷ [])
found_of-at Accepted (span ∷ next ∷ spans) unit end e = never (cc)

found_of-many : (verdict : Verdict) (spans : List Span) (k : ℕ) → found_of verdict spans ≡ found.Many k → (verdict ≡ Accepted) × (2 ≤ k) × (k ≡ length spans)
found_of-many (Refused reason item) spans k e = never (cc)
found_of-many Accepted [] k e = never (cc)
found_of-many Accepted (span ∷ []) k e = never (cc)
found_of-many Accepted (span ∷ next ∷ spans) k e =
    let many : length (span ∷ next ∷ spans) ≡ k = cc in
    (refl, omega arith, sym many)

many-found : (spans : List Span) → 2 ≤ length spans → found_of Accepted spans ≡ found.Many (length spans)
many-found [] h = let f : ⊥ = omega arith in absurd f
many-found (span ∷ []) h = let f : ⊥ = omega arith in absurd f
many-found (span ∷ next ∷ spans) h = refl

found_of-refused : (verdict : Verdict) (spans : List Span) (reason : Reason) (item : Item) → found_of verdict spans ≡ found.NotUnits reason item
    → verdict ≡ Refused reason item
found_of-refused (Refused why what) spans reason item e = cc
found_of-refused Accepted [] reason item e = never (cc)
found_of-refused Accepted (span ∷ []) reason item e = never (cc)
found_of-refused Accepted (span ∷ next ∷ spans) reason item e = never (cc)

-- THE SPANS OF UNITS

-- the first unit begins at `at`; one body of the kind, with the bodies around it, and where it stands
record Only (ours : List ℕ → Bool) (at : ℕ) (bodies : List (List ℕ)) (span : Span) : Type 0 where
  before : List (List ℕ)
  body : List ℕ
  after : List (List ℕ)
  whole : before ++ (body ∷ after) ≡ bodies
  foreign_before : Each (λ (b : List ℕ). ours b ≡ false) before
  foreign_after : Each (λ (b : List ℕ). ours b ≡ false) after
  mine : ours body ≡ true
  starts : span.unit ≡ at + length (layout before)
  ends : span.end ≡ span.unit + 4 + length body

-- two lists grow alike
pub length-put_if : {A B : Type 0} → (t : Bool) (x : A) (xs : List A) (y : B) (ys : List B) → length xs ≡ length ys
    → length (put_if t x xs) ≡ length (put_if t y ys)
length-put_if true x xs y ys e = ap suc e
length-put_if false x xs y ys e = e

none-put : (t : Bool) (span : Span) (spans : List Span) → put_if t span spans ≡ [] → (t ≡ false) × (spans ≡ [])
none-put true span spans e = absurd (nil≢cons (sym e))
none-put false span spans e = (refl, e)

module _ (ours : List ℕ → Bool) where
  length-spans : (at : ℕ) (bodies : List (List ℕ)) → length (spans_of ours at (map layout_unit bodies)) ≡ length (of_kind ours bodies)
  length-spans at [] = refl
  length-spans at (body ∷ bodies) =
      let next = at + length (layout_unit body) in
      let here : Span = record { unit = at; end = next } in
      length-put_if (ours body) here (spans_of ours next (map layout_unit bodies)) body (of_kind ours bodies) (length-spans next bodies)

  -- none where every body is foreign, and only there
  spans-none : (at : ℕ) (bodies : List (List ℕ)) → Each (λ (b : List ℕ). ours b ≡ false) bodies → spans_of ours at (map layout_unit bodies) ≡ []
  spans-none at [] h = refl
  spans-none at (body ∷ bodies) h =
      let next = at + length (layout_unit body) in
      ap (λ (t : Bool). put_if t (record { unit = at; end = next }) (spans_of ours next (map layout_unit bodies))) h.0 ∙ spans-none next bodies h.1

  none-spans : (at : ℕ) (bodies : List (List ℕ)) → spans_of ours at (map layout_unit bodies) ≡ [] → Each (λ (b : List ℕ). ours b ≡ false) bodies
  none-spans at [] e = tt
  none-spans at (body ∷ bodies) e =
      let next = at + length (layout_unit body) in
      let both = none-put (ours body) (record { unit = at; end = next }) (spans_of ours next (map layout_unit bodies)) e in
      (both.0, none-spans next bodies both.1)

  -- one, among foreign bodies
  spans-only : (at : ℕ) (before : List (List ℕ)) (body : List ℕ) (after : List (List ℕ))
      → Each (λ (b : List ℕ). ours b ≡ false) before → Each (λ (b : List ℕ). ours b ≡ false) after → ours body ≡ true
      → spans_of ours at (map layout_unit (before ++ (body ∷ after)))
      ≡ record { unit = at + length (layout before); end = at + length (layout before) + 4 + length body } ∷ []
  spans-only at [] body after hb ha mine =
      let next = at + length (layout_unit body) in
      let first : at ≡ at + 0 = omega arith in
      let behind : next ≡ at + 0 + 4 + length body = omega arith in
      ap₂ (λ (t : Bool) (spans : List Span). put_if t (record { unit = at; end = next }) spans) mine (spans-none next after ha)
      ∙ λ i. record { unit = first i; end = behind i } ∷ []
  spans-only at (other ∷ before) body after hb ha mine =
      let next = at + length (layout_unit other) in
      let first : next + length (layout before) ≡ at + length (layout (other ∷ before)) = omega (arith, length-append (layout_unit other) (layout before)) in
      ap (λ (t : Bool). put_if t (record { unit = at; end = next }) (spans_of ours next (map layout_unit (before ++ (body ∷ after))))) hb.0
      ∙ spans-only next before body after hb.1 ha mine
      ∙ ap (λ (n : ℕ). record { unit = n; end = n + 4 + length body } ∷ []) first

  only-put : (t : Bool) (at : ℕ) (body : List ℕ) (bodies : List (List ℕ)) (span : Span) → ours body ≡ t
      → put_if t (record { unit = at; end = at + length (layout_unit body) }) (spans_of ours (at + length (layout_unit body)) (map layout_unit bodies)) ≡ span ∷ []
      → (spans_of ours (at + length (layout_unit body)) (map layout_unit bodies) ≡ span ∷ [] → Only ours (at + length (layout_unit body)) bodies span)
      → Only ours at (body ∷ bodies) span
  only-put true at body bodies span mine e later =
      let here : record { unit = at; end = at + length (layout_unit body) } ≡ span = head-eq_of_cons-eq e in
      record {
        before = [];
        body = body;
        after = bodies;
        whole = refl;
        foreign_before = tt;
        foreign_after = none-spans (at + length (layout_unit body)) bodies (tail-eq_of_cons-eq e);
        mine = mine;
        starts = omega (arith, ap (λ (x : Span). x.unit) here);
        ends = omega (arith, ap (λ (x : Span). x.unit) here, ap (λ (x : Span). x.end) here);
      }
  only-put false at body bodies span foreign e later =
      let rest = later e in
      record {
        before = body ∷ rest.before;
        body = rest.body;
        after = rest.after;
        whole = ap (λ (xs : List (List ℕ)). body ∷ xs) rest.whole;
        foreign_before = (foreign, rest.foreign_before);
        foreign_after = rest.foreign_after;
        mine = rest.mine;
        starts = omega (arith, rest.starts, length-append (layout_unit body) (layout rest.before));
        ends = rest.ends;
      }

  only-spans : (at : ℕ) (bodies : List (List ℕ)) (span : Span) → spans_of ours at (map layout_unit bodies) ≡ span ∷ [] → Only ours at bodies span
  only-spans at [] span e = absurd (nil≢cons e)
  only-spans at (body ∷ bodies) span e =
      only-put (ours body) at body bodies span refl e (λ later. only-spans (at + length (layout_unit body)) bodies span later)

-- THE ANSWERS

-- an accepted area's pieces are its bodies' units
split-pieces : (s : List ℕ) → split_verdict s ≡ Accepted → (cut_of s).pieces ≡ map layout_unit (bodies_of s)
split-pieces s e = ap (λ (t : List ℕ). (cut_of t).pieces) (sym (split-layout s e)) ∙ ap (λ (cut : Cut). cut.pieces) (layout-pieces (bodies_of s) (split-clean s e))

scan-split : (ours : List ℕ → Bool) (s : List ℕ) → split_verdict s ≡ Accepted → spans_of ours 0 (cut_of s).pieces ≡ spans_of ours 0 (map layout_unit (bodies_of s))
scan-split ours s e = ap (λ (pieces : List (List ℕ)). spans_of ours 0 pieces) (split-pieces s e)

scan-layout : (ours : List ℕ → Bool) (bodies : List (List ℕ)) → Each Clean bodies → length (layout bodies) ≤ 16384
    → scan_of ours (layout bodies) ≡ found_of Accepted (spans_of ours 0 (map layout_unit bodies))
scan-layout ours bodies h short =
    ap₂ (λ (verdict : Verdict) (cut : Cut). found_of verdict (spans_of ours 0 cut.pieces)) (layout-accepted bodies h short) (layout-pieces bodies h)

-- No unit of the kind is found exactly where the area is the layout of clean bodies that are all of another kind.
pub nowhere-exactly : (ours : List ℕ → Bool) (s : List ℕ) → scan_of ours s ≡ found.Nowhere
    ↔ ((bodies : List (List ℕ)) × Each Clean bodies × Each (λ (b : List ℕ). ours b ≡ false) bodies × (length s ≤ 16384) × (layout bodies ≡ s))
nowhere-exactly ours s = (
  λ e.
      let verdict-told = found_of-nowhere (split_verdict s) (spans_of ours 0 (cut_of s).pieces) e in
      let foreign = none-spans ours 0 (bodies_of s) (sym (scan-split ours s verdict-told.0) ∙ verdict-told.1) in
      (bodies_of s, split-clean s verdict-told.0, foreign, split-short s verdict-told.0, split-layout s verdict-told.0),
  λ w.
      let short : length (layout w.0) ≤ 16384 = omega (arith, w.3, ap length w.4) in
      ap (λ (t : List ℕ). scan_of ours t) (sym w.4)
      ∙ scan-layout ours w.0 w.1 short
      ∙ ap (λ (spans : List Span). found_of Accepted spans) (spans-none ours 0 w.0 w.2),
)

-- the area with one unit of the kind: its body, the bodies before and after it, and where it stands
pub record Alone (ours : List ℕ → Bool) (s : List ℕ) (unit end : ℕ) : Type 0 where
  pub before : List (List ℕ)
  pub body : List ℕ
  pub after : List (List ℕ)
  pub clean-before : Each Clean before
  pub clean : Clean body
  pub clean_after : Each Clean after
  pub foreign_before : Each (λ (b : List ℕ). ours b ≡ false) before
  pub foreign_after : Each (λ (b : List ℕ). ours b ≡ false) after
  pub mine : ours body ≡ true
  pub short : length s ≤ 16384
  pub whole : layout (before ++ (body ∷ after)) ≡ s
  pub starts : unit ≡ length (layout before)
  pub ends : end ≡ unit + 4 + length body
  pub lies : part (unit + 4) end s ≡ body

-- the body stands behind the four start bytes
pub part_body : (before : List (List ℕ)) (body : List ℕ) (after : List (List ℕ)) (unit end : ℕ) → unit ≡ length (layout before) → end ≡ unit + 4 + length body
    → part (unit + 4) end (layout (before ++ (body ∷ after))) ≡ body
part_body before body after unit end starts ends =
    let size : end - (unit + 4) ≡ length body = omega arith in
    let first : unit + 4 ≡ length (layout before) + 4 = omega arith in
    ap₂ (λ (n k : ℕ). take n (drop k (layout (before ++ (body ∷ after))))) size first
    ∙ ap (λ (s : List ℕ). take (length body) (drop (length (layout before) + 4) s)) (layout-append before (body ∷ after))
    ∙ ap (λ (s : List ℕ). take (length body) s) (drop-append-add (layout before) (layout (body ∷ after)) 4)
    ∙ take-append_seam body (layout after)

-- One unit of the kind is told only in such an area,
pub found_at : (ours : List ℕ → Bool) (s : List ℕ) (unit end : ℕ) → scan_of ours s ≡ found.At unit end → Alone ours s unit end
found_at ours s unit end e =
    let verdict-told = found_of-at (split_verdict s) (spans_of ours 0 (cut_of s).pieces) unit end e in
    let only = only-spans ours 0 (bodies_of s) (record { unit = unit; end = end }) (sym (scan-split ours s verdict-told.0) ∙ verdict-told.1) in
    let whole : layout (only.before ++ (only.body ∷ only.after)) ≡ s = ap layout only.whole ∙ split-layout s verdict-told.0 in
    let clean = append-each Clean only.before (only.body ∷ only.after) (subst (λ (bodies : List (List ℕ)). Each Clean bodies) (sym only.whole) (split-clean s verdict-told.0)) in
    let starts : unit ≡ length (layout only.before) = omega (arith, only.starts) in
    record {
      before = only.before;
      body = only.body;
      after = only.after;
      clean-before = clean.0;
      clean = clean.1.0;
      clean_after = clean.1.1;
      foreign_before = only.foreign_before;
      foreign_after = only.foreign_after;
      mine = only.mine;
      short = split-short s verdict-told.0;
      whole = whole;
      starts = starts;
      ends = only.ends;
      lies =
          ap (λ (t : List ℕ). part (unit + 4) end t) (sym whole)
          ∙ part_body only.before only.body only.after unit end starts only.ends;
    }

-- and each such area is answered so.
pub at-found : (ours : List ℕ → Bool) (before : List (List ℕ)) (body : List ℕ) (after : List (List ℕ))
    → Each Clean before → Clean body → Each Clean after
    → Each (λ (b : List ℕ). ours b ≡ false) before → Each (λ (b : List ℕ). ours b ≡ false) after → ours body ≡ true
    → length (layout (before ++ (body ∷ after))) ≤ 16384
    → scan_of ours (layout (before ++ (body ∷ after))) ≡ found.At (length (layout before)) (length (layout before) + 4 + length body)
at-found ours before body after cb c ca fb fa mine short =
    let none : 0 + length (layout before) ≡ length (layout before) = omega arith in
    scan-layout ours (before ++ (body ∷ after)) (each_append Clean before (body ∷ after) cb (c, ca)) short
    ∙ ap (λ (spans : List Span). found_of Accepted spans) (spans-only ours 0 before body after fb fa mine)
    ∙ ap (λ (n : ℕ). found.At n (n + 4 + length body)) none

-- the spans of an accepted area are as many as its bodies of the kind
length-scan : (ours : List ℕ → Bool) (s : List ℕ) → split_verdict s ≡ Accepted → length (spans_of ours 0 (cut_of s).pieces) ≡ length (of_kind ours (bodies_of s))
length-scan ours s e = ap length (scan-split ours s e) ∙ length-spans ours 0 (bodies_of s)

-- Several units of the kind are counted,
pub many-second : (ours : List ℕ → Bool) (s : List ℕ) (k : ℕ) → scan_of ours s ≡ found.Many k
    → (2 ≤ k) × (k ≡ length (of_kind ours (bodies_of s))) × (split_verdict s ≡ Accepted)
many-second ours s k e =
    let verdict-told = found_of-many (split_verdict s) (spans_of ours 0 (cut_of s).pieces) k e in
    (verdict-told.1, verdict-told.2 ∙ length-scan ours s verdict-told.0, verdict-told.0)

-- and where there are several the answer says so.
pub second-many : (ours : List ℕ → Bool) (s : List ℕ) → split_verdict s ≡ Accepted → 2 ≤ length (of_kind ours (bodies_of s)) → scan_of ours s ≡ found.Many (length (of_kind ours (bodies_of s)))
second-many ours s e h =
    let spans = spans_of ours 0 (cut_of s).pieces in
    let counted : length spans ≡ length (of_kind ours (bodies_of s)) = length-scan ours s e in
    ap (λ (verdict : Verdict). found_of verdict spans) e ∙ many-found spans (omega arith) ∙ ap (λ (k : ℕ). found.Many k) counted

-- What is no list of units is refused as the split refuses it.
pub refused-split : (ours : List ℕ → Bool) (s : List ℕ) (reason : Reason) (item : Item) → scan_of ours s ≡ found.NotUnits reason item ↔ split_verdict s ≡ Refused reason item
refused-split ours s reason item = (
  λ e. found_of-refused (split_verdict s) (spans_of ours 0 (cut_of s).pieces) reason item e,
  λ e. ap (λ (verdict : Verdict). found_of verdict (spans_of ours 0 (cut_of s).pieces)) e,
)
