-- Layout and split undo each other: what is accepted is the layout of its bodies, which are clean, and the layout of clean bodies is accepted where
-- it is short enough, and split into them. RULES, "Picture area".
-- Assumes nothing.
use Prim.Native.Nat.{ℕ, ◌+◌, ◌≤◌, ◌<◌}
use native.Mathlib.Omega.{arith}
use mathlib.Core.Path.{◌≡◌, ◌∙◌, ap, ap₂, sym, subst, refl}
use mathlib.Core.Bool.{Bool, true, false, not, ◌&&◌, false≢true, and-eq-true_iff}
use mathlib.Core.List.{List, [], ◌∷◌, ◌++◌, map, append_assoc}
use borrow.Author.Tests.{eqb-true, le-ltb, not-false}
use lib.ListN.{length, get_or, drop, length-append}
use lib.Dec.{eqb, ltb}
use Rattle.lists.specs.Each.{Each}
use Rattle.lists.specs.Bytes.{Bytes}
use Rattle.lists.proofs.Each.{append-each}
use Rattle.refusal.specs.Verdict.{Accepted}
use Rattle.refusal.specs.declared.Reason.TheVariants.{TooLong, NoStart, StartCode}
use Rattle.refusal.specs.declared.Item.TheVariants.{Whole}
use Rattle.refusal.specs.Checks.{refuse_if, and_then}
use Rattle.refusal.proofs.Checks.{accepted-refuse_if, accepted-within, accepted-and_then}
use Rattle.units.specs.Layout.{prefixed, Clean, layout_unit, layout}
use Rattle.units.specs.Split.{Cut, cut_at, cut_of, opened, all_opened, empty, front_verdict, split_verdict, bodies_of}
use Rattle.units.proofs.Cuts.{prefixed-front, unprefixed-code, joined, cut-whole, cut-start, Piece, each-piece, piece-clean, cut-clean}

-- FROM BYTES TO BODIES

-- what acceptance tells
record Checked (s : List ℕ) : Type 0 where
  short : length s ≤ 16384
  front : not (empty s) && not (opened s) ≡ false
  each : all_opened (cut_of s).pieces ≡ true

checked : (s : List ℕ) → split_verdict s ≡ Accepted → Checked s
unfolding split_verdict front_verdict
checked s e =
    let long = refuse_if (ltb 16384 (length s)) TooLong Whole in
    let unstarted = refuse_if (not (empty s) && not (opened s)) NoStart Whole in
    let code = refuse_if (not (all_opened (cut_of s).pieces)) StartCode Whole in
    let both = accepted-and_then (and_then long (and_then unstarted Accepted)) (and_then code Accepted) e in
    let front = accepted-and_then long (and_then unstarted Accepted) both.0 in
    let second = (accepted-and_then unstarted Accepted front.1).0 in
    let third = (accepted-and_then code Accepted both.1).0 in
    record {
      short = accepted-within 16384 (length s) TooLong Whole front.0;
      front = accepted-refuse_if (not (empty s) && not (opened s)) NoStart Whole second;
      each = not-false (all_opened (cut_of s).pieces) (accepted-refuse_if (not (all_opened (cut_of s).pieces)) StartCode Whole third);
    }

pub split-short : (s : List ℕ) → split_verdict s ≡ Accepted → length s ≤ 16384
split-short s e = (checked s e).short

-- a piece with its start code is its unit's layout
code-second : (r : List ℕ) → eqb (get_or r 0 0) 0xB2 ≡ true → r ≡ 0xB2 ∷ drop 1 r
code-second [] e = absurd (false≢true e)
code-second (c ∷ r) e = ap (λ (x : ℕ). x ∷ r) (eqb-true c 0xB2 e)

opened-layout : (piece : List ℕ) → opened piece ≡ true → layout_unit (drop 4 piece) ≡ piece
opened-layout piece e =
    let both = (and-eq-true_iff (prefixed piece) (eqb (get_or piece 3 0) 0xB2)).0 e in
    let front = prefixed-front piece both.0 in
    let rest = code-second (drop 3 piece) (ap (λ (s : List ℕ). eqb (get_or s 3 0) 0xB2) (sym front) ∙ both.1) in
    let whole : piece ≡ 0 ∷ 0 ∷ 1 ∷ 0xB2 ∷ drop 1 (drop 3 piece) = front ∙ ap (λ (r : List ℕ). 0 ∷ 0 ∷ 1 ∷ r) rest in
    ap (λ (s : List ℕ). layout_unit (drop 4 s)) whole ∙ sym whole

pieces-layout : (pieces : List (List ℕ)) → all_opened pieces ≡ true → layout (map (λ (piece : List ℕ). drop 4 piece) pieces) ≡ joined pieces
pieces-layout [] e = refl
pieces-layout (piece ∷ pieces) e =
    let both = (and-eq-true_iff (opened piece) (all_opened pieces)).0 e in
    ap₂ (λ (x y : List ℕ). x ++ y) (opened-layout piece both.0) (pieces-layout pieces both.1)

-- nothing stands before the first start code
before-none : (s : List ℕ) → not (empty s) && not (opened s) ≡ false → (cut_of s).before ≡ []
before-none [] e = refl
before-none (b ∷ s) e =
    let starts = ((and-eq-true_iff (prefixed (b ∷ s)) (eqb (get_or (b ∷ s) 3 0) 0xB2)).0 (not-false (opened (b ∷ s)) e)).0 in
    ap (λ (t : Bool). (cut_at t b (cut_of s)).before) starts

pub split-layout : (s : List ℕ) → split_verdict s ≡ Accepted → layout (bodies_of s) ≡ s
split-layout s e =
    let fine = checked s e in
    pieces-layout (cut_of s).pieces fine.each
    ∙ ap (λ (front : List ℕ). front ++ joined (cut_of s).pieces) (sym (before-none s fine.front))
    ∙ cut-whole s

pieces-clean : (pieces : List (List ℕ)) → Each Piece pieces → Each Clean (map (λ (piece : List ℕ). drop 4 piece) pieces)
pieces-clean [] h = tt
pieces-clean (piece ∷ pieces) h = (piece-clean piece h.0, pieces-clean pieces h.1)

pub split-clean : (s : List ℕ) → split_verdict s ≡ Accepted → Each Clean (bodies_of s)
split-clean s e = pieces-clean (cut_of s).pieces (each-piece s)

layout-bytes : (bodies : List (List ℕ)) → Bytes (layout bodies) → Each Bytes bodies
layout-bytes [] h = tt
layout-bytes (body ∷ bodies) h =
    let both = append-each (λ (b : ℕ). b < 256) body (layout bodies) h.1.1.1.1 in
    (both.0, layout-bytes bodies both.1)

pub split-bytes : (s : List ℕ) → split_verdict s ≡ Accepted → Bytes s → Each Bytes (bodies_of s)
split-bytes s e h = layout-bytes (bodies_of s) (subst Bytes (sym (split-layout s e)) h)

-- FROM BODIES TO BYTES

pub layout-append : (front back : List (List ℕ)) → layout (front ++ back) ≡ layout front ++ layout back
layout-append [] back = refl
layout-append (body ∷ front) back =
    ap (λ (s : List ℕ). layout_unit body ++ s) (layout-append front back) ∙ sym (append_assoc (layout_unit body) (layout front) (layout back))

-- one unit among others
pub length-around : (before : List (List ℕ)) (body : List ℕ) (after : List (List ℕ))
    → length (layout (before ++ (body ∷ after))) ≡ length (layout before) + 4 + length body + length (layout after)
length-around before body after =
    let rest = layout_unit body ++ layout after in
    let all : length (layout (before ++ (body ∷ after))) ≡ length (layout before) + length rest =
    ap length (layout-append before (body ∷ after)) ∙ length-append (layout before) rest in
    omega (arith, all, length-append (layout_unit body) (layout after))

pub layout-pieces : (bodies : List (List ℕ)) → Each Clean bodies → cut_of (layout bodies) ≡ record { before = []; pieces = map layout_unit bodies }
layout-pieces [] h = refl
layout-pieces (body ∷ bodies) h =
    let behind = cut-clean (0xB2 ∷ body) bodies (unprefixed-code body, h.0) in
    cut-start (0xB2 ∷ (body ++ layout bodies))
    ∙ λ i. record {
      before = [];
      pieces = (0 ∷ 0 ∷ 1 ∷ behind.0 i) ∷ (behind.1 ∙ ap (λ (cut : Cut). cut.pieces) (layout-pieces bodies h.1)) i;
    }

bodies-layout : (bodies : List (List ℕ)) → map (λ (piece : List ℕ). drop 4 piece) (map layout_unit bodies) ≡ bodies
bodies-layout [] = refl
bodies-layout (body ∷ bodies) = ap (λ (rest : List (List ℕ)). body ∷ rest) (bodies-layout bodies)

pub layout-bodies : (bodies : List (List ℕ)) → Each Clean bodies → bodies_of (layout bodies) ≡ bodies
layout-bodies bodies h = ap (λ (cut : Cut). map (λ (piece : List ℕ). drop 4 piece) cut.pieces) (layout-pieces bodies h) ∙ bodies-layout bodies

layout-opened : (bodies : List (List ℕ)) → all_opened (map layout_unit bodies) ≡ true
layout-opened [] = refl
layout-opened (body ∷ bodies) = layout-opened bodies

layout-starts : (bodies : List (List ℕ)) → not (empty (layout bodies)) && not (opened (layout bodies)) ≡ false
layout-starts [] = refl
layout-starts (body ∷ bodies) = refl

pub layout-accepted : (bodies : List (List ℕ)) → Each Clean bodies → length (layout bodies) ≤ 16384 → split_verdict (layout bodies) ≡ Accepted
unfolding split_verdict front_verdict
layout-accepted bodies h short =
    let each : all_opened (cut_of (layout bodies)).pieces ≡ true = ap (λ (cut : Cut). all_opened cut.pieces) (layout-pieces bodies h) ∙ layout-opened bodies in
    simp (le-ltb 16384 (length (layout bodies)) short, layout-starts bodies, each)
