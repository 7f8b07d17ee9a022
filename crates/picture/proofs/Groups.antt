-- Data groups, units whose bodies begin 03 09 or 03 0A, in an area: foreign, wherever they stand.
-- Assumes nothing.
use Prim.Native.Nat.{ℕ, zero, suc, ◌≤◌, ◌<◌}
use native.Mathlib.Omega.{arith}
use mathlib.Core.Path.{◌≡◌, ◌∙◌, ap, sym, subst, refl}
use mathlib.Core.Bool.{Bool, true, false, true≢false}
use mathlib.Core.List.{List, [], ◌∷◌, ◌++◌}
use lib.ListN.{length, get_or, take, length-append, get_or-append}
use Rattle.lists.specs.Each.{Each}
use Rattle.lists.specs.Bytes.{Bytes}
use Rattle.lists.proofs.Each.{each_append, each_both}
use Rattle.refusal.specs.Verdict.{Accepted}
use Rattle.refusal.specs.declared.Written.{Written}
use Rattle.refusal.specs.Answers.{refused}
use Rattle.kind.specs.declared.Kind.{Kind}
use Rattle.kind.specs.declared.Kind.TheVariants.{Scte20}
use Rattle.kind.specs.Ours.{group_type, grouped, ours}
use Rattle.kind.proofs.First as first
use Rattle.units.specs.Layout.{Clean}
use Rattle.units.specs.Layout as units
use Rattle.units.specs.Split.{bodies_of}
use Rattle.units.proofs.Splits.{layout-append, layout-bodies, length-around, split-bytes, layout-accepted}
use Rattle.scte20.specs.Value.{flag_byte}
use Rattle.scte20.proofs.Holding.{accepted-whole}
use Rattle.picture.specs.Kinds.{Content, body_of, CaptionUnit, held, whole_verdict}
use Rattle.picture.specs.Value.{Area, uncaptioned, captioned, bodies, layout, Foreign, LegalBodies, Legal, replaced}
use Rattle.picture.specs.Reading.{Answer, read_of, shown, Reads, Alike}
use Rattle.picture.specs.Writing.{Writes, Replaces}
use Rattle.picture.proofs.Contents.{caption-ours}
use Rattle.picture.proofs.Unique.{bodies-clean}
use Rattle.picture.proofs.Accepting.{the-answer}
use Rattle.picture.proofs.Writing.{write-15}
use Rattle.picture.proofs.Replacing.{replaces-exactly, new-units, replace-15}
use Rattle.picture.proofs.Beside.{kind-around, same-told}

-- READING

pub group-foreign : (k : Kind) (s : List ℕ) → Bytes s → Clean s → grouped s ≡ true → Foreign k s
group-foreign k s bytes clean group = record { bytes = bytes; clean = clean; other = first.group-foreign k s group }

-- with a foreign unit and without it the answers are alike
pub foreign-alike : (k : Kind) (before : List (List ℕ)) (s : List ℕ) (after : List (List ℕ)) → Each Clean before → Clean s → Each Clean after
    → ours k s ≡ false → length (units.layout (before ++ (s ∷ after))) ≤ 16384
    → (a b : Answer k) → Reads k (units.layout (before ++ (s ∷ after))) a → Reads k (units.layout (before ++ after)) b → Alike k a b
foreign-alike k before s after cb cs ca other short a b reads without =
    let less : length (units.layout (before ++ after)) ≤ 16384 =
    omega (arith, length-around before s after, ap length (layout-append before after) ∙ length-append (units.layout before) (units.layout after)) in
    let told = same-told k (before ++ (s ∷ after)) (before ++ after)
    (each_append Clean before (s ∷ after) cb (cs, ca)) short (each_append Clean before after cb ca) less (kind-around (ours k) before s after other) in
    subst (λ (x : Answer k). Alike k a x) (sym without.answer) (subst (λ (x : Answer k). Alike k x (read_of k (units.layout (before ++ after)))) (sym reads.answer) told)

pub group-alike : (k : Kind) (before : List (List ℕ)) (s : List ℕ) (after : List (List ℕ)) → Each Clean before → Clean s → Each Clean after
    → grouped s ≡ true → length (units.layout (before ++ (s ∷ after))) ≤ 16384
    → (a b : Answer k) → Reads k (units.layout (before ++ (s ∷ after))) a → Reads k (units.layout (before ++ after)) b → Alike k a b
group-alike k before s after cb cs ca group = foreign-alike k before s after cb cs ca (first.group-foreign k s group)

-- what begins 03 only as a data group does is none of SCTE 20's
group-other : (s : List ℕ) → (get_or s 0 0 ≡ 3 → grouped s ≡ true) → ours Scte20 s ≡ false
group-other s h = go (ours Scte20 s) refl
  where
    go : (t : Bool) → ours Scte20 s ≡ t → ours Scte20 s ≡ false
    go false e = e
    go true e = let begins = first.scte20-begins s e in absurd (true≢false (sym (h begins.0) ∙ begins.1))

pub group-none : (bs : List (List ℕ)) → Each Clean bs → length (units.layout bs) ≤ 16384 → Each (λ (s : List ℕ). get_or s 0 0 ≡ 3 → grouped s ≡ true) bs
    → (r : Answer Scte20) → Reads Scte20 (units.layout bs) r → r ≡ shown Scte20 (uncaptioned bs)
group-none bs clean short groups r reads =
    let bytes : Each Bytes bs = subst (λ (ds : List (List ℕ)). Each Bytes ds) (layout-bodies bs clean) (split-bytes (units.layout bs) (layout-accepted bs clean short) reads.bytes) in
    let both : Each (λ (s : List ℕ). Bytes s × Clean s) bs = each_both Bytes Clean (λ (s : List ℕ). Bytes s × Clean s) (λ s b c. (b, c)) bs bytes clean in
    let foreign : Each (Foreign Scte20) bs =
    each_both (λ (s : List ℕ). Bytes s × Clean s) (λ (s : List ℕ). get_or s 0 0 ≡ 3 → grouped s ≡ true) (Foreign Scte20)
    (λ s b h. record { bytes = b.0; clean = b.1; other = group-other s h }) bs both groups in
    the-answer Scte20 (uncaptioned bs) (record { units = foreign; short = short }) r reads

-- REPLACING

module _ (k : Kind) where
  -- where one body of the kind gives way to another, each that is not of the kind stays
  stays-around : (before : List (List ℕ)) (x y : List ℕ) (after : List (List ℕ)) (i : ℕ) → ours k x ≡ true → i < length (before ++ (x ∷ after))
      → ours k (get_or (before ++ (x ∷ after)) i []) ≡ false
      → (i < length (before ++ (y ∷ after))) × (get_or (before ++ (y ∷ after)) i [] ≡ get_or (before ++ (x ∷ after)) i [])
  stays-around [] x y after zero mine low other = absurd (true≢false (sym mine ∙ other))
  stays-around [] x y after (suc i) mine low other = (omega arith, refl)
  stays-around (b ∷ before) x y after zero mine low other = (omega arith, refl)
  stays-around (b ∷ before) x y after (suc i) mine low other =
      let rest = stays-around before x y after i mine (omega arith) other in
      (omega (arith, rest.0), rest.1)

  stays : (v : Area k) → LegalBodies k v → (c : Content k) (i : ℕ) → i < length (bodies k v) → ours k (get_or (bodies k v) i []) ≡ false
      → (i < length (bodies k (replaced k v c))) × (get_or (bodies k (replaced k v c)) i [] ≡ get_or (bodies k v) i [])
  stays (uncaptioned us) h c i low other =
      (omega (arith, length-append us (body_of k c ∷ [])), get_or-append us (body_of k c ∷ []) [] i low)
  stays (captioned before d after) h c i low other = stays-around before (body_of k d) (body_of k c) after i (caption-ours k d h.1) low other

  module _ (s : List ℕ) (u : CaptionUnit k) (out : List ℕ) (r : Written) (exit : List ℕ) (p : Replaces k s u out r exit) (done : r.refusal.number ≡ 0) where
    pub foreign-stays : (i : ℕ) → i < length (bodies_of s) → ours k (get_or (bodies_of s) i []) ≡ false
        → (i < length (bodies_of (take r.len exit))) × (get_or (bodies_of (take r.len exit)) i [] ≡ get_or (bodies_of s) i [])
    foreign-stays i low other =
        let w = (replaces-exactly k s u out r exit p).0 done in
        let v : Area k = w.0 in
        let old : bodies_of s ≡ bodies k v = ap bodies_of (sym w.2) ∙ layout-bodies (bodies k v) (bodies-clean k v w.1.units) in
        let new : bodies_of (take r.len exit) ≡ bodies k (replaced k v (held k u)) =
        new-units k v w.1 u out r exit (subst (λ (t : List ℕ). Replaces k t u out r exit) (sym w.2) p) done in
        let kept = stays v w.1.units (held k u) i (subst (λ (bs : List (List ℕ)). i < length bs) old low) (subst (λ (bs : List (List ℕ)). ours k (get_or bs i []) ≡ false) old other) in (
          subst (λ (bs : List (List ℕ)). i < length bs) (sym new) kept.0,
          ap (λ (bs : List (List ℕ)). get_or bs i []) new ∙ kept.1 ∙ sym (ap (λ (bs : List (List ℕ)). get_or bs i []) old),
        )

    pub group-stays : (i : ℕ) → i < length (bodies_of s) → grouped (get_or (bodies_of s) i []) ≡ true
        → (i < length (bodies_of (take r.len exit))) × (get_or (bodies_of (take r.len exit)) i [] ≡ get_or (bodies_of s) i [])
    group-stays i low group = foreign-stays i low (first.group-foreign k (get_or (bodies_of s) i []) group)

-- WRITING

-- a value that would be one is refused
group-refused : (u : CaptionUnit Scte20) → group_type (flag_byte u.reserved u.vbi_data_flag) ≡ true → whole_verdict Scte20 u ≡ Accepted → ⊥
group-refused u group e = true≢false (sym group ∙ (accepted-whole u e).no_group)

pub write-group : (u : CaptionUnit Scte20) (out : List ℕ) (r : Written) (exit : List ℕ) → Writes Scte20 u out r exit
    → group_type (flag_byte u.reserved u.vbi_data_flag) ≡ true → r.refusal ≡ refused 15 0
write-group u out r exit p group = write-15 Scte20 u out r exit p (group-refused u group)

pub replace-group : (v : Area Scte20) → Legal Scte20 v → (u : CaptionUnit Scte20) (out : List ℕ) (r : Written) (exit : List ℕ)
    → Replaces Scte20 (layout Scte20 v) u out r exit → group_type (flag_byte u.reserved u.vbi_data_flag) ≡ true → r.refusal ≡ refused 15 0
replace-group v h u out r exit p group = replace-15 Scte20 v h u out r exit p (group-refused u group)
