-- Two kinds of caption unit in one area. What is read of a kind is told by the bodies of that kind alone, so that replacing a unit of the other kind
-- leaves the answer as it was.
-- Assumes nothing.
use Prim.Native.Nat.{ℕ, ◌+◌, ◌≤◌}
use native.Mathlib.Omega.{arith}
use mathlib.Core.Path.{◌≡◌, ◌∙◌, ap, sym, subst, refl}
use mathlib.Core.Bool.{Bool, true, false}
use mathlib.Core.List.{List, [], ◌∷◌, ◌++◌, append-nil, head-eq_of_cons-eq, tail-eq_of_cons-eq}
use lib.ListN.{length, take}
use Rattle.lists.specs.Each.{Each}
use Rattle.lists.specs.Bytes.{Bytes}
use Rattle.lists.specs.Part.{part}
use Rattle.lists.proofs.Each.{append-each}
use Rattle.refusal.specs.declared.Refusal.{Refusal}
use Rattle.refusal.specs.declared.Reason.TheVariants.{SecondUnit}
use Rattle.refusal.specs.declared.Item.TheVariants.{Whole}
use Rattle.refusal.specs.Verdict.{Verdict}
use Rattle.refusal.specs.Verdict.{Accepted, Refused}
use Rattle.refusal.specs.declared.Written.{Written}
use Rattle.refusal.specs.Numbers.{refusal_of}
use Rattle.refusal.specs.Answers.{accepted, lent_of}
use Rattle.refusal.proofs.Acceptance.{told-accepted}
use Rattle.refusal.proofs.Checks.{refused-not-accepted}
use Rattle.kind.specs.declared.Kind.{Kind}
use Rattle.kind.specs.Ours.{ours}
use Rattle.kind.proofs.First.{kinds-apart}
use Rattle.units.specs.declared.Found.{Found}
use Rattle.units.specs.declared.Found.TheVariants as found
use Rattle.units.specs.Layout.{Clean}
use Rattle.units.specs.Layout as units
use Rattle.units.specs.Split.{bodies_of, put_if, of_kind}
use Rattle.units.proofs.Splits.{layout-bodies, layout-accepted}
use Rattle.units.proofs.Spans.{nowhere-exactly, at-found, part_body, second-many}
use Rattle.picture.specs.Kinds.{Content, LegalContent, body_of, content_verdict, value_of, CaptionUnit, held, numbers_of, bytes_of}
use Rattle.picture.specs.Value.{Area, uncaptioned, captioned, bodies, layout, Foreign, LegalBodies, replaced}
use Rattle.picture.specs.Reading.{placed, captions_in, found_verdict, area_verdict, found_content, Answer, answer_of, read_of, Reads, Alike}
use Rattle.picture.specs.Lent.{Head, ReadsInto}
use Rattle.picture.specs.Writing.{Replaces}
use Rattle.picture.proofs.Contents.{caption-ours, body_bytes, legal-held}
use Rattle.picture.proofs.CleanBody.{legal-clean}
use Rattle.picture.proofs.Unique.{bodies-clean}
use Rattle.picture.proofs.Accepting.{refused-in-order, zero-accepted}
use Rattle.picture.proofs.Replacing.{replaces-exactly, the-new-area, new-bytes}

-- FOREIGN TO EACH OTHER

pub other-foreign : (k other : Kind) → (k ≡ other → ⊥) → (s : List ℕ) → Bytes s → Clean s → ours k s ≡ true → Foreign other s
other-foreign k other apart s bytes clean mine = record { bytes = bytes; clean = clean; other = kinds-apart k other s apart mine }

pub caption-foreign : (k other : Kind) → (k ≡ other → ⊥) → (c : Content k) → LegalContent k c → Foreign other (body_of k c)
caption-foreign k other apart c h = other-foreign k other apart (body_of k c) (body_bytes k c h) (legal-clean k c h) (caption-ours k c h)

-- THE BODIES OF ONE KIND

module _ (mine : List ℕ → Bool) where
  none-test : (t : Bool) (b : List ℕ) (bs : List (List ℕ)) → mine b ≡ t → (of_kind mine bs ≡ [] → Each (λ (d : List ℕ). mine d ≡ false) bs)
      → put_if t b (of_kind mine bs) ≡ [] → Each (λ (d : List ℕ). mine d ≡ false) (b ∷ bs)
  none-test false b bs f rest e = (f, rest e)
  none-test true b bs f rest e = let z : ◌≡◌ {A = ℕ} 1 0 = ap length_some e in let f : ⊥ = omega arith in absurd f
    where
      length_some : List (List ℕ) → ℕ
      length_some [] = 0
      length_some (x ∷ xs) = 1

  kind-none : (bs : List (List ℕ)) → of_kind mine bs ≡ [] → Each (λ (d : List ℕ). mine d ≡ false) bs
  kind-none [] e = tt
  kind-none (b ∷ bs) e = none-test (mine b) b bs refl (kind-none bs) e

  -- the only one stands among others
  pub record Lone (bs : List (List ℕ)) (x : List ℕ) : Type 0 where
    before : List (List ℕ)
    after : List (List ℕ)
    whole : bs ≡ before ++ (x ∷ after)
    others-before : Each (λ (d : List ℕ). mine d ≡ false) before
    others-after : Each (λ (d : List ℕ). mine d ≡ false) after
    is-mine : mine x ≡ true

  one-test : (t : Bool) (b : List ℕ) (bs : List (List ℕ)) (x : List ℕ) → mine b ≡ t → (of_kind mine bs ≡ x ∷ [] → Lone bs x)
      → put_if t b (of_kind mine bs) ≡ x ∷ [] → Lone (b ∷ bs) x
  one-test false b bs x f rest e =
      let o = rest e in
      record {
        before = b ∷ o.before;
        after = o.after;
        whole = ap (λ (ds : List (List ℕ)). b ∷ ds) o.whole;
        others-before = (f, o.others-before);
        others-after = o.others-after;
        is-mine = o.is-mine;
      }
  one-test true b bs x f rest e =
      let same : b ≡ x = head-eq_of_cons-eq e in
      record {
        before = [];
        after = bs;
        whole = ap (λ (d : List ℕ). d ∷ bs) same;
        others-before = tt;
        others-after = kind-none bs (tail-eq_of_cons-eq e);
        is-mine = ap mine (sym same) ∙ f;
      }

  kind-one : (bs : List (List ℕ)) (x : List ℕ) → of_kind mine bs ≡ x ∷ [] → Lone bs x
  kind-one [] x e = let z : ◌≡◌ {A = ℕ} 0 1 = ap length e in let f : ⊥ = omega arith in absurd f
  kind-one (b ∷ bs) x e = one-test (mine b) b bs x refl (kind-one bs x) e

  -- one that is not of the kind does not count
  pub kind-around : (before : List (List ℕ)) (x : List ℕ) (after : List (List ℕ)) → mine x ≡ false → of_kind mine (before ++ (x ∷ after)) ≡ of_kind mine (before ++ after)
  kind-around [] x after f = ap (λ (t : Bool). put_if t x (of_kind mine after)) f
  kind-around (b ∷ before) x after f = ap (λ (ds : List (List ℕ)). put_if (mine b) b ds) (kind-around before x after f)

-- WHAT IS TOLD BY THEM

module _ (k : Kind) where
  -- the answer to an area of which these bodies are of the kind, but for the place of a refusal
  abbrev told_by : List (List ℕ) → Answer k
  told_by [] = answer_of k Accepted []
  told_by (x ∷ []) = answer_of k (content_verdict k x) (value_of k x ∷ [])
  told_by (x ∷ y ∷ xs) = answer_of k (Refused SecondUnit Whole) []

  placed_alike : (unit : ℕ) (verdict : Verdict) (cs : List (Content k)) → Alike k (answer_of k (placed unit verdict) cs) (answer_of k verdict cs)
  placed_alike unit Accepted cs = (refl, refl, refl)
  placed_alike unit (Refused reason item) cs = (refl, refl, refl)

  same_alike : (a b : Answer k) → a ≡ b → Alike k a b
  same_alike a b e = (ap (λ (x : Answer k). x.refusal.number) e, ap (λ (x : Answer k). x.present) e, ap (λ (x : Answer k). x.unit) e)

  found-told : (s : List ℕ) (f : Found) → captions_in k s ≡ f → read_of k s ≡ answer_of k (found_verdict k f s) (found_content k f s)
  found-told s f e = ap (λ (g : Found). answer_of k (found_verdict k g s) (found_content k g s)) e

  one_told : (before : List (List ℕ)) (x : List ℕ) (after : List (List ℕ)) → Each Clean before → Clean x → Each Clean after
      → Each (λ (d : List ℕ). ours k d ≡ false) before → Each (λ (d : List ℕ). ours k d ≡ false) after → ours k x ≡ true
      → length (units.layout (before ++ (x ∷ after))) ≤ 16384 → Alike k (read_of k (units.layout (before ++ (x ∷ after)))) (told_by (x ∷ []))
  one_told before x after cb cx ca ob oa mine short =
      let s = units.layout (before ++ (x ∷ after)) in
      let unit = length (units.layout before) in
      let end = unit + 4 + length x in
      let lies : part (unit + 4) end s ≡ x = part_body before x after unit end refl refl in
      let told : read_of k s ≡ answer_of k (placed unit (content_verdict k x)) (value_of k x ∷ []) =
      found-told s (found.At unit end) (at-found (ours k) before x after cb cx ca ob oa mine short)
      ∙ ap (λ (d : List ℕ). answer_of k (placed unit (content_verdict k d)) (value_of k d ∷ [])) lies in
      subst (λ (a : Answer k). Alike k a (told_by (x ∷ []))) (sym told) (placed_alike unit (content_verdict k x) (value_of k x ∷ []))

  only-told : (bs : List (List ℕ)) → Each Clean bs → length (units.layout bs) ≤ 16384 → (x : List ℕ) → Lone (ours k) bs x
      → Alike k (read_of k (units.layout bs)) (told_by (x ∷ []))
  only-told bs clean short x o =
      let parts = append-each Clean o.before (x ∷ o.after) (subst (λ (ds : List (List ℕ)). Each Clean ds) o.whole clean) in
      subst (λ (ds : List (List ℕ)). Alike k (read_of k (units.layout ds)) (told_by (x ∷ []))) (sym o.whole)
      (one_told o.before x o.after parts.0 parts.1.0 parts.1.1 o.others-before o.others-after o.is-mine
      (subst (λ (ds : List (List ℕ)). length (units.layout ds) ≤ 16384) o.whole short))

  bodies-told : (bs : List (List ℕ)) → Each Clean bs → length (units.layout bs) ≤ 16384 → (xs : List (List ℕ)) → of_kind (ours k) bs ≡ xs
      → Alike k (read_of k (units.layout bs)) (told_by xs)
  bodies-told bs clean short [] e =
      same_alike _ _
      (found-told (units.layout bs) found.Nowhere ((nowhere-exactly (ours k) (units.layout bs)).1 (bs, clean, kind-none (ours k) bs e, short, refl)))
  bodies-told bs clean short (x ∷ []) e = only-told bs clean short x (kind-one (ours k) bs x e)
  bodies-told bs clean short (x ∷ y ∷ xs) e =
      let s = units.layout bs in
      let several : 2 ≤ length (of_kind (ours k) (bodies_of s)) =
      subst (λ (ds : List (List ℕ)). 2 ≤ length (of_kind (ours k) ds)) (sym (layout-bodies bs clean)) (subst (λ (ds : List (List ℕ)). 2 ≤ length ds) (sym e) (omega arith)) in
      same_alike _ _ (found-told s _ (second-many (ours k) s (layout-accepted bs clean short) several))

  -- two areas with the same bodies of the kind
  pub same-told : (bs ds : List (List ℕ)) → Each Clean bs → length (units.layout bs) ≤ 16384 → Each Clean ds → length (units.layout ds) ≤ 16384
      → of_kind (ours k) bs ≡ of_kind (ours k) ds → Alike k (read_of k (units.layout bs)) (read_of k (units.layout ds))
  same-told bs ds cb sb cd sd e =
      let one = bodies-told bs cb sb (of_kind (ours k) bs) refl in
      let two = bodies-told ds cd sd (of_kind (ours k) bs) (sym e) in
      (one.0 ∙ sym two.0, one.1 ∙ sym two.1, one.2 ∙ sym two.2)

  -- where such answers accept, they are the same
  accepted-refusal : (s : List ℕ) (a : Answer k) → Reads k s a → a.refusal.number ≡ 0 → a.refusal ≡ accepted
  accepted-refusal s a p e = refused-in-order k s a p ∙ ap refusal_of (zero-accepted k s a p e)

  alike_same : (s t : List ℕ) (a b : Answer k) → Reads k s a → Reads k t b → Alike k b a → a.refusal.number ≡ 0 → b ≡ a
  alike_same s t a b p q h e =
      let refusal : b.refusal ≡ a.refusal = accepted-refusal t b q (h.0 ∙ e) ∙ sym (accepted-refusal s a p e) in
      λ i. record { refusal = refusal i; present = h.1 i; unit = h.2 i }

  -- what they leave in a lent array
  lent_same : (v w : Verdict) (x y lent : List ℕ) → (refusal_of v).number ≡ (refusal_of w).number → x ≡ y → lent_of v x lent ≡ lent_of w y lent
  lent_same Accepted Accepted x y lent n e = e
  lent_same Accepted (Refused reason item) x y lent n e = refused-not-accepted reason item (told-accepted (Refused reason item) (sym n))
  lent_same (Refused reason item) Accepted x y lent n e = refused-not-accepted reason item (told-accepted (Refused reason item) n)
  lent_same (Refused reason item) (Refused other-reason other_item) x y lent n e = refl

  number-told : (s : List ℕ) → Bytes s → (read_of k s).refusal.number ≡ (refusal_of (area_verdict k s)).number
  number-told s bytes = ap (λ (r : Refusal). r.number) (refused-in-order k s (read_of k s) (record { bytes = bytes; answer = refl }))

-- REPLACING LEAVES THE OTHER KIND

module _ (k other : Kind) (apart : k ≡ other → ⊥) where
  caption-other : (c : Content k) → LegalContent k c → ours other (body_of k c) ≡ false
  caption-other c h = kinds-apart k other (body_of k c) apart (caption-ours k c h)

  others-kept : (v : Area k) → LegalBodies k v → (c : Content k) → LegalContent k c → of_kind (ours other) (bodies k (replaced k v c)) ≡ of_kind (ours other) (bodies k v)
  others-kept (uncaptioned us) old c h = kind-around (ours other) us (body_of k c) [] (caption-other c h) ∙ ap (of_kind (ours other)) (append-nil us)
  others-kept (captioned before d after) old c h =
      kind-around (ours other) before (body_of k c) after (caption-other c h)
      ∙ sym (kind-around (ours other) before (body_of k d) after (caption-other d old.1))

  module _ (s : List ℕ) (u : CaptionUnit k) (out : List ℕ) (r : Written) (exit : List ℕ) (p : Replaces k s u out r exit) (done : r.refusal.number ≡ 0) where
    told-kept : Alike other (read_of other (take r.len exit)) (read_of other s)
    told-kept =
        let w = (replaces-exactly k s u out r exit p).0 done in
        let v : Area k = w.0 in
        let here : Replaces k (layout k v) u out r exit = subst (λ (t : List ℕ). Replaces k t u out r exit) (sym w.2) p in
        let new = the-new-area k v w.1 u out r exit here done in
        let told = same-told other (bodies k (replaced k v (held k u))) (bodies k v)
        (bodies-clean k (replaced k v (held k u)) new.2.units) new.2.short (bodies-clean k v w.1.units) w.1.short (others-kept v w.1.units (held k u) (legal-held k u w.3)) in
        subst (λ (t : List ℕ). Alike other (read_of other t) (read_of other s)) (sym (new-bytes k v w.1 u out r exit here done))
        (subst (λ (t : List ℕ). Alike other (read_of other (layout k (replaced k v (held k u)))) (read_of other t)) w.2 told)

    pub other-kept : (a b : Answer other) → Reads other s a → Reads other (take r.len exit) b → Alike other b a × (a.refusal.number ≡ 0 → b ≡ a)
    other-kept a b reads again =
        let h : Alike other b a = subst (λ (x : Answer other). Alike other b x) (sym reads.answer)
        (subst (λ (x : Answer other). Alike other x (read_of other s)) (sym again.answer) told-kept) in
        (h, alike_same other s (take r.len exit) a b reads again h)

    -- the same of what is read into a lent array
    pub other-kept-into : (lent : List ℕ) (a : Head other) (kept : List ℕ) (b : Head other) (end : List ℕ)
        → ReadsInto other s lent a kept → ReadsInto other (take r.len exit) lent b end
        → (b.refusal.number ≡ a.refusal.number) × (b.present ≡ a.present) × (b.numbers ≡ a.numbers) × (end ≡ kept)
    other-kept-into lent a kept b end reads again =
        let t = take r.len exit in
        let number = sym (number-told other t again.bytes) ∙ told-kept.0 ∙ number-told other s reads.bytes in (
          ap (λ (h : Head other). h.refusal.number) again.answer ∙ told-kept.0 ∙ sym (ap (λ (h : Head other). h.refusal.number) reads.answer),
          ap (λ (h : Head other). h.present) again.answer ∙ told-kept.1 ∙ sym (ap (λ (h : Head other). h.present) reads.answer),
          ap (λ (h : Head other). h.numbers) again.answer ∙ ap (numbers_of other) told-kept.2 ∙ sym (ap (λ (h : Head other). h.numbers) reads.answer),
          again.left ∙ lent_same other (area_verdict other t) (area_verdict other s) _ _ lent number (ap (bytes_of other) told-kept.2) ∙ sym reads.left,
        )
