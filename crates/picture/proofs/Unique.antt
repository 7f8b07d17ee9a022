-- An area has one value: its units are the only ones, and which of them is ours tells the caption unit from the others.
-- Assumes nothing.
use Prim.Native.Nat.{ℕ}
use mathlib.Core.Path.{◌≡◌, ◌∙◌, ap, ap₂, sym, subst, refl}
use mathlib.Core.Bool.{true, true≢false}
use mathlib.Core.List.{List, [], ◌∷◌, ◌++◌, head-eq_of_cons-eq, tail-eq_of_cons-eq}
use Rattle.lists.specs.Each.{Each}
use Rattle.lists.proofs.Each.{each_append, append-each}
use Rattle.units.specs.Layout.{Clean}
use Rattle.units.proofs.Theorems as units
use Rattle.kind.specs.declared.Kind.{Kind}
use Rattle.kind.specs.Ours.{ours}
use Rattle.picture.specs.Kinds.{Content, LegalContent, body_of}
use Rattle.picture.specs.Value.{Area, uncaptioned, captioned, bodies, layout, LegalBodies, Legal}
use Rattle.picture.proofs.Contents.{caption-ours}
use Rattle.picture.proofs.Contents as contents
use Rattle.picture.proofs.CleanBody.{legal-clean}
use Rattle.picture.proofs.Areas.{Other, foreign-clean, foreign-other}

-- the first body that is ours stands at one place
pub record Same (b d : List (List ℕ)) (x y : List ℕ) (a e : List (List ℕ)) : Type 0 where
  before : b ≡ d
  body : x ≡ y
  after : a ≡ e

module _ (k : Kind) where
  pub bodies-clean : (v : Area k) → LegalBodies k v → Each Clean (bodies k v)
  bodies-clean (uncaptioned us) h = foreign-clean k us h
  bodies-clean (captioned before c after) h =
      each_append Clean before (body_of k c ∷ after) (foreign-clean k before h.0) (legal-clean k c h.1, foreign-clean k after h.2)

  both_ways : (body : List ℕ) → ours k body ≡ true → Other k body → ⊥
  both_ways body mine other = true≢false (sym mine ∙ other)

  around : (b d : List (List ℕ)) (x y : List ℕ) (a e : List (List ℕ)) → Each (Other k) b → Each (Other k) d → ours k x ≡ true → ours k y ≡ true
      → b ++ (x ∷ a) ≡ d ++ (y ∷ e) → Same b d x y a e
  around [] [] x y a e hb hd mx my same = record { before = refl; body = head-eq_of_cons-eq same; after = tail-eq_of_cons-eq same }
  around [] (f ∷ d) x y a e hb hd mx my same = absurd (both_ways x mx (subst (Other k) (sym (head-eq_of_cons-eq same)) hd.0))
  around (f ∷ b) [] x y a e hb hd mx my same = absurd (both_ways y my (subst (Other k) (head-eq_of_cons-eq same) hb.0))
  around (f ∷ b) (g ∷ d) x y a e hb hd mx my same =
      let rest = around b d x y a e hb.1 hd.1 mx my (tail-eq_of_cons-eq same) in
      record { before = ap₂ (λ (h : List ℕ) (t : List (List ℕ)). h ∷ t) (head-eq_of_cons-eq same) rest.before; body = rest.body; after = rest.after }

  never : (us before : List (List ℕ)) (c : Content k) (after : List (List ℕ)) → LegalContent k c → Each (Other k) us → us ≡ before ++ (body_of k c ∷ after) → ⊥
  never us before c after legal h e =
      let parts = append-each (Other k) before (body_of k c ∷ after) (subst (λ (bs : List (List ℕ)). Each (Other k) bs) e h) in
      both_ways (body_of k c) (caption-ours k c legal) parts.1.0

  same-bodies : (v w : Area k) → LegalBodies k v → LegalBodies k w → bodies k v ≡ bodies k w → v ≡ w
  same-bodies (uncaptioned us) (uncaptioned ws) hv hw e = ap uncaptioned e
  same-bodies (uncaptioned us) (captioned before c after) hv hw e = absurd (never us before c after hw.1 (foreign-other k us hv) e)
  same-bodies (captioned before c after) (uncaptioned ws) hv hw e = absurd (never ws before c after hv.1 (foreign-other k ws hw) (sym e))
  same-bodies (captioned before c after) (captioned front d back) hv hw e =
      let same =
      around before front (body_of k c) (body_of k d) after back (foreign-other k before hv.0) (foreign-other k front hw.0)
      (caption-ours k c hv.1) (caption-ours k d hw.1) e in
      let value : c ≡ d = contents.only_one k c d hv.1 hw.1 same.body in
      λ i. captioned (same.before i) (value i) (same.after i)

  pub only_one : (v w : Area k) → Legal k v → Legal k w → layout k v ≡ layout k w → v ≡ w
  only_one v w hv hw e =
      same-bodies v w hv.units hw.units (units.only_one (bodies k v) (bodies k w) (bodies-clean v hv.units) (bodies-clean w hw.units) e)
