-- What the first bytes of a body decide. Assumes nothing.
use Prim.Native.Nat.{ℕ, ◌≤◌, ◌<◌}
use native.Mathlib.Omega.{arith}
use mathlib.Core.Path.{◌≡◌, ◌∙◌, ap, ap₂, refl, sym}
use mathlib.Core.Logic.{◌↔◌, ◌⊎◌, inl, inr}
use mathlib.Core.Bool.{Bool, true, false, not, ◌&&◌, ◌||◌, and-eq-true_iff, false≢true}
use mathlib.Core.List.{List, [], ◌∷◌}
use borrow.Author.Tests.{eqb-true, eq-eqb, ne_eqb, not-true}
use lib.Dec.{eqb}
use lib.ListN.{length, get_or, drop}
use Rattle.kind.specs.declared.Kind.{Kind}
use Rattle.kind.specs.declared.Kind.TheVariants.{Scte20, Ga94}
use Rattle.kind.specs.Ours.{group_type, grouped, typed, typed_or_ends, identified, ours}

-- SCTE 20

pub typed_nothing : (body : List ℕ) → length body ≡ 0 → typed body ≡ false
typed_nothing [] e = refl
typed_nothing (b ∷ body) e = let f : ⊥ = omega arith in absurd f

-- the first byte is another
pub typed-other : (body : List ℕ) → (get_or body 0 0 ≡ 3 → ⊥) → typed body ≡ false
typed-other [] h = refl
typed-other (b ∷ body) h = ap (λ (t : Bool). t && not (grouped (b ∷ body))) (ne_eqb b 3 h)

-- it is 03, and the only one
pub typed-alone : (body : List ℕ) → length body ≡ 1 → get_or body 0 0 ≡ 3 → typed body ≡ true
typed-alone [] h e = let f : ⊥ = omega arith in absurd f
typed-alone (b ∷ []) h e = ap (λ (t : Bool). t && true) (eq-eqb b 3 e)
typed-alone (b ∷ c ∷ body) h e = let f : ⊥ = omega arith in absurd f

-- another follows
pub typed-next : (body : List ℕ) → 2 ≤ length body → get_or body 0 0 ≡ 3 → typed body ≡ not (group_type (get_or body 1 0))
typed-next [] h e = let f : ⊥ = omega arith in absurd f
typed-next (b ∷ []) h e = let f : ⊥ = omega arith in absurd f
typed-next (b ∷ c ∷ body) h e = ap (λ (t : Bool). t && not (t && group_type c)) (eq-eqb b 3 e)

-- so two bytes decide, or one where there is no more
pub scte20-first : (body : List ℕ) → 2 ≤ length body → ours Scte20 body ≡ eqb (get_or body 0 0) 3 && not (group_type (get_or body 1 0))
unfolding ours
scte20-first [] h = let f : ⊥ = omega arith in absurd f
scte20-first (b ∷ []) h = let f : ⊥ = omega arith in absurd f
scte20-first (b ∷ c ∷ body) h = go (eqb b 3)
  where
    go : (t : Bool) → (t && not (t && group_type c)) ≡ (t && not (group_type c))
    go true = refl
    go false = refl

pub scte20-alone : (b : ℕ) → ours Scte20 (b ∷ []) ≡ eqb b 3
unfolding ours
scte20-alone b = and-true (eqb b 3)
  where
    and-true : (t : Bool) → (t && true) ≡ t
    and-true true = refl
    and-true false = refl

-- what is SCTE 20's begins 03, and no data group
pub scte20-begins : (body : List ℕ) → ours Scte20 body ≡ true → (get_or body 0 0 ≡ 3) × (grouped body ≡ false)
unfolding ours
scte20-begins [] e = absurd (false≢true e)
scte20-begins (b ∷ body) e =
    let both = (and-eq-true_iff (eqb b 3) (not (grouped (b ∷ body)))).0 e in
    (eqb-true b 3 both.0, not-true (grouped (b ∷ body)) both.1)

-- GA94

pub identified-short : (body : List ℕ) → length body < 4 → identified body ≡ false
identified-short [] h = refl
identified-short (a ∷ []) h = refl
identified-short (a ∷ b ∷ []) h = refl
identified-short (a ∷ b ∷ c ∷ []) h = refl
identified-short (a ∷ b ∷ c ∷ d ∷ body) h = let f : ⊥ = omega arith in absurd f

pub ga94-short : (body : List ℕ) → length body < 4 → ours Ga94 body ≡ false
unfolding ours
ga94-short = identified-short

pub identified-first : (body : List ℕ) → 4 ≤ length body
    → identified body
    ≡ eqb (get_or body 0 0) 0x47 && (eqb (get_or body 1 0) 0x41 && (eqb (get_or body 2 0) 0x39 && (eqb (get_or body 3 0) 0x34 && typed_or_ends (drop 4 body))))
identified-first [] h = let f : ⊥ = omega arith in absurd f
identified-first (a ∷ []) h = let f : ⊥ = omega arith in absurd f
identified-first (a ∷ b ∷ []) h = let f : ⊥ = omega arith in absurd f
identified-first (a ∷ b ∷ c ∷ []) h = let f : ⊥ = omega arith in absurd f
identified-first (a ∷ b ∷ c ∷ d ∷ body) h = refl

pub ga94-first : (body : List ℕ) → 4 ≤ length body
    → ours Ga94 body
    ≡ eqb (get_or body 0 0) 0x47 && (eqb (get_or body 1 0) 0x41 && (eqb (get_or body 2 0) 0x39 && (eqb (get_or body 3 0) 0x34 && typed_or_ends (drop 4 body))))
unfolding ours
ga94-first = identified-first

pub ends_there : (body : List ℕ) → length body ≡ 4 → typed_or_ends (drop 4 body) ≡ true
ends_there [] h = let f : ⊥ = omega arith in absurd f
ends_there (a ∷ []) h = let f : ⊥ = omega arith in absurd f
ends_there (a ∷ b ∷ []) h = let f : ⊥ = omega arith in absurd f
ends_there (a ∷ b ∷ c ∷ []) h = let f : ⊥ = omega arith in absurd f
ends_there (a ∷ b ∷ c ∷ d ∷ []) h = refl
ends_there (a ∷ b ∷ c ∷ d ∷ e ∷ body) h = let f : ⊥ = omega arith in absurd f

pub typed-there : (body : List ℕ) → 4 < length body → typed_or_ends (drop 4 body) ≡ eqb (get_or body 4 0) 3
typed-there [] h = let f : ⊥ = omega arith in absurd f
typed-there (a ∷ []) h = let f : ⊥ = omega arith in absurd f
typed-there (a ∷ b ∷ []) h = let f : ⊥ = omega arith in absurd f
typed-there (a ∷ b ∷ c ∷ []) h = let f : ⊥ = omega arith in absurd f
typed-there (a ∷ b ∷ c ∷ d ∷ []) h = let f : ⊥ = omega arith in absurd f
typed-there (a ∷ b ∷ c ∷ d ∷ e ∷ body) h = refl

-- BOTH

-- a unit without a body is of no kind
pub ours-nothing : (kind : Kind) → ours kind [] ≡ false
unfolding ours
ours-nothing Scte20 = refl
ours-nothing Ga94 = refl

-- the first byte tells the kinds apart: 03, or 47
abbrev first_of : Kind → ℕ
first_of Scte20 = 3
first_of Ga94 = 0x47

first-there : (kind : Kind) (b : ℕ) (body : List ℕ) → ours kind (b ∷ body) ≡ true → b ≡ first_of kind
unfolding ours
first-there Scte20 b body e = eqb-true b 3 ((and-eq-true_iff (eqb b 3) _).0 e).0
first-there Ga94 b [] e = absurd (false≢true e)
first-there Ga94 b (c ∷ []) e = absurd (false≢true e)
first-there Ga94 b (c ∷ d ∷ []) e = absurd (false≢true e)
first-there Ga94 b (c ∷ d ∷ f ∷ body) e = eqb-true b 0x47 ((and-eq-true_iff (eqb b 0x47) _).0 e).0

apart : (kind other : Kind) → (kind ≡ other → ⊥) → first_of kind ≡ first_of other → ⊥
apart Scte20 Scte20 h e = h refl
apart Scte20 Ga94 h e = omega (arith, e)
apart Ga94 Scte20 h e = omega (arith, e)
apart Ga94 Ga94 h e = h refl

pub kinds-apart : (kind other : Kind) (body : List ℕ) → (kind ≡ other → ⊥) → ours kind body ≡ true → ours other body ≡ false
kinds-apart kind other [] h e = ours-nothing other
kinds-apart kind other (b ∷ body) h e = go (ours other (b ∷ body)) refl
  where
    go : (t : Bool) → ours other (b ∷ body) ≡ t → ours other (b ∷ body) ≡ false
    go false f = f
    go true f = absurd (apart kind other h (sym (first-there kind b body e) ∙ first-there other b body f))

-- DATA GROUPS

pub group-types : (b : ℕ) → group_type b ≡ true ↔ ((b ≡ 0x09) ⊎ (b ≡ 0x0A))
group-types b = (told (eqb b 0x09) (eqb b 0x0A) refl refl, back)
  where
    told : (s t : Bool) → eqb b 0x09 ≡ s → eqb b 0x0A ≡ t → (s || t) ≡ true → (b ≡ 0x09) ⊎ (b ≡ 0x0A)
    told true t e f h = inl (eqb-true b 0x09 e)
    told false true e f h = inr (eqb-true b 0x0A f)
    told false false e f h = absurd (false≢true h)

    back : (b ≡ 0x09) ⊎ (b ≡ 0x0A) → group_type b ≡ true
    back (inl e) = ap group_type e
    back (inr e) = ap group_type e

-- a data group is foreign to either kind
pub group-foreign : (kind : Kind) (body : List ℕ) → grouped body ≡ true → ours kind body ≡ false
unfolding ours
group-foreign kind [] e = absurd (false≢true e)
group-foreign kind (a ∷ []) e = absurd (false≢true e)
group-foreign Scte20 (a ∷ b ∷ body) e = ap₂ (λ (s t : Bool). s && not t) ((and-eq-true_iff (eqb a 3) (group_type b)).0 e).0 e
group-foreign Ga94 (a ∷ b ∷ body) e = go (ours Ga94 (a ∷ b ∷ body)) refl
  where
    go : (t : Bool) → ours Ga94 (a ∷ b ∷ body) ≡ t → ours Ga94 (a ∷ b ∷ body) ≡ false
    go false f = f
    go true f = let three = eqb-true a 3 ((and-eq-true_iff (eqb a 3) (group_type b)).0 e).0 in let x : ⊥ = omega (arith, three, first-there Ga94 a (b ∷ body) f) in absurd x

-- Two answers that keep the promise of `ours` are equal, and of `group_type`.
pub ours-determined : (kind : Kind) (body : List ℕ) (a b : Bool) → a ≡ ours kind body → b ≡ ours kind body → a ≡ b
ours-determined kind body a b p q = p ∙ sym q

pub group-type-determined : (b : ℕ) (x y : Bool) → x ≡ group_type b → y ≡ group_type b → x ≡ y
group-type-determined b x y p q = p ∙ sym q
