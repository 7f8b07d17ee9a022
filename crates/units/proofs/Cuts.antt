-- The cut of an area's bytes before each 00 00 01: the pieces joined are the bytes, each piece begins with its prefix, and no other appears in it.
-- A prefix cannot straddle the end of a clean body, since behind it stands nothing or 00 00 01.
-- Assumes nothing.
use Prim.Native.Nat.{ℕ, zero, suc}
use mathlib.Core.Path.{◌≡◌, ◌∙◌, ap, ap₂, refl}
use mathlib.Core.Bool.{Bool, true, false, ◌&&◌, and-false, false≢true, and-eq-true_iff}
use mathlib.Core.List.{List, [], ◌∷◌, ◌++◌, head-eq_of_cons-eq, tail-eq_of_cons-eq}
use borrow.Author.Tests.{eqb-true}
use lib.ListN.{drop}
use lib.Dec.{eqb}
use Rattle.lists.specs.Each.{Each}
use Rattle.units.specs.Layout.{prefixed, Clean, layout}
use Rattle.units.specs.Split.{Cut, cut_at, cut_of}

-- THE PREFIX

-- a prefixed list begins 00 00 01
pub prefixed-front : (s : List ℕ) → prefixed s ≡ true → s ≡ 0 ∷ 0 ∷ 1 ∷ drop 3 s
prefixed-front [] e = absurd (false≢true e)
prefixed-front (a ∷ []) e = absurd (false≢true e)
prefixed-front (a ∷ b ∷ []) e = absurd (false≢true e)
prefixed-front (a ∷ b ∷ c ∷ s) e =
    let one = (and-eq-true_iff (eqb a 0) (eqb b 0 && eqb c 1)).0 e in
    let two = (and-eq-true_iff (eqb b 0) (eqb c 1)).0 one.1 in
    let front : a ∷ b ∷ c ∷ s ≡ 0 ∷ 0 ∷ 1 ∷ s = cc (eqb-true a 0 one.0, eqb-true b 0 two.0, eqb-true c 1 two.1) in
    front

-- what is put behind takes no prefix away
pub prefixed-shorter : (s t : List ℕ) → prefixed (s ++ t) ≡ false → prefixed s ≡ false
prefixed-shorter [] t e = refl
prefixed-shorter (a ∷ []) t e = refl
prefixed-shorter (a ∷ b ∷ []) t e = refl
prefixed-shorter (a ∷ b ∷ c ∷ s) t e = e

-- units put behind a byte or more bring none
pub prefixed-units : (b : ℕ) (s : List ℕ) (bodies : List (List ℕ)) → prefixed ((b ∷ s) ++ layout bodies) ≡ prefixed (b ∷ s)
prefixed-units b [] [] = refl
prefixed-units b [] (body ∷ bodies) = and-false (eqb b 0)
prefixed-units b (c ∷ []) [] = refl
prefixed-units b (c ∷ []) (body ∷ bodies) = ap (λ (t : Bool). eqb b 0 && t) (and-false (eqb c 0)) ∙ and-false (eqb b 0)
prefixed-units b (c ∷ d ∷ s) bodies = refl

-- none begins within a start code
unprefixed-one : (s : List ℕ) → prefixed (1 ∷ s) ≡ false
unprefixed-one [] = refl
unprefixed-one (a ∷ []) = refl
unprefixed-one (a ∷ b ∷ s) = refl

unprefixed-zero-one : (s : List ℕ) → prefixed (0 ∷ 1 ∷ s) ≡ false
unprefixed-zero-one [] = refl
unprefixed-zero-one (a ∷ s) = refl

pub unprefixed-code : (s : List ℕ) → prefixed (0xB2 ∷ s) ≡ false
unprefixed-code [] = refl
unprefixed-code (a ∷ []) = refl
unprefixed-code (a ∷ b ∷ s) = refl

pub clean_drop : (k : ℕ) (s : List ℕ) → Clean s → Clean (drop k s)
clean_drop zero s h = h
clean_drop (suc k) [] h = tt
clean_drop (suc k) (b ∷ s) h = clean_drop k s h.1

-- THE CUT

-- pieces put together again
abbrev pub joined : List (List ℕ) → List ℕ
joined [] = []
joined (piece ∷ pieces) = piece ++ joined pieces

cut_at-whole : (t : Bool) (b : ℕ) (cut : Cut) → (cut_at t b cut).before ++ joined (cut_at t b cut).pieces ≡ b ∷ (cut.before ++ joined cut.pieces)
cut_at-whole true b cut = refl
cut_at-whole false b cut = refl

pub cut-whole : (s : List ℕ) → (cut_of s).before ++ joined (cut_of s).pieces ≡ s
cut-whole [] = refl
cut-whole (b ∷ s) = cut_at-whole (prefixed (b ∷ s)) b (cut_of s) ∙ ap (λ (r : List ℕ). b ∷ r) (cut-whole s)

-- a byte at which no prefix stands goes to what it stands before
cut_inside : (b : ℕ) (s : List ℕ) → prefixed (b ∷ s) ≡ false → cut_of (b ∷ s) ≡ cut_at false b (cut_of s)
cut_inside b s e = ap (λ (t : Bool). cut_at t b (cut_of s)) e

cut-zero-one : (s : List ℕ) → cut_of (0 ∷ 1 ∷ s) ≡ cut_at false 0 (cut_at false 1 (cut_of s))
cut-zero-one s = cut_inside 0 (1 ∷ s) (unprefixed-zero-one s) ∙ ap (λ (cut : Cut). cut_at false 0 cut) (cut_inside 1 s (unprefixed-one s))

-- a prefix begins a piece
pub cut-start : (s : List ℕ) → cut_of (0 ∷ 0 ∷ 1 ∷ s) ≡ record { before = []; pieces = (0 ∷ 0 ∷ 1 ∷ (cut_of s).before) ∷ (cut_of s).pieces }
cut-start s = ap (λ (cut : Cut). cut_at true 0 cut) (cut-zero-one s)

clean_at : (t : Bool) (b : ℕ) (s : List ℕ) → prefixed (b ∷ s) ≡ t → Clean (cut_of s).before → Clean (cut_at t b (cut_of s)).before
clean_at true b s e h = tt
clean_at false b s e h =
    (prefixed-shorter (b ∷ (cut_of s).before) (joined (cut_of s).pieces) (ap (λ (r : List ℕ). prefixed (b ∷ r)) (cut-whole s) ∙ e), h)

pub clean-before : (s : List ℕ) → Clean (cut_of s).before
clean-before [] = tt
clean-before (b ∷ s) = clean_at (prefixed (b ∷ s)) b s refl (clean-before s)

-- a prefix, and none behind its first byte
pub record Piece (piece : List ℕ) : Type 0 where
  pub starts : prefixed piece ≡ true
  pub clean : Clean (drop 1 piece)

piece-starts : (b : ℕ) (s : List ℕ) → prefixed (b ∷ s) ≡ true → prefixed (b ∷ (cut_of s).before) ≡ true
piece-starts b s e =
    let front = prefixed-front (b ∷ s) e in
    ap₂ (λ (x : ℕ) (r : List ℕ). prefixed (x ∷ (cut_of r).before)) (head-eq_of_cons-eq front) (tail-eq_of_cons-eq front)
    ∙ ap (λ (cut : Cut). prefixed (0 ∷ cut.before)) (cut-zero-one (drop 2 s))

pieces-at : (t : Bool) (b : ℕ) (s : List ℕ) → prefixed (b ∷ s) ≡ t → Each Piece (cut_of s).pieces → Each Piece (cut_at t b (cut_of s)).pieces
pieces-at true b s e h = (record { starts = piece-starts b s e; clean = clean-before s }, h)
pieces-at false b s e h = h

pub each-piece : (s : List ℕ) → Each Piece (cut_of s).pieces
each-piece [] = tt
each-piece (b ∷ s) = pieces-at (prefixed (b ∷ s)) b s refl (each-piece s)

-- so what follows a unit's start bytes is clean
pub piece-clean : (piece : List ℕ) → Piece piece → Clean (drop 4 piece)
piece-clean [] h = tt
piece-clean (b ∷ s) h = clean_drop 3 s h.clean

-- A CLEAN BODY

before-units : (bodies : List (List ℕ)) → (cut_of (layout bodies)).before ≡ []
before-units [] = refl
before-units (body ∷ bodies) = refl

cut-body : (body : List ℕ) (bodies : List (List ℕ)) → Clean body → cut_of (body ++ layout bodies) ≡ record { before = body; pieces = (cut_of (layout bodies)).pieces }
cut-body [] bodies h = λ i. record { before = before-units bodies i; pieces = (cut_of (layout bodies)).pieces }
cut-body (b ∷ body) bodies h =
    cut_inside b (body ++ layout bodies) (prefixed-units b body bodies ∙ h.0) ∙ ap (λ (cut : Cut). cut_at false b cut) (cut-body body bodies h.1)

-- behind a clean body the next unit is found where it stands
pub cut-clean : (body : List ℕ) (bodies : List (List ℕ)) → Clean body
    → ((cut_of (body ++ layout bodies)).before ≡ body) × ((cut_of (body ++ layout bodies)).pieces ≡ (cut_of (layout bodies)).pieces)
cut-clean body bodies h = (ap (λ (cut : Cut). cut.before) (cut-body body bodies h), ap (λ (cut : Cut). cut.pieces) (cut-body body bodies h))
