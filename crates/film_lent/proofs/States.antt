-- Which bytes are a state's, and which.
-- Assumes nothing.
use Prim.Native.Nat.{ℕ}
use native.Mathlib.Omega.{arith}
use mathlib.Core.Path.{◌≡◌, ◌∙◌, ap, subst, sym, refl}
use mathlib.Core.Bool.{Bool, true, false, ◌&&◌}
use mathlib.Core.List.{List, [], ◌∷◌}
use borrow.Author.Tests.{eqb-true}
use lib.Dec.{eqb}
use lib.ListN.{length, get_or}
use Rattle.refusal.proofs.Checks.{both_hold}
use Rattle.film.specs.Slot.{Invalid, Pair}
use Rattle.film.specs.State.{State}
use Rattle.film.specs.State.{Nothing, Waiting}
use Rattle.film_lent.specs.Kept.{Kept}
use Rattle.film_lent.specs.Kept as kept
use Rattle.film_lent.specs.Lent.{state_bytes, chosen, state_from, state_in}
use Rattle.film_lent.specs.Inside.{four_in}

pub state-back : (s : State) → state_in (state_bytes s) ≡ kept.State s
unfolding state_from
state-back Nothing = refl
state-back (Waiting Invalid) = refl
state-back (Waiting (Pair a b)) = refl

-- one that is told has these bytes
four : ℕ → ℕ → ℕ → ℕ → List ℕ
four w v a b = w ∷ v ∷ a ∷ b ∷ []

is : Kept → List ℕ → Type 0
is (kept.State s) bytes = state_bytes s ≡ bytes
is kept.None bytes = Unit {0}

module _ (w v a b : ℕ) where
  pair_is : (eqb w 1 && eqb v 1) ≡ true → is (kept.State (Waiting (Pair a b))) (four w v a b)
  unfolding is four
  pair_is e =
      let both = both_hold (eqb w 1) (eqb v 1) e in
      ap (λ (k : ℕ). k ∷ 1 ∷ a ∷ b ∷ []) (sym (eqb-true w 1 both.0)) ∙ ap (λ (k : ℕ). w ∷ k ∷ a ∷ b ∷ []) (sym (eqb-true v 1 both.1))

  zeros : (n : ℕ) → (eqb v 0 && (eqb a 0 && eqb b 0)) ≡ true → eqb w n ≡ true → ◌≡◌ {A = List ℕ} (n ∷ 0 ∷ 0 ∷ 0 ∷ []) (four w v a b)
  unfolding four
  zeros n e f =
      let first = both_hold (eqb v 0) (eqb a 0 && eqb b 0) e in
      let rest = both_hold (eqb a 0) (eqb b 0) first.1 in
      ap (λ (k : ℕ). k ∷ 0 ∷ 0 ∷ 0 ∷ []) (sym (eqb-true w n f))
      ∙ ap (λ (k : ℕ). w ∷ k ∷ 0 ∷ 0 ∷ []) (sym (eqb-true v 0 first.0))
      ∙ ap (λ (k : ℕ). w ∷ v ∷ k ∷ 0 ∷ []) (sym (eqb-true a 0 rest.0))
      ∙ ap (λ (k : ℕ). w ∷ v ∷ a ∷ k ∷ []) (sym (eqb-true b 0 rest.1))

  chosen_is : (t : Bool) (this other : Kept) → (t ≡ true → is this (four w v a b)) → is other (four w v a b) → is (chosen t this other) (four w v a b)
  chosen_is true this other p q = p refl
  chosen_is false this other p q = q

  from_is : is (state_from w v a b) (four w v a b)
  unfolding is state_from
  from_is =
      chosen_is _ _ _ pair_is
      (chosen_is _ _ _ (λ z. chosen_is _ _ _ (λ e. zeros 0 z e) (chosen_is _ _ _ (λ e. zeros 1 z e) tt)) tt)

-- an array of four places
four-places : (s : List ℕ) → length s ≡ 4 → four (get_or s 0 0) (get_or s 1 0) (get_or s 2 0) (get_or s 3 0) ≡ s
unfolding four
four-places [] e = let no : ⊥ = omega (arith, e) in absurd no
four-places (a ∷ []) e = let no : ⊥ = omega (arith, e) in absurd no
four-places (a ∷ b ∷ []) e = let no : ⊥ = omega (arith, e) in absurd no
four-places (a ∷ b ∷ c ∷ []) e = let no : ⊥ = omega (arith, e) in absurd no
four-places (a ∷ b ∷ c ∷ d ∷ []) e = refl
four-places (a ∷ b ∷ c ∷ d ∷ x ∷ s) e = let no : ⊥ = omega (arith, e) in absurd no

pub state-four : (s : State) (bytes : List ℕ) → state_in bytes ≡ kept.State s → state_bytes s ≡ four_in bytes
unfolding is four
state-four s bytes told =
    subst (λ (k : Kept). is k (four_in bytes)) told (from_is (get_or bytes 0 0) (get_or bytes 1 0) (get_or bytes 2 0) (get_or bytes 3 0))

pub state-only : (s : State) (bytes : List ℕ) → length bytes ≡ 4 → state_in bytes ≡ kept.State s → state_bytes s ≡ bytes
unfolding four
state-only s bytes places told = state-four s bytes told ∙ four-places bytes places

is_state : Kept → ℕ
is_state (kept.State s) = 1
is_state kept.None = 0

pub kept-apart : (s : State) → kept.State s ≡ kept.None → ⊥
unfolding is_state
kept-apart s e = let no : ◌≡◌ {A = ℕ} 1 0 = ap is_state e in omega (arith, no)

pub state-none : (bytes : List ℕ) → state_in bytes ≡ kept.None → (s : State) → state_bytes s ≡ bytes → ⊥
state-none bytes none s e = kept-apart s (sym (state-back s) ∙ ap state_in e ∙ none)
