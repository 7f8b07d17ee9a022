-- Which bytes are no list of units, and the number that they get: 1, 2, then 3 wherever it arises. RULES, "Order of checks".
-- Assumes nothing.
use Prim.Native.Nat.{ℕ, ◌≤◌, ◌<◌}
use native.Mathlib.Omega.{arith}
use mathlib.Core.Path.{◌≡◌, ◌∙◌, ap, refl}
use mathlib.Core.Bool.{Bool, true, false, not, ◌&&◌, and-false, false≢true, and-eq-true_iff}
use mathlib.Core.List.{List, [], ◌∷◌, ◌++◌}
use borrow.Author.Tests.{eqb-true, ne_eqb}
use lib.Dec.{eqb}
use lib.ListN.{length, get_or, take}
use Rattle.refusal.specs.Verdict.{Verdict}
use Rattle.refusal.specs.Verdict.{Refused}
use Rattle.refusal.specs.declared.Reason.{Reason}
use Rattle.refusal.specs.declared.Reason.TheVariants.{TooLong, NoStart, StartCode}
use Rattle.refusal.specs.declared.Item.{Item}
use Rattle.refusal.specs.declared.Item.TheVariants.{Whole}
use Rattle.refusal.specs.Checks.{refuse_if, and_then, first}
use Rattle.units.specs.Layout.{prefixed, start_code}
use Rattle.units.specs.Split.{Cut, cut_at, cut_of, opened, all_opened, front_verdict, split_verdict}
use Rattle.units.proofs.Cuts.{prefixed-front, cut-start}
use Rattle.units.proofs.Opened.{front_long, front-opened, front-unopened}

-- what the front is refused with
split-front : (s : List ℕ) (reason : Reason) (item : Item) → front_verdict s ≡ Refused reason item → split_verdict s ≡ Refused reason item
unfolding split_verdict
split-front s reason item e = ap (λ (verdict : Verdict). and_then verdict (first (refuse_if (not (all_opened (cut_of s).pieces)) StartCode Whole ∷ []))) e

pub split-1 : (s : List ℕ) → 16384 < length s → split_verdict s ≡ Refused TooLong Whole
split-1 s h = split-front s TooLong Whole (front_long s h)

-- the start code is at the front exactly where the first four bytes are it
opened-start : (s : List ℕ) → opened s ≡ true → take 4 s ≡ start_code
opened-start [] e = absurd (false≢true e)
opened-start (a ∷ []) e = absurd (false≢true e)
opened-start (a ∷ b ∷ []) e = absurd (false≢true e)
opened-start (a ∷ b ∷ c ∷ []) e = absurd (false≢true ((and-eq-true_iff (prefixed (a ∷ b ∷ c ∷ [])) (eqb 0 0xB2)).0 e).1)
opened-start (a ∷ b ∷ c ∷ d ∷ s) e =
    let both = (and-eq-true_iff (prefixed (a ∷ b ∷ c ∷ d ∷ s)) (eqb d 0xB2)).0 e in
    let code = eqb-true d 0xB2 both.1 in
    ap (take 4) (prefixed-front (a ∷ b ∷ c ∷ d ∷ s) both.0) ∙ ap (λ (x : ℕ). 0 ∷ 0 ∷ 1 ∷ x ∷ []) code

start-opened : (s : List ℕ) → take 4 s ≡ start_code → opened s ≡ true
start-opened [] e = let f : ◌≡◌ {A = ℕ} 0 1 = cc in let g : ⊥ = omega arith in absurd g
start-opened (a ∷ []) e = let f : ◌≡◌ {A = ℕ} 0 1 = cc in let g : ⊥ = omega arith in absurd g
start-opened (a ∷ b ∷ []) e = let f : ◌≡◌ {A = ℕ} 0 1 = cc in let g : ⊥ = omega arith in absurd g
start-opened (a ∷ b ∷ c ∷ []) e = let f : ◌≡◌ {A = ℕ} 0 1 = cc in let g : ⊥ = omega arith in absurd g
start-opened (a ∷ b ∷ c ∷ d ∷ s) e =
    let first : a ≡ 0 = cc in
    let second : b ≡ 0 = cc in
    let third : c ≡ 1 = cc in
    let fourth : d ≡ 0xB2 = cc in
    λ i. opened (first i ∷ second i ∷ third i ∷ fourth i ∷ s)

other-unopened : (s : List ℕ) → (take 4 s ≡ start_code → ⊥) → opened s ≡ false
other-unopened s h = by (opened s) refl
  where
    by : (t : Bool) → opened s ≡ t → opened s ≡ false
    by true e = absurd (h (opened-start s e))
    by false e = e

pub split-2 : (s : List ℕ) → length s ≤ 16384 → 0 < length s → (take 4 s ≡ start_code → ⊥) → split_verdict s ≡ Refused NoStart Whole
split-2 s short some other = split-front s NoStart Whole (front-unopened s short (λ e. omega arith) (other-unopened s other))

-- a piece that begins 00 00 01 and goes on with another byte, or with none
unopened-code : (rest : List ℕ) → (take 1 rest ≡ 0xB2 ∷ [] → ⊥) → eqb (get_or (cut_of rest).before 0 0) 0xB2 ≡ false
unopened-code [] h = refl
unopened-code (c ∷ rest) h = by (prefixed (c ∷ rest)) (cut_of rest)
  where
    by : (t : Bool) (cut : Cut) → eqb (get_or (cut_at t c cut).before 0 0) 0xB2 ≡ false
    by true cut = refl
    by false cut = ne_eqb c 0xB2 (λ e. h (ap (λ (x : ℕ). x ∷ []) e))

unopened-here : (rest : List ℕ) → (take 1 rest ≡ 0xB2 ∷ [] → ⊥) → all_opened (cut_of (0 ∷ 0 ∷ 1 ∷ rest)).pieces ≡ false
unopened-here rest h =
    ap (λ (cut : Cut). all_opened cut.pieces) (cut-start rest)
    ∙ ap (λ (t : Bool). t && all_opened (cut_of rest).pieces) (unopened-code rest h)

unopened-behind : (front s : List ℕ) → all_opened (cut_of s).pieces ≡ false → all_opened (cut_of (front ++ s)).pieces ≡ false
unopened-behind [] s e = e
unopened-behind (b ∷ front) s e = by (prefixed (b ∷ (front ++ s))) (cut_of (front ++ s)) (unopened-behind front s e)
  where
    by : (t : Bool) (cut : Cut) → all_opened cut.pieces ≡ false → all_opened (cut_at t b cut).pieces ≡ false
    by true cut h = ap (λ (t : Bool). opened (b ∷ cut.before) && t) h ∙ and-false (opened (b ∷ cut.before))
    by false cut h = h

-- 00 00 01 anywhere, the very end too, that is not followed by B2
pub split-3 : (s front rest : List ℕ) → length s ≤ 16384 → take 4 s ≡ start_code → s ≡ front ++ (0 ∷ 0 ∷ 1 ∷ rest) → (take 1 rest ≡ 0xB2 ∷ [] → ⊥)
    → split_verdict s ≡ Refused StartCode Whole
unfolding split_verdict
split-3 s front rest short first e other =
    let bad : all_opened (cut_of s).pieces ≡ false = ap (λ (t : List ℕ). all_opened (cut_of t).pieces) e ∙ unopened-behind front (0 ∷ 0 ∷ 1 ∷ rest) (unopened-here rest other) in
    simp (front-opened s short (start-opened s first), bad)
