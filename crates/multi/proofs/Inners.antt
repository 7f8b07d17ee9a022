-- Inner packets, one behind the other: what is legal is accepted and read as what it is, and words that are accepted are those of legal ones.
-- Assumes nothing.
use Prim.Native.Nat.{ℕ, zero, suc, ◌+◌, ◌*◌, ◌≤◌, ◌<◌}
use native.Mathlib.Omega.{arith}
use mathlib.Core.Path.{◌≡◌, ◌∙◌, ap, ap₂, sym, subst, refl}
use mathlib.Core.List.{List, [], ◌∷◌, ◌++◌, map}
use lib.ListN.{length, take, drop, length-append, length-drop, take-append-drop}
use Rattle.lists.specs.Each.{Each}
use Rattle.refusal.specs.Verdict.{Verdict}
use Rattle.refusal.specs.Verdict.{Accepted}
use Rattle.refusal.specs.Checks.{and_then, first}
use Rattle.refusal.proofs.Checks.{accepted-and_then}
use Rattle.refusal.proofs.Sequence.{first-append}
use Rattle.multi.specs.Value.{Inner, LegalInner, inner_words, inners_words}
use Rattle.multi.specs.Layout.{layout_inner, layout_inners}
use Rattle.multi.specs.Order.{size_in, inner_checks, inners_checks}
use Rattle.multi.specs.Reading.{inner_verdict, inners_verdict, read_inner, rests, cut, read_inners}
use Rattle.multi.proofs.Inner.{inner-long, length-inner, inner-accepted, inner-size, inner-behind, inner-taken, inner_back, accepted-inner}

-- WHAT IS LEFT GROWS SHORTER

-- behind an inner packet fewer words are left
pub shorter : (w : ℕ) (u : List ℕ) (k : ℕ) → length (w ∷ u) ≤ suc k → length (drop (size_in (w ∷ u)) (w ∷ u)) ≤ k
shorter w u k h = omega (arith, length-drop (size_in (w ∷ u)) (w ∷ u), h)

-- so that any count of inner packets that is not below the number of words says the same
module _ {A : Type 0} where
  none : (w : ℕ) (u : List ℕ) → length (w ∷ u) ≤ 0 → A
  none w u h = let f : ⊥ = omega arith in absurd f

checks-same : (k j at : ℕ) (u : List ℕ) → length u ≤ k → length u ≤ j → inners_checks k at u ≡ inners_checks j at u
checks-same zero zero at u h g = refl
checks-same zero (suc j) at [] h g = refl
checks-same zero (suc j) at (w ∷ u) h g = none w u h
checks-same (suc k) zero at [] h g = refl
checks-same (suc k) zero at (w ∷ u) h g = none w u g
checks-same (suc k) (suc j) at [] h g = refl
checks-same (suc k) (suc j) at (w ∷ u) h g =
    ap (λ (rest : List Verdict). inner_checks at (w ∷ u) ++ rest)
    (checks-same k j (at + size_in (w ∷ u)) (drop (size_in (w ∷ u)) (w ∷ u)) (shorter w u k h) (shorter w u j g))

rests-same : (k j : ℕ) (u : List ℕ) → length u ≤ k → length u ≤ j → rests k u ≡ rests j u
rests-same zero zero u h g = refl
rests-same zero (suc j) [] h g = refl
rests-same zero (suc j) (w ∷ u) h g = none w u h
rests-same (suc k) zero [] h g = refl
rests-same (suc k) zero (w ∷ u) h g = none w u g
rests-same (suc k) (suc j) [] h g = refl
rests-same (suc k) (suc j) (w ∷ u) h g =
    ap (λ (rs : List (List ℕ)). (w ∷ u) ∷ rs) (rests-same k j (drop (size_in (w ∷ u)) (w ∷ u)) (shorter w u k h) (shorter w u j g))

-- THE FIRST, AND THOSE BEHIND IT

-- all inner packets of the words
abbrev pub inners : List ℕ → List Inner
inners u = read_inners (length u) u

abbrev pub behind : List ℕ → List ℕ
behind u = drop (size_in u) u

pub inners-none : (at : ℕ) (u : List ℕ) → length u ≡ 0 → inners_verdict at u ≡ Accepted
unfolding inners_verdict
inners-none at [] h = refl
inners-none at (w ∷ u) h = none w u (omega arith)

pub inners-next : (at : ℕ) (u : List ℕ) → 0 < length u → inners_verdict at u ≡ and_then (inner_verdict at u) (inners_verdict (at + size_in u) (behind u))
unfolding inners_verdict inner_verdict
inners-next at [] h = let f : ⊥ = omega arith in absurd f
inners-next at (w ∷ u) h =
    let left = behind (w ∷ u) in
    let fits : length left ≤ length u = shorter w u (length u) (omega arith) in
    first-append (inner_checks at (w ∷ u)) (inners_checks (length u) (at + size_in (w ∷ u)) left)
    ∙ ap (λ (checks : List Verdict). and_then (first (inner_checks at (w ∷ u))) (first checks))
    (checks-same (length u) (length left) (at + size_in (w ∷ u)) left fits (omega arith))

-- the words from each on
rests-none : (u : List ℕ) → length u ≡ 0 → rests (length u) u ≡ []
rests-none [] h = refl
rests-none (w ∷ u) h = none w u (omega arith)

rests-next : (u : List ℕ) → 0 < length u → rests (length u) u ≡ u ∷ rests (length (behind u)) (behind u)
rests-next [] h = let f : ⊥ = omega arith in absurd f
rests-next (w ∷ u) h =
    let left = behind (w ∷ u) in
    let fits : length left ≤ length u = shorter w u (length u) (omega arith) in
    ap (λ (rs : List (List ℕ)). (w ∷ u) ∷ rs) (rests-same (length u) (length left) left fits (omega arith))

pub read_none : (u : List ℕ) → length u ≡ 0 → inners u ≡ []
read_none u h = ap (map read_inner) (rests-none u h)

pub read_next : (u : List ℕ) → 0 < length u → inners u ≡ read_inner u ∷ inners (behind u)
read_next u h = ap (map read_inner) (rests-next u h)

-- the words of one
abbrev own : List ℕ → List ℕ
own r = take (size_in r) r

pub cut-none : (u : List ℕ) → length u ≡ 0 → cut (length u) u ≡ []
cut-none u h = ap (map own) (rests-none u h)

pub cut-next : (u : List ℕ) → 0 < length u → cut (length u) u ≡ take (size_in u) u ∷ cut (length (behind u)) (behind u)
cut-next u h = ap (map own) (rests-next u h)

-- SIZES

pub length-inners : (xs : List Inner) → length (layout_inners xs) ≡ inners_words xs
length-inners [] = refl
length-inners (x ∷ xs) = length-append (layout_inner x) (layout_inners xs) ∙ ap₂ (λ (n m : ℕ). n + m) (length-inner x) (length-inners xs)

-- each takes five words or more
pub few-inners : (xs : List Inner) → 5 * length xs ≤ inners_words xs
few-inners [] = omega arith
few-inners (x ∷ xs) = omega (arith, few-inners xs)

-- LEGAL INNER PACKETS

module _ (x : Inner) (xs : List Inner) (h : LegalInner x) (short : inner_words x < 256) where
  abbrev u : List ℕ
  u = layout_inner x ++ layout_inners xs

  some : 0 < length u
  some = omega (arith, length-append (layout_inner x) (layout_inners xs), length-inner x)

  fits : length x.bytes < 256
  fits = omega (arith, short)

  pub laid-verdict : (at : ℕ) → inners_verdict at u ≡ inners_verdict (at + inner_words x) (layout_inners xs)
  laid-verdict at =
      inners-next at u some
      ∙ ap (λ (v : Verdict). and_then v (inners_verdict (at + size_in u) (behind u))) (inner-accepted x h fits (layout_inners xs) at)
      ∙ ap₂ (λ (n : ℕ) (r : List ℕ). inners_verdict (at + n) r) (inner-size x h fits (layout_inners xs)) (inner-behind x h fits (layout_inners xs))

  pub laid-read : inners u ≡ x ∷ inners (layout_inners xs)
  laid-read =
      read_next u some
      ∙ ap₂ (λ (y : Inner) (r : List ℕ). y ∷ inners r) (inner_back x h fits (layout_inners xs)) (inner-behind x h fits (layout_inners xs))

  pub laid-cut : cut (length u) u ≡ layout_inner x ∷ cut (length (layout_inners xs)) (layout_inners xs)
  laid-cut =
      cut-next u some
      ∙ ap₂ (λ (y r : List ℕ). y ∷ cut (length r) r) (inner-taken x h fits (layout_inners xs)) (inner-behind x h fits (layout_inners xs))

pub inners-accepted : (xs : List Inner) → Each LegalInner xs → inners_words xs < 256 → (at : ℕ) → inners_verdict at (layout_inners xs) ≡ Accepted
inners-accepted [] h short at = inners-none at [] refl
inners-accepted (x ∷ xs) h short at =
    laid-verdict x xs h.0 (omega (arith, short)) at ∙ inners-accepted xs h.1 (omega (arith, short)) (at + inner_words x)

pub inners-back : (xs : List Inner) → Each LegalInner xs → inners_words xs < 256 → inners (layout_inners xs) ≡ xs
inners-back [] h short = refl
inners-back (x ∷ xs) h short =
    laid-read x xs h.0 (omega (arith, short)) ∙ ap (λ (ys : List Inner). x ∷ ys) (inners-back xs h.1 (omega (arith, short)))

pub cut-back : (xs : List Inner) → Each LegalInner xs → inners_words xs < 256 → cut (length (layout_inners xs)) (layout_inners xs) ≡ map layout_inner xs
cut-back [] h short = refl
cut-back (x ∷ xs) h short =
    laid-cut x xs h.0 (omega (arith, short)) ∙ ap (λ (ys : List (List ℕ)). layout_inner x ∷ ys) (cut-back xs h.1 (omega (arith, short)))

-- WORDS THAT ARE ACCEPTED

pub record Made (u : List ℕ) : Type 0 where
  pub legal : Each LegalInner (inners u)
  pub same : layout_inners (inners u) ≡ u

made : (k at : ℕ) (u : List ℕ) → length u ≤ k → inners_verdict at u ≡ Accepted → Made u
made zero at [] h e = record { legal = tt; same = refl }
made (suc k) at [] h e = record { legal = tt; same = refl }
made zero at (w ∷ u) h e = none w u h
made (suc k) at (w ∷ u) h e =
    let v = w ∷ u in
    let some : 0 < length v = omega arith in
    let both = accepted-and_then (inner_verdict at v) (inners_verdict (at + size_in v) (behind v)) (sym (inners-next at v some) ∙ e) in
    let here = accepted-inner at v both.0 in
    let rest = made k (at + size_in v) (behind v) (shorter w u k h) both.1 in
    let next = read_next v some in
    record {
      legal = subst (Each LegalInner) (sym next) (here.legal, rest.legal);
      same = ap layout_inners next ∙ ap₂ (λ (p q : List ℕ). p ++ q) here.same rest.same ∙ take-append-drop (size_in v) v;
    }

pub accepted-inners : (at : ℕ) (u : List ℕ) → inners_verdict at u ≡ Accepted → Made u
accepted-inners at u e = made (length u) at u (omega arith) e

-- the first is all there, and those behind it are accepted
pub record Next (at : ℕ) (u : List ℕ) : Type 0 where
  pub header : 4 ≤ length u
  pub long : size_in u ≤ length u
  pub rest : inners_verdict (at + size_in u) (behind u) ≡ Accepted

pub next_inner : (at : ℕ) (u : List ℕ) → (length u ≡ 0 → ⊥) → inners_verdict at u ≡ Accepted → Next at u
next_inner at u some e =
    let both = accepted-and_then (inner_verdict at u) (inners_verdict (at + size_in u) (behind u)) (sym (inners-next at u (omega (arith, some))) ∙ e) in
    let long = inner-long at u both.0 in
    record { header = long.0; long = long.1; rest = both.1 }

-- they are as many words as were given
pub inners-words : (at : ℕ) (u : List ℕ) → inners_verdict at u ≡ Accepted → inners_words (inners u) ≡ length u
inners-words at u e = sym (length-inners (inners u)) ∙ ap length (accepted-inners at u e).same

-- and 50 at the most where a multipacket has them
pub inners-few : (at : ℕ) (u : List ℕ) → inners_verdict at u ≡ Accepted → length u ≤ 254 → length (inners u) ≤ 50
inners-few at u e h = omega (arith, inners-words at u e, few-inners (inners u))
