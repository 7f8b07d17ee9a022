-- What stands around the inner packets: seven words before them, and CS behind them.
-- Assumes nothing.
use Prim.Native.Nat.{ℕ, suc, ◌+◌, ◌-◌, ◌≤◌, ◌<◌}
use native.Mathlib.Omega.{arith}
use mathlib.Core.Path.{◌≡◌, ◌∙◌, ap, sym, refl}
use mathlib.Core.List.{List, [], ◌∷◌, ◌++◌}
use lib.ListN.{length, get_or, take, length-append}
use lib.Seq.{take_at, get_or_at, take-suc, take_all}
use Rattle.multi.specs.Order.{inners_in, covered_in, last_word}

-- the flag, DID, SDID, DC, the priority, the inner packets' words, and CS
abbrev pub framed : ℕ → ℕ → ℕ → ℕ → ℕ → ℕ → ℕ → List ℕ → ℕ → List ℕ
framed p q r a b c d u x = p ∷ q ∷ r ∷ a ∷ b ∷ c ∷ d ∷ (u ++ (x ∷ []))

module _ (p q r a b c d : ℕ) (u : List ℕ) (x : ℕ) where
  abbrev s : List ℕ
  s = framed p q r a b c d u x

  pub framed-length : length s ≡ 8 + length u
  framed-length = omega (arith, length-append u (x ∷ []))

  pub framed-inners : inners_in s ≡ u
  framed-inners =
      let count : length s - 1 - 7 ≡ length u = omega (arith, framed-length) in
      ap (λ (k : ℕ). take k (u ++ (x ∷ []))) count ∙ take_at u (x ∷ []) (length u) refl

  pub framed-covered : covered_in s ≡ a ∷ b ∷ c ∷ d ∷ u
  framed-covered =
      let count : length s - 1 - 3 ≡ suc (suc (suc (suc (length u)))) = omega (arith, framed-length) in
      ap (λ (k : ℕ). take k (a ∷ b ∷ c ∷ d ∷ (u ++ (x ∷ [])))) count
      ∙ ap (λ (ys : List ℕ). a ∷ b ∷ c ∷ d ∷ ys) (take_at u (x ∷ []) (length u) refl)

  pub framed-last : last_word s ≡ x
  framed-last =
      let last : length s - 1 ≡ suc (suc (suc (suc (suc (suc (suc (length u))))))) = omega (arith, framed-length) in
      ap (λ (k : ℕ). get_or s k 0) last ∙ get_or_at u x [] 0 (length u) refl

-- eight words or more are so
pub record Framed (s : List ℕ) : Type 0 where
  pub p : ℕ
  pub q : ℕ
  pub r : ℕ
  pub a : ℕ
  pub b : ℕ
  pub c : ℕ
  pub d : ℕ
  pub u : List ℕ
  pub x : ℕ
  pub same : s ≡ framed p q r a b c d u x

few : {P : Type 0} (n : ℕ) → n < 8 → 8 ≤ n → P
few n low high = let f : ⊥ = omega arith in absurd f

-- a row that is not empty is its front and its last
ends : (t : ℕ) (ts : List ℕ) → t ∷ ts ≡ take (length ts) (t ∷ ts) ++ (get_or (t ∷ ts) (length ts) 0 ∷ [])
ends t ts =
    let inside : length ts < length (t ∷ ts) = omega arith in
    sym (take_all (suc (length ts)) (t ∷ ts) (omega arith)) ∙ take-suc (t ∷ ts) (length ts) 0 inside

pub frame : (s : List ℕ) → 8 ≤ length s → Framed s
frame [] h = few 0 (omega arith) h
frame (p ∷ []) h = few 1 (omega arith) h
frame (p ∷ q ∷ []) h = few 2 (omega arith) h
frame (p ∷ q ∷ r ∷ []) h = few 3 (omega arith) h
frame (p ∷ q ∷ r ∷ a ∷ []) h = few 4 (omega arith) h
frame (p ∷ q ∷ r ∷ a ∷ b ∷ []) h = few 5 (omega arith) h
frame (p ∷ q ∷ r ∷ a ∷ b ∷ c ∷ []) h = few 6 (omega arith) h
frame (p ∷ q ∷ r ∷ a ∷ b ∷ c ∷ d ∷ []) h = few 7 (omega arith) h
frame (p ∷ q ∷ r ∷ a ∷ b ∷ c ∷ d ∷ t ∷ ts) h =
    record {
      p = p;
      q = q;
      r = r;
      a = a;
      b = b;
      c = c;
      d = d;
      u = take (length ts) (t ∷ ts);
      x = get_or (t ∷ ts) (length ts) 0;
      same = ap (λ (ys : List ℕ). p ∷ q ∷ r ∷ a ∷ b ∷ c ∷ d ∷ ys) (ends t ts);
    }
