-- Texts that are built from pieces: a byte, and one piece behind the other.
-- Assumes nothing.
use Prim.Native.Nat.{ℕ, ◌+◌, ◌≤◌, ◌<◌}
use native.Mathlib.Omega.{arith}
use native.Mathlib.Numerals.{add-one}
use mathlib.Core.Path.{◌≡◌, ◌∙◌, ap, subst, sym}
use mathlib.Core.List.{List, [], ◌∷◌, ◌++◌, append_assoc, append-nil}
use lib.ListN.{length, get_or, take, set, length-append}
use lib.Seq.{take-suc, take_all}
use Rattle.lists.proofs.Fill.{filled_more}
use Rattle.listing.specs.declared.Text.{Text}
use Rattle.listing.specs.Texts.{HoldsText}
use Rattle.listing.specs.Inside.{Appends}

-- a byte stored behind what the text holds; a full text has no room for it
pub appends-byte : (t : Text) (b : ℕ) → t.len < 640 → Appends (b ∷ []) t (record { len = t.len + 1; bytes = set t.bytes t.len b })
appends-byte t b h =
    record {
      behind = λ front held room. record {
        counted = simp length-append (omega arith);
        stands =
            ap (λ (bytes : List ℕ). set bytes t.len b) held.stands
            ∙ filled_more front 640 0 b t.len (omega arith) h;
      };
    }

pub appends-full : (t : Text) (b : ℕ) → 640 ≤ t.len → Appends (b ∷ []) t t
appends-full t b h = record { behind = λ front held room. let f : ⊥ = omega arith in absurd f }

-- one piece, and then another
pub appends-both : {xs ys : List ℕ} {t s r : Text} → Appends xs t s → Appends ys s r → Appends (xs ++ ys) t r
appends-both {xs} {ys} {t} {s} {r} first second =
    record {
      behind = λ front held room.
          let both : length (xs ++ ys) ≡ length xs + length ys = length-append xs ys in
          let longer : length (front ++ xs) ≡ length front + length xs = length-append front xs in
          subst (λ (bytes : List ℕ). HoldsText bytes r) (append_assoc front xs ys)
          (second.behind (front ++ xs) (first.behind front held (omega arith)) (omega arith));
    }

-- the same piece, written otherwise
pub appends-same : {xs ys : List ℕ} {t r : Text} → xs ≡ ys → Appends xs t r → Appends ys t r
appends-same {xs} {ys} {t} {r} e a = subst (λ (bytes : List ℕ). Appends bytes t r) e a

-- a piece behind nothing
pub appends-first : {xs : List ℕ} {t r : Text} → HoldsText [] t → Appends xs t r → length xs ≤ 640 → HoldsText xs r
appends-first held a room = a.behind [] held (omega arith)

-- bytes put behind a text one after the other
pub appends-none : (t : Text) → Appends [] t t
appends-none t = record { behind = λ front held room. subst (λ (bytes : List ℕ). HoldsText bytes t) (sym (append-nil front)) held }

module _ (xs : List ℕ) (i : ℕ) {t s : Text} where
  pub appends-next : {r : Text} → i < length xs → Appends (take i xs) t s → Appends (get_or xs i 0 ∷ []) s r → Appends (take (i + 1) xs) t r
  appends-next h first second = appends-same (sym (ap (λ (k : ℕ). take k xs) (add-one i) ∙ take-suc xs i 0 h)) (appends-both first second)

  pub appends-all : length xs ≤ i → Appends (take i xs) t s → Appends xs t s
  appends-all h all = appends-same (take_all i xs h) all
