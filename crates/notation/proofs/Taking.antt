-- A text's words, taken one after the other as numbers.
-- Assumes nothing.
use Prim.Native.Nat.{ℕ, ◌+◌, ◌-◌, ◌<◌, min}
use native.Mathlib.Nat.{add-zero}
use native.Mathlib.Omega.{arith}
use mathlib.Core.Bool.{Bool, true, false, false≢true}
use mathlib.Core.List.{List, [], ◌∷◌}
use mathlib.Core.Path.{◌≡◌, ◌∙◌, ap, ap₂, sym, refl}
use lib.ListN.{length, drop}
use lib.Seq.{drop-drop, get_or-drop}
use Rattle.lists.specs.Part.{part}
use Rattle.lists.proofs.Part.{length_part}
use Rattle.std.proofs.Common.{Some, None}
use Rattle.notation.specs.declared.Word.{Word}
use Rattle.notation.specs.Inside.{Finds, TakesWord, told_if, word_at}
use Rattle.notation.specs.Value.{capped_byte_of, capped_of}
use Rattle.notation.specs.Words.{closed, words_of}
use Rattle.notation.proofs.Cutting.{words-end}

-- what is told, and what is not
pub told-some : {A : Type 0} (is : Bool) (x v : A) → told_if is x ≡ Some v → (is ≡ true) × (v ≡ x)
told-some true x v e = (refl, cc)
told-some false x v e = cc

pub told-none : {A : Type 0} (is : Bool) (x : A) → told_if is x ≡ None → is ≡ false
told-none true x e = cc
told-none false x e = refl

-- the word that is found is the first, and behind it stand the others
module _ (text : List ℕ) (at : ℕ) (w : Word) (finds : Finds text at w) where
  abbrev word : List ℕ
  word = part w.start w.end text

  long : length word ≡ w.end - w.start
  long = length_part text w.start w.end finds.inside

  found : (word_at 0 (words_of (drop at text)) ≡ word) × (words_of (drop w.end text) ≡ drop 1 (words_of (drop at text)))
  found = go word refl
    where
      go : (found : List ℕ) → word ≡ found → (word_at 0 (words_of (drop at text)) ≡ word) × (words_of (drop w.end text) ≡ drop 1 (words_of (drop at text)))
      go [] e =
          let short : length word ≡ 0 = ap length e in
          let same : w.start ≡ w.end = omega (arith, long, short, finds.ordered) in
          let left : words_of (drop w.end text) ≡ [] = words-end text w.end (omega (arith, finds.none same)) in
          let none : words_of (drop at text) ≡ [] = finds.first ∙ ap₂ closed e left in
          (ap (word_at 0) none ∙ sym e, left ∙ sym (ap (drop 1) none))
      go (c ∷ more) e =
          let whole : words_of (drop at text) ≡ (c ∷ more) ∷ words_of (drop w.end text) = finds.first ∙ ap (λ (front : List ℕ). closed front (words_of (drop w.end text))) e in
          (ap (word_at 0) whole ∙ sym e, sym (ap (drop 1) whole))

  module _ (is_number : List ℕ → Bool) (number_of : List ℕ → ℕ) where
    -- a number has a character
    onward : is_number [] ≡ false → is_number word ≡ true → w.start < w.end
    onward none is = go word refl
      where
        go : (found : List ℕ) → word ≡ found → w.start < w.end
        go [] e = absurd (false≢true (sym none ∙ sym (ap is_number e) ∙ is))
        go (c ∷ more) e =
            let some : length word ≡ length (c ∷ more) = ap length e in
            omega (arith, long, some)

    pub takes : is_number [] ≡ false → (v : ℕ) → told_if (is_number word) (number_of word) ≡ Some v → TakesWord is_number number_of text at (Some (v, w.end))
    takes none v e =
        let told = told-some (is_number word) (number_of word) v e in
        record {
          told = ap is_number found.0 ∙ told.0;
          value = told.1 ∙ sym (ap number_of found.0);
          rest = found.1;
          onward = omega (arith, finds.from, onward none told.0);
          inside = finds.inside;
        }

    pub takes-none : told_if (is_number word) (number_of word) ≡ None → TakesWord is_number number_of text at None
    takes-none e = ap is_number found.0 ∙ told-none (is_number word) (number_of word) e

-- the same of the word with index k among all of them
pub record Tells (is_number : List ℕ → Bool) (number_of : List ℕ → ℕ) (text : List ℕ) (words : List (List ℕ)) (k : ℕ) (t : ℕ × ℕ) : Type 0 where
  pub told : is_number (word_at k words) ≡ true
  pub value : t.0 ≡ number_of (word_at k words)
  pub rest : words_of (drop t.1 text) ≡ drop (k + 1) words

module _ (is_number : List ℕ → Bool) (number_of : List ℕ → ℕ) (text : List ℕ) (words : List (List ℕ)) (k at : ℕ) (e : words_of (drop at text) ≡ drop k words) where
  same : word_at 0 (words_of (drop at text)) ≡ word_at k words
  same = ap (word_at 0) e ∙ get_or-drop k words 0 [] ∙ ap (λ (j : ℕ). word_at j words) (add-zero k)

  pub tells : (t : ℕ × ℕ) → TakesWord is_number number_of text at (Some t) → Tells is_number number_of text words k t
  tells t h =
      record { told = sym (ap is_number same) ∙ h.told; value = h.value ∙ ap number_of same; rest = h.rest ∙ ap (drop 1) e ∙ drop-drop 1 k words }

-- a number is cut to the cap, and then to a byte
pub byte_of : (word : List ℕ) (n b : ℕ) → b ≡ min n 255 → n ≡ capped_of word → b ≡ capped_byte_of word
byte_of word n b cut capped = omega arith
