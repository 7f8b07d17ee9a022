-- The words of a text, from its front: a space in front, a word in front, and the first character that is no space.
-- Assumes nothing.
use Prim.Native.Nat.{ℕ, zero, suc, ◌+◌, ◌-◌, ◌≤◌, ◌<◌}
use native.Mathlib.Omega.{arith}
use native.Mathlib.Numerals.{add-one}
use mathlib.Core.Path.{◌≡◌, ◌∙◌, ap, ap₂, sym, subst, refl}
use mathlib.Core.Bool.{Bool, true, false, true≢false}
use mathlib.Core.List.{List, [], ◌∷◌, ◌++◌}
use borrow.Author.Tests.{ltb-true, ltb-false}
use lib.Dec.{ltb}
use lib.ListN.{length, get_or, drop, drop_of_length-le, take-append-drop}
use lib.Seq.{drop-cons, drop-drop, drop-nil, get_or-drop, get_or-take}
use Rattle.lists.specs.Each.{Each}
use Rattle.lists.specs.Part.{part}
use Rattle.lists.proofs.Each.{each-of}
use Rattle.lists.proofs.Part.{length_part}
use Rattle.notation.specs.Inside.{EndsWord, Finds, Skips}
use Rattle.notation.specs.Words.{WordCut, closed, word_cut_at, word_cut_of, is_space, words_of}

-- a space in front changes no word
pub words-space : (c : ℕ) (text : List ℕ) → is_space c ≡ true → words_of (c ∷ text) ≡ words_of text
unfolding words_of
words-space c text e = ap (λ (b : Bool). closed (word_cut_at b c (word_cut_of text)).word (word_cut_at b c (word_cut_of text)).words) e

-- any other character is in the first word
words-other : (c : ℕ) (text : List ℕ) → is_space c ≡ false → words_of (c ∷ text) ≡ (c ∷ (word_cut_of text).word) ∷ (word_cut_of text).words
unfolding words_of
words-other c text e = ap (λ (b : Bool). closed (word_cut_at b c (word_cut_of text)).word (word_cut_at b c (word_cut_of text)).words) e

-- characters that are no spaces, before a text that begins in no word
cut_word : (word rest : List ℕ) → Each (λ (c : ℕ). is_space c ≡ false) word → (word_cut_of rest).word ≡ []
    → word_cut_of (word ++ rest) ≡ record { word = word; words = (word_cut_of rest).words }
cut_word [] rest h e = ap (λ (front : List ℕ). record { word = front; words = (word_cut_of rest).words }) e
cut_word (c ∷ word) rest h e = ap₂ (λ (b : Bool) (cut : WordCut). word_cut_at b c cut) h.0 (cut_word word rest h.1 e)

-- are its first word
pub words-word : (word rest : List ℕ) → Each (λ (c : ℕ). is_space c ≡ false) word → (word_cut_of rest).word ≡ [] → words_of (word ++ rest) ≡ closed word (words_of rest)
unfolding words_of
words-word word rest h e =
    ap (λ (cut : WordCut). closed cut.word cut.words) (cut_word word rest h e)
    ∙ ap (λ (front : List ℕ). closed word (closed front (word_cut_of rest).words)) (sym e)

pub cut-space : (c : ℕ) (text : List ℕ) → is_space c ≡ true → (word_cut_of (c ∷ text)).word ≡ []
cut-space c text e = ap (λ (b : Bool). (word_cut_at b c (word_cut_of text)).word) e

-- a text ends, or goes on with a space: it begins in no word
cut-stop : (text : List ℕ) (i : ℕ) → (i < length text → is_space (get_or text i 0) ≡ true) → (word_cut_of (drop i text)).word ≡ []
cut-stop [] i h = ap (λ (rest : List ℕ). (word_cut_of rest).word) (drop-nil i)
cut-stop (c ∷ text) zero h = let first : 0 < length (c ∷ text) = omega arith in cut-space c text (h first)
cut-stop (c ∷ text) (suc i) h = cut-stop text i (λ below. let next : suc i < length (c ∷ text) = omega arith in h next)

module _ (text : List ℕ) where
  -- the character at i, where it is a space
  pub words_step : (i : ℕ) → i < length text → is_space (get_or text i 0) ≡ true → words_of (drop i text) ≡ words_of (drop (i + 1) text)
  words_step i h e =
      ap words_of (drop-cons text i 0 h)
      ∙ words-space (get_or text i 0) (drop (suc i) text) e
      ∙ ap (λ (k : ℕ). words_of (drop k text)) (sym (add-one i))

  -- no word is left at the end
  pub words-end : (i : ℕ) → length text ≤ i → words_of (drop i text) ≡ []
  unfolding words_of
  words-end i h = ap words_of (drop_of_length-le text h)

  -- a word begins at i
  pub words-some : (i : ℕ) → i < length text → is_space (get_or text i 0) ≡ false → words_of (drop i text) ≡ [] → ⊥
  words-some i h other none =
      let some = ap words_of (drop-cons text i 0 h) ∙ words-other (get_or text i 0) (drop (suc i) text) other in
      omega (arith, ap length (sym some ∙ none))

  -- what stands from `at` to `to`, without a space, is the first word from `at` on
  pub words-passed : (at to : ℕ) → at ≤ to → to ≤ length text → ((k : ℕ) → at ≤ k → k < to → is_space (get_or text k 0) ≡ false)
      → (to < length text → is_space (get_or text to 0) ≡ true) → words_of (drop at text) ≡ closed (part at to text) (words_of (drop to text))
  words-passed at to order inside word stop =
      let front = part at to text in
      let place : at + (to - at) ≡ to = omega arith in
      let whole : drop at text ≡ front ++ drop to text =
      sym (take-append-drop (to - at) (drop at text)) ∙ ap (λ (rest : List ℕ). front ++ rest) (drop-drop (to - at) at text ∙ ap (λ (k : ℕ). drop k text) place) in
      let long : length front ≡ to - at = length_part text at to inside in
      let each : Each (λ (c : ℕ). is_space c ≡ false) front =
      each-of (λ (c : ℕ). is_space c ≡ false) 0 front
      (λ i h. let below : i < to - at = omega arith in
      subst (λ (c : ℕ). is_space c ≡ false) (sym (get_or-take (to - at) (drop at text) i 0 below ∙ get_or-drop at text i 0)) (word (at + i) (omega arith) (omega arith))) in
      ap words_of whole ∙ words-word front (drop to text) each (cut-stop text to stop)

-- behind the spaces stands a word, or the text ends
pub finds : (text : List ℕ) (at start end : ℕ) → Skips text at start → EndsWord text start end → Finds text at (record { start = start; end = end })
finds text at start end skips ends =
    record {
      from = skips.from;
      ordered = ends.from;
      inside = ends.inside;
      first = skips.same ∙ ends.passed;
      none = λ e. go e (ltb end (length text)) refl;
    }
  where
    go : start ≡ end → (b : Bool) → ltb end (length text) ≡ b → end ≡ length text
    go e true h =
        let below : end < length text = ltb-true end (length text) h in
        let other : is_space (get_or text end 0) ≡ false = subst (λ (k : ℕ). is_space (get_or text k 0) ≡ false) e (skips.stops (omega arith)) in
        absurd (true≢false (sym (ends.stops below) ∙ other))
    go e false h = omega (arith, ltb-false end (length text) h, ends.inside)
