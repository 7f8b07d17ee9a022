-- The words of a text: its characters between spaces, tabs and line feeds.
use Rattle.std.specs.Prelude.{ℕ, Bool, true, false, ◌||◌, List, [], ◌∷◌, eqb}

-- a space, a tab, a line feed
abbrev pub is_space : ℕ → Bool
is_space c = (eqb c 0x20 || eqb c 0x09) || eqb c 0x0A

-- the word that a text begins in, and those behind it
pub record WordCut : Type 0 where
  pub word : List ℕ
  pub words : List (List ℕ)

-- a word counts where it has a character
abbrev pub closed : List ℕ → List (List ℕ) → List (List ℕ)
closed [] words = words
closed (c ∷ word) words = (c ∷ word) ∷ words

-- the cut of a text that a character is put in front of, which is a space or is not
abbrev pub word_cut_at : Bool → ℕ → WordCut → WordCut
word_cut_at true c cut = record { word = []; words = closed cut.word cut.words }
word_cut_at false c cut = record { word = c ∷ cut.word; words = cut.words }

abbrev pub word_cut_of : List ℕ → WordCut
word_cut_of [] = record { word = []; words = [] }
word_cut_of (c ∷ text) = word_cut_at (is_space c) c (word_cut_of text)

unfoldable pub words_of : List ℕ → List (List ℕ)
words_of text = closed (word_cut_of text).word (word_cut_of text).words
