-- The words of descriptors and of one structure, and those of a front that grows.
-- Assumes nothing.
use Rattle.std.proofs.Common.{◌≡◌, ℕ, ◌+◌, ◌<◌, ◌≤◌, List, [], ◌∷◌, ◌++◌, map, length, get_or, take, refl, add-one, arith, length-take-le, take-suc}
use mathlib.Core.List.{map-append}
use lib.ListN.{length-map}
use Rattle.anc.specs.Words.{parity_of, word_of, byte_of}
use Rattle.sdp.specs.declared.Slot.{Slot}
use Rattle.sdp.specs.Value.{descriptor, empty_slot}

-- of the descriptors of slots
abbrev pub slot_words : List Slot → List ℕ
slot_words ss = map word_of (map byte_of (map descriptor ss))

pub length-slot_words : (ss : List Slot) (i : ℕ) → i ≤ length ss → length (slot_words (take i ss)) ≡ i
length-slot_words ss i h = simp length-map (length-take-le i ss h)

pub slot_words_more : (ss : List Slot) (i : ℕ) → i < length ss → slot_words (take (i + 1) ss) ≡ slot_words (take i ss) ++ (word_of (byte_of (descriptor (get_or ss i empty_slot))) ∷ [])
slot_words_more ss i h = rw (add-one, take-suc ss i empty_slot, map-append, map-append, map-append)

-- of 55 55 27, and of the bytes behind them
abbrev pub row_words : List ℕ → List ℕ
row_words bytes = 0x255 ∷ 0x255 ∷ 0x227 ∷ map word_of bytes

pub row_words-word_of : (bytes : List ℕ) → row_words bytes ≡ map word_of (0x55 ∷ 0x55 ∷ 0x27 ∷ bytes)
unfolding word_of parity_of
row_words-word_of bytes = refl

pub length-row_words : (r : List ℕ) (j : ℕ) → j ≤ length r → length (row_words (take j r)) ≡ 3 + j
length-row_words r j h = omega (arith, length-map (take j r) word_of, length-take-le j r h)

pub row_words_more : (r : List ℕ) (j : ℕ) → j < length r → row_words (take (j + 1) r) ≡ row_words (take j r) ++ (word_of (get_or r j 0) ∷ [])
row_words_more r j h = rw (add-one, take-suc r j 0, map-append)
