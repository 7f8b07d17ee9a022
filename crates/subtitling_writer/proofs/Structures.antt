-- The words of the structures of the first slots, and how a slot adds to them.
-- Assumes nothing.
use Rattle.std.proofs.Common.{◌≡◌, ℕ, zero, suc, ◌+◌, ◌*◌, ◌%◌, ◌<◌, ◌≤◌, List, [], ◌∷◌, ◌++◌, map, length, get_or, take, refl, ap, ◌∙◌, subst, append-nil, arith, length-append, take_all}
use mathlib.Core.List.{map-append}
use lib.ListN.{length-map}
use Rattle.lists.specs.Each.{Each}
use Rattle.lists.specs.Sum.{sum}
use Rattle.lists.proofs.Each.{each_at}
use Rattle.lists.proofs.Sum.{sum-append}
use Rattle.anc.specs.Words.{word_of}
use Rattle.sdp.specs.declared.Packet.{Packet}
use Rattle.sdp.specs.Value.{SlotRow, Row, LegalSlot, Typed, descriptor, empty_slot, together, held}
use Rattle.sdp.specs.Layout.{count, structure, structures}
use Rattle.sdp.specs.User.{mark_of}
use Rattle.sdp.proofs.Numbers.{length-held}
use Rattle.sdp.proofs.Vouched.{legal-mark}
use Rattle.subtitling.proofs.Held.{beyond, held_at, few-structures}
use Rattle.subtitling.proofs.HeldStructures.{structure-none, structure-some, structures-more, structures-front}

-- the words of the first i slots
abbrev pub words : List SlotRow → ℕ → List ℕ
words xs i = map word_of (structures (take i xs))

-- what one structure adds
abbrev pub piece : List ℕ → List ℕ
piece row = map word_of (0x55 ∷ 0x55 ∷ 0x27 ∷ row)

module _ (p : Packet) (rows : List (List ℕ)) (t : Typed p rows) (i : ℕ) (h : i < 5) where
  pub words_more : (new : List ℕ) → structure (descriptor (get_or p.slots i empty_slot)) (get_or rows i []) ≡ new
      → words (held p rows).slots (i + 1) ≡ words (held p rows).slots i ++ map word_of new
  words_more new e =
      let front = structures (take i (held p rows).slots) in
      ap (λ (bytes : List ℕ). map word_of bytes) (structures-more p rows t i h ∙ ap (λ (bytes : List ℕ). front ++ bytes) e) ∙ map-append word_of front new

  pub words-none : descriptor (get_or p.slots i empty_slot) ≡ 0 → words (held p rows).slots (i + 1) ≡ words (held p rows).slots i
  words-none e = words_more [] (structure-none _ (get_or rows i []) e) ∙ append-nil (words (held p rows).slots i)

  pub words-some : (descriptor (get_or p.slots i empty_slot) ≡ 0 → ⊥) → words (held p rows).slots (i + 1) ≡ words (held p rows).slots i ++ piece (get_or rows i [])
  words-some some = words_more (0x55 ∷ 0x55 ∷ 0x27 ∷ get_or rows i []) (structure-some _ (get_or rows i []) some)

  pub length-piece : length (piece (get_or rows i [])) ≡ 45
  length-piece =
      let inside : i < length rows = omega (arith, t.five) in
      let row : length (get_or rows i []) ≡ 42 = (each_at Row [] rows t.each i inside).0 in
      omega (arith, length-map (get_or rows i []) word_of)

pub unmarked : (d : ℕ) → mark_of d ≡ 0 → d ≡ 0
unmarked zero e = refl
unmarked (suc d) e = let f : ⊥ = omega arith in absurd f

-- in a legal value a slot is marked as its descriptor says
pub marked : (p : Packet) (rows : List (List ℕ)) → Typed p rows → Each LegalSlot (held p rows).slots → (i : ℕ) → i < 5
    → (get_or p.slots i empty_slot).full ≡ mark_of (descriptor (get_or p.slots i empty_slot))
marked p rows t legal i h =
    let xs = (held p rows).slots in
    let inside : i < length xs = omega (arith, length-held p rows t) in
    legal-mark (together (get_or p.slots i empty_slot) (get_or rows i [])) (subst LegalSlot (held_at p rows t i h) (each_at LegalSlot beyond xs legal i inside))

-- the words of the first i slots are few
module _ (p : Packet) (rows : List (List ℕ)) (t : Typed p rows) (i : ℕ) where
  pub length-front : length (words (held p rows).slots i) ≤ 45 * count (map descriptor p.slots)
  length-front = omega (arith, length-map (structures (take i (held p rows).slots)) word_of, structures-front p rows t i)

  pub front-few : length (words (held p rows).slots i) ≤ 225
  front-few = omega (arith, length-front, few-structures p rows t)

  -- where a structure comes to them, they grow by 45
  pub words-grown : i < 5 → (descriptor (get_or p.slots i empty_slot) ≡ 0 → ⊥) → length (words (held p rows).slots (i + 1)) ≡ length (words (held p rows).slots i) + 45
  words-grown h some =
      omega (arith, ap length (words-some p rows t i h some), length-append (words (held p rows).slots i) (piece (get_or rows i [])), length-piece p rows t i h)

-- all slots are the first five
pub words-all : (p : Packet) (rows : List (List ℕ)) → Typed p rows → (i : ℕ) → 5 ≤ i → take i (held p rows).slots ≡ (held p rows).slots
words-all p rows t i h = take_all i (held p rows).slots (omega (arith, length-held p rows t))

-- the sum of a structure goes to the total
pub totalled : (front new : List ℕ) (total words : ℕ) → total ≡ sum front % 65536 → words ≡ sum new % 65536
    → (total + words) % 65536 ≡ sum (front ++ new) % 65536
totalled front new total words e f = omega (arith, sum-append front new)
