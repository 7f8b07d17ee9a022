-- The layout of a legal value, put together of the pieces that `put` stores: header, descriptors, structures and footer, and then the two sums.
-- Assumes nothing.
use Prim.Native.Nat.{ℕ, ◌+◌, ◌*◌, ◌%◌, ◌≤◌}
use native.Mathlib.Omega.{arith}
use mathlib.Core.Path.{◌≡◌, ◌∙◌, ap, ap₂, sym, subst, refl}
use mathlib.Core.List.{List, [], ◌∷◌, ◌++◌, map, map-append, append_assoc}
use lib.ListN.{length, drop, length-map, length-append}
use Rattle.lists.specs.Bytes.{Bytes}
use Rattle.anc.specs.Words.{word_of, byte_of, checksum_of}
use Rattle.anc.proofs.Words.{words-bytes}
use Rattle.sdp.specs.declared.Packet.{Packet}
use Rattle.sdp.specs.Value.{Sdp, Typed, Legal, descriptor, held}
use Rattle.sdp.specs.Layout.{descriptors_of, count, structures, user_length, footer, body, sdp_checksum, user_bytes}
use Rattle.subtitling.specs.Layout.{covered, layout}
use Rattle.subtitling.specs.Inside.{summed, sealed}
use Rattle.sdp.proofs.Slots.{descriptors-below}
use Rattle.sdp.proofs.Numbers.{user-size, held-descriptors}
use Rattle.sdp.proofs.LegalBytes.{body_bytes}
use Rattle.subtitling.proofs.HeldStructures.{length-structures-held}

-- SEALED

-- the packet up to the SDP checksum
abbrev unsealed : Sdp → List ℕ
unsealed v = 0x000 ∷ 0x3FF ∷ 0x3FF ∷ map word_of (0x43 ∷ 0x02 ∷ length (user_bytes v) ∷ body v)

sealed-layout : (v : Sdp) → Legal v → sealed (unsealed v) ≡ layout v
sealed-layout v h =
    let laid : summed (unsealed v) ≡ 0x000 ∷ 0x3FF ∷ 0x3FF ∷ covered (user_bytes v) =
    ap (λ (bytes : List ℕ). unsealed v ++ (word_of (sdp_checksum bytes) ∷ [])) (words-bytes (body v) (body_bytes v h))
    ∙ ap (λ (ws : List ℕ). 0x000 ∷ 0x3FF ∷ 0x3FF ∷ ws) (sym (map-append word_of (0x43 ∷ 0x02 ∷ length (user_bytes v) ∷ body v) (sdp_checksum (body v) ∷ []))) in
    ap (λ (ws : List ℕ). ws ++ (checksum_of (drop 3 ws) ∷ [])) laid

pub sealed-longer : (front : List ℕ) → length front ≤ length (sealed front)
sealed-longer front = omega (arith, length-append (summed front) (checksum_of (drop 3 (summed front)) ∷ []), length-append front (word_of (sdp_checksum (map byte_of (drop 6 front))) ∷ []))

-- PIECES

abbrev pub header : ℕ → List ℕ
header k = 0x000 ∷ 0x3FF ∷ 0x3FF ∷ map word_of (0x43 ∷ 0x02 ∷ user_length k ∷ 0x51 ∷ 0x15 ∷ user_length k ∷ 0x02 ∷ [])

-- with k structures
abbrev pub structures_of : Packet → ℕ
structures_of p = count (map descriptor p.slots)

-- what is stored after one, two, three and four pieces
abbrev pub headed : Packet → List ℕ
headed p = header (structures_of p)

abbrev pub described : Packet → List ℕ
described p = headed p ++ map word_of (map byte_of (map descriptor p.slots))

abbrev pub structured : Packet → List (List ℕ) → List ℕ
structured p rows = described p ++ map word_of (structures (held p rows).slots)

abbrev pub footed : Packet → List (List ℕ) → List ℕ
footed p rows = structured p rows ++ map word_of (footer p.counter)

module _ (p : Packet) (rows : List (List ℕ)) (t : Typed p rows) where
  pub length-described : length (described p) ≡ 15
  length-described =
      let five : length (map word_of (map byte_of (map descriptor p.slots))) ≡ 5 = simp length-map t.slots in
      omega (arith, length-append (headed p) (map word_of (map byte_of (map descriptor p.slots))))

  pub length-structured : length (structured p rows) ≡ 15 + 45 * structures_of p
  length-structured =
      let words = map word_of (structures (held p rows).slots) in
      omega (arith, length-append (described p) words, length-described, length-map (structures (held p rows).slots) word_of, length-structures-held p rows t)

  pub length-footed : length (footed p rows) ≡ 18 + 45 * structures_of p
  length-footed = omega (arith, length-append (structured p rows) (map word_of (footer p.counter)), length-structured)

bytes_same : (bs : List ℕ) → Bytes bs → map byte_of bs ≡ bs
bytes_same [] h = refl
bytes_same (b ∷ bs) h = let same : b % 256 ≡ b = omega (arith, h.0) in ap₂ (λ (x : ℕ) (xs : List ℕ). x ∷ xs) same (bytes_same bs h.1)

joined : (a b c : List ℕ) → (map word_of a ++ map word_of b) ++ map word_of c ≡ map word_of (a ++ (b ++ c))
joined a b c =
    append_assoc (map word_of a) (map word_of b) (map word_of c)
    ∙ ap (λ (ws : List ℕ). map word_of a ++ ws) (sym (map-append word_of b c))
    ∙ sym (map-append word_of a (b ++ c))

footed-unsealed : (p : Packet) (rows : List (List ℕ)) → Typed p rows → Legal (held p rows) → footed p rows ≡ unsealed (held p rows)
footed-unsealed p rows t h =
    let v = held p rows in
    let ds = map descriptor p.slots in
    let same : descriptors_of v.slots ≡ ds = held-descriptors p rows t in
    let long : length (user_bytes v) ≡ user_length (count ds) = user-size v h ∙ ap (λ (xs : List ℕ). user_length (count xs)) same in
    let rest = structures v.slots ++ footer p.counter in
    let bytes : Bytes ds = subst Bytes same (descriptors-below v.slots h.each) in
    ap (λ (xs : List ℕ). ((headed p ++ map word_of xs) ++ map word_of (structures v.slots)) ++ map word_of (footer p.counter)) (bytes_same ds bytes)
    ∙ ap (λ (ws : List ℕ). headed p ++ ws) (joined ds (structures v.slots) (footer p.counter))
    ∙ ap₂ (λ (dc : ℕ) (xs : List ℕ). 0x000 ∷ 0x3FF ∷ 0x3FF ∷ map word_of (0x43 ∷ 0x02 ∷ dc ∷ 0x51 ∷ 0x15 ∷ user_length (count xs) ∷ 0x02 ∷ (xs ++ rest))) (sym long)
    (sym same)

-- the four pieces and their two sums are the layout
pub pieces-layout : (p : Packet) (rows : List (List ℕ)) → Typed p rows → Legal (held p rows) → sealed (footed p rows) ≡ layout (held p rows)
pieces-layout p rows t h = ap sealed (footed-unsealed p rows t h) ∙ sealed-layout (held p rows) h
