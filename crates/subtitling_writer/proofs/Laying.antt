-- The pieces that `put` stores, each laid over the output behind those before it, and the sums that they answer.
-- Assumes nothing.
use Rattle.std.proofs.Common.{◌≡◌, ℕ, ◌+◌, ◌-◌, ◌*◌, ◌/◌, ◌%◌, ◌<◌, ◌≤◌, List, [], ◌∷◌, ◌++◌, map, length, take, drop, sym, refl, ap, ◌∙◌, subst, ap₂, arith}
use borrow.Rule.Slice.PartMut.{put_mid}
use Rattle.lists.specs.Part.{part}
use Rattle.lists.specs.Room.{over}
use Rattle.lists.specs.Sum.{sum}
use Rattle.lists.proofs.Lay.{length_over, take-over, over-again, laid_more}
use Rattle.lists.proofs.Part.{part-front}
use Rattle.lists.proofs.Sum.{sum-append}
use Rattle.refusal.specs.Verdict.{Accepted}
use Rattle.anc.specs.Words.{parity_of, word_of, byte_of}
use Rattle.anc.proofs.Words.{word_low}
use Rattle.sdp.specs.declared.Packet.{Packet}
use Rattle.sdp.specs.Value.{Typed, Legal, descriptor, held}
use Rattle.sdp.specs.Layout.{user_length, structures, footer}
use Rattle.subtitling.specs.Layout.{layout}
use Rattle.subtitling.specs.Inside.{sealed}
use Rattle.subtitling.specs.Writing.{value_verdict}
use Rattle.sdp.proofs.Numbers.{checked-legal}
use Rattle.subtitling.proofs.Numbers.{Writable, accepted-value}
use Rattle.subtitling.proofs.Held.{length-layout-held}
use Rattle.subtitling.proofs.Pieces.{header, structures_of, headed, described, structured, footed, length-described, length-structured, length-footed, sealed-longer, pieces-layout}

-- a value that was judged
module _ (p : Packet) (rows : List (List ℕ)) (out : List ℕ) (t : Typed p rows) (e : value_verdict (held p rows) (length out) ≡ Accepted) where
  writable : Writable (held p rows) (length out)
  writable = accepted-value _ _ e

  pub legal : Legal (held p rows)
  legal = checked-legal p rows t writable.few writable.each

  pub room : 20 + 45 * structures_of p ≤ length out
  room = omega (arith, writable.fits, length-layout-held p rows t)

  -- the output after each piece: what is laid over it, and its length
  module _ (o1 : List ℕ) (k : ℕ) (counted : k ≡ structures_of p) (e1 : o1 ≡ over (header k) out) where
    laid1 : o1 ≡ over (headed p) out
    laid1 = e1 ∙ ap (λ (n : ℕ). over (header n) out) counted

    pub kept1 : length o1 ≡ length out
    kept1 = let h : 10 ≤ length out = omega (arith, room) in ap length laid1 ∙ length_over (headed p) out h

    module _ (d : List ℕ) (e2 : d ≡ over (map word_of (map byte_of (map descriptor p.slots))) (take (length o1 - 10) (drop 10 o1))) where
      abbrev pub o2 : List ℕ
      o2 = put_mid 10 (length o1 - 10) o1 d

      laid2 : o2 ≡ over (described p) out
      laid2 = laid_more (headed p) (map word_of (map byte_of (map descriptor p.slots))) out o1 d 10 laid1 refl e2

      pub kept2 : length o2 ≡ length out
      kept2 =
          let h : length (described p) ≤ length out = omega (arith, room, length-described p rows t) in
          ap length laid2 ∙ length_over (described p) out h

      module _ (s : List ℕ) (e3 : s ≡ over (map word_of (structures (held p rows).slots)) (take (length o2 - 15) (drop 15 o2))) where
        abbrev pub o3 : List ℕ
        o3 = put_mid 15 (length o2 - 15) o2 s

        laid3 : o3 ≡ over (structured p rows) out
        laid3 = laid_more (described p) (map word_of (structures (held p rows).slots)) out o2 s 15 laid2 (length-described p rows t) e3

        pub kept3 : length o3 ≡ length out
        kept3 =
            let h : length (structured p rows) ≤ length out = omega (arith, room, length-structured p rows t) in
            ap length laid3 ∙ length_over (structured p rows) out h

        module _ (f : List ℕ) (e4 : f ≡ over (map word_of (footer p.counter)) (take (length o3 - (15 + 45 * k)) (drop (15 + 45 * k) o3))) where
          abbrev pub o4 : List ℕ
          o4 = put_mid (15 + 45 * k) (length o3 - (15 + 45 * k)) o3 f

          pub laid4 : o4 ≡ over (footed p rows) out
          laid4 =
              let long : length (structured p rows) ≡ 15 + 45 * k = omega (arith, length-structured p rows t, counted) in
              laid_more (structured p rows) (map word_of (footer p.counter)) out o3 f (15 + 45 * k) laid3 long e4

          pub kept4 : length o4 ≡ length out
          kept4 =
              let h : length (footed p rows) ≤ length out = omega (arith, room, length-footed p rows t) in
              ap length laid4 ∙ length_over (footed p rows) out h

-- THE SUMS

pub small-mod : (a b : ℕ) → a ≡ b → a < 65536 → a ≡ b % 65536
small-mod a b e h = omega arith

-- the words of the bytes that are the same in all packets
fixed : (word_of 0x43 ≡ 0x143) × ((word_of 0x02 ≡ 0x102) × ((word_of 0x51 ≡ 0x151) × (word_of 0x15 ≡ 0x115)))
unfolding word_of parity_of
fixed = (refl, (refl, (refl, refl)))

module _ (p : Packet) (rows : List (List ℕ)) (out xs : List ℕ) (n : ℕ) (laid : xs ≡ over (footed p rows) out) (long : length (footed p rows) ≡ n) where
  abbrev dc : ℕ
  dc = word_of (user_length (structures_of p))

  pub front-is : take n xs ≡ footed p rows
  front-is = ap (λ (ys : List ℕ). take n ys) laid ∙ take-over (footed p rows) out n long

  -- DID, SDID, DC
  pub header-sum : sum (part 3 6 xs) ≡ 0x143 + 0x102 + dc
  header-sum = ap (λ (ys : List ℕ). sum (part 3 6 ys)) laid ∙ omega (arith, fixed)

  -- the user words
  pub user-sum : sum (part 6 n xs)
      ≡ 0x151 + 0x115 + dc + 0x102
      + (sum (map word_of (map byte_of (map descriptor p.slots))) + (sum (map word_of (structures (held p rows).slots)) + sum (map word_of (footer p.counter))))
  user-sum =
      let head = word_of 0x51 ∷ word_of 0x15 ∷ dc ∷ word_of 0x02 ∷ [] in
      let ds = map word_of (map byte_of (map descriptor p.slots)) in
      let ss = map word_of (structures (held p rows).slots) in
      let foot = map word_of (footer p.counter) in
      ap sum (part-front 6 n xs ∙ ap (λ (ys : List ℕ). drop 6 ys) front-is)
      ∙ sum-append ((head ++ ds) ++ ss) foot
      ∙ ap (λ (s : ℕ). s + sum foot) (sum-append (head ++ ds) ss ∙ ap (λ (s : ℕ). s + sum ss) (sum-append head ds))
      ∙ added _ _ _ fixed
    where
      added : (d s f : ℕ) → (word_of 0x43 ≡ 0x143) × ((word_of 0x02 ≡ 0x102) × ((word_of 0x51 ≡ 0x151) × (word_of 0x15 ≡ 0x115)))
          → word_of 0x51 + (word_of 0x15 + (dc + (word_of 0x02 + 0))) + d + s + f ≡ 0x151 + 0x115 + dc + 0x102 + (d + (s + f))
      added d s f w = omega (arith, w)

-- the footed output, sealed, is the layout
pub sealed-laid : (p : Packet) (rows : List (List ℕ)) (out xs : List ℕ) (n : ℕ) → Typed p rows → Legal (held p rows) → xs ≡ over (footed p rows) out → length (footed p rows) ≡ n
    → over (sealed (take n xs)) xs ≡ over (layout (held p rows)) out
sealed-laid p rows out xs n t legal laid long =
    let front = footed p rows in
    ap₂ (λ (f ys : List ℕ). over (sealed f) ys) (front-is p rows out xs n laid long) laid
    ∙ over-again front out (sealed front) (sealed-longer front)
    ∙ ap (λ (laid : List ℕ). over laid out) (pieces-layout p rows t legal)

-- words are few
pub word-few : (w b : ℕ) → w ≡ word_of b → b < 256 → w ≤ 1023
word-few w b e h = subst (λ (v : ℕ). v ≤ 1023) (sym e) (word_low b h)

pub footer-few : (r counter : ℕ) → r ≡ sum (map word_of (footer counter)) → counter < 65536 → r ≤ 3069
footer-few r counter e h =
    let high : counter / 256 < 256 = omega arith in
    let low : counter % 256 < 256 = omega arith in
    let id : 0x74 < 256 = omega arith in
    three _ _ _ _ e (word_low 0x74 id) (word_low (counter / 256) high) (word_low (counter % 256) low)
  where
    three : (r a b c : ℕ) → r ≡ a + (b + (c + 0)) → a ≤ 1023 → b ≤ 1023 → c ≤ 1023 → r ≤ 3069
    three r a b c e f g h = omega arith

pub added-user : (d s f dc D S : ℕ) → d ≡ D % 65536 → s ≡ S % 65536
    → ((d + s) % 65536 + (0x151 + 0x115 + dc + 0x102 + f)) % 65536 ≡ (0x151 + 0x115 + dc + 0x102 + (D + (S + f))) % 65536
added-user d s f dc D S e g = omega arith
