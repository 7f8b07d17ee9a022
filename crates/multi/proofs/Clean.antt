-- What a quick look rests on: words among which no stray is are accepted; strays are counted, and an inner packet's NCS is let count as one.
-- Assumes nothing.
use Prim.Native.Nat.{ℕ, ◌+◌, ◌-◌, ◌/◌, ◌%◌, ◌≤◌, ◌<◌}
use native.Mathlib.Omega.{arith}
use mathlib.Core.Path.{◌≡◌, ◌∙◌, ap, ap₂, sym, subst, refl}
use mathlib.Core.Bool.{Bool, true, false, not}
use mathlib.Core.List.{List, [], ◌∷◌, ◌++◌}
use borrow.Author.Tests.{eq-eqb, ne_eqb, eqb-true, le-ltb}
use lib.Dec.{eqb}
use lib.ListN.{length, get_or, take, drop, length-drop}
use lib.Seq.{length-take-le, take-take, take-suc, drop-drop, get_or-take, get_or-drop}
use native.Mathlib.Numerals.{add-one}
use Rattle.lists.specs.Part.{part}
use Rattle.lists.specs.Sum.{sum}
use Rattle.lists.proofs.Part.{part-cons, length_part, part-front, take-join}
use Rattle.lists.proofs.Sum.{sum-append, sum_more}
use Rattle.refusal.specs.Verdict.{Accepted}
use Rattle.refusal.proofs.Checks.{refuse_if-accepted, all-accepted, and_then-accepted}
use Rattle.anc.specs.Words.{parity_of, byte_of, word_verdict, words_verdict, sum_verdict, checksum_of}
use Rattle.anc.specs.Inside.{cs_of}
use Rattle.anc.proofs.Words.{bits-accepted, sum-accepted, checksum-sum}
use Rattle.multi.specs.Order.{ncs_at, size_in, inners_in, covered_in, last_word, inner_checks, outer_checks}
use Rattle.multi.specs.Reading.{inner_verdict, inners_verdict, outer_verdict, multi_verdict}
use Rattle.multi.specs.Inside.{own_verdict, mark, stray, strays, Framed, Filled, Sums}
use Rattle.multi.proofs.Inners.{behind, inners-none, inners-next}
use Rattle.multi.proofs.Whole.{sum_check, multi-parts}

-- STRAYS

mark-none : (b : Bool) → mark b ≡ 0 → b ≡ true
mark-none true e = refl
mark-none false e = let f : ⊥ = omega arith in absurd f

stray-none : (place w : ℕ) → stray w ≡ 0 → word_verdict place w ≡ Accepted
unfolding stray
stray-none place w e = let bits = w / 256 + parity_of (byte_of w) in bits-accepted place w (eqb-true bits 2 (mark-none (eqb bits 2) e))

mark-low : (b : Bool) → mark b ≤ 1
mark-low true = omega arith
mark-low false = omega arith

pub stray-low : (w : ℕ) → stray w ≤ 1
unfolding stray
stray-low w = mark-low (eqb (w / 256 + parity_of (byte_of w)) 2)

pub strays-accepted : (place : ℕ) (ws : List ℕ) → strays ws ≡ 0 → words_verdict place ws ≡ Accepted
strays-accepted place [] e = refl
strays-accepted place (w ∷ ws) e =
    let one : stray w ≡ 0 = omega (arith, e) in
    let rest : strays ws ≡ 0 = omega (arith, e) in
    and_then-accepted (word_verdict place w) _ (stray-none place w one) (strays-accepted _ ws rest)

strays-append : (xs ys : List ℕ) → strays (xs ++ ys) ≡ strays xs + strays ys
strays-append [] ys = omega arith
strays-append (x ∷ xs) ys = omega (arith, strays-append xs ys)

-- a front that grows by a word
pub strays-more : (xs : List ℕ) (i : ℕ) → i < length xs → strays (take (i + 1) xs) ≡ strays (take i xs) + stray (get_or xs i 0)
strays-more xs i h =
    let next : take (i + 1) xs ≡ take i xs ++ (get_or xs i 0 ∷ []) = rw (add-one, take-suc xs i 0) in
    omega (arith, ap strays next, strays-append (take i xs) (get_or xs i 0 ∷ []))

-- and a part
pub strays-next : (xs : List ℕ) (from i : ℕ) → from ≤ i → i < length xs → strays (part from (i + 1) xs) ≡ strays (part from i xs) + stray (get_or xs i 0)
strays-next xs from i low h =
    let more : i + 1 - from ≡ i - from + 1 = omega arith in
    let here : from + (i - from) ≡ i = omega arith in
    let inside : i - from < length (drop from xs) = omega (arith, length-drop from xs) in
    let word : get_or (drop from xs) (i - from) 0 ≡ get_or xs i 0 = get_or-drop from xs (i - from) 0 ∙ ap (λ (k : ℕ). get_or xs k 0) here in
    ap (λ (k : ℕ). strays (take k (drop from xs))) more ∙ strays-more (drop from xs) (i - from) inside ∙ ap (λ (w : ℕ). strays (part from i xs) + stray w) word

-- the part from a up to b, and n words behind it
joined : (xs : List ℕ) (a b n : ℕ) → a ≤ b → part a b xs ++ take n (drop b xs) ≡ part a (b + n) xs
joined xs a b n h = take-join xs a (b - a) b n (b + n - a) (omega arith) (omega arith)

-- a part of a front is one of all
pub part-take : (s : List ℕ) (a n m : ℕ) → n ≤ m → part a n (take m s) ≡ part a n s
part-take s a n m h = part-front a n (take m s) ∙ ap (drop a) (take-take n m s h) ∙ sym (part-front a n s)

-- SUMS

-- what NCS covers
pub sum-covered : (u : List ℕ) → 4 ≤ length u → sum (part 1 (ncs_at u) u) ≡ get_or u 1 0 + (get_or u 2 0 + (get_or u 3 0 + sum (part 4 (ncs_at u) u)))
sum-covered u h =
    let n = ncs_at u in
    ap sum (part-cons u 0 1 n (omega arith) (omega arith))
    ∙ ap (λ (k : ℕ). get_or u 1 0 + k) (ap sum (part-cons u 0 2 n (omega arith) (omega arith))
    ∙ ap (λ (k : ℕ). get_or u 2 0 + k) (ap sum (part-cons u 0 3 n (omega arith) (omega arith))))

-- an inner packet
pub sum-inner : (u : List ℕ) → 4 ≤ length u → size_in u ≤ length u → sum (take (size_in u) u) ≡ get_or u 0 0 + sum (part 1 (ncs_at u) u) + get_or u (ncs_at u) 0
sum-inner u h long =
    let n = ncs_at u in
    let size : size_in u ≡ n + 1 = omega arith in
    let all : n - 0 ≡ n = omega arith in
    let front : sum (take n u) ≡ get_or u 0 0 + sum (part 1 n u) = ap (λ (k : ℕ). sum (take k u)) (sym all) ∙ ap sum (part-cons u 0 0 n (omega arith) (omega arith)) in
    ap (λ (k : ℕ). sum (take k u)) size ∙ sum_more u n (omega arith) ∙ ap (λ (k : ℕ). k + get_or u n 0) front

-- ONE INNER PACKET

module _ (u : List ℕ) (header : 4 ≤ length u) (long : size_in u ≤ length u) (line : byte_of (get_or u 0 0) / 64 ≡ 0)
    (own : (at : ℕ) → own_verdict at u ≡ Accepted) (ncs : get_or u (ncs_at u) 0 ≡ checksum_of (part 1 (ncs_at u) u)) where
  pub inner-clean : strays (take (ncs_at u) u) ≡ 0 → (at : ℕ) → inner_verdict at u ≡ Accepted
  unfolding inner_verdict
  inner-clean e at =
      all-accepted (inner_checks at u) (
        refuse_if-accepted _ _ _ (le-ltb (length u) 4 header),
        (
          refuse_if-accepted _ _ _ (le-ltb (length u) (size_in u) long),
          (
            strays-accepted at (take (ncs_at u) u) e,
            (
              ap (sum_verdict (at + ncs_at u)) ncs ∙ sum-accepted (at + ncs_at u) (part 1 (ncs_at u) u),
              (
                refuse_if-accepted _ _ _ (ap not (eq-eqb (byte_of (get_or u 0 0) / 64) 0 line)),
                (own at, (refuse_if-accepted _ _ _ (ap not (eq-eqb (get_or u (ncs_at u) 0) (checksum_of (part 1 (ncs_at u) u)) ncs)), tt)),
              ),
            ),
          ),
        ),
      )

-- ALL OF THEM

-- v are the words before CS. Up to `at`, where the next inner packet begins, `excused` strays are NCS words; where there is no other, all is well
-- so far
pub record Going (v : List ℕ) (at excused : ℕ) : Type 0 where
  pub extra : ℕ
  pub counted : strays (part 5 at v) ≡ excused + extra
  pub clear : extra ≡ 0 → inners_verdict at (drop at v) ≡ Accepted → (strays (part 5 7 v) ≡ 0) × (inners_verdict 7 (drop 7 v) ≡ Accepted)

pub going_start : (v : List ℕ) → Going v 7 0
going_start v = record { extra = strays (part 5 7 v); counted = omega arith; clear = λ e h. (e, h) }

module _ (v : List ℕ) (at : ℕ) (low : 7 ≤ at) (more : at < length v) (n : ℕ) (sums : Sums (drop at v) n) where
  abbrev u : List ℕ
  u = drop at v

  some : 0 < length u
  some = omega (arith, length-drop at v, more)

  -- its words before NCS, and NCS
  pub going_on : (excused : ℕ) → Going v at excused → Going v (at + size_in u) (excused + stray (get_or u (ncs_at u) 0))
  going_on excused g =
      let front = strays (take (ncs_at u) u) in
      let size : size_in u ≡ ncs_at u + 1 = omega arith in
      let inside : ncs_at u < length u = omega (arith, sums.long) in
      let whole : strays (take (size_in u) u) ≡ front + stray (get_or u (ncs_at u) 0) = ap (λ (k : ℕ). strays (take k u)) size ∙ strays-more u (ncs_at u) inside in
      let grown : strays (part 5 (at + size_in u) v) ≡ strays (part 5 at v) + strays (take (size_in u) u) =
      ap strays (sym (joined v 5 at (size_in u) (omega (arith, low)))) ∙ strays-append (part 5 at v) (take (size_in u) u) in
      record {
        extra = g.extra + front;
        counted = omega (arith, grown, whole, g.counted);
        clear = λ e h.
            let none : front ≡ 0 = omega (arith, e) in
            let before : g.extra ≡ 0 = omega (arith, e) in
            let rest : inners_verdict (at + size_in u) (behind u) ≡ Accepted = ap (inners_verdict (at + size_in u)) (drop-drop (size_in u) at v) ∙ h in
            g.clear before (inners-next at u some ∙ and_then-accepted (inner_verdict at u) _ (sums.holds none at) rest);
      }

  -- and the sum so far
  pub total-on : sum (part 3 (at + size_in u) v) ≡ sum (part 3 at v) + sum (take (size_in u) u)
  total-on = ap sum (sym (joined v 3 at (size_in u) (omega (arith, low)))) ∙ sum-append (part 3 at v) (take (size_in u) u)

-- no word is left: where as many strays as were excused are all there are, all is well
pub going_end : (v : List ℕ) (at excused : ℕ) → length v ≤ at → Going v at excused → strays (part 5 at v) ≡ excused
    → (strays (part 5 7 v) ≡ 0) × (inners_verdict 7 (drop 7 v) ≡ Accepted)
going_end v at excused past g e =
    let none : length (drop at v) ≡ 0 = omega (arith, length-drop at v, past) in
    g.clear (omega (arith, g.counted, e)) (inners-none at (drop at v) none)

-- A LOOP OVER ALL WORDS s, of which those before CS are the first `end`

module _ (s : List ℕ) (end at : ℕ) where
  word_in : (i : ℕ) → at + i < end → get_or (drop at (take end s)) i 0 ≡ get_or s (at + i) 0
  word_in i h = get_or-drop at (take end s) i 0 ∙ get_or-take end s (at + i) 0 h

  pub word-part : (i : ℕ) → at + i < end → get_or (part at end s) i 0 ≡ get_or s (at + i) 0
  word-part i h = ap (λ (u : List ℕ). get_or u i 0) (part-front at end s) ∙ word_in i h

  -- an inner packet that is all there ends before CS
  pub inner-inside : (n : ℕ) → end ≤ length s → Sums (part at end s) n → (at + 4 ≤ end) × (at + 5 + byte_of (get_or s (at + 3) 0) ≤ end)
  inner-inside n fits sums =
      let size = length_part s at end fits in
      let header : at + 4 ≤ end = omega (arith, size, sums.header) in
      let word = word-part 3 (omega (arith, header)) in
      (header, omega (arith, size, sums.long, word))

-- at a turn: the sum so far, and the strays
pub record Turn (s : List ℕ) (end at total excused : ℕ) : Type 0 where
  pub low : 7 ≤ at
  pub high : at ≤ end
  pub few : excused ≤ at
  pub summed : total ≡ sum (part 3 at (take end s)) % 65536
  pub going : Going (take end s) at excused

pub turn-start : (s : List ℕ) (end total : ℕ) → 7 ≤ end → total ≡ sum (part 3 7 s) % 65536 → Turn s end 7 total 0
turn-start s end total h e =
    record {
      low = omega arith;
      high = h;
      few = omega arith;
      summed = e ∙ ap (λ (ws : List ℕ). sum ws % 65536) (sym (part-take s 3 7 end h));
      going = going_start (take end s);
    }

module _ (s : List ℕ) (end at total excused : ℕ) (fits : end ≤ length s) (more : at < end) (turn : Turn s end at total excused) where
  pub turn_on : (n : ℕ) → Sums (part at end s) n → (ncs : ℕ) → ncs ≡ at + 4 + byte_of (get_or s (at + 3) 0)
      → (total' excused' : ℕ) → total' ≡ (total + n) % 65536 → excused' ≡ excused + stray (get_or s ncs 0) → Turn s end (ncs + 1) total' excused'
  turn_on n sums ncs here total' excused' added counted =
      let v = take end s in
      let u = drop at v in
      let mine : Sums u n = subst (λ (ws : List ℕ). Sums ws n) (part-front at end s) sums in
      let inside = inner-inside s end at n fits sums in
      let three : get_or u 3 0 ≡ get_or s (at + 3) 0 = word_in s end at 3 (omega (arith, inside.0)) in
      let behind : at + size_in u ≡ ncs + 1 = omega (arith, here, three) in
      let place : at + ncs_at u ≡ ncs = omega (arith, here, three) in
      let last : get_or u (ncs_at u) 0 ≡ get_or s ncs 0 = word_in s end at (ncs_at u) (omega (arith, place, here, inside.1)) ∙ ap (λ (k : ℕ). get_or s k 0) place in
      let left : at < length v = omega (arith, length-take-le end s fits, more) in
      let next = going_on v at turn.low left n mine excused turn.going in
      record {
        low = omega (arith, here, turn.low);
        high = omega (arith, here, inside.1);
        few = omega (arith, here, counted, stray-low (get_or s ncs 0), turn.few);
        summed = omega (arith, added, turn.summed, mine.total, total-on v at turn.low left n mine, ap (λ (k : ℕ). sum (part 3 k v)) behind);
        going = subst (λ (k : ℕ). Going v k excused') behind (subst (Going v (at + size_in u)) (ap (λ (w : ℕ). excused + stray w) last ∙ sym counted) next);
      }

pub turn_end : (s : List ℕ) (at total excused : ℕ) → 8 < length s → length s - 1 ≤ at → Turn s (length s - 1) at total excused
    → strays (part 5 (length s - 1) s) ≡ excused → last_word s ≡ cs_of total → Filled s
turn_end s at total excused some past turn all last =
    let end = length s - 1 in
    let v = take end s in
    let here : at ≡ end = omega (arith, past, turn.high) in
    let size : length v ≡ end = length-take-le end s (omega (arith, some)) in
    let found : strays (part 5 at v) ≡ excused = ap strays (ap (λ (k : ℕ). part 5 k v) here ∙ part-take s 5 end end (omega arith)) ∙ all in
    let both = going_end v at excused (omega (arith, size, past)) turn.going found in
    record {
      pair = ap strays (sym (part-take s 5 7 end (omega (arith, some)))) ∙ both.0;
      own = ap (inners_verdict 7) (part-front 7 end s) ∙ both.1;
      total =
          last
          ∙ ap cs_of (turn.summed ∙ ap (λ (ws : List ℕ). sum ws % 65536) (ap (λ (k : ℕ). part 3 k v) here ∙ part-take s 3 end end (omega arith)))
          ∙ sym (checksum-sum (covered_in s));
    }

-- THE MULTIPACKET

did-stray : stray 0x143 ≡ 0
unfolding stray parity_of
did-stray = refl

sdid-stray : stray 0x203 ≡ 0
unfolding stray parity_of
sdid-stray = refl

module _ (s : List ℕ) (f : Framed s) (g : Filled s) where
  words_right : words_verdict 3 (part 3 7 s) ≡ Accepted
  words_right =
      strays-accepted 3 (part 3 7 s)
      (ap strays (part-cons s 0 3 7 (omega arith) (omega (arith, f.some)))
      ∙ ap₂ (λ (a b : ℕ). a + b) (ap stray f.did ∙ did-stray)
      (ap strays (part-cons s 0 4 7 (omega arith) (omega (arith, f.some))) ∙ ap₂ (λ (a b : ℕ). a + b) (ap stray f.sdid ∙ sdid-stray) g.pair))

  outer-clean : outer_verdict s ≡ Accepted
  unfolding outer_verdict
  outer-clean =
      all-accepted (outer_checks s) (
        refuse_if-accepted _ _ _ (le-ltb 262 (length s) f.long),
        (
          refuse_if-accepted _ _ _ (le-ltb (length s) 8 (omega (arith, f.some))),
          (
            refuse_if-accepted _ _ _ (ap not (eq-eqb (get_or s 0 0) 0x000 f.flag0)),
            (
              refuse_if-accepted _ _ _ (ap not (eq-eqb (get_or s 1 0) 0x3FF f.flag1)),
              (
                refuse_if-accepted _ _ _ (ap not (eq-eqb (get_or s 2 0) 0x3FF f.flag2)),
                (
                  words_right,
                  (
                    ap (sum_verdict (length s - 1)) g.total ∙ sum-accepted (length s - 1) (covered_in s),
                    (
                      refuse_if-accepted _ _ _ (ap not (eq-eqb (get_or s 3 0) 0x143 f.did)),
                      (
                        refuse_if-accepted _ _ _ (ap not (eq-eqb (get_or s 4 0) 0x203 f.sdid)),
                        (
                          refuse_if-accepted _ _ _ (ap not (eq-eqb (byte_of (get_or s 5 0)) (length s - 7) f.dc)),
                          (refuse_if-accepted _ _ _ (ne_eqb (length s) 8 (λ e. omega (arith, e, f.some))), tt),
                        ),
                      ),
                    ),
                  ),
                ),
              ),
            ),
          ),
        ),
      )

  pub multi-clean : multi_verdict s ≡ Accepted
  multi-clean =
      let sum : sum_check s ≡ Accepted = refuse_if-accepted _ _ _ (ap not (eq-eqb (last_word s) (checksum_of (covered_in s)) g.total)) in
      multi-parts s ∙ and_then-accepted (outer_verdict s) _ outer-clean (and_then-accepted (inners_verdict 7 (inners_in s)) (sum_check s) g.own sum)
