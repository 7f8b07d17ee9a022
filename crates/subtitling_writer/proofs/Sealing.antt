-- The front's two checksums, each over the words that it covers, told from the sums of these.
-- Assumes nothing.
use Rattle.std.proofs.Common.{◌≡◌, ℕ, ◌+◌, ◌-◌, ◌%◌, ◌<◌, ◌≤◌, List, [], ◌∷◌, ◌++◌, map, length, take, drop, set, sym, refl, ap, ◌∙◌, ap₂, arith, length-append, take-append-drop, length-take-le}
use lib.Seq.{drop-append-le}
use Rattle.lists.specs.Room.{over}
use Rattle.lists.proofs.Lay.{store-next}
use Rattle.lists.specs.Part.{part}
use Rattle.lists.specs.Sum.{sum}
use Rattle.lists.proofs.Part.{part-front, take-join}
use Rattle.lists.proofs.Sum.{sum-append, sum_low}
use Rattle.anc.specs.Words.{byte_of, checksum_of}
use Rattle.anc.specs.Inside.{cs_of}
use Rattle.anc.proofs.Words.{checksum-sum}
use Rattle.sdp.specs.Layout.{sdp_checksum}

-- two stores behind the first n are laid behind them
pub two_stores : (out : List ℕ) (n a b : ℕ) → n + 2 ≤ length out → set (set out n a) (n + 1) b ≡ over ((take n out ++ (a ∷ [])) ++ (b ∷ [])) out
two_stores out n a b h =
    let front = take n out in
    let inside : n ≤ length out = omega arith in
    let sized : length front ≡ n = length-take-le n out inside in
    let whole : out ≡ over front out = sym (ap (λ (k : ℕ). front ++ drop k out) sized ∙ take-append-drop n out) in
    let room : n < length out = omega arith in
    let next : n + 1 < length out = omega arith in
    let longer : length (front ++ (a ∷ [])) ≡ n + 1 = length-append front (a ∷ []) ∙ omega arith in
    ap (λ (xs : List ℕ). set (set xs n a) (n + 1) b) whole
    ∙ ap (λ (xs : List ℕ). set xs (n + 1) b) (store-next front out a n sized room)
    ∙ store-next (front ++ (a ∷ [])) out b (n + 1) longer next

-- what CS covers: the header, the user words and the SDP checksum
covers : (out : List ℕ) (n a : ℕ) → 6 ≤ n → n + 2 ≤ length out
    → sum (drop 3 (take n out ++ (a ∷ []))) ≡ sum (part 3 6 out) + (sum (part 6 n out) + a)
covers out n a h fits =
    let front = take n out in
    let sized : length front ≡ n = length-take-le n out (omega arith) in
    let inside : 3 ≤ length front = omega arith in
    let behind : drop 3 (front ++ (a ∷ [])) ≡ drop 3 front ++ (a ∷ []) = drop-append-le 3 front (a ∷ []) inside in
    let joined : part 3 6 out ++ part 6 n out ≡ drop 3 front = take-join out 3 3 6 (n - 6) (n - 3) refl (omega arith) ∙ part-front 3 n out in
    omega (arith, ap sum behind, sum-append (drop 3 front) (a ∷ []), ap sum joined, sum-append (part 3 6 out) (part 6 n out))

wrapped : (h u a : ℕ) → ((h % 65536 + u % 65536) % 65536 + a) % 65536 ≡ (h + (u + a)) % 65536
wrapped h u a = omega arith

module _ (out : List ℕ) (n header user a : ℕ) (fits : 6 ≤ n) (room : n + 2 ≤ length out)
    (head : header ≡ sum (part 3 6 out) % 65536) (users : user ≡ sum (part 6 n out) % 65536) where
  pub sdp-sum : (256 - user % 256) % 256 ≡ sdp_checksum (map byte_of (drop 6 (take n out)))
  unfolding sdp_checksum
  sdp-sum =
      ap (λ (s : ℕ). (256 - s % 256) % 256) users
      ∙ ap (λ (s : ℕ). (256 - s) % 256) (sum_low 256 256 (part 6 n out))
      ∙ ap (λ (ws : List ℕ). (256 - sum (map byte_of ws) % 256) % 256) (part-front 6 n out)

  pub cs-sum : cs_of (((header + user) % 65536 + a) % 65536) ≡ checksum_of (drop 3 (take n out ++ (a ∷ [])))
  cs-sum =
      let covered = drop 3 (take n out ++ (a ∷ [])) in
      ap₂ (λ (h u : ℕ). cs_of (((h + u) % 65536 + a) % 65536)) head users
      ∙ ap cs_of (wrapped (sum (part 3 6 out)) (sum (part 6 n out)) a)
      ∙ ap (λ (s : ℕ). cs_of (s % 65536)) (sym (covers out n a fits room))
      ∙ sym (checksum-sum covered)
