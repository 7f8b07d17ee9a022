-- A packet around user bytes: the checks of its words let through exactly the packets of user bytes that the rules let through.
-- Assumes nothing.
use Prim.Native.Nat.{ℕ, suc, ◌+◌, ◌-◌, ◌%◌, ◌≤◌, ◌<◌}
use native.Mathlib.Omega.{arith}
use mathlib.Core.Path.{◌≡◌, ◌∙◌, ap, sym}
use mathlib.Core.List.{List, [], ◌∷◌, ◌++◌, map}
use borrow.Author.Tests.{eq-eqb, le-ltb}
use lib.ListN.{length, get_or, drop, length-map, take-append-drop, drop_of_length-le}
use lib.Seq.{get_or_at, take_at, drop-drop, drop-cons}
use Rattle.lists.specs.Bytes.{Bytes}
use Rattle.lists.specs.Part.{part}
use Rattle.lists.proofs.Part.{part-cons}
use Rattle.refusal.specs.Verdict.{Accepted}
use Rattle.anc.specs.Words.{parity_of, word_of, byte_of, words_verdict, sum_verdict, checksum_of}
use Rattle.anc.proofs.Words.{word_byte, words-bytes, words-accepted, accepted-words, sum-accepted}
use Rattle.subtitling.specs.Layout.{covered, packet}
use Rattle.sdp.specs.User.{user_verdict}
use Rattle.subtitling.specs.Reading.{covered_in, user_in, last_word, form_verdict, header_verdict, checksum_verdict, packet_verdict}
use Rattle.subtitling.proofs.Numbers.{length-packet}
use Rattle.subtitling.proofs.Accepted.{Whole}
use Rattle.subtitling.proofs.Sequence.{length-user_in}

-- LAID, THEN READ

module _ (u : List ℕ) (bytes : Bytes u) (long : 13 ≤ length u) (short : length u ≤ 238) where
  length-covered : length (covered u) ≡ length u + 3
  length-covered = omega (arith, length-map u word_of)

  packet-covered : covered_in (packet u) ≡ covered u
  packet-covered = take_at (covered u) (checksum_of (covered u) ∷ []) (length (packet u) - 1 - 3) (omega (arith, length-covered, length-packet u))

  packet-last : last_word (packet u) ≡ checksum_of (covered u)
  packet-last =
      get_or_at (0x000 ∷ 0x3FF ∷ 0x3FF ∷ covered u) (checksum_of (covered u)) [] 0 (length (packet u) - 1) (omega (arith, length-covered, length-packet u))

  pub packet-user : user_in (packet u) ≡ u
  packet-user =
      ap (map byte_of) (take_at (map word_of u) (checksum_of (covered u) ∷ []) (length (packet u) - 1 - 6) (omega (arith, length-map u word_of, length-packet u)))
      ∙ words-bytes u bytes

  packet-form : form_verdict (packet u) ≡ Accepted
  unfolding form_verdict
  packet-form =
      let most : length (packet u) ≤ 245 = omega (arith, length-packet u) in
      let least : 20 ≤ length (packet u) = omega (arith, length-packet u) in
      let byte : length u < 256 = omega arith in
      let words = ap (words_verdict 3) packet-covered ∙ words-accepted 3 (0x43 ∷ 0x02 ∷ length u ∷ u) (omega arith, (omega arith, (byte, bytes))) in
      let cs = ap (sum_verdict (length (packet u) - 1)) packet-last ∙ sum-accepted (length (packet u) - 1) (covered u) in
      simp (le-ltb 245 (length (packet u)) most, le-ltb (length (packet u)) 20 least, words, cs)

  packet-header : header_verdict (packet u) ≡ Accepted
  unfolding header_verdict word_of parity_of
  packet-header =
      let byte : length u < 256 = omega arith in
      let dc : word_of (length u) % 256 ≡ length (packet u) - 7 = word_byte (length u) byte ∙ omega (arith, length-packet u) in
      simp (eq-eqb (word_of (length u) % 256) (length (packet u) - 7) dc)

  packet-checksum : checksum_verdict (packet u) ≡ Accepted
  unfolding checksum_verdict
  packet-checksum =
      simp (eq-eqb (last_word (packet u)) (checksum_of (covered_in (packet u))) (packet-last ∙ ap checksum_of (sym packet-covered)))

  pub packet-accepted : user_verdict 5 u ≡ Accepted → packet_verdict (packet u) ≡ Accepted
  unfolding packet_verdict
  packet-accepted e =
      let user = ap (user_verdict 5) packet-user ∙ e in
      simp (packet-form, packet-header, user, packet-checksum)

-- READ, THEN LAID

three-first : (s : List ℕ) → 3 ≤ length s → s ≡ get_or s 0 0 ∷ get_or s 1 0 ∷ get_or s 2 0 ∷ drop 3 s
three-first s h =
    drop-cons s 0 0 (omega arith)
    ∙ ap (λ (r : List ℕ). get_or s 0 0 ∷ r) (drop-cons s 1 0 (omega arith) ∙ ap (λ (r : List ℕ). get_or s 1 0 ∷ r) (drop-cons s 2 0 (omega arith)))

-- the covered words: DID, SDID, DC, and the user words
pub covered-cons : (s : List ℕ) → 20 ≤ length s → covered_in s ≡ get_or s 3 0 ∷ get_or s 4 0 ∷ get_or s 5 0 ∷ part 6 (length s - 1) s
covered-cons s long =
    let to = length s - 1 in
    part-cons s 0 3 to (omega arith) (omega arith)
    ∙ ap (λ (r : List ℕ). get_or s 3 0 ∷ r)
    (part-cons s 0 4 to (omega arith) (omega arith) ∙ ap (λ (r : List ℕ). get_or s 4 0 ∷ r) (part-cons s 0 5 to (omega arith) (omega arith)))

module _ (s : List ℕ) (whole : Whole s) where
  begun : s ≡ 0x000 ∷ 0x3FF ∷ 0x3FF ∷ drop 3 s
  begun =
      let three : 3 ≤ length s = omega (arith, whole.form.long) in
      three-first s three ∙ (λ i. whole.form.flag0 i ∷ whole.form.flag1 i ∷ whole.form.flag2 i ∷ drop 3 s)

  -- the bytes that the covered words hold
  covered-bytes : map byte_of (covered_in s) ≡ 0x43 ∷ 0x02 ∷ length (user_in s) ∷ user_in s
  covered-bytes =
      let did : byte_of (get_or s 3 0) ≡ 0x43 = ap byte_of whole.header.did in
      let sdid : byte_of (get_or s 4 0) ≡ 0x02 = ap byte_of whole.header.sdid in
      let dc : byte_of (get_or s 5 0) ≡ length (user_in s) = whole.header.dc ∙ sym (length-user_in s whole.form.long) in
      ap (map byte_of) (covered-cons s whole.form.long) ∙ (λ i. did i ∷ sdid i ∷ dc i ∷ user_in s)

  user-covered : covered (user_in s) ≡ covered_in s
  user-covered = ap (map word_of) (sym covered-bytes) ∙ accepted-words 3 (covered_in s) whole.form.words

  -- CS is the last word
  end : drop (length s - 1 - 3) (drop 3 s) ≡ last_word s ∷ []
  end =
      let far : 3 + (length s - 1 - 3) ≡ length s - 1 = omega (arith, whole.form.long) in
      let inside : length s - 1 < length s = omega (arith, whole.form.long) in
      let past : length s ≤ suc (length s - 1) = omega arith in
      drop-drop (length s - 1 - 3) 3 s
      ∙ ap (λ (k : ℕ). drop k s) far
      ∙ drop-cons s (length s - 1) 0 inside
      ∙ ap (λ (r : List ℕ). last_word s ∷ r) (drop_of_length-le s past)

  pub packet-back : packet (user_in s) ≡ s
  packet-back =
      ap (λ (ws : List ℕ). 0x000 ∷ 0x3FF ∷ 0x3FF ∷ (ws ++ (checksum_of ws ∷ []))) user-covered
      ∙ ap (λ (r : List ℕ). 0x000 ∷ 0x3FF ∷ 0x3FF ∷ r)
      (ap (λ (cs : ℕ). covered_in s ++ (cs ∷ [])) (sym whole.checksum)
      ∙ ap (λ (r : List ℕ). covered_in s ++ r) (sym end)
      ∙ take-append-drop (length s - 1 - 3) (drop 3 s))
      ∙ sym begun
