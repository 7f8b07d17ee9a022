-- What is right at each place of a packet that is accepted, and of a legal value's layout.
-- Assumes nothing.
use Prim.Native.Nat.{ℕ, zero, suc, ◌+◌, ◌-◌, ◌/◌, ◌%◌, ◌≤◌, ◌<◌}
use native.Mathlib.Nat.{eq-or-lt_of_le}
use native.Mathlib.Omega.{arith}
use mathlib.Core.Path.{◌≡◌, ◌∙◌, ap, sym, subst, refl}
use mathlib.Core.Logic.{⊎_elim}
use mathlib.Core.List.{List}
use lib.ListN.{length, get_or, drop}
use lib.Seq.{get_or-take, get_or-drop}
use Rattle.lists.specs.Part.{part}
use Rattle.refusal.specs.Verdict.{Accepted}
use Rattle.anc.specs.Words.{byte_of, ByteWords}
use Rattle.anc.proofs.Words.{word_byte, word_low, accepted-sum}
use Rattle.sdp.specs.Value.{Sdp, Legal}
use Rattle.sdp.specs.Layout.{user_bytes}
use Rattle.sdp.specs.Places.{user_word}
use Rattle.sdp.proofs.Bytes.{byte_at}
use Rattle.sdp.proofs.LegalBytes.{user-bytes, user-long, user-short}
use Rattle.sdp.proofs.RightPlaces as user
use Rattle.subtitling.specs.declared.Answer.{Answer}
use Rattle.subtitling.specs.Layout.{layout}
use Rattle.subtitling.specs.Reading.{user_in, last_word, packet_verdict, Reads}
use Rattle.subtitling.specs.Places.{flag_words, identifier_bytes}
use Rattle.subtitling.specs.Places.{Stands, long_1, short_5, flag_2, range_11, parity_11, inverse_11, identifier_6, data_count_13, user-words, checksum_12}
use Rattle.subtitling.proofs.Accepted.{Whole, accepted-packet}
use Rattle.subtitling.proofs.Accepting.{accepted-verdict}
use Rattle.subtitling.proofs.Packets.{packet-user}
use Rattle.subtitling.proofs.Placed.{covered-words}
use Rattle.subtitling.proofs.Sequence.{length-user_in}

-- USER BYTES

pub user-byte : (s : List ℕ) → 20 ≤ length s → (i : ℕ) → i < length (user_in s)
    → get_or (user_in s) i 0 ≡ byte_of (get_or s (user_word 5 i) 0)
user-byte s long i low =
    let within : i < length s - 1 - 6 = omega (arith, length-user_in s long) in
    byte_at (part 6 (length s - 1) s) i ∙ ap byte_of (get_or-take (length s - 1 - 6) (drop 6 s) i 0 within ∙ get_or-drop 6 s i 0)

-- THE LAYOUT

pub layout-flag : (v : Sdp) (i : ℕ) → i < 3 → get_or (layout v) i 0 ≡ get_or flag_words i 0
layout-flag v zero low = refl
layout-flag v (suc zero) low = refl
layout-flag v (suc (suc zero)) low = refl
layout-flag v (suc (suc (suc i))) low = let f : ⊥ = omega arith in absurd f

pub layout-identifier : (v : Sdp) (i : ℕ) → i < 2 → byte_of (get_or (layout v) (3 + i) 0) ≡ get_or identifier_bytes i 0
layout-identifier v zero low = word_byte 0x43 (omega arith)
layout-identifier v (suc zero) low = word_byte 0x02 (omega arith)
layout-identifier v (suc (suc i)) low = let f : ⊥ = omega arith in absurd f

pub layout-user : (v : Sdp) → Legal v → user_in (layout v) ≡ user_bytes v
layout-user v h = packet-user (user_bytes v) (user-bytes v h) (user-long v h) (user-short v h)

-- A PACKET THAT IS ACCEPTED

module _ (s : List ℕ) (accepts : packet_verdict s ≡ Accepted) where
  whole : Whole s
  whole = accepted-packet s accepts

  words : ByteWords s 3 (length s - 1)
  words = covered-words s whole.form

  accepted-flag : (i : ℕ) → i < 3 → get_or s i 0 ≡ get_or flag_words i 0
  accepted-flag zero low = whole.form.flag0
  accepted-flag (suc zero) low = whole.form.flag1
  accepted-flag (suc (suc zero)) low = whole.form.flag2
  accepted-flag (suc (suc (suc i))) low = let f : ⊥ = omega arith in absurd f

  accepted-identifier : (i : ℕ) → i < 2 → byte_of (get_or s (3 + i) 0) ≡ get_or identifier_bytes i 0
  accepted-identifier zero low = ap byte_of whole.header.did
  accepted-identifier (suc zero) low = ap byte_of whole.header.sdid
  accepted-identifier (suc (suc i)) low = let f : ⊥ = omega arith in absurd f

  last-form : (w : ℕ) → w ≡ length s - 1 → (get_or s w 0 ≤ 1023) × (get_or s w 0 / 512 ≡ get_or s w 0 / 256 % 2 → ⊥)
  last-form w e =
      subst (λ (k : ℕ). (get_or s k 0 ≤ 1023) × (get_or s k 0 / 512 ≡ get_or s k 0 / 256 % 2 → ⊥)) (sym e) (accepted-sum (length s - 1) (last_word s) whole.form.last)

  -- no word from DID on is above 1023
  words-low : (w : ℕ) → 3 ≤ w → w < length s → get_or s w 0 ≤ 1023
  words-low w low high =
      let most : w ≤ length s - 1 = omega arith in
      let byte : byte_of (get_or s w 0) < 256 = omega arith in
      ⊎_elim (λ last. (last-form w last).0) (λ less. subst (λ (n : ℕ). n ≤ 1023) (sym (words w low less)) (word_low (byte_of (get_or s w 0)) byte)) (eq-or-lt_of_le most)

  -- nothing stands in it that a refusal tells of
  accepted-stands : (number word : ℕ) → Stands s number word → ⊥
  accepted-stands number word (long_1 n here many) = omega (arith, whole.form.short)
  accepted-stands number word (short_5 n here few) = omega (arith, whole.form.long)
  accepted-stands number word (flag_2 n long broken) = broken.other (accepted-flag word broken.within)
  accepted-stands number word (range_11 n low high big before) = omega (arith, words-low word low high)
  accepted-stands number word (parity_11 n low high other before) = other (words word low high)
  accepted-stands number word (inverse_11 n long here same before) = (last-form word here).1 same
  accepted-stands number word (identifier_6 i n long low here other) = other (ap (λ (w : ℕ). byte_of (get_or s w 0)) here ∙ accepted-identifier i low)
  accepted-stands number word (data_count_13 n long here other) = other (ap (λ (w : ℕ). byte_of (get_or s w 0)) here ∙ whole.header.dc)
  accepted-stands number word (user-words long stands) = user.stands-refused 5 (user_in s) number word stands whole.user
  accepted-stands number word (checksum_12 n long here other) = other (ap (λ (w : ℕ). get_or s w 0) here ∙ whole.checksum)

pub stands-refused : (s : List ℕ) (r : Answer) → Reads s r → (number word : ℕ) → Stands s number word
    → r.refusal.number ≡ 0 → ⊥
stands-refused s r p number word stands e = accepted-stands s (accepted-verdict s r p e) number word stands
