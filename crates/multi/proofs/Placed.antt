-- The place of a refusal: what stands there, and that it is a fault.
-- Assumes nothing.
use Prim.Native.Nat.{ℕ, zero, suc, ◌+◌, ◌-◌, ◌/◌, ◌%◌, ◌≤◌, ◌<◌}
use native.Mathlib.Omega.{arith}
use mathlib.Core.Path.{◌≡◌, ◌∙◌, ap, ap₂, sym, subst, refl}
use mathlib.Core.Bool.{Bool, true, false, not}
use mathlib.Core.List.{List, map}
use borrow.Author.Tests.{eqb-true, eqb-false, ltb-true, ltb-false, not-true}
use lib.Dec.{eqb, ltb}
use lib.ListN.{length, get_or, take, drop}
use lib.Seq.{get_or-take, get_or-drop, take-take, drop-drop}
use Rattle.lists.specs.Each.{Each}
use Rattle.lists.specs.Part.{part}
use Rattle.lists.proofs.Part.{part-front, length_part}
use Rattle.lists.proofs.Below.{below_next}
use Rattle.refusal.specs.declared.Reason.{Reason}
use Rattle.refusal.specs.declared.Reason.TheVariants.{TooLong, NoStart, Ends, Unfixed, Checksum, InnerChecksum, Unfit, NoInner, InnerOverrun}
use Rattle.refusal.specs.declared.Fixed.TheVariants.{Identifier, LineField}
use Rattle.refusal.specs.declared.Misfit.TheVariants.{DataCount}
use Rattle.refusal.specs.declared.Item.{Item}
use Rattle.refusal.specs.declared.Item.TheVariants.{Word, Length}
use Rattle.refusal.specs.declared.Refusal.{Refusal}
use Rattle.refusal.specs.Verdict.{Verdict}
use Rattle.refusal.specs.Verdict.{Accepted}
use Rattle.refusal.specs.Checks.{refuse_if}
use Rattle.refusal.specs.Numbers.{number_of, place_of}
use Rattle.refusal.proofs.Checks.{accepted-within, accepted-equal, accepted-and_then, accepted-all}
use Rattle.refusal.proofs.Only.{Only, accepted-only, refuse_if-only, and_then-only, told-only}
use Rattle.anc.specs.Words.{word_of, byte_of, ByteWords, words_verdict, checksum_of}
use Rattle.anc.proofs.Words.{word_low, accepted-sum}
use Rattle.anc.proofs.Placed.{words-only, sum-only, accepted-byte-words}
use Rattle.sdp.specs.User.{user_verdict}
use Rattle.sdp.specs.Places.{UserStands}
use Rattle.sdp.proofs.Placed as user
use Rattle.sdp.proofs.RightPlaces as user-right
use Rattle.multi.specs.declared.Answer.{Answer}
use Rattle.multi.specs.Value.{Multi, Legal}
use Rattle.multi.specs.Layout.{layout}
use Rattle.multi.specs.Order.{subtitling_id, only_if, ncs_at, size_in, bytes_in, covered_in, last_word, inner_checks}
use Rattle.multi.specs.Reading.{inner_verdict, inners_verdict, outer_verdict, multi_verdict}
use Rattle.multi.specs.Lent.{ReadsInto}
use Rattle.multi.specs.Places.{flag_words, identifier_bytes, end, ndc, ncs, Begins, first_inner, next_inner, Complete, FixedWords, Stands, long_1, short_5, flag_2, range_11, parity_11, sum_range_11, inverse_11, identifier_6, data_count_13, none_26, header_26, words_26, inner_range_11, inner_parity_11, ncs_range_11, ncs_inverse_11, line_field_6, user-words, ncs_12, checksum_12}
use Rattle.multi.proofs.Inner.{subtitling-id, id-subtitling, inner-long}
use Rattle.multi.proofs.Inners.{behind, inners-none, inners-next}
use Rattle.multi.proofs.Whole.{did-word, sdid-word, multi-parts, accepted-outer, Passed, passed, multi-accepted}
use Rattle.multi.proofs.Accepting.{told, verdict-accepted}

-- PARTS OF PARTS

part-part : (s : List ℕ) (c d a b : ℕ) → c + b ≤ d → part a b (part c d s) ≡ part (c + a) (c + b) s
part-part s c d a b h =
    let fits : b ≤ d - c = omega arith in
    let same : c + b - (c + a) ≡ b - a = omega arith in
    part-front a b (part c d s)
    ∙ ap (drop a) (take-take b (d - c) (drop c s) fits)
    ∙ sym (part-front a b (drop c s))
    ∙ ap (take (b - a)) (drop-drop a c s)
    ∙ ap (λ (k : ℕ). take k (drop (c + a) s)) (sym same)

-- what is left of a part
part-rest : (s : List ℕ) (c d k : ℕ) → c + k ≤ d → drop k (part c d s) ≡ part (c + k) d s
part-rest s c d k h =
    let same : c + (d - c) ≡ d = omega arith in
    sym (part-front k (d - c) (drop c s))
    ∙ ap₂ (λ (n : ℕ) (xs : List ℕ). take n xs) (let count : d - c - k ≡ d - (c + k) = omega arith in count) (drop-drop k c s)

part_at : (s : List ℕ) (c d i : ℕ) → c + i < d → get_or (part c d s) i 0 ≡ get_or s (c + i) 0
part_at s c d i h = let low : i < d - c = omega arith in get_or-take (d - c) (drop c s) i 0 low ∙ get_or-drop c s i 0

-- one word more of the flag
flag-more : (s : List ℕ) (n : ℕ) → ((i : ℕ) → i < n → get_or s i 0 ≡ get_or flag_words i 0) → get_or s n 0 ≡ get_or flag_words n 0 → (i : ℕ) → i < suc n → get_or s i 0 ≡ get_or flag_words i 0
flag-more s n before here i h = below_next (λ (k : ℕ). get_or s k 0 ≡ get_or flag_words k 0) n before here i h

none_before : (s : List ℕ) (i : ℕ) → i < 0 → get_or s i 0 ≡ get_or flag_words i 0
none_before s i h = let f : ⊥ = omega arith in absurd f

either : {P : Type 0} (a b : ℕ) (t : Bool) → ltb a b ≡ t → (a < b → P) → (b ≤ a → P) → P
either a b true e less not-less = less (ltb-true a b e)
either a b false e less not-less = not-less (ltb-false a b e)

module _ (s : List ℕ) where
  abbrev Placed : Reason → Item → Type 0
  Placed reason item = Stands s (number_of reason) (place_of item)

  -- AROUND THE INNER PACKETS

  flag-only : (n : ℕ) → 8 ≤ length s → n < 3 → ((i : ℕ) → i < n → get_or s i 0 ≡ get_or flag_words i 0) → Only Placed (refuse_if (not (eqb (get_or s n 0) (get_or flag_words n 0))) NoStart (Word n))
  flag-only n long low before =
      refuse_if-only Placed (not (eqb (get_or s n 0) (get_or flag_words n 0))) NoStart (Word n) (λ e.
      flag_2 refl long (record { within = low; other = eqb-false (get_or s n 0) (get_or flag_words n 0) (not-true _ e); before = before }))

  outer-only : Only Placed (outer_verdict s)
  unfolding outer_verdict
  outer-only =
      and_then-only Placed _ _ (refuse_if-only Placed (ltb 262 (length s)) TooLong (Length (length s)) (λ e. long_1 refl refl (ltb-true 262 (length s) e))) (λ most.
      and_then-only Placed _ _ (refuse_if-only Placed (ltb (length s) 8) Ends (Length (length s)) (λ e. short_5 refl refl (ltb-true (length s) 8 e))) (λ least.
      let long : 8 ≤ length s = accepted-within (length s) 8 Ends (Length (length s)) least in
      and_then-only Placed _ _ (flag-only 0 long (omega arith) (none_before s)) (λ a.
      let one = flag-more s 0 (none_before s) (accepted-equal _ _ _ _ a) in
      and_then-only Placed _ _ (flag-only 1 long (omega arith) one) (λ b.
      let two = flag-more s 1 one (accepted-equal _ _ _ _ b) in
      and_then-only Placed _ _ (flag-only 2 long (omega arith) two) (λ c.
      and_then-only Placed _ _ (words-only Placed s 3 7 (omega arith) (omega arith)
      (λ i low high before big. range_11 refl long low high big before)
      (λ i low high before other. parity_11 refl long low high other before)) (λ words.
      let right : ByteWords s 3 7 = accepted-byte-words s 7 (omega arith) 3 (omega arith) words in
      and_then-only Placed _ _ (sum-only Placed (length s - 1) (last_word s) (λ big. sum_range_11 refl long refl big) (λ same. inverse_11 refl long refl same)) (λ last.
      and_then-only Placed _ _ (refuse_if-only Placed (not (eqb (get_or s 3 0) 0x143)) (Unfixed Identifier) (Word 3) (λ e.
      identifier_6 0 refl long (omega arith) refl (λ byte. eqb-false _ _ (not-true _ e) (right 3 (omega arith) (omega arith) ∙ ap word_of byte ∙ did-word)))) (λ did.
      and_then-only Placed _ _ (refuse_if-only Placed (not (eqb (get_or s 4 0) 0x203)) (Unfixed Identifier) (Word 4) (λ e.
      identifier_6 1 refl long (omega arith) refl (λ byte. eqb-false _ _ (not-true _ e) (right 4 (omega arith) (omega arith) ∙ ap word_of byte ∙ sdid-word)))) (λ sdid.
      and_then-only Placed _ _ (refuse_if-only Placed (not (eqb (byte_of (get_or s 5 0)) (length s - 7))) (Unfit DataCount) (Word 5) (λ e.
      data_count_13 refl long refl (eqb-false _ _ (not-true _ e)))) (λ dc.
      and_then-only Placed _ _ (refuse_if-only Placed (eqb (length s) 8) NoInner (Word 7) (λ e. none_26 refl refl (eqb-true (length s) 8 e))) (λ some.
      accepted-only Placed)))))))))))

  -- ONE INNER PACKET, WHICH BEGINS AT A WORD

  module _ (at : ℕ) (begins : Begins s at) (more : 8 < length s) (here : at < end s) where
    abbrev u : List ℕ
    u = part at (end s) s

    left : length u ≡ end s - at
    left = length_part s at (end s) (omega arith)

    header-word : 4 ≤ length u → (i : ℕ) → i < 4 → get_or u i 0 ≡ get_or s (at + i) 0
    header-word h i low = part_at s at (end s) i (omega (arith, left))

    first_word : 4 ≤ length u → get_or u 0 0 ≡ get_or s at 0
    first_word h = header-word h 0 (omega arith) ∙ (let same : at + 0 ≡ at = omega arith in ap (λ (k : ℕ). get_or s k 0) same)

    count : 4 ≤ length u → size_in u ≡ 5 + ndc s at
    count h = ap (λ (w : ℕ). 5 + byte_of w) (header-word h 3 (omega arith))

    -- all its words are there
    module _ (header : 4 ≤ length u) (long : size_in u ≤ length u) where
      size : ncs_at u ≡ 4 + ndc s at
      size = omega (arith, count header)

      before : ncs s at < end s
      before = omega (arith, count header, left)

      whole : Complete s at
      whole = record { begins = begins; before = before }

      ncs-place : at + ncs_at u ≡ ncs s at
      ncs-place = omega (arith, size)

      front : take (ncs_at u) u ≡ part at (ncs s at) s
      front =
          let none : ncs_at u - 0 ≡ ncs_at u = omega arith in
          ap (λ (k : ℕ). take k u) (sym none)
          ∙ part-part s at (end s) 0 (ncs_at u) (omega (arith, ncs-place, before))
          ∙ ap₂ (λ (a b : ℕ). part a b s) (let same : at + 0 ≡ at = omega arith in same) ncs-place

      own : bytes_in u ≡ map byte_of (part (at + 4) (ncs s at) s)
      own = ap (map byte_of) (part-part s at (end s) 4 (ncs_at u) (omega (arith, ncs-place, before)) ∙ ap (λ (b : ℕ). part (at + 4) b s) ncs-place)

      covers : part 1 (ncs_at u) u ≡ part (at + 1) (ncs s at) s
      covers = part-part s at (end s) 1 (ncs_at u) (omega (arith, ncs-place, before)) ∙ ap (λ (b : ℕ). part (at + 1) b s) ncs-place

      ncs-word : get_or u (ncs_at u) 0 ≡ get_or s (ncs s at) 0
      ncs-word = part_at s at (end s) (ncs_at u) (omega (arith, ncs-place, before)) ∙ ap (λ (k : ℕ). get_or s k 0) ncs-place

      own-only : (asked : Bool) → subtitling_id (byte_of (get_or u 1 0)) (byte_of (get_or u 2 0)) ≡ asked → Only Placed (only_if asked (user_verdict (at + 3) (bytes_in u)))
      own-only false e = accepted-only Placed
      own-only true e = λ reason item refused.
          let found = user.place-means (at + 3) (bytes_in u) reason item refused in
          let ids = subtitling-id (byte_of (get_or u 1 0)) (byte_of (get_or u 2 0)) e in
          user-words at more whole (ap byte_of (sym (header-word header 1 (omega arith))) ∙ ids.0) (ap byte_of (sym (header-word header 2 (omega arith))) ∙ ids.1)
          (subst (λ (bs : List ℕ). UserStands (at + 3) bs (number_of reason) (place_of item)) own
          (subst (UserStands (at + 3) (bytes_in u) (number_of reason)) (sym (ap place_of found.1)) found.2))

    inner-only : Only Placed (inner_verdict at u)
    unfolding inner_verdict
    inner-only =
        and_then-only Placed _ _ (refuse_if-only Placed (ltb (length u) 4) InnerOverrun (Word at) (λ e.
        header_26 refl more begins here (omega (arith, ltb-true (length u) 4 e, left)))) (λ four.
        let header : 4 ≤ length u = accepted-within (length u) 4 _ _ four in
        and_then-only Placed _ _ (refuse_if-only Placed (ltb (length u) (size_in u)) InnerOverrun (Word at) (λ e.
        words_26 refl more begins (omega (arith, left, header)) (omega (arith, ltb-true (length u) (size_in u) e, count header, left)))) (λ fits.
        let long : size_in u ≤ length u = accepted-within (length u) (size_in u) _ _ fits in
        let all = whole header long in
        let place = ncs-place header long in
        and_then-only Placed _ _ (subst (λ (ws : List ℕ). Only Placed (words_verdict at ws)) (sym (front header long))
        (words-only Placed s at (ncs s at) (omega arith) (omega (arith, before header long))
        (λ i low high right big. inner_range_11 at refl more all low high big right)
        (λ i low high right other. inner_parity_11 at refl more all low high other right))) (λ words.
        and_then-only Placed _ _ (sum-only Placed (at + ncs_at u) (get_or u (ncs_at u) 0)
        (λ big. ncs_range_11 at refl more all place (subst (λ (w : ℕ). 1023 < w) (ncs-word header long ∙ ap (λ (k : ℕ). get_or s k 0) (sym place)) big))
        (λ same. ncs_inverse_11 at refl more all place (subst (λ (w : ℕ). w / 512 ≡ w / 256 % 2) (ncs-word header long ∙ ap (λ (k : ℕ). get_or s k 0) (sym place)) same))) (λ form.
        and_then-only Placed _ _ (refuse_if-only Placed (not (eqb (byte_of (get_or u 0 0) / 64) 0)) (Unfixed LineField) (Word at) (λ e.
        line_field_6 refl more all (λ same. eqb-false _ _ (not-true _ e) (ap (λ (w : ℕ). byte_of w / 64) (first_word header) ∙ same)))) (λ unused.
        and_then-only Placed _ _ (own-only header long (subtitling_id (byte_of (get_or u 1 0)) (byte_of (get_or u 2 0))) refl) (λ rules.
        and_then-only Placed _ _ (refuse_if-only Placed (not (eqb (get_or u (ncs_at u) 0) (checksum_of (part 1 (ncs_at u) u)))) InnerChecksum (Word (at + ncs_at u)) (λ e.
        ncs_12 at refl more all place (λ same.
        eqb-false _ _ (not-true _ e) (ncs-word header long ∙ ap (λ (k : ℕ). get_or s k 0) (sym place) ∙ same ∙ ap checksum_of (sym (covers header long)))))) (λ sum.
        accepted-only Placed)))))))

    -- what is behind it
    next : (header : 4 ≤ length u) (long : size_in u ≤ length u) → (inners_verdict (at + size_in u) (behind u) ≡ inners_verdict (ncs s at + 1) (part (ncs s at + 1) (end s) s)) × Begins s (ncs s at + 1)
    next header long =
        let place : at + size_in u ≡ ncs s at + 1 = omega (arith, count header) in (
          ap₂ (λ (k : ℕ) (ws : List ℕ). inners_verdict k ws) place
              (part-rest s at (end s) (size_in u) (omega (arith, place, before header long)) ∙ ap (λ (k : ℕ). part k (end s) s) place),
          next_inner at begins (before header long),
        )

  -- ALL OF THEM

  empty-only : (at : ℕ) → end s ≤ at → Only Placed (inners_verdict at (part at (end s) s))
  empty-only at h =
      let none : end s - at ≡ 0 = omega arith in
      subst (Only Placed) (sym (inners-none at (part at (end s) s) (length_part s at (end s) (omega arith) ∙ none))) (accepted-only Placed)

  inners-only : (k at : ℕ) → Begins s at → 8 < length s → end s ≤ at + k → Only Placed (inners_verdict at (part at (end s) s))
  inners-only zero at begins more high = empty-only at (omega arith)
  inners-only (suc k) at begins more high =
      either at (end s) (ltb at (end s)) refl
      (λ here.
      let v = part at (end s) s in
      let some : 0 < length v = omega (arith, left at begins more here) in
      subst (Only Placed) (sym (inners-next at v some))
      (and_then-only Placed _ _ (inner-only at begins more here) (λ ok.
      let long = inner-long at v ok in
      let behind-it = next at begins more here long.0 long.1 in
      subst (Only Placed) (sym behind-it.0) (inners-only k (ncs s at + 1) behind-it.1 more (omega arith)))))
      (λ past. empty-only at past)

  multi-only : Only Placed (multi_verdict s)
  multi-only =
      subst (Only Placed) (sym (multi-parts s))
      (and_then-only Placed _ _ outer-only (λ ok.
      let outer = accepted-outer s ok in
      let more : 8 < length s = above (length s) outer.short outer.some in
      and_then-only Placed _ _ (inners-only (length s) 7 first_inner more (omega arith)) (λ own.
      refuse_if-only Placed (not (eqb (last_word s) (checksum_of (covered_in s)))) Checksum (Word (length s - 1)) (λ e. checksum_12 refl outer.short refl (eqb-false _ _ (not-true _ e))))))
    where
      above : (n : ℕ) → 8 ≤ n → (n ≡ 8 → ⊥) → 8 < n
      above n h g = omega arith

  -- EACH CASE IS A FAULT

  module _ (e : multi_verdict s ≡ Accepted) where
    parts : Passed s
    parts = passed s e

    more : 8 < length s
    more = above (length s) parts.outer.short parts.outer.some
      where
        above : (n : ℕ) → 8 ≤ n → (n ≡ 8 → ⊥) → 8 < n
        above n h g = omega arith

    -- one that begins before CS is accepted
    here-accepted : (at : ℕ) → Begins s at → (here : at < end s) → inners_verdict at (part at (end s) s) ≡ Accepted
        → (inner_verdict at (part at (end s) s) ≡ Accepted) × (inners_verdict (at + size_in (part at (end s) s)) (behind (part at (end s) s)) ≡ Accepted)
    here-accepted at begins here own =
        let v = part at (end s) s in
        let some : 0 < length v = omega (arith, left at begins more here) in
        accepted-and_then (inner_verdict at v) (inners_verdict (at + size_in v) (behind v)) (sym (inners-next at v some) ∙ own)

    -- where an inner packet begins, those from there on are accepted
    from : (at : ℕ) → Begins s at → (at ≤ end s) × (inners_verdict at (part at (end s) s) ≡ Accepted)
    from at first_inner = (omega (arith, more), parts.own)
    from at (next_inner b begins before) =
        let rest = from b begins in
        let here : b < end s = omega arith in
        let both = here-accepted b begins here rest.1 in
        let long = inner-long b (part b (end s) s) both.0 in
        (omega arith, sym (next b begins more here long.0 long.1).0 ∙ both.1)

    inner-at : (at : ℕ) → Begins s at → at < end s → inner_verdict at (part at (end s) s) ≡ Accepted
    inner-at at begins here = (here-accepted at begins here (from at begins).1).0

    -- what is so of one that is all there
    module _ (at : ℕ) (whole-inner : Complete s at) where
      begun : Begins s at
      begun = whole-inner.begins

      inside : at < end s
      inside = omega (arith, whole-inner.before)

      abbrev v : List ℕ
      v = part at (end s) s

      long : (4 ≤ length v) × (size_in v ≤ length v)
      long = inner-long at v (inner-at at begun inside)

      checks : Each (λ (verdict : Verdict). verdict ≡ Accepted) (inner_checks at v)
      unfolding inner_verdict
      checks = accepted-all (inner_checks at v) (inner-at at begun inside)

      right-words : ByteWords s at (ncs s at)
      right-words =
          accepted-byte-words s (ncs s at) (omega (arith, whole-inner.before)) at (omega arith)
          (sym (ap (words_verdict at) (front at begun more inside long.0 long.1)) ∙ checks.1.1.0)

      right-form : (get_or s (ncs s at) 0 ≤ 1023) × (get_or s (ncs s at) 0 / 512 ≡ get_or s (ncs s at) 0 / 256 % 2 → ⊥)
      right-form =
          subst (λ (w : ℕ). (w ≤ 1023) × (w / 512 ≡ w / 256 % 2 → ⊥)) (ncs-word at begun more inside long.0 long.1)
          (accepted-sum (at + ncs_at v) (get_or v (ncs_at v) 0) checks.1.1.1.0)

      right-unused : byte_of (get_or s at 0) / 64 ≡ 0
      right-unused =
          sym (ap (λ (w : ℕ). byte_of w / 64) (first_word at begun more inside long.0)) ∙ accepted-equal (byte_of (get_or v 0 0) / 64) 0 _ _ checks.1.1.1.1.0

      right-own : byte_of (get_or s (at + 1) 0) ≡ 0x43 → byte_of (get_or s (at + 2) 0) ≡ 0x02 → user_verdict (at + 3) (map byte_of (part (at + 4) (ncs s at) s)) ≡ Accepted
      right-own did sdid =
          let ids : subtitling_id (byte_of (get_or v 1 0)) (byte_of (get_or v 2 0)) ≡ true =
          id-subtitling _ _ (ap byte_of (header-word at begun more inside long.0 1 (omega arith)) ∙ did) (ap byte_of (header-word at begun more inside long.0 2 (omega arith)) ∙ sdid) in
          sym (ap (user_verdict (at + 3)) (own at begun more inside long.0 long.1))
          ∙ sym (ap (λ (t : Bool). only_if t (user_verdict (at + 3) (bytes_in v))) ids)
          ∙ checks.1.1.1.1.1.0

      right-sum : get_or s (ncs s at) 0 ≡ checksum_of (part (at + 1) (ncs s at) s)
      right-sum =
          sym (ncs-word at begun more inside long.0 long.1)
          ∙ accepted-equal (get_or v (ncs_at v) 0) (checksum_of (part 1 (ncs_at v) v)) _ _ checks.1.1.1.1.1.1.0
          ∙ ap checksum_of (covers at begun more inside long.0 long.1)

    header-words : ByteWords s 3 7
    header-words = accepted-byte-words s 7 (omega (arith, more)) 3 (omega arith) parts.outer.words

    last-form : (last_word s ≤ 1023) × (last_word s / 512 ≡ last_word s / 256 % 2 → ⊥)
    last-form = accepted-sum (length s - 1) (last_word s) parts.outer.sum

    flag-right : (i : ℕ) → i < 3 → get_or s i 0 ≡ get_or flag_words i 0
    flag-right = flag-more s 2 (flag-more s 1 (flag-more s 0 (none_before s) parts.outer.flag0) parts.outer.flag1) parts.outer.flag2

    identifiers-right : (i : ℕ) → i < 2 → byte_of (get_or s (3 + i) 0) ≡ get_or identifier_bytes i 0
    identifiers-right =
        below_next (λ (k : ℕ). byte_of (get_or s (3 + k) 0) ≡ get_or identifier_bytes k 0) 1
        (below_next (λ (k : ℕ). byte_of (get_or s (3 + k) 0) ≡ get_or identifier_bytes k 0) 0 (λ i h. let f : ⊥ = omega arith in absurd f) (ap byte_of parts.outer.did))
        (ap byte_of parts.outer.sdid)

    pub fixed : FixedWords s
    fixed = record { flag = flag-right; identifiers = identifiers-right; unused = right-unused; sums = right-sum }

    -- a word of a byte is no larger than 1023
    too_large : (w : ℕ) → w ≡ word_of (byte_of w) → 1023 < w → ⊥
    too_large w same big = let low : byte_of w < 256 = omega arith in omega (arith, same, big, word_low (byte_of w) low)

    fault : (number word : ℕ) → Stands s number word → ⊥
    fault number word (long_1 _ _ h) = omega (arith, h, parts.outer.long)
    fault number word (short_5 _ _ h) = omega (arith, h, more)
    fault number word (flag_2 _ _ broken) = broken.other (flag-right word broken.within)
    fault number word (range_11 _ _ low high big _) = too_large (get_or s word 0) (header-words word low high) big
    fault number word (parity_11 _ _ low high other _) = other (header-words word low high)
    fault number word (sum_range_11 _ _ place big) = omega (arith, last-form.0, subst (λ (k : ℕ). 1023 < get_or s k 0) place big)
    fault number word (inverse_11 _ _ place same) = last-form.1 (subst (λ (k : ℕ). get_or s k 0 / 512 ≡ get_or s k 0 / 256 % 2) place same)
    fault number word (identifier_6 i _ _ low place other) = other (ap (λ (k : ℕ). byte_of (get_or s k 0)) place ∙ identifiers-right i low)
    fault number word (data_count_13 _ _ place other) = other (ap (λ (k : ℕ). byte_of (get_or s k 0)) place ∙ parts.outer.dc)
    fault number word (none_26 _ _ none) = parts.outer.some none
    fault number word (header_26 _ _ begins here short) =
        omega (arith, (inner-long word (part word (end s) s) (inner-at word begins here)).0, left word begins more here, short)
    fault number word (words_26 _ _ begins there short) =
        let here : word < end s = omega (arith, there) in
        let all = inner-long word (part word (end s) s) (inner-at word begins here) in
        omega (arith, before word begins more here all.0 all.1, short)
    fault number word (inner_range_11 at _ _ all low high big _) = too_large (get_or s word 0) (right-words at all word low high) big
    fault number word (inner_parity_11 at _ _ all low high other _) = other (right-words at all word low high)
    fault number word (ncs_range_11 at _ _ all place big) = omega (arith, (right-form at all).0, subst (λ (k : ℕ). 1023 < get_or s k 0) place big)
    fault number word (ncs_inverse_11 at _ _ all place same) = (right-form at all).1 (subst (λ (k : ℕ). get_or s k 0 / 512 ≡ get_or s k 0 / 256 % 2) place same)
    fault number word (line_field_6 _ _ all other) = other (right-unused word all)
    fault number word (user-words at _ all did sdid stands) = user-right.stands-refused (at + 3) _ number word stands (right-own at all did sdid)
    fault number word (ncs_12 at _ _ all place other) = other (ap (λ (k : ℕ). get_or s k 0) place ∙ right-sum at all)
    fault number word (checksum_12 _ _ place other) = other (ap (λ (k : ℕ). get_or s k 0) place ∙ parts.total)

pub layout-fixed : (v : Multi) → Legal v → FixedWords (layout v)
layout-fixed v h = fixed (layout v) (multi-accepted v h)

pub place-means : (s : List ℕ) (lent : List (List ℕ)) (r : Answer) (exit : List (List ℕ)) → ReadsInto s lent r exit
    → (r.refusal.number ≡ 0 → ⊥) → Stands s r.refusal.number r.refusal.place
place-means s lent r exit reads h =
    let t = told s lent r exit reads in
    subst (λ (x : Refusal). Stands s x.number x.place) (sym t)
    (told-only (Stands s) (multi_verdict s) (multi-only s) (λ e. h (ap (λ (x : Refusal). x.number) t ∙ e)))

pub stands-refused : (s : List ℕ) (lent : List (List ℕ)) (r : Answer) (exit : List (List ℕ)) → ReadsInto s lent r exit
    → (number word : ℕ) → Stands s number word → r.refusal.number ≡ 0 → ⊥
stands-refused s lent r exit reads number word stands e = fault s (verdict-accepted s lent r exit reads e) number word stands
