-- The checks in the order of the code: which decides, once those before it accept.
-- Assumes nothing.
use Prim.Native.Nat.{ℕ, ◌+◌, ◌/◌, ◌≤◌, ◌<◌}
use native.Mathlib.Omega.{arith}
use mathlib.Core.Path.{◌≡◌}
use mathlib.Core.Bool.{not}
use mathlib.Core.List.{List, map}
use borrow.Author.Tests.{eq-eqb, ne_eqb, lt-ltb, le-ltb}
use lib.Dec.{eqb}
use lib.ListN.{length, get_or, take}
use Rattle.lists.specs.Part.{part}
use Rattle.refusal.specs.Verdict.{Verdict}
use Rattle.refusal.specs.Verdict.{Refused}
use Rattle.refusal.specs.declared.Reason.TheVariants.{Unfixed, InnerChecksum, Unholdable, InnerOverrun}
use Rattle.refusal.specs.declared.Fixed.TheVariants.{LineField}
use Rattle.refusal.specs.declared.Excess.TheVariants.{InnerLine, InnerField, InnerIdentifier, InnerPart}
use Rattle.refusal.specs.declared.Item.TheVariants.{Whole, Word}
use Rattle.refusal.specs.Checks.{refuse_if, and_then}
use Rattle.refusal.proofs.Checks.{and_then-last}
use Rattle.anc.specs.Words.{byte_of, words_verdict, sum_verdict, checksum_of}
use Rattle.sdp.specs.User.{user_verdict}
use Rattle.multi.specs.Order.{subtitling_id, only_if, ncs_at, size_in, unplaced}
use Rattle.multi.specs.Lent.{user_of}
use Rattle.multi.specs.Writing.{head_verdict}
use Rattle.multi.specs.Inside.{inner_form, inner_rules, own_verdict}

module _ (at : ℕ) (u : List ℕ) where
  -- 26 and 11 of an inner packet
  pub form-short : length u < 4 → inner_form at u ≡ Refused InnerOverrun (Word at)
  unfolding inner_form
  form-short h = simp (lt-ltb (length u) 4 h)

  pub form-overrun : 4 ≤ length u → length u ≤ ncs_at u → inner_form at u ≡ Refused InnerOverrun (Word at)
  unfolding inner_form
  form-overrun h g = let short : length u < size_in u = omega arith in simp (le-ltb (length u) 4 h, lt-ltb (length u) (size_in u) short)

  pub form-words : 4 ≤ length u → ncs_at u < length u
      → inner_form at u ≡ and_then (words_verdict at (take (ncs_at u) u)) (sum_verdict (at + ncs_at u) (get_or u (ncs_at u) 0))
  unfolding inner_form
  form-words h g =
      let long : size_in u ≤ length u = omega arith in
      simp (le-ltb (length u) 4 h, le-ltb (length u) (size_in u) long, and_then-last)

  -- 6 of LINE/FIELD, the rules of subtitles, and 12 of NCS
  pub rules-line : (byte_of (get_or u 0 0) / 64 ≡ 0 → ⊥) → inner_rules at u ≡ Refused (Unfixed LineField) (Word at)
  unfolding inner_rules
  rules-line h = simp (ne_eqb (byte_of (get_or u 0 0) / 64) 0 h)

  abbrev pub ncs_check : Verdict
  ncs_check = refuse_if (not (eqb (get_or u (ncs_at u) 0) (checksum_of (part 1 (ncs_at u) u)))) InnerChecksum (Word (at + ncs_at u))

  pub rules-own : byte_of (get_or u 0 0) / 64 ≡ 0 → inner_rules at u ≡ and_then (own_verdict at u) ncs_check
  unfolding inner_rules
  rules-own h = simp (eq-eqb (byte_of (get_or u 0 0) / 64) 0 h, and_then-last)

-- WRITING ONE INNER PACKET

module _ (words h : List ℕ) where
  -- in the order of the code
  pub head-line : 31 < get_or h 0 0 → head_verdict words h ≡ Refused (Unholdable InnerLine) Whole
  unfolding head_verdict
  head-line a = simp (lt-ltb 31 (get_or h 0 0) a)

  module _ (line : get_or h 0 0 ≤ 31) where
    pub head-field : 1 < get_or h 1 0 → head_verdict words h ≡ Refused (Unholdable InnerField) Whole
    unfolding head_verdict
    head-field a = simp (le-ltb 31 (get_or h 0 0) line, lt-ltb 1 (get_or h 1 0) a)

    module _ (field : get_or h 1 0 ≤ 1) where
      pub head-did : 255 < get_or h 2 0 → head_verdict words h ≡ Refused (Unholdable InnerIdentifier) Whole
      unfolding head_verdict
      head-did a = simp (le-ltb 31 (get_or h 0 0) line, le-ltb 1 (get_or h 1 0) field, lt-ltb 255 (get_or h 2 0) a)

      module _ (did : get_or h 2 0 ≤ 255) where
        pub head-sdid : 255 < get_or h 3 0 → head_verdict words h ≡ Refused (Unholdable InnerIdentifier) Whole
        unfolding head_verdict
        head-sdid a = simp (le-ltb 31 (get_or h 0 0) line, le-ltb 1 (get_or h 1 0) field, le-ltb 255 (get_or h 2 0) did, lt-ltb 255 (get_or h 3 0) a)

        module _ (sdid : get_or h 3 0 ≤ 255) where
          pub head-part : length words < get_or h 4 0 + get_or h 5 0 → head_verdict words h ≡ Refused (Unholdable InnerPart) Whole
          unfolding head_verdict
          head-part a =
              simp
              (le-ltb 31 (get_or h 0 0) line, le-ltb 1 (get_or h 1 0) field, le-ltb 255 (get_or h 2 0) did, le-ltb 255 (get_or h 3 0) sdid, lt-ltb (length words) (get_or h 4 0 + get_or h 5 0) a)

          pub head-user : get_or h 4 0 + get_or h 5 0 ≤ length words
              → head_verdict words h ≡ and_then (unplaced (words_verdict 0 (user_of words h))) (unplaced (only_if (subtitling_id (get_or h 2 0) (get_or h 3 0)) (user_verdict 0 (map byte_of (user_of words h)))))
          unfolding head_verdict
          head-user a =
              simp (
                le-ltb 31 (get_or h 0 0) line,
                le-ltb 1 (get_or h 1 0) field,
                le-ltb 255 (get_or h 2 0) did,
                le-ltb 255 (get_or h 3 0) sdid,
                le-ltb (length words) (get_or h 4 0 + get_or h 5 0) a,
                and_then-last,
              )
