-- What a writer's answer tells.
-- Assumes nothing.
use Prim.Native.Nat.{ℕ, suc, ◌+◌, ◌≤◌, ◌<◌}
use native.Mathlib.Omega.{arith}
use mathlib.Core.Path.{◌≡◌, ◌∙◌, ap, sym, subst, refl}
use mathlib.Core.Logic.{◌↔◌, inl, inr}
use mathlib.Core.Bool.{Bool, true, false, not}
use mathlib.Core.List.{List, [], ◌∷◌, map}
use borrow.Author.Tests.{lt-ltb, le-ltb}
use lib.Dec.{eqb, ltb}
use lib.ListN.{length, get_or}
use Rattle.lists.specs.Room.{over}
use Rattle.refusal.specs.declared.Refusal.{Refusal}
use Rattle.refusal.specs.Verdict.{Verdict}
use Rattle.refusal.specs.Verdict.{Accepted, Refused}
use Rattle.refusal.specs.declared.Reason.TheVariants.{WordRange, WordParity, Unfit, NoRoom, Unholdable, NoInner}
use Rattle.refusal.specs.declared.Misfit.TheVariants.{UserWords}
use Rattle.refusal.specs.declared.Excess.TheVariants.{PriorityWord, InnerLine, InnerField, InnerIdentifier, InnerPart}
use Rattle.refusal.specs.declared.Item.TheVariants.{Whole, Word}
use Rattle.refusal.specs.declared.Written.{Written}
use Rattle.refusal.specs.Checks.{refuse_if, and_then, first}
use Rattle.refusal.specs.Numbers.{number_of, refusal_of}
use Rattle.refusal.specs.Answers.{refused, written}
use Rattle.refusal.proofs.Checks.{accepted-and_then, and_then-accepted, accepted-within, refuse_if-accepted}
use Rattle.refusal.proofs.Gives.{Gives, refuse_if-gives, and_then-gives, each-gives, all-gives, refused-gives, gives_as, Unplaced, gives-unplaced}
use Rattle.refusal.proofs.Outputs.{wrote-refusal, wrote-accepted, accepted-wrote, success-left, refusal-left}
use Rattle.anc.specs.Words.{byte_of, word_verdict, words_verdict, word_of}
use Rattle.sdp.specs.User.{user_verdict}
use Rattle.sdp.specs.Places.{UserStands, few_5, constant_6, length_13, line_7, structures_13, run_in_20, sdp_checksum_12}
use Rattle.sdp.proofs.Placed.{place-means}
use Rattle.multi.specs.Layout.{user_words, layout}
use Rattle.multi.specs.Order.{subtitling_id, only_if, unplaced, head_checks, writing_checks}
use Rattle.multi.specs.Lent.{Told, held, LegalTold, user_of}
use Rattle.multi.specs.Writing.{head_verdict, value_verdict, Writes, value_numbers, ValueRefused}
use Rattle.multi.proofs.Writable.{own, room_check, value-own, accepted-own-checks, own-checks-accepted, holds-legal, legal-holds}

pub writing-order : (t : Told) (room : ℕ) → value_verdict t room ≡ first (writing_checks t.priority t.heads t.words (held t) room)
unfolding value_verdict
writing-order t room = refl

-- WHICH REFUSALS THERE ARE

-- the number with this index among `value_numbers`
abbrev listed : (i : ℕ) → i < 9 → ValueRefused (refused (get_or value_numbers i 0) 0)
listed i h = (refl, (i, h, refl))

-- 11 of words
word-given : (place w : ℕ) → Gives ValueRefused (unplaced (word_verdict place w))
unfolding word_verdict
word-given place w = go (ltb 1023 w) (not (eqb w (word_of (byte_of w))))
  where
    go : (a b : Bool)
        → Gives ValueRefused (unplaced (first (refuse_if a WordRange (Word place) ∷ refuse_if b WordParity (Word place) ∷ [])))
    go true b = inr (listed 3 (omega arith))
    go false true = inr (listed 3 (omega arith))
    go false false = inl refl

unplaced-and_then : (a b : Verdict) → unplaced (and_then a b) ≡ and_then (unplaced a) (unplaced b)
unplaced-and_then Accepted b = refl
unplaced-and_then (Refused reason item) b = refl

words-given : (place : ℕ) (ws : List ℕ) → Gives ValueRefused (unplaced (words_verdict place ws))
words-given place [] = inl refl
words-given place (w ∷ ws) =
    subst (Gives ValueRefused) (sym (unplaced-and_then (word_verdict place w) (words_verdict (suc place) ws)))
    (and_then-gives ValueRefused _ _ (word-given place w) (words-given (suc place) ws))

-- the rules over the user words of a subtitling packet
stands-number : (dc : ℕ) (u : List ℕ) (number word : ℕ) → UserStands dc u number word → ValueRefused (refused number 0)
stands-number dc u number word (few_5 e _ _) = (refl, (0, omega arith, sym e))
stands-number dc u number word (constant_6 _ e _ _) = (refl, (1, omega arith, sym e))
stands-number dc u number word (length_13 e _ _) = (refl, (5, omega arith, sym e))
stands-number dc u number word (line_7 _ e _ _ _ _) = (refl, (2, omega arith, sym e))
stands-number dc u number word (structures_13 e _ _) = (refl, (5, omega arith, sym e))
stands-number dc u number word (run_in_20 _ _ e _ _ _ _ _ _) = (refl, (7, omega arith, sym e))
stands-number dc u number word (sdp_checksum_12 e _ _) = (refl, (4, omega arith, sym e))

user-given : (u : List ℕ) (verdict : Verdict) → user_verdict 0 u ≡ verdict → Gives ValueRefused (unplaced verdict)
user-given u Accepted e = inl refl
user-given u (Refused reason item) e = let found = place-means 0 u reason item e in inr (stands-number 0 u (number_of reason) found.0 found.2)

own-given : (asked : Bool) (u : List ℕ) → Gives ValueRefused (unplaced (only_if asked (user_verdict 0 u)))
own-given true u = user-given u (user_verdict 0 u) refl
own-given false u = inl refl

head-given : (words h : List ℕ) → Gives ValueRefused (head_verdict words h)
unfolding head_verdict
head-given words h =
    all-gives ValueRefused (head_checks words h) (
      refuse_if-gives ValueRefused (ltb 31 (get_or h 0 0)) (Unholdable InnerLine) Whole (listed 6 (omega arith)),
      (
        refuse_if-gives ValueRefused (ltb 1 (get_or h 1 0)) (Unholdable InnerField) Whole (listed 6 (omega arith)),
        (
          refuse_if-gives ValueRefused (ltb 255 (get_or h 2 0)) (Unholdable InnerIdentifier) Whole (listed 6 (omega arith)),
          (
            refuse_if-gives ValueRefused (ltb 255 (get_or h 3 0)) (Unholdable InnerIdentifier) Whole (listed 6 (omega arith)),
            (
              refuse_if-gives ValueRefused (ltb (length words) (get_or h 4 0 + get_or h 5 0)) (Unholdable InnerPart) Whole (listed 6 (omega arith)),
              (words-given 0 (user_of words h), (own-given (subtitling_id (get_or h 2 0) (get_or h 3 0)) (map byte_of (user_of words h)), tt)),
            ),
          ),
        ),
      ),
    )

own-checks-given : (t : Told) (room : ℕ) → Gives ValueRefused (first (own t room))
own-checks-given t room =
    all-gives ValueRefused (own t room) (
      refuse_if-gives ValueRefused (ltb 255 t.priority) (Unholdable PriorityWord) Whole (listed 6 (omega arith)),
      (
        refuse_if-gives ValueRefused (eqb (length t.heads) 0) NoInner Whole (listed 8 (omega arith)),
        (
          each-gives ValueRefused (head_verdict t.words) (head-given t.words) t.heads,
          (refuse_if-gives ValueRefused (ltb 255 (length (user_words (held t)))) (Unfit UserWords) Whole (listed 5 (omega arith)), tt),
        ),
      ),
    )

-- THE ANSWER

module _ (t : Told) (out : List ℕ) (r : Written) (exit : List ℕ) (writes : Writes t out r exit) where
  abbrev verdict : Verdict
  verdict = value_verdict t (length out)

  abbrev laid : List ℕ
  laid = layout (held t)

  told : r.refusal ≡ refusal_of verdict
  told = wrote-refusal verdict laid out r exit writes

  pub writes-exactly : r.refusal.number ≡ 0 ↔ (LegalTold t × (length laid ≤ length out))
  writes-exactly = (
    λ e.
        let both = accepted-and_then (first (own t (length out))) (room_check t (length out)) (sym (value-own t (length out)) ∙ wrote-accepted verdict laid out r exit writes e) in
        (holds-legal t (length out) (accepted-own-checks t (length out) both.0), accepted-within (length out) (length laid) _ _ both.1),
    λ w.
        accepted-wrote verdict laid out r exit writes
        (value-own t (length out)
        ∙ and_then-accepted (first (own t (length out))) (room_check t (length out)) (own-checks-accepted t (length out) (legal-holds t (length out) w.0))
        (refuse_if-accepted _ _ _ (le-ltb (length out) (length laid) w.1))),
  )

  pub written-front : r.refusal.number ≡ 0 → (r ≡ written (length laid)) × (exit ≡ over laid out)
  written-front e = success-left verdict laid out r exit writes (wrote-accepted verdict laid out r exit writes e)

  pub write-first : r.refusal ≡ refusal_of (first (writing_checks t.priority t.heads t.words (held t) (length out)))
  write-first = told ∙ ap refusal_of (writing-order t (length out))

  pub refused-untouched : (r.refusal.number ≡ 0 → ⊥) → (r.len ≡ 0) × (exit ≡ out)
  refused-untouched h = refusal-left verdict laid out r exit writes h

  pub illegal-refused : (LegalTold t → ⊥) → ValueRefused r.refusal
  illegal-refused h =
      subst ValueRefused (sym (told ∙ ap refusal_of (value-own t (length out))))
      (refused-gives ValueRefused (first (own t (length out))) (room_check t (length out)) (own-checks-given t (length out))
      (λ e. h (holds-legal t (length out) (accepted-own-checks t (length out) e))))

  pub no-room-refused : LegalTold t → length out < length laid → r.refusal ≡ refused 14 0
  no-room-refused h short =
      told
      ∙ ap refusal_of (value-own t (length out))
      ∙ ap (λ (v : Verdict). refusal_of (and_then v (room_check t (length out)))) (own-checks-accepted t (length out) (legal-holds t (length out) h))
      ∙ ap (λ (k : Bool). refusal_of (refuse_if k NoRoom Whole)) (lt-ltb (length out) (length laid) short)

  pub write-place : r.refusal.place ≡ 0
  write-place =
      ap (λ (x : Refusal). x.place) told
      ∙ gives-unplaced verdict
      (subst (Gives Unplaced) (sym (value-own t (length out)))
      (and_then-gives Unplaced _ _ (gives_as ValueRefused Unplaced (λ (x : Refusal) (p : ValueRefused x). p.0) _ (own-checks-given t (length out)))
      (refuse_if-gives Unplaced (ltb (length out) (length laid)) NoRoom Whole refl)))
