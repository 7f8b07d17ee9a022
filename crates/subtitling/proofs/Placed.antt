-- Where reading a packet refuses: at the word of what is wrong, or at the number of words.
-- Assumes nothing.
use Prim.Native.Nat.{ℕ, ◌-◌, ◌%◌, ◌≤◌, ◌<◌}
use native.Mathlib.Omega.{arith}
use mathlib.Core.Path.{◌≡◌, ◌∙◌, ap, sym, subst, refl}
use mathlib.Core.Bool.{not}
use mathlib.Core.List.{List}
use borrow.Author.Tests.{ltb-true, eqb-false, not-true}
use lib.Dec.{eqb, ltb}
use lib.ListN.{length, get_or}
use Rattle.refusal.specs.declared.Reason.{Reason}
use Rattle.refusal.specs.declared.Reason.TheVariants.{TooLong, NoStart, Ends, Unfixed, Checksum, Unfit}
use Rattle.refusal.specs.declared.Fixed.TheVariants.{Identifier}
use Rattle.refusal.specs.declared.Misfit.TheVariants.{DataCount}
use Rattle.refusal.specs.declared.Item.{Item}
use Rattle.refusal.specs.declared.Item.TheVariants.{Word, Length}
use Rattle.refusal.specs.declared.Refusal.{Refusal}
use Rattle.refusal.specs.Numbers.{number_of, place_of}
use Rattle.refusal.specs.Checks.{refuse_if}
use Rattle.refusal.proofs.Checks.{accepted-within, accepted-equal}
use Rattle.refusal.proofs.Only.{Only, accepted-only, refuse_if-only, and_then-only, told-only}
use Rattle.anc.specs.Words.{parity_of, word_of, byte_of, ByteWords, checksum_of}
use Rattle.anc.proofs.Placed.{words-only, sum-only, accepted-byte-words}
use Rattle.sdp.specs.User.{user_verdict}
use Rattle.sdp.specs.Places.{UserStands}
use Rattle.sdp.proofs.Placed as user
use Rattle.subtitling.specs.declared.Answer.{Answer}
use Rattle.subtitling.specs.Reading.{covered_in, user_in, last_word, form_verdict, header_verdict, checksum_verdict, packet_verdict, Reads}
use Rattle.subtitling.specs.Places.{flag_words}
use Rattle.subtitling.specs.Places.{Stands, long_1, short_5, flag_2, range_11, parity_11, inverse_11, identifier_6, data_count_13, user-words, checksum_12}
use Rattle.subtitling.proofs.Accepted.{Form, accepted-form}
use Rattle.subtitling.proofs.Refusing.{refused-in-order, flag-more}

-- DID and SDID with their parity bits
did-word : word_of 0x43 ≡ 0x143
unfolding word_of parity_of
did-word = refl

sdid-word : word_of 0x02 ≡ 0x102
unfolding word_of parity_of
sdid-word = refl

module _ (s : List ℕ) where
  abbrev Placed : Reason → Item → Type 0
  Placed reason item = Stands s (number_of reason) (place_of item)

  pub covered-words : (form : Form s) → ByteWords s 3 (length s - 1)
  covered-words form = accepted-byte-words s (length s - 1) (omega arith) 3 (omega (arith, form.long)) form.words

  flag-only : (word : ℕ) → 20 ≤ length s → word < 3 → ((i : ℕ) → i < word → get_or s i 0 ≡ get_or flag_words i 0)
      → Only Placed (refuse_if (not (eqb (get_or s word 0) (get_or flag_words word 0))) NoStart (Word word))
  flag-only word long within before =
      refuse_if-only Placed _ NoStart (Word word) (λ e. flag_2 refl long (record { within = within; other = eqb-false _ _ (not-true _ e); before = before }))

  form-only : Only Placed (form_verdict s)
  unfolding form_verdict
  form-only =
      let n = length s in
      and_then-only Placed _ _ (refuse_if-only Placed (ltb 245 n) TooLong (Length n) (λ e. long_1 refl refl (ltb-true 245 n e))) (λ most.
      and_then-only Placed _ _ (refuse_if-only Placed (ltb n 20) Ends (Length n) (λ e. short_5 refl refl (ltb-true n 20 e))) (λ least.
      let long : 20 ≤ n = accepted-within n 20 Ends (Length n) least in
      and_then-only Placed _ _ (flag-only 0 long (omega arith) (λ i low. let f : ⊥ = omega arith in absurd f)) (λ a.
      let one = flag-more s 0 (λ i low. let f : ⊥ = omega arith in absurd f) (accepted-equal _ _ _ _ a) in
      and_then-only Placed _ _ (flag-only 1 long (omega arith) one) (λ b.
      let two = flag-more s 1 one (accepted-equal _ _ _ _ b) in
      and_then-only Placed _ _ (flag-only 2 long (omega arith) two) (λ c.
      and_then-only Placed _ _ (words-only Placed s 3 (n - 1) (omega arith) (omega arith)
      (λ i low high before big. range_11 refl low (omega arith) big before)
      (λ i low high before other. parity_11 refl low high other before)) (λ words.
      let before : ByteWords s 3 (n - 1) = accepted-byte-words s (n - 1) (omega arith) 3 (omega arith) words in
      and_then-only Placed _ _ (sum-only Placed (n - 1) (last_word s)
      (λ big. range_11 refl (omega arith) (omega arith) big before)
      (λ same. inverse_11 refl long refl same before)) (λ last.
      accepted-only Placed)))))))

  header-only : Form s → Only Placed (header_verdict s)
  unfolding header_verdict
  header-only form =
      let long : 20 ≤ length s = form.long in
      let right : (i : ℕ) → 3 ≤ i → i < 6 → get_or s i 0 ≡ word_of (byte_of (get_or s i 0)) = λ i low high. covered-words form i low (omega arith) in
      and_then-only Placed _ _ (refuse_if-only Placed (not (eqb (get_or s 3 0) 0x143)) (Unfixed Identifier) (Word 3) (λ e.
      identifier_6 0 refl long (omega arith) refl (λ byte. eqb-false _ _ (not-true _ e) (right 3 (omega arith) (omega arith) ∙ ap word_of byte ∙ did-word)))) (λ did.
      and_then-only Placed _ _ (refuse_if-only Placed (not (eqb (get_or s 4 0) 0x102)) (Unfixed Identifier) (Word 4) (λ e.
      identifier_6 1 refl long (omega arith) refl (λ byte. eqb-false _ _ (not-true _ e) (right 4 (omega arith) (omega arith) ∙ ap word_of byte ∙ sdid-word)))) (λ sdid.
      and_then-only Placed _ _ (refuse_if-only Placed (not (eqb (get_or s 5 0 % 256) (length s - 7))) (Unfit DataCount) (Word 5) (λ e.
      data_count_13 refl long refl (eqb-false _ _ (not-true _ e)))) (λ dc.
      accepted-only Placed)))

  user-only : Form s → Only Placed (user_verdict 5 (user_in s))
  user-only form reason item e =
      let told = user.place-means 5 (user_in s) reason item e in
      user-words form.long (subst (UserStands 5 (user_in s) (number_of reason)) (sym (ap place_of told.1)) told.2)

  checksum-only : Form s → Only Placed (checksum_verdict s)
  unfolding checksum_verdict
  checksum-only form =
      refuse_if-only Placed (not (eqb (last_word s) (checksum_of (covered_in s)))) Checksum (Word (length s - 1)) (λ e.
      checksum_12 refl form.long refl (eqb-false _ _ (not-true _ e)))

  packet-only : Only Placed (packet_verdict s)
  unfolding packet_verdict
  packet-only =
      and_then-only Placed _ _ form-only (λ e.
      let form = accepted-form s e in
      and_then-only Placed _ _ (header-only form) (λ f.
      and_then-only Placed _ _ (user-only form) (λ g.
      and_then-only Placed _ _ (checksum-only form) (λ h.
      accepted-only Placed))))

pub place-means : (s : List ℕ) (r : Answer) → Reads s r → (r.refusal.number ≡ 0 → ⊥)
    → Stands s r.refusal.number r.refusal.place
place-means s r p h =
    let told = refused-in-order s r p in
    subst (λ (x : Refusal). Stands s x.number x.place) (sym told)
    (told-only (Stands s) (packet_verdict s) (packet-only s) (λ e. h (ap (λ (x : Refusal). x.number) told ∙ e)))
