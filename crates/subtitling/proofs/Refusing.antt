-- Which number reading refuses with, and that a refusal holds nothing.
-- Assumes nothing.
use Prim.Native.Nat.{ℕ, suc, ◌≤◌, ◌<◌}
use native.Mathlib.Omega.{arith}
use mathlib.Core.Path.{◌≡◌, ◌∙◌, ap, refl}
use mathlib.Core.Bool.{Bool, true, false, not}
use mathlib.Core.List.{List}
use borrow.Author.Tests.{eqb-true, eqb-false, lt-ltb, le-ltb}
use lib.Dec.{eqb}
use lib.ListN.{length, get_or}
use Rattle.lists.proofs.Below.{below_next}
use Rattle.refusal.specs.Verdict.{Verdict}
use Rattle.refusal.specs.Verdict.{Accepted, Refused}
use Rattle.refusal.specs.declared.Reason.TheVariants.{NoStart}
use Rattle.refusal.specs.declared.Item.TheVariants.{Word}
use Rattle.refusal.specs.Checks.{refuse_if, and_then, first}
use Rattle.refusal.specs.Numbers.{refusal_of}
use Rattle.refusal.specs.Answers.{refused}
use Rattle.refusal.proofs.Acceptance.{told-refused}
use Rattle.refusal.proofs.Checks.{and_then-refused}
use Rattle.subtitling.specs.declared.Answer.{Answer}
use Rattle.sdp.specs.Value.{Sdp, none, numbers_of, rows_of}
use Rattle.subtitling.specs.Reading.{form_verdict, packet_verdict, value_of, found, Reads, ReadsRows}
use Rattle.subtitling.specs.Order.{reading_checks}
use Rattle.subtitling.specs.Places.{flag_words, FlagBroken}
use Rattle.subtitling.proofs.Sequence.{reading-order}

pub refused-in-order : (s : List ℕ) (r : Answer) → Reads s r → r.refusal ≡ refusal_of (packet_verdict s)
refused-in-order s r p = ap (λ (a : Answer). a.refusal) p

pub read_first : (s : List ℕ) (r : Answer) → Reads s r → r.refusal ≡ refusal_of (first (reading_checks s))
read_first s r p = refused-in-order s r p ∙ ap refusal_of (reading-order s)

refused-nothing : (verdict : Verdict) (v : Sdp) → ((refusal_of verdict).number ≡ 0 → ⊥) → found verdict v ≡ none
refused-nothing Accepted v h = absurd (h refl)
refused-nothing (Refused reason item) v h = refl

pub refused-zero : (s : List ℕ) (r : Answer) (rows : List (List ℕ)) → Reads s r → ReadsRows s rows
    → (r.refusal.number ≡ 0 → ⊥)
    → (r.packet ≡ numbers_of none) × (rows ≡ rows_of none)
refused-zero s r rows p q h =
    let nothing = refused-nothing (packet_verdict s) (value_of s) (λ e. h (ap (λ (a : Answer). a.refusal.number) p ∙ e)) in
    (ap (λ (a : Answer). a.packet) p ∙ ap numbers_of nothing, q ∙ ap rows_of nothing)

pub refused-1 : (s : List ℕ) (r : Answer) → Reads s r → 245 < length s → r.refusal ≡ refused 1 (length s)
unfolding packet_verdict form_verdict
refused-1 s r p h = ap (λ (a : Answer). a.refusal) p ∙ simp (lt-ltb 245 (length s) h)

pub refused-5 : (s : List ℕ) (r : Answer) → Reads s r → length s < 20 → r.refusal ≡ refused 5 (length s)
unfolding packet_verdict form_verdict
refused-5 s r p h = let short : length s ≤ 245 = omega arith in ap (λ (a : Answer). a.refusal) p ∙ simp (le-ltb 245 (length s) short, lt-ltb (length s) 20 h)

-- the first word that is not the flag's decides, and P holds of it
flag-refused : (P : ℕ → Type 0) (a b c : Bool) (next : Verdict) → (a ≡ false → P 0) → (a ≡ true → b ≡ false → P 1) → (a ≡ true → b ≡ true → c ≡ false → P 2)
    → (a ≡ true → b ≡ true → c ≡ true → ⊥)
    → (word : ℕ) × P word
    × (refusal_of (and_then (refuse_if (not a) NoStart (Word 0)) (and_then (refuse_if (not b) NoStart (Word 1)) (and_then (refuse_if (not c) NoStart (Word 2)) next))) ≡ refused 2 word)
flag-refused P false b c next p q r h = (0, p refl, refl)
flag-refused P true false c next p q r h = (1, q refl refl, refl)
flag-refused P true true false next p q r h = (2, r refl refl refl, refl)
flag-refused P true true true next p q r h = absurd (h refl refl refl)

-- one flag word more is right
pub flag-more : (s : List ℕ) (n : ℕ) → ((i : ℕ) → i < n → get_or s i 0 ≡ get_or flag_words i 0) → get_or s n 0 ≡ get_or flag_words n 0
    → (i : ℕ) → i < suc n → get_or s i 0 ≡ get_or flag_words i 0
flag-more s = below_next (λ (i : ℕ). get_or s i 0 ≡ get_or flag_words i 0)

form-refused : (s : List ℕ) → 20 ≤ length s → length s ≤ 245
    → (get_or s 0 0 ≡ 0x000 → get_or s 1 0 ≡ 0x3FF → get_or s 2 0 ≡ 0x3FF → ⊥) → (word : ℕ) × FlagBroken s word × (refusal_of (form_verdict s) ≡ refused 2 word)
unfolding form_verdict
form-refused s long short h =
    simp (le-ltb 245 (length s) short, le-ltb (length s) 20 long)
    (flag-refused (FlagBroken s) (eqb (get_or s 0 0) 0x000) (eqb (get_or s 1 0) 0x3FF) (eqb (get_or s 2 0) 0x3FF) _
    (λ a. record { within = omega arith; other = eqb-false _ _ a; before = λ i low. let f : ⊥ = omega arith in absurd f })
    (λ a b. record { within = omega arith; other = eqb-false _ _ b; before = flag_one (eqb-true _ _ a) })
    (λ a b c. record { within = omega arith; other = eqb-false _ _ c; before = flag-more s 1 (flag_one (eqb-true _ _ a)) (eqb-true _ _ b) })
    (λ a b c. h (eqb-true (get_or s 0 0) 0x000 a) (eqb-true (get_or s 1 0) 0x3FF b) (eqb-true (get_or s 2 0) 0x3FF c)))
  where
    flag_one : get_or s 0 0 ≡ 0x000 → (i : ℕ) → i < 1 → get_or s i 0 ≡ get_or flag_words i 0
    flag_one e = flag-more s 0 (λ i low. let f : ⊥ = omega arith in absurd f) e

pub refused-2 : (s : List ℕ) (r : Answer) → Reads s r → 20 ≤ length s → length s ≤ 245
    → (get_or s 0 0 ≡ 0x000 → get_or s 1 0 ≡ 0x3FF → get_or s 2 0 ≡ 0x3FF → ⊥)
    → (word : ℕ) × FlagBroken s word × (r.refusal ≡ refused 2 word)
unfolding packet_verdict
refused-2 s r p long short h =
    let two = form-refused s long short h in
    let word = two.0 in (
      word,
      two.1,
      ap (λ (a : Answer). a.refusal) p ∙ ap refusal_of (and_then-refused (form_verdict s) _ (told-refused (form_verdict s) 2 word (omega arith) two.2)) ∙ two.2,
    )
