-- The records that words tell, gathered five words at a time.
-- Assumes nothing.
use Prim.Native.Nat.{ℕ, ◌+◌, ◌≤◌, ◌<◌}
use native.Mathlib.Omega.{arith}
use mathlib.Core.Bool.{Bool, true, false, ◌&&◌, and-false, false≢true}
use mathlib.Core.List.{List, [], ◌∷◌, ◌++◌, append_assoc, append-nil}
use mathlib.Core.Logic.{◌⊎◌, ⊎_elim}
use mathlib.Core.Path.{◌≡◌, ◌∙◌, ap, ap₂, sym, refl}
use lib.ListN.{length, get_or, take, drop, set, length-append}
use lib.Seq.{take_all, take-append-le}
use Rattle.lists.specs.Room.{filled}
use Rattle.lists.proofs.Fill.{filled_more}
use Rattle.scte20.specs.declared.Record.{Record}
use Rattle.scte20.specs.Value.{blank}
use Rattle.notation.specs.Inside.{Skips, Takes, entry_of, is_entry}
use Rattle.notation.specs.Value.{are_records, is_record, records_of}
use Rattle.notation.specs.Words.{is_space, words_of}
use Rattle.notation.proofs.Cutting.{words-end, words-some}

-- four words are no record
record-short : (p f l a : List ℕ) → is_record p f l a [] ≡ false
record-short p f l a = simp and-false

-- words that are left are records where the first five are one and the others are
entry_first : (words : List (List ℕ)) → (words ≡ [] → ⊥) → are_records words ≡ (is_entry words && are_records (drop 5 words))
entry_first [] some = absurd (some refl)
entry_first (p ∷ []) some = sym (ap (λ (t : Bool). t && true) (record-short p [] [] []))
entry_first (p ∷ f ∷ []) some = sym (ap (λ (t : Bool). t && true) (record-short p f [] []))
entry_first (p ∷ f ∷ l ∷ []) some = sym (ap (λ (t : Bool). t && true) (record-short p f l []))
entry_first (p ∷ f ∷ l ∷ a ∷ []) some = sym (ap (λ (t : Bool). t && true) (record-short p f l a))
entry_first (p ∷ f ∷ l ∷ a ∷ b ∷ words) some = refl

-- then the first five are the first record
entry-records : (words : List (List ℕ)) → is_entry words ≡ true → records_of words ≡ entry_of words ∷ records_of (drop 5 words)
entry-records [] is = absurd (false≢true (sym (record-short [] [] [] []) ∙ is))
entry-records (p ∷ []) is = absurd (false≢true (sym (record-short p [] [] []) ∙ is))
entry-records (p ∷ f ∷ []) is = absurd (false≢true (sym (record-short p f [] []) ∙ is))
entry-records (p ∷ f ∷ l ∷ []) is = absurd (false≢true (sym (record-short p f l []) ∙ is))
entry-records (p ∷ f ∷ l ∷ a ∷ []) is = absurd (false≢true (sym (record-short p f l a) ∙ is))
entry-records (p ∷ f ∷ l ∷ a ∷ b ∷ words) is = refl

-- the words before `at` are n records, of which the array holds those that have a place; a word begins at `at`, or the text ends
pub record Gathered (text : List ℕ) (words : List (List ℕ)) (records : List Record) (n at : ℕ) : Type 0 where
  pub inside : at ≤ length text
  pub counted : n ≤ at
  pub stops : at < length text → is_space (get_or text at 0) ≡ false
  pub same : are_records words ≡ are_records (words_of (drop at text))
  pub passed : List Record
  pub long : length passed ≡ n
  pub held : records ≡ filled (take 31 passed) 31 blank
  pub told : records_of words ≡ passed ++ records_of (words_of (drop at text))

pub gathered_none : (text : List ℕ) (from at : ℕ) (records : List Record) → Skips text from at → records ≡ filled [] 31 blank
    → Gathered text (words_of (drop from text)) records 0 at
gathered_none text from at records skips e =
    record {
      inside = skips.inside;
      counted = omega arith;
      stops = skips.stops;
      same = ap are_records skips.same;
      passed = [];
      long = refl;
      held = e;
      told = ap records_of skips.same;
    }

-- a record behind those in the array, where there is a place, and not otherwise
held_more : (passed : List Record) (r : Record) (n : ℕ) → length passed ≡ n → n < 31
    → set (filled (take 31 passed) 31 blank) n r ≡ filled (take 31 (passed ++ (r ∷ []))) 31 blank
held_more passed r n long place =
    let all : take 31 passed ≡ passed = take_all 31 passed (omega arith) in
    let more : length (passed ++ (r ∷ [])) ≤ 31 = simp length-append (omega arith) in
    ap (λ (front : List Record). set (filled front 31 blank) n r) all
    ∙ filled_more passed 31 blank r n long place
    ∙ ap (λ (front : List Record). filled front 31 blank) (sym (take_all 31 (passed ++ (r ∷ [])) more))

held-full : (passed : List Record) (r : Record) → 31 ≤ length passed → filled (take 31 passed) 31 blank ≡ filled (take 31 (passed ++ (r ∷ []))) 31 blank
held-full passed r full = ap (λ (front : List Record). filled front 31 blank) (sym (take-append-le 31 passed (r ∷ []) full))

module _ (text : List ℕ) (words : List (List ℕ)) (records : List Record) (n at : ℕ) (g : Gathered text words records n at) where
  -- five words that are no record
  pub gathered-other : is_entry (words_of (drop at text)) ≡ false → at < length text → are_records words ≡ false
  gathered-other other h =
      g.same
      ∙ entry_first (words_of (drop at text)) (words-some text at h (g.stops h))
      ∙ ap (λ (t : Bool). t && are_records (drop 5 (words_of (drop at text)))) other

  -- five words that are one
  module _ (e : Record × ℕ) (takes : Takes is_entry entry_of 5 text at e) (h : at < length text) where
    here : are_records (words_of (drop at text)) ≡ are_records (words_of (drop e.1 text))
    here =
        entry_first (words_of (drop at text)) (words-some text at h (g.stops h))
        ∙ ap₂ (λ (t : Bool) (rest : List (List ℕ)). t && are_records rest) takes.told (sym takes.rest)

    first : records_of (words_of (drop at text)) ≡ e.0 ∷ records_of (words_of (drop e.1 text))
    first =
        entry-records (words_of (drop at text)) takes.told
        ∙ ap₂ (λ (r : Record) (rest : List (List ℕ)). r ∷ records_of rest) (sym takes.value) (sym takes.rest)

    pub gathered-more : (next : ℕ) (more : List Record) → Skips text e.1 next
        → ((n < 31) × (more ≡ set records n e.0)) ⊎ ((31 ≤ n) × (more ≡ records)) → Gathered text words more (n + 1) next
    gathered-more next more skips came =
        record {
          inside = skips.inside;
          counted = omega (arith, g.counted, takes.onward, skips.from);
          stops = skips.stops;
          same = g.same ∙ here ∙ ap are_records skips.same;
          passed = g.passed ++ (e.0 ∷ []);
          long = length-append g.passed (e.0 ∷ []) ∙ ap (λ (k : ℕ). k + 1) g.long;
          held =
              ⊎_elim
              (λ w. w.1 ∙ ap (λ (rs : List Record). set rs n e.0) g.held ∙ held_more g.passed e.0 n g.long w.0)
              (λ w. w.1 ∙ g.held ∙ held-full g.passed e.0 (omega (arith, w.0, g.long)))
              came;
          told =
              g.told
              ∙ ap (λ (rs : List Record). g.passed ++ rs) (first ∙ ap (λ (ws : List (List ℕ)). e.0 ∷ records_of ws) skips.same)
              ∙ sym (append_assoc g.passed (e.0 ∷ []) (records_of (words_of (drop next text))));
        }

  -- no word is left
  module _ (h : length text ≤ at) where
    none : words_of (drop at text) ≡ []
    none = words-end text at h

    all : records_of words ≡ g.passed
    all = g.told ∙ ap (λ (ws : List (List ℕ)). g.passed ++ records_of ws) none ∙ append-nil g.passed

    pub gathered-all : are_records words ≡ true
    gathered-all = g.same ∙ ap are_records none

    pub gathered-count : n ≡ length (records_of words)
    gathered-count = sym g.long ∙ ap length (sym all)

    pub gathered-held : records ≡ filled (take 31 (records_of words)) 31 blank
    gathered-held = g.held ∙ ap (λ (rs : List Record). filled (take 31 rs) 31 blank) (sym all)
