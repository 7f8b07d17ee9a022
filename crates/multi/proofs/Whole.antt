-- A multipacket: legal values are accepted and read as what they are, and words that are accepted are those of a legal value.
-- Assumes nothing.
use Prim.Native.Nat.{ℕ, ◌+◌, ◌-◌, ◌≤◌, ◌<◌}
use native.Mathlib.Omega.{arith}
use mathlib.Core.Path.{◌≡◌, ◌∙◌, ap, ap₂, sym, subst, refl}
use mathlib.Core.Bool.{not}
use mathlib.Core.List.{List, [], ◌∷◌, ◌++◌, map}
use borrow.Author.Tests.{eq-eqb, ne_eqb, eqb-false, le-ltb}
use lib.Dec.{eqb, ltb}
use lib.ListN.{length, get_or}
use Rattle.lists.specs.Part.{part}
use Rattle.refusal.specs.Verdict.{Verdict}
use Rattle.refusal.specs.Verdict.{Accepted}
use Rattle.refusal.specs.declared.Reason.TheVariants.{TooLong, Ends, Checksum}
use Rattle.refusal.specs.declared.Item.TheVariants.{Word, Length}
use Rattle.refusal.specs.Checks.{refuse_if, and_then, first}
use Rattle.refusal.proofs.Checks.{accepted-refuse_if, refuse_if-accepted, accepted-all, all-accepted, accepted-equal, accepted-within, accepted-and_then, and_then-accepted, and_then-assoc, and_then-last}
use Rattle.refusal.proofs.Sequence.{first-append}
use Rattle.anc.specs.Words.{parity_of, word_of, byte_of, words_verdict, sum_verdict, checksum_of}
use Rattle.anc.proofs.Words.{word_byte, words-accepted, accepted-words, sum-accepted}
use Rattle.multi.specs.Value.{Inner, Multi, Legal, inners_words, user_count}
use Rattle.multi.specs.Layout.{layout_inners, user_words, covered, layout}
use Rattle.multi.specs.Order.{inners_in, covered_in, last_word, outer_checks, inners_checks}
use Rattle.multi.specs.Reading.{inners_verdict, outer_verdict, multi_verdict, value_of}
use Rattle.multi.specs.Inside.{outer_form, outer_header}
use Rattle.multi.proofs.Frame.{framed, framed-length, framed-inners, framed-covered, framed-last, frame}
use Rattle.multi.proofs.Inners.{inners, length-inners, inners-accepted, inners-back, accepted-inners, inners-words, few-inners}

-- THE CHECKS IN PARTS

pub outer-halves : (s : List ℕ) → outer_verdict s ≡ and_then (outer_form s) (outer_header s)
unfolding outer_verdict outer_form outer_header
outer-halves s = simp (and_then-assoc)

-- 12 of CS
abbrev pub sum_check : List ℕ → Verdict
sum_check s = refuse_if (not (eqb (last_word s) (checksum_of (covered_in s)))) Checksum (Word (length s - 1))

pub multi-parts : (s : List ℕ) → multi_verdict s ≡ and_then (outer_verdict s) (and_then (inners_verdict 7 (inners_in s)) (sum_check s))
unfolding multi_verdict outer_verdict inners_verdict
multi-parts s =
    let own = inners_checks (length (inners_in s)) 7 (inners_in s) in
    first-append (outer_checks s) (own ++ (sum_check s ∷ []))
    ∙ ap (λ (v : Verdict). and_then (first (outer_checks s)) v)
    (first-append own (sum_check s ∷ []) ∙ ap (λ (v : Verdict). and_then (first own) v) (and_then-last (sum_check s)))

-- the words of the identifiers
pub did-word : word_of 0x43 ≡ 0x143
unfolding word_of parity_of
did-word = refl

pub sdid-word : word_of 0x03 ≡ 0x203
unfolding word_of parity_of
sdid-word = refl

-- LEGAL VALUES

pub length-user : (v : Multi) → length (user_words v) ≡ user_count v
length-user v = omega (arith, length-inners v.inners)

pub length-multi : (v : Multi) → length (layout v) ≡ 7 + user_count v
length-multi v =
    omega (arith, framed-length 0x000 0x3FF 0x3FF (word_of 0x43) (word_of 0x03) (word_of (length (user_words v))) (word_of v.priority) (layout_inners v.inners) (checksum_of (covered v)), length-inners v.inners)

module _ (v : Multi) (h : Legal v) where
  abbrev u : List ℕ
  u = layout_inners v.inners

  abbrev cs : ℕ
  cs = checksum_of (covered v)

  abbrev dc : ℕ
  dc = word_of (length (user_words v))

  abbrev s : List ℕ
  s = framed 0x000 0x3FF 0x3FF (word_of 0x43) (word_of 0x03) dc (word_of v.priority) u cs

  laid-length : length s ≡ 8 + length u
  laid-length = framed-length 0x000 0x3FF 0x3FF (word_of 0x43) (word_of 0x03) dc (word_of v.priority) u cs

  laid-inners : inners_in s ≡ u
  laid-inners = framed-inners 0x000 0x3FF 0x3FF (word_of 0x43) (word_of 0x03) dc (word_of v.priority) u cs

  laid-covered : covered_in s ≡ covered v
  laid-covered = framed-covered 0x000 0x3FF 0x3FF (word_of 0x43) (word_of 0x03) dc (word_of v.priority) u cs

  laid-last : last_word s ≡ cs
  laid-last = framed-last 0x000 0x3FF 0x3FF (word_of 0x43) (word_of 0x03) dc (word_of v.priority) u cs

  pub short : inners_words v.inners < 256
  short = omega (arith, h.fits)

  size : length u ≡ inners_words v.inners
  size = length-inners v.inners

  count : byte_of dc ≡ length (user_words v)
  count = word_byte (length (user_words v)) (omega (arith, length-user v, h.fits))

  -- each inner packet has words
  some : 0 < length u
  some = omega (arith, size, few-inners v.inners, h.some)

  outer-accepted : outer_verdict s ≡ Accepted
  unfolding outer_verdict
  outer-accepted =
      all-accepted (outer_checks s) (
        refuse_if-accepted _ _ _ (le-ltb 262 (length s) (omega (arith, laid-length, size, h.fits))),
        (
          refuse_if-accepted _ _ _ (le-ltb (length s) 8 (omega (arith, laid-length))),
          (
            refl,
            (
              refl,
              (
                refl,
                (
                  words-accepted 3 (0x43 ∷ 0x03 ∷ length (user_words v) ∷ v.priority ∷ []) (omega arith, (omega arith, (omega (arith, length-user v, h.fits), (h.priority, tt)))),
                  (
                    ap (sum_verdict (length s - 1)) laid-last ∙ sum-accepted (length s - 1) (covered v),
                    (
                      refuse_if-accepted _ _ _ (ap not (eq-eqb (word_of 0x43) 0x143 did-word)),
                      (
                        refuse_if-accepted _ _ _ (ap not (eq-eqb (word_of 0x03) 0x203 sdid-word)),
                        (
                          refuse_if-accepted _ _ _ (ap not (eq-eqb (byte_of dc) (length s - 7) (omega (arith, count, laid-length)))),
                          (refuse_if-accepted _ _ _ (ne_eqb (length s) 8 (λ e. omega (arith, e, laid-length, some))), tt),
                        ),
                      ),
                    ),
                  ),
                ),
              ),
            ),
          ),
        ),
      )

  pub multi-accepted : multi_verdict (layout v) ≡ Accepted
  multi-accepted =
      let own : inners_verdict 7 (inners_in s) ≡ Accepted = ap (inners_verdict 7) laid-inners ∙ inners-accepted v.inners h.each short 7 in
      let sum : sum_check s ≡ Accepted = refuse_if-accepted _ _ _ (ap not (eq-eqb (last_word s) (checksum_of (covered_in s)) (laid-last ∙ ap checksum_of (sym laid-covered)))) in
      multi-parts s ∙ and_then-accepted (outer_verdict s) _ outer-accepted (and_then-accepted (inners_verdict 7 (inners_in s)) (sum_check s) own sum)

  pub value-back : value_of (layout v) ≡ v
  value-back =
      ap₂ (λ (p : ℕ) (xs : List Inner). record { priority = p; inners = xs }) (word_byte v.priority h.priority)
      (ap inners laid-inners ∙ inners-back v.inners h.each short)

  -- where its inner packets stand
  pub layout-inners : inners_in (layout v) ≡ layout_inners v.inners
  layout-inners = laid-inners

-- WORDS THAT ARE ACCEPTED

-- what the checks around the inner packets let through
pub record Outer (s : List ℕ) : Type 0 where
  pub long : length s ≤ 262
  pub short : 8 ≤ length s
  pub flag0 : get_or s 0 0 ≡ 0x000
  pub flag1 : get_or s 1 0 ≡ 0x3FF
  pub flag2 : get_or s 2 0 ≡ 0x3FF
  pub words : words_verdict 3 (part 3 7 s) ≡ Accepted
  pub sum : sum_verdict (length s - 1) (last_word s) ≡ Accepted
  pub did : get_or s 3 0 ≡ 0x143
  pub sdid : get_or s 4 0 ≡ 0x203
  pub dc : byte_of (get_or s 5 0) ≡ length s - 7
  pub some : length s ≡ 8 → ⊥

pub accepted-outer : (s : List ℕ) → outer_verdict s ≡ Accepted → Outer s
unfolding outer_verdict
accepted-outer s e =
    let each = accepted-all (outer_checks s) e in
    record {
      long = accepted-within 262 (length s) _ _ each.0;
      short = accepted-within (length s) 8 _ _ each.1.0;
      flag0 = accepted-equal (get_or s 0 0) 0x000 _ _ each.1.1.0;
      flag1 = accepted-equal (get_or s 1 0) 0x3FF _ _ each.1.1.1.0;
      flag2 = accepted-equal (get_or s 2 0) 0x3FF _ _ each.1.1.1.1.0;
      words = each.1.1.1.1.1.0;
      sum = each.1.1.1.1.1.1.0;
      did = accepted-equal (get_or s 3 0) 0x143 _ _ each.1.1.1.1.1.1.1.0;
      sdid = accepted-equal (get_or s 4 0) 0x203 _ _ each.1.1.1.1.1.1.1.1.0;
      dc = accepted-equal (byte_of (get_or s 5 0)) (length s - 7) _ _ each.1.1.1.1.1.1.1.1.1.0;
      some = eqb-false (length s) 8 (accepted-refuse_if _ _ _ each.1.1.1.1.1.1.1.1.1.1.0);
    }

-- and what its first half does
pub form-short : (s : List ℕ) → outer_form s ≡ Accepted → 8 ≤ length s
unfolding outer_form
form-short s e =
    let one = accepted-and_then (refuse_if (ltb 262 (length s)) TooLong (Length (length s))) _ e in
    let two = accepted-and_then (refuse_if (ltb (length s) 8) Ends (Length (length s))) _ one.1 in
    accepted-within (length s) 8 Ends (Length (length s)) two.0

-- the three parts
pub record Passed (s : List ℕ) : Type 0 where
  pub outer : Outer s
  pub own : inners_verdict 7 (inners_in s) ≡ Accepted
  pub total : last_word s ≡ checksum_of (covered_in s)

pub passed : (s : List ℕ) → multi_verdict s ≡ Accepted → Passed s
passed s e =
    let one = accepted-and_then (outer_verdict s) (and_then (inners_verdict 7 (inners_in s)) (sum_check s)) (sym (multi-parts s) ∙ e) in
    let two = accepted-and_then (inners_verdict 7 (inners_in s)) (sum_check s) one.1 in
    record {
      outer = accepted-outer s one.0;
      own = two.0;
      total = accepted-equal (last_word s) (checksum_of (covered_in s)) _ _ two.1;
    }

pub record Accepts (s : List ℕ) : Type 0 where
  pub legal : Legal (value_of s)
  pub same : layout (value_of s) ≡ s

pos : (xs : List Inner) (n : ℕ) → inners_words xs ≡ n → (n ≡ 0 → ⊥) → 0 < length xs
pos [] n e h = absurd (h (sym e))
pos (x ∷ xs) n e h = omega arith

module _ (p q r a b c d : ℕ) (u : List ℕ) (x : ℕ) where
  abbrev t : List ℕ
  t = framed p q r a b c d u x

  -- with these inner packets
  abbrev valued : List Inner → Multi
  valued xs = record { priority = byte_of d; inners = xs }

  -- the layout, word by word
  laid : (xs : List Inner) → p ≡ 0x000 → q ≡ 0x3FF → r ≡ 0x3FF → word_of 0x43 ≡ a → word_of 0x03 ≡ b → word_of (length (user_words (valued xs))) ≡ c → word_of (byte_of d) ≡ d
      → layout_inners xs ≡ u → x ≡ checksum_of (a ∷ b ∷ c ∷ d ∷ u) → layout (valued xs) ≡ t
  laid xs ep eq er ea eb ec ed eu ex =
      let covers : covered (valued xs) ≡ a ∷ b ∷ c ∷ d ∷ u =
      ap₂ (λ (k l : ℕ). k ∷ l ∷ word_of (length (user_words (valued xs))) ∷ word_of (byte_of d) ∷ layout_inners xs) ea eb
      ∙ ap₂ (λ (k l : ℕ). a ∷ b ∷ k ∷ l ∷ layout_inners xs) ec ed
      ∙ ap (λ (ys : List ℕ). a ∷ b ∷ c ∷ d ∷ ys) eu in
      ap (λ (ws : List ℕ). 0x000 ∷ 0x3FF ∷ 0x3FF ∷ (ws ++ (checksum_of ws ∷ []))) covers
      ∙ ap₂ (λ (k l : ℕ). k ∷ l ∷ 0x3FF ∷ a ∷ b ∷ c ∷ d ∷ (u ++ (checksum_of (a ∷ b ∷ c ∷ d ∷ u) ∷ []))) (sym ep) (sym eq)
      ∙ ap₂ (λ (k l : ℕ). p ∷ q ∷ k ∷ a ∷ b ∷ c ∷ d ∷ (u ++ (l ∷ []))) (sym er) (sym ex)

  accepted-framed : Passed t → Accepts t
  accepted-framed h =
      let long = framed-length p q r a b c d u x in
      let mid = framed-inners p q r a b c d u x in
      let own : inners_verdict 7 u ≡ Accepted = sym (ap (inners_verdict 7) mid) ∙ h.own in
      let made = accepted-inners 7 u own in
      let words : map word_of (map byte_of (a ∷ b ∷ c ∷ d ∷ [])) ≡ a ∷ b ∷ c ∷ d ∷ [] = accepted-words 3 (a ∷ b ∷ c ∷ d ∷ []) h.outer.words in
      let size : inners_words (inners u) ≡ length u = inners-words 7 u own in
      let none : length u ≡ 0 → ⊥ = λ e. h.outer.some (omega (arith, long, e)) in
      let dc : length (user_words (valued (inners u))) ≡ byte_of c = omega (arith, length-inners (inners u), size, h.outer.dc, long) in
      let legal : Legal (valued (inners u)) =
      record {
        priority = omega arith;
        some = pos (inners u) (length u) size none;
        each = made.legal;
        fits = omega (arith, size, long, h.outer.long);
      } in
      let same : layout (valued (inners u)) ≡ t =
      laid (inners u) h.outer.flag0 h.outer.flag1 h.outer.flag2 (did-word ∙ sym h.outer.did) (sdid-word ∙ sym h.outer.sdid)
      (ap word_of dc ∙ ap (λ (ws : List ℕ). get_or ws 2 0) words) (ap (λ (ws : List ℕ). get_or ws 3 0) words) made.same
      (sym (framed-last p q r a b c d u x) ∙ h.total ∙ ap checksum_of (framed-covered p q r a b c d u x)) in
      let back = sym (ap inners mid) in
      record { legal = subst (λ (xs : List Inner). Legal (valued xs)) back legal; same = subst (λ (xs : List Inner). layout (valued xs) ≡ t) back same }

pub accepted-multi : (s : List ℕ) → multi_verdict s ≡ Accepted → Accepts s
accepted-multi s e =
    let f = frame s (passed s e).outer.short in
    subst Accepts (sym f.same)
    (accepted-framed f.p f.q f.r f.a f.b f.c f.d f.u f.x (passed _ (sym (ap multi_verdict f.same) ∙ e)))
