-- Which values can be written.
-- Assumes nothing.
use Prim.Native.Nat.{ℕ, zero, suc, ◌+◌, ◌≤◌, ◌<◌}
use native.Mathlib.Omega.{arith}
use native.Mathlib.Numerals.{add-one}
use mathlib.Core.Path.{◌≡◌, ◌∙◌, ap, ap₂, sym, refl}
use mathlib.Core.List.{List, [], ◌∷◌, map}
use borrow.Author.Tests.{eq-eqb, ne_eqb, eqb-false, lt-ltb, le-ltb}
use lib.Dec.{eqb, ltb}
use lib.ListN.{length, get_or, drop, length-map}
use lib.Seq.{drop-cons}
use Rattle.lists.specs.Each.{Each}
use Rattle.refusal.specs.Verdict.{Verdict}
use Rattle.refusal.specs.Verdict.{Accepted, Refused}
use Rattle.refusal.specs.declared.Reason.TheVariants.{Unfit, NoRoom, Unholdable, NoInner}
use Rattle.refusal.specs.declared.Misfit.TheVariants.{UserWords}
use Rattle.refusal.specs.declared.Excess.TheVariants.{PriorityWord}
use Rattle.refusal.specs.declared.Item.TheVariants.{Whole}
use Rattle.refusal.specs.Checks.{refuse_if, and_then, first}
use Rattle.refusal.specs.Order.{each_of}
use Rattle.refusal.proofs.Checks.{refused-not-accepted, accepted-refuse_if, refuse_if-accepted, accepted-all, all-accepted, accepted-within, accepted-and_then, accepted-each, each-accepted, and_then-last}
use Rattle.refusal.proofs.Sequence.{first-append, first-each}
use Rattle.anc.specs.Words.{byte_of, words_verdict}
use Rattle.anc.proofs.Words.{bytes-bytes}
use Rattle.sdp.specs.User.{user_verdict}
use Rattle.multi.specs.Value.{LegalInner}
use Rattle.multi.specs.Layout.{user_words, layout}
use Rattle.multi.specs.Order.{subtitling_id, only_if, unplaced, head_checks}
use Rattle.multi.specs.Lent.{Told, user_of, inner_of, held, Lent, LegalTold}
use Rattle.multi.specs.Writing.{head_verdict, heads_verdict, value_verdict}
use Rattle.multi.proofs.Inner.{own-accepted, accepted-own}
use Rattle.multi.proofs.Whole.{length-user}

-- ONE INNER PACKET

-- without its place a verdict accepts where it did
pub unplaced-accepted : (verdict : Verdict) → verdict ≡ Accepted → unplaced verdict ≡ Accepted
unplaced-accepted verdict e = ap unplaced e

pub accepted-unplaced : (verdict : Verdict) → unplaced verdict ≡ Accepted → verdict ≡ Accepted
accepted-unplaced Accepted e = refl
accepted-unplaced (Refused reason item) e = refused-not-accepted reason Whole e

module _ (words h : List ℕ) where
  abbrev user : List ℕ
  user = user_of words h

  -- what its checks let through
  pub record Writable : Type 0 where
    pub line : get_or h 0 0 ≤ 31
    pub field : get_or h 1 0 ≤ 1
    pub did : get_or h 2 0 ≤ 255
    pub sdid : get_or h 3 0 ≤ 255
    pub inside : get_or h 4 0 + get_or h 5 0 ≤ length words
    pub whole : words_verdict 0 user ≡ Accepted
    pub own : only_if (subtitling_id (get_or h 2 0) (get_or h 3 0)) (user_verdict 0 (map byte_of user)) ≡ Accepted

  pub accepted-head : head_verdict words h ≡ Accepted → Writable
  unfolding head_verdict
  accepted-head e =
      let each = accepted-all (head_checks words h) e in
      record {
        line = accepted-within 31 (get_or h 0 0) _ _ each.0;
        field = accepted-within 1 (get_or h 1 0) _ _ each.1.0;
        did = accepted-within 255 (get_or h 2 0) _ _ each.1.1.0;
        sdid = accepted-within 255 (get_or h 3 0) _ _ each.1.1.1.0;
        inside = accepted-within (length words) (get_or h 4 0 + get_or h 5 0) _ _ each.1.1.1.1.0;
        whole = accepted-unplaced (words_verdict 0 user) each.1.1.1.1.1.0;
        own = accepted-unplaced (only_if (subtitling_id (get_or h 2 0) (get_or h 3 0)) (user_verdict 0 (map byte_of user))) each.1.1.1.1.1.1.0;
      }

  pub head-accepted : Writable → head_verdict words h ≡ Accepted
  unfolding head_verdict
  head-accepted w =
      all-accepted (head_checks words h) (
        refuse_if-accepted _ _ _ (le-ltb 31 (get_or h 0 0) w.line),
        (
          refuse_if-accepted _ _ _ (le-ltb 1 (get_or h 1 0) w.field),
          (
            refuse_if-accepted _ _ _ (le-ltb 255 (get_or h 2 0) w.did),
            (
              refuse_if-accepted _ _ _ (le-ltb 255 (get_or h 3 0) w.sdid),
              (
                refuse_if-accepted _ _ _ (le-ltb (length words) (get_or h 4 0 + get_or h 5 0) w.inside),
                (unplaced-accepted _ w.whole, (unplaced-accepted _ w.own, tt)),
              ),
            ),
          ),
        ),
      )

  -- that is a legal inner packet, and its words are among those that are lent
  pub head-legal : head_verdict words h ≡ Accepted → LegalInner (inner_of words h)
  unfolding inner_of
  head-legal e =
      let w = accepted-head e in
      record {
        line = omega (arith, w.line);
        field = omega (arith, w.field);
        did = omega (arith, w.did);
        sdid = omega (arith, w.sdid);
        bytes = bytes-bytes user;
        subtitles = accepted-own 0 (get_or h 2 0) (get_or h 3 0) (map byte_of user) (bytes-bytes user) w.own;
      }

  pub head-lent : head_verdict words h ≡ Accepted → Lent words h
  head-lent e = let w = accepted-head e in record { inside = w.inside; whole = w.whole }

  pub legal-head : LegalInner (inner_of words h) → Lent words h → head_verdict words h ≡ Accepted
  unfolding inner_of
  legal-head l t =
      head-accepted
      (record {
        line = omega (arith, l.line);
        field = omega (arith, l.field);
        did = omega (arith, l.did);
        sdid = omega (arith, l.sdid);
        inside = t.inside;
        whole = t.whole;
        own = own-accepted 0 (get_or h 2 0) (get_or h 3 0) (map byte_of user) (bytes-bytes user) l.subtitles;
      })

-- ALL OF THEM

-- the heads from i on: the one at i decides first
pub heads-from : (words : List ℕ) (heads : List (List ℕ)) (i : ℕ) → i < length heads
    → heads_verdict words (drop i heads) ≡ and_then (head_verdict words (get_or heads i [])) (heads_verdict words (drop (i + 1) heads))
heads-from words heads i h =
    ap (heads_verdict words) (drop-cons heads i [] h)
    ∙ ap (λ (k : ℕ). and_then (head_verdict words (get_or heads i [])) (heads_verdict words (drop k heads))) (sym (add-one i))

module _ (words : List ℕ) where
  each-legal : (heads : List (List ℕ)) → Each (λ (h : List ℕ). head_verdict words h ≡ Accepted) heads → Each LegalInner (map (inner_of words) heads)
  each-legal [] e = tt
  each-legal (h ∷ heads) e = (head-legal words h e.0, each-legal heads e.1)

  each_lent : (heads : List (List ℕ)) → Each (λ (h : List ℕ). head_verdict words h ≡ Accepted) heads → Each (Lent words) heads
  each_lent [] e = tt
  each_lent (h ∷ heads) e = (head-lent words h e.0, each_lent heads e.1)

  legal-each : (heads : List (List ℕ)) → Each LegalInner (map (inner_of words) heads) → Each (Lent words) heads → Each (λ (h : List ℕ). head_verdict words h ≡ Accepted) heads
  legal-each [] l t = tt
  legal-each (h ∷ heads) l t = (legal-head words h l.0 t.0, legal-each heads l.1 t.1)

-- THE VALUE

-- the last of five checks, apart from the others
regroup : (a b c d e : Verdict) → and_then a (and_then b (and_then c (and_then d (and_then e Accepted)))) ≡ and_then (and_then a (and_then b (and_then c (and_then d Accepted)))) e
regroup Accepted Accepted Accepted Accepted e = and_then-last e
regroup Accepted Accepted Accepted (Refused reason item) e = refl
regroup Accepted Accepted (Refused reason item) d e = refl
regroup Accepted (Refused reason item) c d e = refl
regroup (Refused reason item) b c d e = refl

ungroup : (c d e : Verdict) → and_then (and_then c (and_then d Accepted)) e ≡ and_then c (and_then d e)
ungroup Accepted Accepted e = refl
ungroup Accepted (Refused reason item) e = refl
ungroup (Refused reason item) d e = refl

module _ (t : Told) (room : ℕ) where
  abbrev pub user-count : ℕ
  user-count = length (user_words (held t))

  abbrev pub laid : ℕ
  laid = length (layout (held t))

  -- the checks of the value itself, and of the room
  abbrev pub own : List Verdict
  own =
      refuse_if (ltb 255 t.priority) (Unholdable PriorityWord) Whole
      ∷ refuse_if (eqb (length t.heads) 0) NoInner Whole
      ∷ heads_verdict t.words t.heads
      ∷ refuse_if (ltb 255 user-count) (Unfit UserWords) Whole
      ∷ []

  abbrev pub room_check : Verdict
  room_check = refuse_if (ltb room laid) NoRoom Whole

  pub value-own : value_verdict t room ≡ and_then (first own) room_check
  unfolding value_verdict head_verdict
  value-own =
      let last = refuse_if (ltb 255 user-count) (Unfit UserWords) Whole ∷ room_check ∷ [] in
      ap (λ (v : Verdict).
      and_then (refuse_if (ltb 255 t.priority) (Unholdable PriorityWord) Whole) (and_then (refuse_if (eqb (length t.heads) 0) NoInner Whole) v))
      (first-append (each_of (head_checks t.words) t.heads) last
      ∙ ap (λ (v : Verdict). and_then v (first last)) (sym (first-each (head_checks t.words) t.heads)))
      ∙ regroup (refuse_if (ltb 255 t.priority) (Unholdable PriorityWord) Whole) (refuse_if (eqb (length t.heads) 0) NoInner Whole) (heads_verdict t.words t.heads) (refuse_if (ltb 255 user-count) (Unfit UserWords) Whole) room_check

  -- what the checks let through
  pub record Holds : Type 0 where
    pub priority : t.priority ≤ 255
    pub some : length t.heads ≡ 0 → ⊥
    pub heads : heads_verdict t.words t.heads ≡ Accepted
    pub few : user-count ≤ 255

  pub accepted-own-checks : first own ≡ Accepted → Holds
  accepted-own-checks e =
      let each = accepted-all own e in
      record {
        priority = accepted-within 255 t.priority _ _ each.0;
        some = eqb-false (length t.heads) 0 (accepted-refuse_if _ _ _ each.1.0);
        heads = each.1.1.0;
        few = accepted-within 255 user-count _ _ each.1.1.1.0;
      }

  pub own-checks-accepted : Holds → first own ≡ Accepted
  own-checks-accepted h =
      all-accepted own (
        refuse_if-accepted _ _ _ (le-ltb 255 t.priority h.priority),
        (refuse_if-accepted _ _ _ (ne_eqb (length t.heads) 0 h.some), (h.heads, (refuse_if-accepted _ _ _ (le-ltb 255 user-count h.few), tt))),
      )

  -- they let through exactly the legal values
  pub holds-legal : Holds → LegalTold t
  holds-legal h =
      let each = accepted-each (head_verdict t.words) t.heads h.heads in
      record {
        lent = each_lent t.words t.heads each;
        value =
            record {
              priority = omega (arith, h.priority);
              some = pos (length t.heads) (length (held t).inners) (length-map t.heads (inner_of t.words)) h.some;
              each = each-legal t.words t.heads each;
              fits = omega (arith, h.few, length-user (held t));
            };
      }
    where
      pos : (n m : ℕ) → m ≡ n → (n ≡ 0 → ⊥) → 0 < m
      pos zero m e h = absurd (h refl)
      pos (suc n) m e h = omega arith

  pub legal-holds : LegalTold t → Holds
  legal-holds h =
      record {
        priority = omega (arith, h.value.priority);
        some = λ e. omega (arith, e, h.value.some, length-map t.heads (inner_of t.words));
        heads = each-accepted (head_verdict t.words) t.heads (legal-each t.words t.heads h.value.each h.lent);
        few = omega (arith, h.value.fits, length-user (held t));
      }

  pub accepted-value : value_verdict t room ≡ Accepted → Holds × (laid ≤ room)
  accepted-value e =
      let both = accepted-and_then (first own) room_check (sym value-own ∙ e) in
      (accepted-own-checks both.0, accepted-within room laid _ _ both.1)

  -- in the order of the code
  pub value-priority : 255 < t.priority → value_verdict t room ≡ Refused (Unholdable PriorityWord) Whole
  value-priority h = value-own ∙ simp (lt-ltb 255 t.priority h)

  module _ (priority : t.priority ≤ 255) where
    pub value_none : length t.heads ≡ 0 → value_verdict t room ≡ Refused NoInner Whole
    value_none h = value-own ∙ simp (le-ltb 255 t.priority priority, eq-eqb (length t.heads) 0 h)

    module _ (some : length t.heads ≡ 0 → ⊥) where
      pub value-heads : value_verdict t room ≡ and_then (heads_verdict t.words t.heads) (and_then (refuse_if (ltb 255 user-count) (Unfit UserWords) Whole) room_check)
      value-heads =
          value-own
          ∙ ap₂ (λ (a b : Verdict). and_then (and_then a (and_then b (and_then (heads_verdict t.words t.heads) (and_then (refuse_if (ltb 255 user-count) (Unfit UserWords) Whole) Accepted)))) room_check)
          (refuse_if-accepted _ _ _ (le-ltb 255 t.priority priority)) (refuse_if-accepted _ _ _ (ne_eqb (length t.heads) 0 some))
          ∙ ungroup (heads_verdict t.words t.heads) (refuse_if (ltb 255 user-count) (Unfit UserWords) Whole) room_check

      module _ (heads : heads_verdict t.words t.heads ≡ Accepted) where
        left : value_verdict t room ≡ and_then (refuse_if (ltb 255 user-count) (Unfit UserWords) Whole) room_check
        left = value-heads ∙ ap (λ (v : Verdict). and_then v (and_then (refuse_if (ltb 255 user-count) (Unfit UserWords) Whole) room_check)) heads

        pub value-many : 255 < user-count → value_verdict t room ≡ Refused (Unfit UserWords) Whole
        value-many h = left ∙ simp (lt-ltb 255 user-count h)

        pub value-no-room : user-count ≤ 255 → room < laid → value_verdict t room ≡ Refused NoRoom Whole
        value-no-room h g = left ∙ simp (le-ltb 255 user-count h, lt-ltb room laid g)

        pub value-fits : user-count ≤ 255 → laid ≤ room → value_verdict t room ≡ Accepted
        value-fits h g = left ∙ simp (le-ltb 255 user-count h, le-ltb room laid g)
