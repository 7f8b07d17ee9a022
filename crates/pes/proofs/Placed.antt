-- The place of a refusal: what stands there, and that it is a fault.
-- Assumes nothing.
use Prim.Native.Nat.{ℕ, zero, suc, ◌+◌, ◌-◌, ◌/◌, ◌%◌, ◌≤◌, ◌<◌}
use native.Mathlib.Omega.{arith}
use mathlib.Core.Path.{◌≡◌, ◌∙◌, ap, sym, subst, refl}
use mathlib.Core.Logic.{◌⊎◌, inl, inr, ⊎_elim}
use mathlib.Core.Bool.{Bool, true, false, not, ◌&&◌, ◌||◌, true≢false}
use mathlib.Core.List.{List}
use borrow.Author.Tests.{eqb-true, eqb-false, ltb-true, ltb-false, lt-ltb, not-true, not-false}
use lib.Dec.{eqb, ltb}
use lib.ListN.{length, get_or, drop, length-drop}
use lib.Seq.{get_or-drop}
use Rattle.lists.specs.Each.{Each}
use Rattle.refusal.specs.declared.Reason.{Reason}
use Rattle.refusal.specs.declared.Reason.TheVariants.{Ends, Unfixed, UnknownUnit, SurplusUnit, UnitLine, Unfit}
use Rattle.refusal.specs.declared.Fixed.TheVariants.{Identifier, UnitReserved, UnitFraming}
use Rattle.refusal.specs.declared.Misfit.TheVariants.{UnitLength}
use Rattle.refusal.specs.declared.Item.{Item}
use Rattle.refusal.specs.declared.Item.TheVariants.{Byte}
use Rattle.refusal.specs.declared.Refusal.{Refusal}
use Rattle.refusal.specs.Verdict.{Verdict}
use Rattle.refusal.specs.Verdict.{Accepted}
use Rattle.refusal.specs.Checks.{first, outside}
use Rattle.refusal.specs.Numbers.{number_of, place_of}
use Rattle.refusal.proofs.Checks.{refused-not-accepted, accepted-refuse_if, accepted-equal, accepted-within, accepted-and_then, accepted-all}
use Rattle.refusal.proofs.Only.{Only, accepted-only, refused-only, refuse_if-only, and_then-only, told-only}
use Rattle.pes.specs.declared.Head.{Head}
use Rattle.pes.specs.Value.{DataField, LegalLine, Legal}
use Rattle.pes.specs.Layout.{layout}
use Rattle.pes.specs.Order.{teletext_id, known_id, body_checks}
use Rattle.pes.specs.Reading.{unit_verdict, field_verdict}
use Rattle.pes.specs.Lent.{ReadsInto}
use Rattle.pes.specs.Places.{unit_at, Begins, Teletexts, FixedAt, NoLine, Stands, empty_5, identifier_6, surplus_24, id_23, length_5, length_13, stuffing_5, line_5, reserved_6, line_7, framing_5, framing_6, row_5}
use Rattle.pes.proofs.Unit.{teletext-id, not-stuffing, Whole, RightBody, Body, accepted-whole}
use Rattle.pes.proofs.Field.{parts, field-parts, field-accepted, length-field}
use Rattle.pes.proofs.Judged.{behind, behind-end, behind-surplus, behind-next}
use Rattle.pes.proofs.Accepting.{told, verdict-accepted}

one_of : (a b : Bool) → (a || b) ≡ true → (a ≡ true) ⊎ (b ≡ true)
one_of true b e = inl refl
one_of false b e = inr e

-- lines that are none of the legal ones
no_line : (l : ℕ) → l < 32 → outside 7 l ≡ true → NoLine l
no_line zero low e = absurd (true≢false (sym e))
no_line (suc m) low e =
    let some : 0 < suc m = omega arith in
    let both : (ltb (suc m) 7 || ltb 22 (suc m)) ≡ true = sym (ap (λ (b : Bool). b && (ltb (suc m) 7 || ltb 22 (suc m))) (lt-ltb 0 (suc m) some)) ∙ e in
    ⊎_elim (λ t. let low : suc m < 7 = ltb-true (suc m) 7 t in inl (omega arith, omega arith)) (λ t. let high : 22 < suc m = ltb-true 22 (suc m) t in inr (omega arith, omega arith))
    (one_of (ltb (suc m) 7) (ltb 22 (suc m)) both)

-- and no legal line is one of them
no-legal : (l : ℕ) → NoLine l → LegalLine l → ⊥
no-legal l none legal =
    ⊎_elim (λ e. ⊎_elim (λ low. omega (arith, e, low.0)) (λ high. omega (arith, e, high.0)) none)
    (λ w. ⊎_elim (λ low. omega (arith, w.0, low.1)) (λ high. omega (arith, w.1, high.0)) none) legal

neither : (a b c : Bool) → ((a || b) || c) ≡ false → (a ≡ false) × (b ≡ false) × (c ≡ false)
neither true b c e = absurd (true≢false e)
neither false true c e = absurd (true≢false e)
neither false false c e = (refl, refl, e)

module _ (s : List ℕ) where
  abbrev Placed : Reason → Item → Type 0
  Placed reason item = Stands s (number_of reason) (place_of item)

  -- unit j, which begins at byte `at`
  module _ (j : ℕ) (begins : Begins s j) where
    abbrev at : ℕ
    at = unit_at j

    abbrev u : List ℕ
    u = drop at s

    here : (i : ℕ) → get_or u i 0 ≡ get_or s (at + i) 0
    here i = get_or-drop at s i 0

    first_byte : get_or u 0 0 ≡ get_or s at 0
    first_byte = here 0 ∙ (let same : at + 0 ≡ at = omega arith in ap (λ (k : ℕ). get_or s k 0) same)

    left : length u ≡ length s - at
    left = length-drop at s

    -- i bytes are missing, or there
    short : (i : ℕ) → length u < i → length s < at + i
    short i h = omega (arith, left, begins.there)

    long : (i : ℕ) → i ≤ length u → at + i ≤ length s
    long i h = omega (arith, left, begins.there)

    teletext-body : Teletexts s j → Only Placed (first (body_checks false at u))
    teletext-body kind =
        and_then-only Placed _ _ (refuse_if-only Placed (ltb (length u) 3) Ends (Byte (at + 2)) (λ e.
        line_5 j refl refl begins kind (omega (arith, short 3 (ltb-true (length u) 3 e))))) (λ three.
        let there : at + 2 < length s = omega (arith, long 3 (accepted-within (length u) 3 _ _ three)) in
        and_then-only Placed _ _ (refuse_if-only Placed (not (eqb (get_or u 2 0 / 64) 3)) (Unfixed UnitReserved) (Byte (at + 2)) (λ e.
        reserved_6 j refl refl begins kind there (λ same. eqb-false (get_or u 2 0 / 64) 3 (not-true _ e) (ap (λ (b : ℕ). b / 64) (here 2) ∙ same)))) (λ ones.
        and_then-only Placed _ _ (refuse_if-only Placed (outside 7 (get_or u 2 0 % 32)) UnitLine (Byte (at + 2)) (λ e.
        line_7 j refl refl begins kind there (subst (λ (b : ℕ). NoLine (b % 32)) (here 2) (no_line (get_or u 2 0 % 32) (omega arith) e)))) (λ line.
        and_then-only Placed _ _ (refuse_if-only Placed (ltb (length u) 4) Ends (Byte (at + 3)) (λ e.
        framing_5 j refl refl begins kind (omega (arith, short 4 (ltb-true (length u) 4 e))))) (λ four.
        let code : at + 3 < length s = omega (arith, long 4 (accepted-within (length u) 4 _ _ four)) in
        and_then-only Placed _ _ (refuse_if-only Placed (not (eqb (get_or u 3 0) 0xE4)) (Unfixed UnitFraming) (Byte (at + 3)) (λ e.
        framing_6 j refl refl begins kind code (λ same. eqb-false (get_or u 3 0) 0xE4 (not-true _ e) (here 3 ∙ same)))) (λ right.
        and_then-only Placed _ _ (refuse_if-only Placed (ltb (length u) 46) Ends (Byte (at + 4)) (λ e.
        row_5 j refl refl begins kind (omega (arith, short 46 (ltb-true (length u) 46 e))))) (λ row. accepted-only Placed))))))

    body : (stuffed : Bool) → eqb (get_or u 0 0) 0xFF ≡ stuffed → known_id (get_or u 0 0) ≡ true → Only Placed (first (body_checks stuffed at u))
    body true e known =
        and_then-only Placed _ _ (refuse_if-only Placed (ltb (length u) 46) Ends (Byte (at + 2)) (λ f.
        stuffing_5 j refl refl begins (sym first_byte ∙ eqb-true (get_or u 0 0) 0xFF e) (omega (arith, short 46 (ltb-true (length u) 46 f))))) (λ whole. accepted-only Placed)
    body false e known =
        let id : teletext_id (get_or u 0 0) ≡ true = only-first (teletext_id (get_or u 0 0)) (eqb (get_or u 0 0) 0xFF) known e in
        teletext-body (⊎_elim (λ two. inl (sym first_byte ∙ two)) (λ three. inr (sym first_byte ∙ three)) (teletext-id (get_or u 0 0) id))
      where
        only-first : (a b : Bool) → (a || b) ≡ true → b ≡ false → a ≡ true
        only-first true b e f = refl
        only-first false b e f = absurd (true≢false (sym e ∙ f))

    unit-only : Only Placed (unit_verdict at u)
    unfolding unit_verdict
    unit-only =
        and_then-only Placed _ _ (refuse_if-only Placed (not (known_id (get_or u 0 0))) UnknownUnit (Byte at) (λ e.
        let none = neither (eqb (get_or u 0 0) 0x02) (eqb (get_or u 0 0) 0x03) (eqb (get_or u 0 0) 0xFF) (not-true _ e) in
        id_23 j refl refl begins
        (λ same. eqb-false (get_or u 0 0) 0x02 none.0 (first_byte ∙ same))
        (λ same. eqb-false (get_or u 0 0) 0x03 none.1 (first_byte ∙ same))
        (λ same. eqb-false (get_or u 0 0) 0xFF none.2 (first_byte ∙ same)))) (λ known.
        and_then-only Placed _ _ (refuse_if-only Placed (ltb (length u) 2) Ends (Byte (at + 1)) (λ e.
        length_5 j refl refl begins (omega (arith, short 2 (ltb-true (length u) 2 e))))) (λ two.
        let there : at + 1 < length s = omega (arith, long 2 (accepted-within (length u) 2 _ _ two)) in
        and_then-only Placed _ _ (refuse_if-only Placed (not (eqb (get_or u 1 0) 0x2C)) (Unfit UnitLength) (Byte (at + 1)) (λ e.
        length_13 j refl refl begins there (λ same. eqb-false (get_or u 1 0) 0x2C (not-true _ e) (here 1 ∙ same)))) (λ size.
        body (eqb (get_or u 0 0) 0xFF) refl (not-false _ (accepted-refuse_if _ _ _ known)))))

  -- behind j units: nothing is left, a 32nd would begin, or one more unit is judged
  pick : (t : Bool) (j : ℕ) → ltb (unit_at j) (length s) ≡ t → {P : Type 0} → (unit_at j < length s → P) → (length s ≤ unit_at j → P) → P
  pick true j e more end = more (ltb-true (unit_at j) (length s) e)
  pick false j e more end = end (ltb-false (unit_at j) (length s) e)

  units-only : (k j : ℕ) → j + k ≡ 31 → Only Placed (behind s j)
  units-only zero j sum =
      let last : j ≡ 31 = omega arith in
      pick (ltb (unit_at j) (length s)) j refl
      (λ there.
      subst (Only Placed) (sym (behind-surplus s j (omega arith) there))
      (refused-only Placed SurplusUnit (Byte (unit_at j)) (surplus_24 refl (ap unit_at last) there)))
      (λ end. subst (Only Placed) (sym (behind-end s j end)) (accepted-only Placed))
  units-only (suc k) j sum =
      let few : j < 31 = omega arith in
      pick (ltb (unit_at j) (length s)) j refl
      (λ there.
      subst (Only Placed) (sym (behind-next s j few there))
      (and_then-only Placed _ _ (unit-only j (record { few = few; there = there })) (λ whole. units-only k (j + 1) (omega arith))))
      (λ end. subst (Only Placed) (sym (behind-end s j end)) (accepted-only Placed))

  field-only : Only Placed (field_verdict s)
  unfolding behind
  field-only =
      subst (Only Placed) (sym (field-parts s))
      (and_then-only Placed _ _ (refuse_if-only Placed (eqb (length s) 0) Ends (Byte 0) (λ e. empty_5 refl refl (eqb-true (length s) 0 e))) (λ some.
      let there : 0 < length s = not-zero (length s) (eqb-false (length s) 0 (accepted-refuse_if _ _ _ some)) in
      and_then-only Placed _ _ (refuse_if-only Placed (not (eqb (get_or s 0 0 / 16) 1)) (Unfixed Identifier) (Byte 0) (λ e.
      identifier_6 refl refl there (eqb-false (get_or s 0 0 / 16) 1 (not-true _ e)))) (λ right.
      and_then-only Placed _ _ (units-only 31 0 refl) (λ whole. accepted-only Placed))))
    where
      not-zero : (n : ℕ) → (n ≡ 0 → ⊥) → 0 < n
      not-zero n h = omega arith

  -- EACH CASE IS A FAULT

  -- behind j units that are accepted each unit that begins is whole, and one of the 31
  abbrev WholeAt : ℕ → Type 0
  WholeAt i = (i < 31) × Whole (drop (unit_at i) s)

  at-or-behind : (t : Bool) (j i : ℕ) → ltb j i ≡ t → j ≤ i → WholeAt j → (j + 1 ≤ i → WholeAt i) → WholeAt i
  at-or-behind true j i e h now more = more (omega (arith, ltb-true j i e))
  at-or-behind false j i e h now more = let same : j ≡ i = omega (arith, ltb-false j i e) in subst WholeAt same now

  whole-at : (k j : ℕ) → j + k ≡ 31 → behind s j ≡ Accepted → (i : ℕ) → j ≤ i → unit_at i < length s → WholeAt i
  whole-at zero j sum e i h there = refused-not-accepted _ _ (sym (behind-surplus s j (omega arith) (omega arith)) ∙ e)
  whole-at (suc k) j sum e i h there =
      let few : j < 31 = omega arith in
      let both = accepted-and_then _ _ (sym (behind-next s j few (omega arith)) ∙ e) in
      at-or-behind (ltb j i) j i refl h (few, accepted-whole (unit_at j) (drop (unit_at j) s) both.0) (λ next. whole-at k (j + 1) (omega arith) both.1 i next there)

  module _ (e : field_verdict s ≡ Accepted) where
    each : Each (λ (v : Verdict). v ≡ Accepted) (parts s)
    each = accepted-all (parts s) (sym (field-parts s) ∙ e)

    whole : (i : ℕ) → unit_at i < length s → WholeAt i
    unfolding behind
    whole i there = whole-at 31 0 refl each.1.1.0 i (omega arith) there

    -- it has all its bytes
    complete : (j : ℕ) → Begins s j → unit_at j + 46 ≤ length s
    complete j begins = omega (arith, (whole j begins.there).1.long, length-drop (unit_at j) s, begins.there)

    -- and teletext what it must have
    right : (j : ℕ) → (begins : Begins s j) → Teletexts s j → RightBody (drop (unit_at j) s)
    right j begins kind =
        subst (λ (t : Bool). Body t (drop (unit_at j) s))
        (not-stuffing (get_or (drop (unit_at j) s) 0 0) (⊎_elim (λ two. inl (first_byte j begins ∙ two)) (λ three. inr (first_byte j begins ∙ three)) kind))
        (whole j begins.there).1.body

    fault : (number byte : ℕ) → Stands s number byte → ⊥
    fault number byte (empty_5 _ _ none) = eqb-false (length s) 0 (accepted-refuse_if _ _ _ each.0) none
    fault number byte (identifier_6 _ _ _ other) = other (accepted-equal (get_or s 0 0 / 16) 1 _ _ each.1.0)
    fault number byte (surplus_24 _ place there) = omega (arith, (whole 31 (subst (λ (b : ℕ). b < length s) place there)).0)
    fault number byte (id_23 j _ place begins two three stuffed) =
        let id : get_or (drop (unit_at j) s) 0 0 ≡ get_or s byte 0 = first_byte j begins ∙ ap (λ (b : ℕ). get_or s b 0) (sym place) in
        ⊎_elim (λ t. ⊎_elim (λ x. two (sym id ∙ x)) (λ x. three (sym id ∙ x)) (teletext-id _ t)) (λ t. stuffed (sym id ∙ eqb-true _ 0xFF t))
        (one_of (teletext_id (get_or (drop (unit_at j) s) 0 0)) (eqb (get_or (drop (unit_at j) s) 0 0) 0xFF) (whole j begins.there).1.known)
    fault number byte (length_5 j _ place begins end) = omega (arith, complete j begins, place, end)
    fault number byte (length_13 j _ place begins there other) =
        other (ap (λ (b : ℕ). get_or s b 0) place ∙ sym (here j begins 1) ∙ (whole j begins.there).1.size)
    fault number byte (stuffing_5 j _ place begins kind end) = omega (arith, complete j begins, place, end)
    fault number byte (line_5 j _ place begins kind end) = omega (arith, complete j begins, place, end)
    fault number byte (reserved_6 j _ place begins kind there other) =
        other (ap (λ (b : ℕ). b / 64) (ap (λ (b : ℕ). get_or s b 0) place ∙ sym (here j begins 2)) ∙ (right j begins kind).reserved)
    fault number byte (line_7 j _ place begins kind there none) =
        let same : get_or s byte 0 ≡ get_or (drop (unit_at j) s) 2 0 = ap (λ (b : ℕ). get_or s b 0) place ∙ sym (here j begins 2) in
        no-legal (get_or (drop (unit_at j) s) 2 0 % 32) (subst (λ (b : ℕ). NoLine (b % 32)) same none) (right j begins kind).line
    fault number byte (framing_5 j _ place begins kind end) = omega (arith, complete j begins, place, end)
    fault number byte (framing_6 j _ place begins kind there other) =
        other (ap (λ (b : ℕ). get_or s b 0) place ∙ sym (here j begins 3) ∙ (right j begins kind).framing)
    fault number byte (row_5 j _ place begins kind end) = omega (arith, complete j begins, place, end)

pub layout-fixed : (v : DataField) → Legal v → (j : ℕ) → j < length v.units → FixedAt (layout v) j
layout-fixed v h j below =
    let s = layout v in
    let e = field-accepted v h in
    let begins : Begins s j = record { few = omega (arith, h.few); there = omega (arith, length-field v h) } in
    record {
      size = sym (here s j begins 1) ∙ (whole s e j begins.there).1.size;
      reserved = λ kind. ap (λ (b : ℕ). b / 64) (sym (here s j begins 2)) ∙ (right s e j begins kind).reserved;
      framing = λ kind. sym (here s j begins 3) ∙ (right s e j begins kind).framing;
    }

pub stands-refused : (s lent : List ℕ) (r : Head) (exit : List ℕ) → ReadsInto s lent r exit
    → (number byte : ℕ) → Stands s number byte → r.refusal.number ≡ 0 → ⊥
stands-refused s lent r exit reads number byte stands e = fault s (verdict-accepted s lent r exit reads e) number byte stands

pub place-means : (s lent : List ℕ) (r : Head) (exit : List ℕ) → ReadsInto s lent r exit
    → (r.refusal.number ≡ 0 → ⊥) → Stands s r.refusal.number r.refusal.place
place-means s lent r exit reads h =
    let same = told s lent r exit reads in
    subst (λ (x : Refusal). Stands s x.number x.place) (sym same)
    (told-only (Stands s) (field_verdict s) (field-only s) (λ e. h (ap (λ (x : Refusal). x.number) same ∙ e)))
