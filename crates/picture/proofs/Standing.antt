-- What a refusal of an area tells of its place: 0 before the caption unit's body is read, and in it the bit at which something stands that is wrong.
-- An area in which such a thing stands is refused.
-- Assumes nothing.
use Prim.Native.Nat.{ℕ, ◌+◌, ◌*◌, ◌≤◌, ◌<◌}
use native.Mathlib.Omega.{arith}
use mathlib.Core.Path.{◌≡◌, ◌∙◌, ap, sym, subst, refl}
use mathlib.Core.Logic.{◌⊎◌, inl, inr, ⊎_elim}
use mathlib.Core.Bool.{true, false, not, ◌&&◌, true≢false}
use mathlib.Core.List.{List, [], ◌∷◌, ◌++◌}
use borrow.Author.Tests.{eqb-true, not-true}
use lib.Dec.{eqb, ltb}
use lib.ListN.{length, get_or, drop}
use lib.Seq.{drop-drop, drop-append-add, drop-append-le}
use Rattle.lists.specs.Bytes.{Bytes}
use Rattle.lists.specs.Part.{part}
use Rattle.refusal.specs.declared.Reason.TheVariants.{TooLong, NoStart, StartCode}
use Rattle.refusal.specs.declared.Item.{Item}
use Rattle.refusal.specs.declared.Item.TheVariants.{Whole}
use Rattle.refusal.specs.declared.Refusal.{Refusal}
use Rattle.refusal.specs.Verdict.{Verdict}
use Rattle.refusal.specs.Verdict.{Accepted, Refused}
use Rattle.refusal.specs.Numbers.{number_of, refusal_of}
use Rattle.refusal.specs.Answers.{AtBit}
use Rattle.refusal.proofs.Checks.{both_hold, refused-not-accepted}
use Rattle.refusal.proofs.Gives.{Gives, refuse_if-gives, and_then-gives}
use Rattle.bits.specs.Bits.{bits, num, bits_of, field}
use Rattle.bits.proofs.Stream.{length-bits_of, bits_of-append, drop-bits_of}
use Rattle.bits.proofs.Fields.{field-whole}
use Rattle.kind.specs.declared.Kind.{Kind}
use Rattle.kind.specs.declared.Kind.TheVariants.{Scte20, Ga94}
use Rattle.kind.specs.Ours.{group_type, typed_or_ends, ours}
use Rattle.kind.proofs.First.{scte20-first, scte20-begins, ours-nothing}
use Rattle.units.specs.declared.Found.{Found}
use Rattle.units.specs.declared.Found.TheVariants as found
use Rattle.units.specs.Layout as units
use Rattle.units.specs.Split.{cut_of, opened, all_opened, empty, front_verdict, split_verdict}
use Rattle.units.proofs.Splits.{layout-append, length-around}
use Rattle.units.proofs.Spans.{Alone, found_at, refused-split}
use Rattle.scte20.specs.Value.{flag_byte}
use Rattle.scte20.specs.Reading.{reserved_in, flag_in}
use Rattle.scte20.proofs.Bytewise.{flag-byte}
use Rattle.scte20.proofs.Faults as scte20-faults
use Rattle.ga94.proofs.Faults as ga94-faults
use Rattle.picture.specs.Kinds.{content_verdict, Stands}
use Rattle.picture.specs.Reading.{placed_item, placed, captions_in, found_verdict, area_verdict, Answer, Reads}
use Rattle.picture.specs.Places.{area_bit, InUnit}
use Rattle.picture.proofs.Contents.{content-placed, content-stands}
use Rattle.picture.proofs.Areas.{unit-bytes, alone-foreign}
use Rattle.picture.proofs.Accepting.{refused-in-order, accepted-exactly}
use Rattle.picture.proofs.Refusing.{refused-content}

-- THE NUMBERS OF A BODY

-- a unit of a kind begins with the identifier and the type of that kind
scte20-typed : (s : List ℕ) → Bytes s → ours Scte20 s ≡ true
    → (field (bits_of s) 0 8 ≡ 3) × (16 ≤ length (bits_of s) → group_type (flag_byte (reserved_in (bits_of s)) (flag_in (bits_of s))) ≡ false)
scte20-typed s bytes mine = (
  field-whole s 0 bytes (some s mine) ∙ (scte20-begins s mine).0,
  λ long.
      let two : 2 ≤ length s = omega (arith, length-bits_of s) in
      let both = both_hold (eqb (get_or s 0 0) 3) (not (group_type (get_or s 1 0))) (sym (scte20-first s two) ∙ mine) in
      ap group_type (flag-byte s bytes two) ∙ not-true (group_type (get_or s 1 0)) both.1,
)
  where
    some : (s : List ℕ) → ours Scte20 s ≡ true → 0 < length s
    some [] mine = absurd (true≢false (sym mine ∙ ours-nothing Scte20))
    some (b ∷ s) mine = omega arith

ga94-typed : (s : List ℕ) → ours Ga94 s ≡ true → (field (bits_of s) 0 32 ≡ 0x47413934) × (40 ≤ length (bits_of s) → field (bits_of s) 32 8 ≡ 3)
unfolding ours
ga94-typed [] mine = absurd (true≢false (sym mine))
ga94-typed (a ∷ []) mine = absurd (true≢false (sym mine))
ga94-typed (a ∷ b ∷ []) mine = absurd (true≢false (sym mine))
ga94-typed (a ∷ b ∷ c ∷ []) mine = absurd (true≢false (sym mine))
ga94-typed (a ∷ b ∷ c ∷ d ∷ s) mine =
    let one = both_hold (eqb a 0x47) (eqb b 0x41 && (eqb c 0x39 && (eqb d 0x34 && typed_or_ends s))) mine in
    let two = both_hold (eqb b 0x41) (eqb c 0x39 && (eqb d 0x34 && typed_or_ends s)) one.1 in
    let three = both_hold (eqb c 0x39) (eqb d 0x34 && typed_or_ends s) two.1 in
    let four = both_hold (eqb d 0x34) (typed_or_ends s) three.1 in (
      λ i. num (bits 8 (eqb-true a 0x47 one.0 i) ++ (bits 8 (eqb-true b 0x41 two.0 i) ++ (bits 8 (eqb-true c 0x39 three.0 i) ++ bits 8 (eqb-true d 0x34 four.0 i)))),
      λ long. type-code s four.1 (omega arith),
    )
  where
    type-code : (s : List ℕ) → typed_or_ends s ≡ true → 40 ≤ 32 + length (bits_of s) → field (bits_of s) 0 8 ≡ 3
    type-code [] t long = let f : ⊥ = omega arith in absurd f
    type-code (e ∷ s) t long = ap (λ (x : ℕ). num (bits 8 x)) (eqb-true e 3 t)

-- so that its body gives no number below 5, and no 6
stands-numbers : (k : Kind) (s : List ℕ) → Bytes s → (number bit : ℕ) → ours k s ≡ true → Stands k s number bit → (5 ≤ number) × (number ≡ 6 → ⊥)
stands-numbers Scte20 s bytes number bit mine stands =
    let given = scte20-faults.stands-numbers (bits_of s) number bit stands in
    let typed = scte20-typed s bytes mine in
    (given.0, λ six. given.1 six typed.0 typed.1)
stands-numbers Ga94 s bytes number bit mine stands =
    let given = ga94-faults.stands-numbers (bits_of s) number bit stands in
    let typed = ga94-typed s mine in
    (given.0, λ six. given.1 six typed.0 typed.1)

-- THE AREA'S BITS

-- from a bit of a body on, the area has the body's bits, and then those of the units behind it
pub area-bits : (before : List (List ℕ)) (body : List ℕ) (after : List (List ℕ)) (bit : ℕ) → bit ≤ 8 * length body
    → drop (area_bit before bit) (bits_of (units.layout (before ++ (body ∷ after)))) ≡ drop bit (bits_of body) ++ bits_of (units.layout after)
area-bits before body after bit h =
    let s = units.layout (before ++ (body ∷ after)) in
    let at = length (units.layout before) + 4 in
    let behind : drop at s ≡ body ++ units.layout after =
    ap (drop at) (layout-append before (body ∷ after)) ∙ drop-append-add (units.layout before) (units.layout (body ∷ after)) 4 in
    let within : bit ≤ length (bits_of body) = omega (arith, length-bits_of body) in
    sym (drop-drop bit (8 * at) (bits_of s))
    ∙ ap (drop bit) (drop-bits_of at s ∙ ap bits_of behind ∙ bits_of-append body (units.layout after))
    ∙ drop-append-le bit (bits_of body) (bits_of (units.layout after)) within

-- THE PLACE

-- the checks before the body give 1 to 4, at 0
Outside : Refusal → Type 0
Outside r = (r.number ≤ 4) × (r.place ≡ 0)

split-gives : (s : List ℕ) → Gives Outside (split_verdict s)
unfolding split_verdict front_verdict Outside
split-gives s =
    and_then-gives Outside (front_verdict s) _
    (and_then-gives Outside _ _ (refuse_if-gives Outside (ltb 16384 (length s)) TooLong Whole (omega arith, refl))
    (and_then-gives Outside _ _ (refuse_if-gives Outside (not (empty s) && not (opened s)) NoStart Whole (omega arith, refl)) (inl refl)))
    (and_then-gives Outside _ _ (refuse_if-gives Outside (not (all_opened (cut_of s).pieces)) StartCode Whole (omega arith, refl)) (inl refl))

module _ (k : Kind) (s : List ℕ) (bytes : Bytes s) where
  -- those of the body give the others
  Inside : Refusal → Type 0
  Inside r = (5 ≤ r.number) × InUnit k s r.number r.place

  Told : Verdict → Type 0
  Told verdict = (verdict ≡ Accepted) ⊎ (Outside (refusal_of verdict) ⊎ Inside (refusal_of verdict))

  body-told : (unit end : ℕ) → captions_in k s ≡ found.At unit end → (verdict : Verdict) → content_verdict k (part (unit + 4) end s) ≡ verdict → Told (placed unit verdict)
  unfolding Told Inside
  body-told unit end e Accepted same = inl refl
  body-told unit end e (Refused reason item) same =
      let w : Alone (ours k) s unit end = found_at (ours k) s unit end e in
      let foreign = alone-foreign k s bytes unit end w in
      let short : length w.body ≤ 16384 = omega (arith, w.short, sym (ap length w.whole) ∙ length-around w.before w.body w.after) in
      let at : AtBit (8 * length w.body) (Stands k w.body) reason item =
      content-placed k w.body foreign.1 short reason item (ap (content_verdict k) (sym w.lies) ∙ same) in
      let numbers = stands-numbers k w.body foreign.1 (number_of reason) at.bit w.mine at.stands in
      let here : (refusal_of (Refused reason (placed_item unit item))).place ≡ area_bit w.before at.bit =
      ap (λ (i : Item). (refusal_of (Refused reason (placed_item unit i))).place) at.here ∙ ap (λ (n : ℕ). 8 * (n + 4) + at.bit) w.starts in
      inr
      (inr (
        numbers.0,
        record {
          before = w.before;
          body = w.body;
          after = w.after;
          whole = w.whole;
          foreign_before = foreign.0;
          foreign_after = foreign.2;
          clean = w.clean;
          mine = w.mine;
          bit = at.bit;
          here = here;
          stands = at.stands;
          not_6 = numbers.1;
        },
      ))

  found-told : (f : Found) → captions_in k s ≡ f → Told (found_verdict k f s)
  unfolding Told Outside
  found-told (found.NotUnits reason item) e =
      let refused = (refused-split (ours k) s reason item).0 e in
      ⊎_elim (λ ok. refused-not-accepted reason item (sym refused ∙ ok)) (λ p. inr (inl (subst (λ (v : Verdict). Outside (refusal_of v)) refused p))) (split-gives s)
  found-told found.Nowhere e = inl refl
  found-told (found.At unit end) e = body-told unit end e (content_verdict k (part (unit + 4) end s)) refl
  found-told (found.Many n) e = inr (inl (omega arith, refl))

  area-told : Told (area_verdict k s)
  area-told = found-told (captions_in k s) refl

-- a refusal of 1 to 4 has place 0; any other is at a bit of the caption unit's body, where something is wrong
module _ (k : Kind) (s : List ℕ) (r : Answer k) (p : Reads k s r) where
  told : Told k s p.bytes (area_verdict k s)
  told = area-told k s p.bytes

  pub place-outside : r.refusal.number ≤ 4 → r.refusal.place ≡ 0
  unfolding Told Outside Inside
  place-outside few =
      let same = refused-in-order k s r p in
      ap (λ (a : Refusal). a.place) same
      ∙ ⊎_elim
      (λ ok. ap (λ (v : Verdict). (refusal_of v).place) ok)
      (λ h. ⊎_elim (λ out. out.1) (λ inside. let f : ⊥ = omega (arith, inside.0, ap (λ (a : Refusal). a.number) same) in absurd f) h)
      told

  pub place_inside : 5 ≤ r.refusal.number → InUnit k s r.refusal.number r.refusal.place
  unfolding Told Outside Inside
  place_inside many =
      let same = refused-in-order k s r p in
      subst (λ (a : Refusal). InUnit k s a.number a.place) (sym same)
      (⊎_elim
      (λ ok. let f : ⊥ = omega (arith, ap (λ (a : Refusal). a.number) same, ap (λ (v : Verdict). (refusal_of v).number) ok) in absurd f)
      (λ h. ⊎_elim (λ out. let f : ⊥ = omega (arith, out.0, ap (λ (a : Refusal). a.number) same) in absurd f) (λ inside. inside.1) h)
      told)

  -- and where such a thing stands the area is refused
  module _ (number place : ℕ) (u : InUnit k s number place) (accepts : r.refusal.number ≡ 0) where
    short : length (units.layout (u.before ++ (u.body ∷ u.after))) ≤ 16384
    short = let v = (accepted-exactly k s r p).0 accepts in subst (λ (t : List ℕ). length t ≤ 16384) (v.2 ∙ sym u.whole) v.1.short

    bytes : Bytes u.body
    bytes = unit-bytes u.before u.body u.after (subst Bytes (sym u.whole) p.bytes)

    body_refused : (verdict : Verdict) → content_verdict k u.body ≡ verdict → ⊥
    body_refused Accepted same = content-stands k u.body bytes number u.bit u.stands same
    body_refused (Refused reason item) same =
        let reads : Reads k (units.layout (u.before ++ (u.body ∷ u.after))) r = subst (λ (t : List ℕ). Reads k t r) (sym u.whole) p in
        let at = refused-content k u.before u.body u.after r reads u.foreign_before u.clean u.mine u.foreign_after short reason item same in
        omega (arith, ap (λ (a : Refusal). a.number) at.1, (stands-numbers k u.body bytes (number_of reason) at.0 u.mine at.3).0)

  pub stands-refused : (number place : ℕ) → InUnit k s number place → r.refusal.number ≡ 0 → ⊥
  stands-refused number place u accepts = body_refused number place u accepts (content_verdict k u.body) refl
