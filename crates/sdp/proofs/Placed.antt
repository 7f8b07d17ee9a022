-- Where the rules over user bytes refuse: at the word of what is wrong.
-- Assumes nothing.
use Prim.Native.Nat.{ℕ, zero, suc, ◌+◌, ◌-◌, ◌%◌, ◌≤◌, ◌<◌}
use native.Mathlib.Omega.{arith}
use mathlib.Core.Path.{◌≡◌, ◌∙◌, ap, sym, subst, refl}
use mathlib.Core.Logic.{⊎_elim}
use mathlib.Core.Bool.{Bool, true, not, ◌&&◌, ◌||◌, true≢false}
use mathlib.Core.List.{List, [], ◌∷◌}
use borrow.Author.Tests.{ltb-true, eqb-false, not-true}
use lib.Dec.{eqb, ltb}
use lib.ListN.{length, get_or, drop, length-take}
use lib.Seq.{get_or-take, get_or-drop, drop-drop}
use Rattle.lists.proofs.Below.{below_next}
use Rattle.lists.specs.Sum.{sum}
use Rattle.lists.proofs.Part.{length_part}
use Rattle.refusal.specs.declared.Reason.{Reason}
use Rattle.refusal.specs.declared.Reason.TheVariants.{Ends, Unfixed, DescriptorLine, SdpChecksum, Unfit}
use Rattle.refusal.specs.declared.Fixed.{Fixed}
use Rattle.refusal.specs.declared.Fixed.TheVariants.{Identifier, FormatCode, RunIn, FramingCode, Footer}
use Rattle.refusal.specs.declared.Misfit.TheVariants.{SdpLength, Structures}
use Rattle.refusal.specs.declared.Item.{Item}
use Rattle.refusal.specs.declared.Item.TheVariants.{Whole, Word}
use Rattle.refusal.specs.Verdict.{Accepted, Refused}
use Rattle.refusal.specs.Numbers.{fixed_number, number_of}
use Rattle.refusal.specs.Checks.{refuse_if}
use Rattle.refusal.proofs.Checks.{accepted-refuse_if, accepted-within, accepted-equal, accepted-and_then}
use Rattle.refusal.proofs.Only.{Only, accepted-only, refuse_if-only, and_then-only}
use Rattle.sdp.specs.Value.{LegalLine}
use Rattle.sdp.specs.Layout.{user_length}
use Rattle.sdp.specs.User.{line_verdict, descriptors_verdict, structure_verdict, structures_verdict, descriptors_in, structures_in, head_verdict, tail_verdict, user_verdict}
use Rattle.sdp.specs.SlotFaults.{NoLine}
use Rattle.sdp.specs.Places.{user_word, Constant, identifier_51, identifier_15, format_code, footer_id, constant_at, constant_byte, line_in, structure_at, structure_opening, OpensRight, UserByte}
use Rattle.sdp.specs.Places.{UserStands, few_5, constant_6, length_13, line_7, structures_13, run_in_20, sdp_checksum_12}
use Rattle.sdp.proofs.Slots.{accepted-line, line-accepted}
use Rattle.sdp.proofs.Accepted.{Head, accepted-head}
use Rattle.sdp.proofs.Fifteen.{line-or-none}

-- the check of a line finds a fault only in 1 to 5 and 23 to 31
refused-line : (l : ℕ) → l ≤ 31 → (ltb 0 l && (ltb l 6 || ltb 22 l)) ≡ true → NoLine l
unfolding line_verdict
refused-line l few e =
    ⊎_elim (λ legal. absurd (true≢false (sym e ∙ accepted-refuse_if _ DescriptorLine Whole (line-accepted Whole l legal)))) (λ none. none) (line-or-none l few)

-- the bytes w from structure j on
module _ (u : List ℕ) (j : ℕ) (w : List ℕ) (same : w ≡ drop (structure_at j) u) where
  structure-byte : (i : ℕ) → get_or w i 0 ≡ get_or u (structure_at j + i) 0
  structure-byte i = ap (λ (t : List ℕ). get_or t i 0) same ∙ get_or-drop (structure_at j) u i 0

  pub structure-next : drop 45 w ≡ drop (structure_at (suc j)) u
  structure-next =
      let next : structure_at j + 45 ≡ structure_at (suc j) = omega arith in
      ap (λ (t : List ℕ). drop 45 t) same ∙ drop-drop 45 (structure_at j) u ∙ ap (λ (k : ℕ). drop k u) next

  opens-none : OpensRight u j 0
  opens-none i low = let f : ⊥ = omega arith in absurd f

  -- one byte more is right
  opens-more : (n : ℕ) (reason : Reason) (item : Item) → OpensRight u j n
      → refuse_if (not (eqb (get_or w n 0) (get_or structure_opening n 0))) reason item ≡ Accepted → OpensRight u j (suc n)
  opens-more n reason item right ok =
      below_next (λ (i : ℕ). get_or u (structure_at j + i) 0 ≡ get_or structure_opening i 0) n right (sym (structure-byte n) ∙ accepted-equal _ _ reason item ok)

  pub accepted-opens : (at : ℕ) → structure_verdict at w ≡ Accepted → OpensRight u j 3
  unfolding structure_verdict
  accepted-opens at e =
      let one = accepted-and_then _ _ e in
      let two = accepted-and_then _ _ one.1 in
      let three = accepted-and_then _ _ two.1 in
      opens-more 2 _ _ (opens-more 1 _ _ (opens-more 0 _ _ opens-none one.0) two.0) three.0

module _ (dc : ℕ) (u : List ℕ) where
  -- a refusal at a word, and what stands there
  abbrev pub Placed : Reason → Item → Type 0
  Placed reason item = (word : ℕ) × (item ≡ Word word) × UserStands dc u (number_of reason) word

  word-only : (fault : Bool) (reason : Reason) (word : ℕ) → (fault ≡ true → UserStands dc u (number_of reason) word) → Only Placed (refuse_if fault reason (Word word))
  word-only fault reason word stands = refuse_if-only Placed fault reason (Word word) (λ e. (word, refl, stands e))

  constant-only : (c : Constant) (which : Fixed) (word : ℕ) → fixed_number which ≡ 6 → UserByte dc u (constant_at (length u) c) word
      → Only Placed (refuse_if (not (eqb (get_or u (constant_at (length u) c) 0) (constant_byte c))) (Unfixed which) (Word word))
  constant-only c which word six here = word-only _ (Unfixed which) word (λ e. constant_6 c six here (eqb-false _ _ (not-true _ e)))

  -- the descriptors from j on, which stand in word `at` and behind it
  descriptors-only : (j at : ℕ) (ds : List ℕ) → at ≡ user_word dc (4 + j) → j + length ds ≤ 5 → 9 ≤ length u
      → ((i : ℕ) → i < length ds → get_or ds i 0 ≡ get_or u (4 + j + i) 0) → ((i : ℕ) → i < j → LegalLine (line_in u i))
      → Only Placed (descriptors_verdict at ds)
  unfolding line_verdict
  descriptors-only j at [] here few long same before = accepted-only Placed
  descriptors-only j at (d ∷ ds) here few long same before =
      let byte : d ≡ get_or u (4 + j) 0 = same 0 (omega arith) ∙ ap (λ (k : ℕ). get_or u k 0) (let none : 4 + j + 0 ≡ 4 + j = omega arith in none) in
      let line : d % 32 ≡ line_in u j = ap (λ (b : ℕ). b % 32) byte in
      let more : j < 5 = omega arith in
      let most : d % 32 ≤ 31 = omega arith in
      and_then-only Placed _ _
      (word-only (ltb 0 (d % 32) && (ltb (d % 32) 6 || ltb 22 (d % 32))) DescriptorLine at (λ e.
      line_7 j refl more (record { here = here; there = omega arith }) (subst NoLine line (refused-line (d % 32) most e)) before))
      (λ ok.
      descriptors-only (suc j) (suc at) ds (omega arith) (omega arith) long
      (λ i low. same (suc i) (omega arith) ∙ ap (λ (k : ℕ). get_or u k 0) (let next : 4 + j + suc i ≡ 4 + suc j + i = omega arith in next))
      (below_next (λ (i : ℕ). LegalLine (line_in u i)) j before (subst LegalLine line (accepted-line (Word at) (d % 32) ok))))

  -- structure j, which begins the bytes w in word `at`
  module _ (j at : ℕ) (w : List ℕ) (here : at ≡ user_word dc (structure_at j)) (same : w ≡ drop (structure_at j) u) (some : j < structures_in u)
      (room : structure_at j + 3 ≤ length u) (before : (h : ℕ) → h < j → OpensRight u h 3) where
    opening-only : (i word : ℕ) (which : Fixed) → fixed_number which ≡ 20 → i < 3 → word ≡ at + i → OpensRight u j i
        → Only Placed (refuse_if (not (eqb (get_or w i 0) (get_or structure_opening i 0))) (Unfixed which) (Word word))
    opening-only i word which twenty three place right =
        word-only _ (Unfixed which) word (λ e.
        run_in_20 j i twenty some three (record { here = omega arith; there = omega arith }) (λ b. eqb-false _ _ (not-true _ e) (structure-byte u j w same i ∙ b)) right before)

    structure-only : Only Placed (structure_verdict at w)
    unfolding structure_verdict
    structure-only =
        let none = opens-none u j w same in
        and_then-only Placed _ _ (opening-only 0 at RunIn refl (omega arith) (omega arith) none) (λ a.
        let one = opens-more u j w same 0 (Unfixed RunIn) (Word at) none a in
        and_then-only Placed _ _ (opening-only 1 (at + 1) RunIn refl (omega arith) refl one) (λ b.
        let two = opens-more u j w same 1 (Unfixed RunIn) (Word (at + 1)) one b in
        and_then-only Placed _ _ (opening-only 2 (at + 2) FramingCode refl (omega arith) refl two) (λ c.
        accepted-only Placed)))

  -- the structures from j on, of which the first begins the bytes w in word `at`
  structures-only : (j k at : ℕ) (w : List ℕ) → at ≡ user_word dc (structure_at j) → w ≡ drop (structure_at j) u → j + k ≡ structures_in u
      → structure_at (structures_in u) ≤ length u → ((h : ℕ) → h < j → OpensRight u h 3) → Only Placed (structures_verdict at k w)
  structures-only j zero at w here same all long before = accepted-only Placed
  structures-only j (suc k) at w here same all long before =
      let some : j < structures_in u = omega arith in
      let room : structure_at j + 3 ≤ length u = omega arith in
      and_then-only Placed _ _ (structure-only j at w here same some room before) (λ ok.
      structures-only (suc j) k (at + 45) (drop 45 w) (omega arith) (structure-next u j w same) (omega arith) long
      (below_next (λ (h : ℕ). OpensRight u h 3) j before (accepted-opens u j w same at ok)))

  head-only : Only Placed (head_verdict dc u)
  unfolding head_verdict
  head-only =
      and_then-only Placed _ _ (word-only (ltb (length u) 13) Ends (user_word dc (length u)) (λ e. few_5 refl refl (ltb-true (length u) 13 e))) (λ e.
      let long : 13 ≤ length u = accepted-within (length u) 13 Ends (Word (user_word dc (length u))) e in
      and_then-only Placed _ _ (constant-only identifier_51 Identifier (dc + 1) refl (record { here = omega arith; there = omega arith })) (λ first.
      and_then-only Placed _ _ (constant-only identifier_15 Identifier (dc + 2) refl (record { here = omega arith; there = omega arith })) (λ second.
      and_then-only Placed _ _ (word-only (not (eqb (get_or u 2 0) (length u))) (Unfit SdpLength) (dc + 3) (λ f. length_13 refl (record { here = omega arith; there = omega arith }) (eqb-false _ _ (not-true _ f)))) (λ counted.
      and_then-only Placed _ _ (constant-only format_code FormatCode (dc + 4) refl (record { here = omega arith; there = omega arith })) (λ format.
      and_then-only Placed _ _ (descriptors-only 0 (dc + 5) (descriptors_in u) (omega arith) (omega (arith, length_part u 4 9 (omega arith))) (omega arith) described (λ i low. let f : ⊥ = omega arith in absurd f)) (λ lines.
      and_then-only Placed _ _ (word-only (not (eqb (length u) (user_length (structures_in u)))) (Unfit Structures) dc (λ f. structures_13 refl refl (eqb-false _ _ (not-true _ f)))) (λ whole.
      accepted-only Placed)))))))
    where
      described : (i : ℕ) → i < length (descriptors_in u) → get_or (descriptors_in u) i 0 ≡ get_or u (4 + 0 + i) 0
      described i low = get_or-take 5 (drop 4 u) i 0 (omega (arith, length-take 5 (drop 4 u))) ∙ get_or-drop 4 u i 0

  tail-only : Head dc u → Only Placed (tail_verdict dc u)
  unfolding tail_verdict
  tail-only head =
      let long : 13 ≤ length u = head.long in
      and_then-only Placed _ _ (structures-only 0 (structures_in u) (dc + 10) (drop 9 u) (omega arith) refl (omega arith) (omega (arith, head.whole)) (λ h low. let f : ⊥ = omega arith in absurd f)) (λ fixed.
      and_then-only Placed _ _ (constant-only footer_id Footer (dc + (length u - 3)) refl (record { here = omega arith; there = omega arith })) (λ footer.
      and_then-only Placed _ _ (word-only (not (eqb (sum u % 256) 0)) SdpChecksum (dc + length u) (λ f. sdp_checksum_12 refl (record { here = omega arith; there = omega arith }) (eqb-false _ _ (not-true _ f)))) (λ total.
      accepted-only Placed)))

  pub place-means : (reason : Reason) (item : Item) → user_verdict dc u ≡ Refused reason item
      → (word : ℕ) × (item ≡ Word word) × UserStands dc u (number_of reason) word
  place-means = and_then-only Placed _ _ head-only (λ e. tail-only (accepted-head dc u e))
