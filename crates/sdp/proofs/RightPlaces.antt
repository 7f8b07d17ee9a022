-- What is right at each place of user bytes that the rules accept, and so of a legal value's.
-- Assumes nothing.
use Prim.Native.Nat.{ℕ, zero, suc, ◌+◌, ◌%◌, ◌≤◌, ◌<◌}
use native.Mathlib.Nat.{eq-or-lt_of_le}
use native.Mathlib.Omega.{arith}
use mathlib.Core.Path.{◌≡◌, ◌∙◌, subst, refl}
use mathlib.Core.Logic.{⊎_elim}
use mathlib.Core.List.{List, [], ◌∷◌}
use lib.ListN.{length, get_or, drop}
use lib.Seq.{get_or-take, get_or-drop}
use Rattle.lists.proofs.Part.{length_part}
use Rattle.refusal.specs.Verdict.{Accepted}
use Rattle.refusal.specs.declared.Item.TheVariants.{Word}
use Rattle.refusal.proofs.Checks.{accepted-and_then}
use Rattle.sdp.specs.Value.{Sdp, LegalLine, Legal}
use Rattle.sdp.specs.Layout.{descriptors_of, count, user_bytes}
use Rattle.sdp.specs.User.{line_verdict, descriptors_verdict, structure_verdict, structures_verdict, descriptors_in, structures_in, head_verdict, tail_verdict, user_verdict}
use Rattle.sdp.specs.SlotFaults.{NoLine}
use Rattle.sdp.specs.Places.{Constant, identifier_51, identifier_15, format_code, footer_id, constant_at, constant_byte, line_in, structure_at, OpensRight}
use Rattle.sdp.specs.Places.{UserStands, few_5, constant_6, length_13, line_7, structures_13, run_in_20, sdp_checksum_12}
use Rattle.sdp.proofs.Slots.{accepted-line}
use Rattle.sdp.proofs.Accepted.{Head, accepted-head, Tail, accepted-tail}
use Rattle.sdp.proofs.Numbers.{user-size}
use Rattle.sdp.proofs.Rules.{user-accepted}
use Rattle.sdp.proofs.Placed.{structure-next, accepted-opens}

accepted-lines : (at : ℕ) (ds : List ℕ) → descriptors_verdict at ds ≡ Accepted → (i : ℕ) → i < length ds → LegalLine (get_or ds i 0 % 32)
accepted-lines at [] e i low = let f : ⊥ = omega arith in absurd f
accepted-lines at (d ∷ ds) e zero low = accepted-line (Word at) (d % 32) (accepted-and_then (line_verdict (Word at) (d % 32)) (descriptors_verdict (suc at) ds) e).0
accepted-lines at (d ∷ ds) e (suc i) low =
    accepted-lines (suc at) ds (accepted-and_then (line_verdict (Word at) (d % 32)) (descriptors_verdict (suc at) ds) e).1 i (omega arith)

-- the structures from j on, k of them
accepted-structures : (u : List ℕ) (j k at : ℕ) (w : List ℕ) → w ≡ drop (structure_at j) u → structures_verdict at k w ≡ Accepted
    → (h : ℕ) → j ≤ h → h < j + k → OpensRight u h 3
accepted-structures u j zero at w same e h low high = let f : ⊥ = omega arith in absurd f
accepted-structures u j (suc k) at w same e h low high =
    let both = accepted-and_then (structure_verdict at w) (structures_verdict (at + 45) k (drop 45 w)) e in
    ⊎_elim
    (λ here. subst (λ (n : ℕ). OpensRight u n 3) here (accepted-opens u j w same at both.0))
    (λ beyond. accepted-structures u (suc j) k (at + 45) (drop 45 w) (structure-next u j w same) both.1 h beyond (omega arith))
    (eq-or-lt_of_le low)

no-line-illegal : (l : ℕ) → NoLine l → LegalLine l → ⊥
no-line-illegal l none legal =
    ⊎_elim (λ e. ⊎_elim (λ low. omega (arith, low.0)) (λ high. omega (arith, high.0)) none)
    (λ between. ⊎_elim (λ low. omega (arith, low.1, between.0)) (λ high. omega (arith, high.0, between.1)) none) legal

-- user bytes that are accepted
module _ (dc : ℕ) (u : List ℕ) (accepts : user_verdict dc u ≡ Accepted) where
  head : Head dc u
  head = accepted-head dc u (accepted-and_then (head_verdict dc u) (tail_verdict dc u) accepts).0

  tail : Tail dc u
  tail = accepted-tail dc u (accepted-and_then (head_verdict dc u) (tail_verdict dc u) accepts).1

  accepted-constant : (c : Constant) → get_or u (constant_at (length u) c) 0 ≡ constant_byte c
  accepted-constant identifier_51 = head.first
  accepted-constant identifier_15 = head.second
  accepted-constant format_code = head.format
  accepted-constant footer_id = tail.footer

  accepted-opening : (j : ℕ) → j < structures_in u → OpensRight u j 3
  accepted-opening j low = accepted-structures u 0 (structures_in u) (dc + 10) (drop 9 u) refl tail.fixed j (omega arith) (omega arith)

  accepted-line-in : (j : ℕ) → j < 5 → LegalLine (line_in u j)
  accepted-line-in j low =
      let long : 9 ≤ length u = omega (arith, head.long) in
      let same : get_or (descriptors_in u) j 0 ≡ get_or u (4 + j) 0 = get_or-take 5 (drop 4 u) j 0 low ∙ get_or-drop 4 u j 0 in
      subst (λ (d : ℕ). LegalLine (d % 32)) same (accepted-lines (dc + 5) (descriptors_in u) head.lines j (omega (arith, length_part u 4 9 long)))

  -- in these nothing stands that a refusal tells of
  accepted-stands : (number word : ℕ) → UserStands dc u number word → ⊥
  accepted-stands number word (few_5 n here few) = omega (arith, head.long)
  accepted-stands number word (constant_6 c n here other) = other (accepted-constant c)
  accepted-stands number word (length_13 n here other) = other head.counted
  accepted-stands number word (line_7 j n low here none before) = no-line-illegal (line_in u j) none (accepted-line-in j low)
  accepted-stands number word (structures_13 n here other) = other head.whole
  accepted-stands number word (run_in_20 j i n low three here other right before) = other (accepted-opening j low i three)
  accepted-stands number word (sdp_checksum_12 n here other) = other tail.total

pub stands-refused : (dc : ℕ) (u : List ℕ) (number word : ℕ) → UserStands dc u number word → user_verdict dc u ≡ Accepted → ⊥
stands-refused dc u number word stands accepts = accepted-stands dc u accepts number word stands

-- THE LAYOUT

module _ (v : Sdp) (h : Legal v) where
  pub layout-constant : (c : Constant) → get_or (user_bytes v) (constant_at (length (user_bytes v)) c) 0 ≡ constant_byte c
  layout-constant = accepted-constant 0 (user_bytes v) (user-accepted v h 0)

  pub layout-run-in : (j : ℕ) → j < count (descriptors_of v.slots) → OpensRight (user_bytes v) j 3
  layout-run-in j low =
      let accepts = user-accepted v h 0 in
      accepted-opening 0 (user_bytes v) accepts j (omega (arith, user-size v h, (head 0 (user_bytes v) accepts).whole))
