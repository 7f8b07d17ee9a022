-- The definitions check descriptors, structures and slots in the order of RULES.
-- Assumes nothing.
use Prim.Native.Nat.{ℕ, zero, suc, ◌+◌}
use mathlib.Core.Path.{◌≡◌, refl}
use mathlib.Core.List.{List, [], ◌∷◌}
use lib.ListN.{drop}
use Rattle.refusal.specs.Checks.{first}
use Rattle.refusal.proofs.Checks.{and_then-assoc}
use Rattle.refusal.proofs.Sequence.{first-each}
use Rattle.sdp.specs.Value.{SlotRow}
use Rattle.sdp.specs.User.{line_verdict, descriptors_verdict, structure_verdict, structures_verdict}
use Rattle.sdp.specs.SlotVerdict.{slot_verdict, slots_verdict}
use Rattle.refusal.specs.Order.{each_of}
use Rattle.sdp.specs.Order.{descriptors_checks, structures_checks, slot_checks}

pub descriptors-order : (at : ℕ) (ds : List ℕ) → descriptors_verdict at ds ≡ first (descriptors_checks at ds)
unfolding line_verdict
descriptors-order at [] = refl
descriptors-order at (d ∷ ds) = simp (descriptors-order (suc at) ds)

pub structures-order : (at k : ℕ) (u : List ℕ) → structures_verdict at k u ≡ first (structures_checks at k u)
unfolding structure_verdict
structures-order at zero u = refl
structures-order at (suc k) u = simp (structures-order (at + 45) k (drop 45 u), and_then-assoc)

pub slot-order : (x : SlotRow) → slot_verdict x ≡ first (slot_checks x)
unfolding slot_verdict line_verdict
slot-order x = refl

pub slots-order : (xs : List SlotRow) → slots_verdict xs ≡ first (each_of slot_checks xs)
unfolding slot_verdict line_verdict
slots-order xs = first-each slot_checks xs
