-- The user bytes of a legal value are bytes, and no more than one byte can count.
-- Assumes nothing.
use Prim.Native.Nat.{ℕ, zero, suc, ◌≤◌, ◌<◌}
use native.Mathlib.Omega.{arith}
use mathlib.Core.Path.{sym, subst}
use mathlib.Core.Logic.{⊎_elim}
use mathlib.Core.List.{List, [], ◌∷◌, ◌++◌}
use lib.ListN.{length, length-map}
use Rattle.lists.specs.Each.{Each}
use Rattle.lists.specs.Bytes.{Bytes}
use Rattle.lists.proofs.Each.{each_append}
use Rattle.sdp.specs.Value.{SlotRow, Sdp, LegalSlot, Legal, descriptor}
use Rattle.sdp.specs.Layout.{descriptors_of, count, structure, structures, footer, body, sdp_checksum, user_bytes}
use Rattle.sdp.proofs.Slots.{descriptors-below}
use Rattle.sdp.proofs.Numbers.{count_most, user-size}

abbrev Byte : ℕ → Type 0
Byte b = b < 256

structure-bytes : (d : ℕ) (row : List ℕ) → Bytes row → Bytes (structure d row)
structure-bytes zero row h = tt
structure-bytes (suc d) row h = (omega arith, (omega arith, (omega arith, h)))

row-bytes : (x : SlotRow) → LegalSlot x → Bytes (structure (descriptor x.slot) x.row)
row-bytes x h =
    ⊎_elim
    (λ e. subst (λ (y : SlotRow). Bytes (structure (descriptor y.slot) y.row)) (sym e) tt)
    (λ full. structure-bytes (descriptor x.slot) x.row full.bytes)
    h

structures-bytes : (xs : List SlotRow) → Each LegalSlot xs → Bytes (structures xs)
structures-bytes [] h = tt
structures-bytes (x ∷ xs) h = each_append Byte (structure (descriptor x.slot) x.row) (structures xs) (row-bytes x h.0) (structures-bytes xs h.1)

footer-bytes : (counter : ℕ) → counter < 65536 → Bytes (footer counter)
footer-bytes counter h = (omega arith, (omega arith, (omega arith, tt)))

module _ (v : Sdp) (h : Legal v) where
  pub few : count (descriptors_of v.slots) ≤ 5
  few = omega (arith, count_most (descriptors_of v.slots), length-map v.slots (λ (x : SlotRow). descriptor x.slot), h.five)

  pub body_bytes : Bytes (body v)
  body_bytes = (
    omega arith,
    (
      omega arith,
      (
        omega (arith, few),
        (
          omega arith,
          each_append Byte (descriptors_of v.slots) (structures v.slots ++ footer v.counter) (descriptors-below v.slots h.each)
              (each_append Byte (structures v.slots) (footer v.counter) (structures-bytes v.slots h.each) (footer-bytes v.counter h.count)),
        ),
      ),
    ),
  )

  pub user-bytes : Bytes (user_bytes v)
  unfolding sdp_checksum
  user-bytes = each_append Byte (body v) (sdp_checksum (body v) ∷ []) body_bytes (omega arith, tt)

  pub user-long : 13 ≤ length (user_bytes v)
  user-long = omega (arith, user-size v h)

  pub user-short : length (user_bytes v) ≤ 238
  user-short = omega (arith, user-size v h, few)
