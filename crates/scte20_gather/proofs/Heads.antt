-- What stands before the flag's decision, where both bytes are there: whether the second is the type of a data group decides.
-- Assumes nothing.
use Prim.Native.Nat.{ℕ, ◌+◌, ◌*◌, ◌≤◌, ◌<◌}
use native.Mathlib.Omega.{arith}
use mathlib.Core.Path.{◌≡◌, ◌∙◌, ap}
use mathlib.Core.Bool.{Bool}
use mathlib.Core.List.{List}
use borrow.Author.Tests.{eq-eqb, le-ltb}
use lib.ListN.{length, get_or}
use Rattle.lists.specs.Bytes.{Bytes}
use Rattle.refusal.specs.declared.Reason.TheVariants.{Unfixed}
use Rattle.refusal.specs.declared.Fixed.TheVariants.{Identifier}
use Rattle.refusal.specs.declared.Item.TheVariants.{Bit}
use Rattle.refusal.specs.Checks.{refuse_if}
use Rattle.refusal.proofs.Checks.{and_then-last}
use Rattle.bits.specs.Bits.{bits_of, field}
use Rattle.bits.proofs.Fields.{field-whole}
use Rattle.kind.specs.Ours.{group_type}
use Rattle.scte20.specs.Reading.{head_verdict}
use Rattle.scte20.proofs.Bytewise.{missing-none, flag-byte}

pub head-decided : (s : List ℕ) → Bytes s → length s ≤ 16384 → 2 ≤ length s → get_or s 0 0 ≡ 3 → (t : Bool) → group_type (get_or s 1 0) ≡ t
    → refuse_if t (Unfixed Identifier) (Bit 8) ≡ head_verdict s
unfolding head_verdict
head-decided s h short two begins t e =
    let inside : 0 < length s = omega arith in
    let starts : 0 + 8 ≤ 8 * length s = omega arith in
    let goes_on : 8 + 7 ≤ 8 * length s = omega arith in
    let has-flag : 15 + 1 ≤ 8 * length s = omega arith in
    simp (
      le-ltb 16384 (length s) short,
      missing-none s 0 8 starts,
      eq-eqb (field (bits_of s) 0 8) 3 (field-whole s 0 h inside ∙ begins),
      missing-none s 8 7 goes_on,
      missing-none s 15 1 has-flag,
      ap group_type (flag-byte s h (omega arith)) ∙ e,
      and_then-last,
    )
