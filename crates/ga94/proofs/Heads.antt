-- What stands before the constructs, check after check: which refusal comes where those before it find nothing.
-- Assumes nothing.
use Prim.Native.Nat.{ℕ, ◌≤◌, ◌<◌}
use native.Mathlib.Omega.{arith}
use mathlib.Core.Path.{◌≡◌}
use mathlib.Core.Bool.{true, false}
use mathlib.Core.List.{List}
use borrow.Author.Tests.{eq-eqb, ne_eqb, lt-ltb, le-ltb}
use lib.ListN.{length, get_or}
use Rattle.refusal.specs.Verdict.{Accepted, Refused}
use Rattle.refusal.specs.declared.Reason.TheVariants.{TooLong, Ends, Unfixed, AdditionalData}
use Rattle.refusal.specs.declared.Fixed.TheVariants.{Identifier}
use Rattle.refusal.specs.declared.Item.TheVariants.{Whole, Bit}
use Rattle.ga94.specs.Reading.{identifier_in, additional_in, head_verdict}
use Rattle.ga94.proofs.Constructs.{missing-none, missing-some}

module _ (s : List ℕ) where
  pub head-long : 16384 < length s → head_verdict s ≡ Refused TooLong Whole
  unfolding head_verdict
  head-long h = simp (lt-ltb 16384 (length s) h)

  pub head-empty : length s ≤ 16384 → length s < 4 → head_verdict s ≡ Refused Ends (Bit 0)
  unfolding head_verdict
  head-empty short h = simp (le-ltb 16384 (length s) short, missing-some 0 4 s h)

  pub head-other : length s ≤ 16384 → 4 ≤ length s → identifier_in s ≡ false → head_verdict s ≡ Refused (Unfixed Identifier) (Bit 0)
  unfolding head_verdict
  head-other short four e = simp (le-ltb 16384 (length s) short, missing-none 0 4 s (omega arith), e)

  module _ (short : length s ≤ 16384) (four : 4 ≤ length s) (e : identifier_in s ≡ true) where
    pub head-untyped : length s < 5 → head_verdict s ≡ Refused Ends (Bit 32)
    unfolding head_verdict
    head-untyped h = simp (le-ltb 16384 (length s) short, missing-none 0 4 s (omega arith), e, missing-some 4 1 s (omega arith))

    module _ (five : 5 ≤ length s) where
      pub head-other-type : (get_or s 4 0 ≡ 3 → ⊥) → head_verdict s ≡ Refused (Unfixed Identifier) (Bit 32)
      unfolding head_verdict
      head-other-type h =
          simp (le-ltb 16384 (length s) short, missing-none 0 4 s (omega arith), e, missing-none 4 1 s (omega arith), ne_eqb (get_or s 4 0) 3 h)

      module _ (code : get_or s 4 0 ≡ 3) where
        pub head-unflagged : length s < 6 → head_verdict s ≡ Refused Ends (Bit 40)
        unfolding head_verdict
        head-unflagged h =
            simp (
              le-ltb 16384 (length s) short,
              missing-none 0 4 s (omega arith),
              e,
              missing-none 4 1 s (omega arith),
              eq-eqb (get_or s 4 0) 3 code,
              missing-some 5 1 s (omega arith),
            )

        module _ (six : 6 ≤ length s) where
          pub head-additional : (additional_in s ≡ 0 → ⊥) → head_verdict s ≡ Refused AdditionalData (Bit 42)
          unfolding head_verdict
          head-additional h =
              simp (
                le-ltb 16384 (length s) short,
                missing-none 0 4 s (omega arith),
                e,
                missing-none 4 1 s (omega arith),
                eq-eqb (get_or s 4 0) 3 code,
                missing-none 5 1 s (omega arith),
                ne_eqb (additional_in s) 0 h,
              )

          pub head-ends : additional_in s ≡ 0 → length s < 7 → head_verdict s ≡ Refused Ends (Bit 48)
          unfolding head_verdict
          head-ends none h =
              simp (
                le-ltb 16384 (length s) short,
                missing-none 0 4 s (omega arith),
                e,
                missing-none 4 1 s (omega arith),
                eq-eqb (get_or s 4 0) 3 code,
                missing-none 5 1 s (omega arith),
                eq-eqb (additional_in s) 0 none,
                missing-some 6 1 s (omega arith),
              )

          pub head-accepted : additional_in s ≡ 0 → 7 ≤ length s → head_verdict s ≡ Accepted
          unfolding head_verdict
          head-accepted none h =
              simp (
                le-ltb 16384 (length s) short,
                missing-none 0 4 s (omega arith),
                e,
                missing-none 4 1 s (omega arith),
                eq-eqb (get_or s 4 0) 3 code,
                missing-none 5 1 s (omega arith),
                eq-eqb (additional_in s) 0 none,
                missing-none 6 1 s (omega arith),
              )
