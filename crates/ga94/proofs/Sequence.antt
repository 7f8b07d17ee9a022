-- The definitions of reading and writing check in the order of RULES.
-- Assumes nothing.
use Prim.Native.Nat.{ℕ, zero, suc, ◌+◌, ◌*◌}
use mathlib.Core.Path.{◌≡◌, refl}
use mathlib.Core.Bool.{not}
use mathlib.Core.List.{List, [], ◌∷◌}
use native.Mathlib.Omega.{arith}
use lib.Dec.{eqb}
use lib.ListN.{get_or, drop}
use Rattle.refusal.specs.declared.Reason.TheVariants.{Unfixed}
use Rattle.refusal.specs.declared.Fixed.TheVariants.{Marker, Stuffing}
use Rattle.refusal.specs.declared.Item.TheVariants.{Bit}
use Rattle.refusal.specs.Checks.{refuse_if, first}
use Rattle.refusal.proofs.Checks.{and_then-assoc, and_then-last}
use Rattle.refusal.proofs.Sequence.{first-append}
use Rattle.bits.specs.Bits.{bits_of}
use Rattle.stuffing.specs.Zeros.{zero_checks}
use Rattle.stuffing.proofs.Zeros.{zero-order}
use Rattle.ga94.specs.declared.Record.{Record}
use Rattle.ga94.specs.Value.{CaptionUnit}
use Rattle.ga94.specs.Reading.{missing, count_in, marker_verdict, constructs_verdict, closing_verdict, head_verdict, content_verdict}
use Rattle.ga94.specs.Writing.{whole_verdict, flag_verdict, range_verdict, records_verdict, value_verdict, write_verdict}
use Rattle.ga94.specs.Order.{ends, constructs_checks, reading_checks, records_checks, writing_checks}

-- READING

constructs-order : (k i : ℕ) (body : List ℕ) → constructs_verdict k i body ≡ first (constructs_checks k i body)
unfolding missing marker_verdict
constructs-order zero i body = refl
constructs-order (suc k) i body = simp (constructs-order k (i + 3) body, and_then-last)

closing-order : (i j : ℕ) (body : List ℕ) → i + 1 ≡ j
    → closing_verdict i body
    ≡ first
    (ends i 1 body
    ∷ refuse_if (not (eqb (get_or body i 0) 0xFF)) (Unfixed Marker) (Bit (8 * i))
    ∷ zero_checks Stuffing (8 * j) (bits_of (drop j body)))
unfolding missing closing_verdict
closing-order i j body e = simp (e, zero-order, and_then-last)

pub reading-order : (body : List ℕ) → content_verdict body ≡ first (reading_checks body)
unfolding content_verdict head_verdict missing
reading-order body =
    let n = count_in body in
    let next : 7 + 3 * n + 1 ≡ 8 + 3 * n = omega arith in
    simp (constructs-order, closing-order (7 + 3 * n) (8 + 3 * n) body next, first-append, and_then-assoc, and_then-last)

-- WRITING

records-order : (at : ℕ) (rs : List Record) → records_verdict at rs ≡ first (records_checks at rs)
unfolding range_verdict
records-order at [] = refl
records-order at (r ∷ rs) = simp (records-order (at + 24) rs, and_then-assoc, and_then-last)

pub writing-order : (u : CaptionUnit) (size room : ℕ) → write_verdict u size room ≡ first (writing_checks u size room)
unfolding value_verdict whole_verdict flag_verdict
writing-order u size room = simp (records-order, first-append, and_then-assoc, and_then-last)
