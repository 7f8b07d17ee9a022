-- The definitions of reading and writing check in the order of RULES.
-- Assumes nothing.
use Prim.Native.Nat.{ℕ, zero, suc, ◌+◌}
use mathlib.Core.Path.{◌≡◌, ◌∙◌, ap, sym, refl}
use mathlib.Core.List.{List, [], ◌∷◌}
use lib.Dec.{ltb}
use Rattle.refusal.specs.Verdict.{Verdict}
use Rattle.refusal.specs.declared.Reason.TheVariants.{TooLong, NoRoom}
use Rattle.refusal.specs.declared.Item.TheVariants.{Whole}
use Rattle.refusal.specs.Checks.{refuse_if, and_then, first}
use Rattle.refusal.proofs.Checks.{and_then-assoc, and_then-last}
use Rattle.refusal.proofs.Sequence.{first-append}
use Rattle.stuffing.proofs.Zeros.{zero-order}
use Rattle.scte20.specs.declared.Record.{Record}
use Rattle.scte20.specs.declared.CaptionUnit.{CaptionUnit}
use Rattle.scte20.specs.Rules.{record_verdict}
use Rattle.scte20.specs.Reading.{missing, construct_at, marker_verdict, constructs_verdict, sampled_verdict, rest_verdict, head_verdict, flag_verdict, content_verdict}
use Rattle.scte20.specs.Writing.{whole_verdict, range_verdict, records_verdict, value_verdict, write_verdict}
use Rattle.scte20.specs.Order.{constructs_checks, rest_checks, flag_checks, reading_checks, records_checks, own_checks, writing_checks}

-- READING

constructs-order : (before : List Record) (k at : ℕ) (xs : List ℕ) → constructs_verdict before k at xs ≡ first (constructs_checks before k at xs)
unfolding missing record_verdict marker_verdict
constructs-order before zero at xs = refl
constructs-order before (suc k) at xs = simp (constructs-order (construct_at at xs ∷ before) k (at + 26) xs, and_then-assoc, and_then-last)

rest-order : (at : ℕ) (xs : List ℕ) → rest_verdict at xs ≡ first (rest_checks at xs)
unfolding rest_verdict
rest-order at xs = simp (zero-order, first-append, and_then-last)

flag-order : (flag : ℕ) (xs : List ℕ) → flag_verdict flag xs ≡ first (flag_checks flag xs)
unfolding missing sampled_verdict
flag-order zero xs = rest-order 16 xs
flag-order (suc f) xs = simp (constructs-order, rest-order, first-append, and_then-assoc, and_then-last)

pub reading-order : (body : List ℕ) → content_verdict body ≡ first (reading_checks body)
unfolding content_verdict head_verdict missing
reading-order body = simp (flag-order, and_then-assoc)

-- WRITING

records-order : (before : List Record) (at : ℕ) (rs : List Record) → records_verdict before at rs ≡ first (records_checks before at rs)
unfolding range_verdict record_verdict
records-order before at [] = refl
records-order before at (r ∷ rs) = simp (records-order (r ∷ before) (at + 26) rs, and_then-assoc, and_then-last)

pub value-order : (u : CaptionUnit) → value_verdict u ≡ first (own_checks u)
unfolding value_verdict whole_verdict
value-order u = simp (records-order, and_then-assoc, and_then-last)

pub writing-order : (u : CaptionUnit) (size room : ℕ) → write_verdict u size room ≡ first (writing_checks u size room)
writing-order u size room =
    let fit = refuse_if (ltb 16384 size) TooLong Whole ∷ refuse_if (ltb room size) NoRoom Whole ∷ [] in
    ap (λ (v : Verdict). and_then v (first fit)) (value-order u) ∙ sym (first-append (own_checks u) fit)
