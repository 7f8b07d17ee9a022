-- A picture is checked in the order of RULES, and refused with the numbers of its checks and no others.
-- Assumes nothing.
use Prim.Native.Nat.{ℕ, ◌+◌}
use mathlib.Core.Path.{◌≡◌, ◌∙◌, ap, sym, refl}
use mathlib.Core.Logic.{inl, inr}
use mathlib.Core.Bool.{Bool, not, ◌&&◌}
use mathlib.Core.List.{List, [], ◌∷◌, ◌++◌}
use lib.Dec.{eqb, ltb}
use Rattle.refusal.specs.Verdict.{Verdict}
use Rattle.refusal.specs.Verdict.{Accepted}
use Rattle.refusal.specs.declared.Reason.TheVariants.{Unholdable, NotShown, OtherLine}
use Rattle.refusal.specs.declared.Excess.TheVariants.{SetLine}
use Rattle.refusal.specs.declared.Item.TheVariants.{Whole, Bit}
use Rattle.refusal.specs.Checks.{refuse_if, and_then, first}
use Rattle.refusal.proofs.Checks.{and_then-last}
use Rattle.refusal.proofs.Sequence.{first-append}
use Rattle.refusal.proofs.Gives.{Gives, refuse_if-gives, and_then-gives, gives_as}
use Rattle.scte20.specs.declared.Record.{Record}
use Rattle.scte20.specs.declared.CaptionUnit.{CaptionUnit}
use Rattle.scte20.specs.Value.{field_of, held}
use Rattle.scte20.specs.Writing.{value_verdict, ForValue}
use Rattle.scte20.specs.Order.{own_checks}
use Rattle.scte20.proofs.Sequence.{value-order}
use Rattle.scte20.proofs.Writable.{value-gives}
use Rattle.film.specs.declared.Shown.{Shown}
use Rattle.film.specs.Calls.{repeat_verdict, line_verdict, picture_verdict}
use Rattle.film.specs.Order.{repeat_checks, line_checks, picture_checks, ForPicture}

repeat-order : (repeat : Bool) (at : ℕ) (rs : List Record) → repeat_verdict repeat at rs ≡ first (repeat_checks repeat at rs)
repeat-order repeat at [] = refl
repeat-order repeat at (r ∷ rs) = ap (and_then (refuse_if (eqb (field_of r) 3 && not repeat) NotShown (Bit (at + 2)))) (repeat-order repeat (at + 26) rs)

line-order : (line at : ℕ) (rs : List Record) → line_verdict line at rs ≡ first (line_checks line at rs)
line-order line at [] = refl
line-order line at (r ∷ rs) = ap (and_then (refuse_if (not (eqb r.line_offset line)) OtherLine (Bit (at + 4)))) (line-order line (at + 26) rs)

pub picture-order : (how : Shown) (u : CaptionUnit) → picture_verdict how u ≡ first (picture_checks how u)
unfolding picture_verdict
picture-order how u =
    let set = refuse_if (ltb 31 how.line_offset) (Unholdable SetLine) Whole in
    let repeats = repeat_checks how.repeat_first_field 21 (held u).records in
    let lines = line_checks how.line_offset 21 (held u).records in
    ap (and_then set)
    (ap (λ (v : Verdict). and_then v (and_then (repeat_verdict how.repeat_first_field 21 (held u).records) (and_then (line_verdict how.line_offset 21 (held u).records) Accepted))) (value-order u)
    ∙ ap (λ (v : Verdict). and_then (first (own_checks u)) (and_then v (and_then (line_verdict how.line_offset 21 (held u).records) Accepted))) (repeat-order how.repeat_first_field 21 (held u).records)
    ∙ ap (λ (v : Verdict). and_then (first (own_checks u)) (and_then (first repeats) v)) (and_then-last _ ∙ line-order how.line_offset 21 (held u).records)
    ∙ ap (and_then (first (own_checks u))) (sym (first-append repeats lines))
    ∙ sym (first-append (own_checks u) (repeats ++ lines)))

-- which refusals they give

repeat-gives : (repeat : Bool) (at : ℕ) (rs : List Record) → Gives ForPicture (repeat_verdict repeat at rs)
repeat-gives repeat at [] = inl refl
repeat-gives repeat at (r ∷ rs) =
    and_then-gives ForPicture _ _ (refuse_if-gives ForPicture (eqb (field_of r) 3 && not repeat) NotShown (Bit (at + 2)) (inr (inl refl))) (repeat-gives repeat (at + 26) rs)

line_gives : (line at : ℕ) (rs : List Record) → Gives ForPicture (line_verdict line at rs)
line_gives line at [] = inl refl
line_gives line at (r ∷ rs) =
    and_then-gives ForPicture _ _ (refuse_if-gives ForPicture (not (eqb r.line_offset line)) OtherLine (Bit (at + 4)) (inr (inr refl))) (line_gives line (at + 26) rs)

pub picture-gives : (how : Shown) (u : CaptionUnit) → Gives ForPicture (picture_verdict how u)
unfolding picture_verdict
picture-gives how u =
    and_then-gives ForPicture _ _ (refuse_if-gives ForPicture (ltb 31 how.line_offset) (Unholdable SetLine) Whole (inl (inl refl)))
    (and_then-gives ForPicture _ _ (gives_as ForValue ForPicture (λ r p. inl p) (value_verdict u) (value-gives u))
    (and_then-gives ForPicture _ _ (repeat-gives how.repeat_first_field 21 (held u).records)
    (and_then-gives ForPicture _ _ (line_gives how.line_offset 21 (held u).records) (inl refl))))
