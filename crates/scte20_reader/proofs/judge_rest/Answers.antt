-- `scte20_reader::judge_rest` meets its contract: the two looks find the bit that `rest_verdict` refuses, or none.
use Prim.Native.Nat.{ℕ, ◌+◌, ◌-◌, ◌*◌, ◌/◌, ◌%◌, ◌^◌, ◌≤◌, ◌<◌, min}
use native.Mathlib.Omega.{arith}
use native.Mathlib.Nat.{mod-eq_of_lt}
use mathlib.Core.Path.{◌≡◌, ◌∙◌, ap, sym, subst, refl}
use mathlib.Core.List.{List}
use lib.ListN.{length, get_or}
use Rattle.lists.specs.Bytes.{Bytes}
use Rattle.lists.proofs.Each.{each-of}
use Rattle.refusal.specs.Verdict.{Refused}
use Rattle.refusal.specs.declared.Reason.TheVariants.{Unfixed}
use Rattle.refusal.specs.declared.Fixed.TheVariants.{Alignment, Stuffing}
use Rattle.refusal.specs.declared.Item.TheVariants.{Bit}
use Rattle.refusal.proofs.Checks.{refused-first, accepted-first}
use Rattle.bits.specs.Bits.{bits_of, field}
use Rattle.bits.specs.Peek.{peek_of, leading_of, first_set}
use Rattle.bits.proofs.Stream.{bits_of-are}
use Rattle.bits.proofs.Fields.{field_lt}
use Rattle.bits.proofs.Beyond.{peek-inside}
use Rattle.scte20.specs.Layout.{padding}
use Rattle.scte20.specs.Reading.{rest_verdict}
use Rattle.scte20.proofs.Trailing.{padding-lt, padding-fits, moved-lt, alignment-none, alignment-some, stuffing-none, stuffing-some}
use Rattle.scte20_reader.proofs.judge_rest.Goals.{After-peek-alignment}
use Rattle.scte20_reader.proofs.judge_rest.Goals as goal

-- the alignment bits
module _ (c : After-peek-alignment) where
  abbrev body_of : List ℕ
  body_of = c.args.body.now

  abbrev at_of : ℕ
  at_of = c.args.at

  seen : c.peek-alignment.result ≡ field (bits_of body_of) at_of (padding at_of)
  unfolding padding
  seen =
      let few : min (padding at_of) 32 ≡ padding at_of = omega (arith, padding-lt at_of) in
      c.peek-alignment.ensures
      ∙ ap (peek_of body_of at_of) few
      ∙ peek-inside body_of at_of (padding at_of) (padding-fits body_of at_of c.requires.at_bound)

  small : c.peek-alignment.result < 2 ^ padding at_of
  small = subst (λ (x : ℕ). x < 2 ^ padding at_of) (sym seen) (field_lt (bits_of body_of) at_of (padding at_of) (bits_of-are body_of))

  moved : c.peek-alignment.result * 2 ^ (8 - padding at_of) < 256
  moved = moved-lt (padding at_of) c.peek-alignment.result small (omega (arith, padding-lt at_of))

  -- the shift loses nothing
  exact : c.peek-alignment.result * 2 ^ (8 - padding at_of) % 4294967296 ≡ c.peek-alignment.result * 2 ^ (8 - padding at_of)
  exact = mod-eq_of_lt (omega (arith, moved))

pub overflow_cast-alignment : goal.overflow_cast-alignment
unfolding padding
overflow_cast-alignment c = omega (arith, exact (goal.at.overflow_cast-alignment c).After-peek-alignment, moved (goal.at.overflow_cast-alignment c).After-peek-alignment)

pub returns-then-alignment-ne0 : goal.returns-then-alignment-ne0
unfolding rest_verdict padding
returns-then-alignment-ne0 c =
    let body = c.args.body.now in
    let at = c.args.at in
    let lead : c.leading-zeros.result ≡ leading_of (c.peek-alignment.result * 2 ^ (8 - padding at)) = c.leading-zeros.ensures ∙ ap leading_of (exact (goal.at.returns-then-alignment-ne0 c).After-peek-alignment) in
    ap (λ (k : ℕ). Refused (Unfixed Alignment) (Bit (at + k))) lead
    ∙ refused-first _ (sym (alignment-some body at c.requires.at_bound c.peek-alignment.result (seen (goal.at.returns-then-alignment-ne0 c).After-peek-alignment) c.if-alignment-ne0.true)) refl

pub returns-then-wrong-body : goal.returns-then-wrong-body
unfolding rest_verdict
returns-then-wrong-body c =
    let body = c.args.body.now in
    let at = c.args.at in
    let aligned = alignment-none body at c.requires.at_bound (sym (seen (goal.at.returns-then-wrong-body c).After-peek-alignment) ∙ c.if-alignment-ne0.false) in
    let wrong = c.first_set-wrong.result in
    let bytes : Bytes body = each-of (λ (b : ℕ). b < 256) 0 body (λ i h. omega (arith, c.type_inv.body i)) in
    let some : first_set body ((at + 7) / 8) < length body = subst (λ (k : ℕ). k < length body) c.first_set-wrong.ensures c.if-wrong-body.true in
    ap (λ (k : ℕ). Refused (Unfixed Stuffing) (Bit (8 * wrong + k))) c.leading-zeros-then-wrong-body.ensures
    ∙ ap (λ (k : ℕ). Refused (Unfixed Stuffing) (Bit (8 * k + leading_of (get_or body k 0)))) c.first_set-wrong.ensures
    ∙ refused-first _ (sym (stuffing-some body at c.requires.at_bound bytes some)) refl
    ∙ sym (accepted-first _ (sym aligned) refl)

pub returns : goal.returns
unfolding rest_verdict
returns c =
    let body = c.args.body.now in
    let at = c.args.at in
    let aligned = alignment-none body at c.requires.at_bound (sym (seen (goal.at.returns c).After-peek-alignment) ∙ c.if-alignment-ne0.false) in
    let none : length body ≤ first_set body ((at + 7) / 8) = subst (λ (k : ℕ). length body ≤ k) c.first_set-wrong.ensures c.if-wrong-body.false in
    sym
    (accepted-first _ (sym aligned) refl
    ∙ accepted-first _ (sym (stuffing-none body at c.requires.at_bound none)) refl)
