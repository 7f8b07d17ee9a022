-- `notation::numbers::decimal` meets its contract.
use Rattle.std.proofs.Common.{ℕ, Bool, ◌≡◌, ◌+◌, length, ap, subst, sym, ◌∙◌, arith, Some}
use borrow.Author.Tests.{eqb-true, eqb-false}
use Rattle.notation.specs.Inside.{told_if}
use Rattle.notation.specs.Value.{capped_of}
use Rattle.notation.proofs.Digits.{Read, decimal-empty, read_all, read_more, read-other, read-value}
use Rattle.notation.proofs.numbers.decimal.Goals as goal

pub returns-then-is_empty : goal.returns-then-is_empty
returns-then-is_empty c =
    let word = c.args.word.now in
    let none : length word ≡ 0 = eqb-true _ _ (sym c.is_empty.ensures ∙ c.if-is_empty.true) in
    sym (ap (λ (t : Bool). told_if t (capped_of word)) (decimal-empty word (omega arith)))

pub returns-then-not-between : goal.returns-then-not-between
returns-then-not-between c =
    let word = c.args.word.now in
    sym
    (ap (λ (t : Bool). told_if t (capped_of word))
    (read-other word c.loop-c.value c.loop-c.c-index c.loop-c.invariant c.loop-c-test.true (sym c.between.ensures ∙ c.if-not-between.true)))

pub loop-c-preserved : goal.loop-c-preserved
loop-c-preserved c =
    let word = c.args.word.now in
    subst (λ (v : ℕ). Read word v (c.loop-c.c-index + 1)) (sym c.capped-value.ensures)
    (read_more word c.loop-c.value c.loop-c.c-index c.loop-c.invariant c.loop-c-test.true (sym c.between.ensures ∙ c.if-not-between.false))

pub returns : goal.returns
returns c =
    let word = c.args.word.now in
    let some : length word ≡ 0 → ⊥ = eqb-false _ _ (sym c.is_empty.ensures ∙ c.if-is_empty.false) in
    ap Some (read-value word c.loop-c.value c.loop-c.c-index c.loop-c.invariant c.loop-c-test.false)
    ∙ sym
    (ap (λ (t : Bool). told_if t (capped_of word)) (read_all word c.loop-c.value c.loop-c.c-index c.loop-c.invariant c.loop-c-test.false (omega arith)))
