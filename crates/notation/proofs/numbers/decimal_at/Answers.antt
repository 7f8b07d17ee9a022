-- `notation::numbers::decimal_at` meets its contract.
use Rattle.std.proofs.Common.{sym, ◌∙◌}
use Rattle.notation.specs.Value.{capped_of, is_decimal}
use Rattle.notation.proofs.Digits.{decimal-none}
use Rattle.notation.proofs.Taking.{takes, takes-none}
use Rattle.notation.proofs.numbers.decimal_at.Goals as goal

pub returns-in_err-value : goal.returns-in_err-value
returns-in_err-value c =
    rw c.from_residual.ensures
    (takes-none c.args.text.now c.args.at c.next-word.result c.next-word.ensures is_decimal capped_of (sym c.decimal.ensures ∙ c.in_err-value.was))

pub returns : goal.returns
returns c =
    takes c.args.text.now c.args.at c.next-word.result c.next-word.ensures is_decimal capped_of decimal-none c.in_ok-value.value
    (sym c.decimal.ensures ∙ c.in_ok-value.was)
