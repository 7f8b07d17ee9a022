-- `notation::numbers::hex_at` meets its contract.
use Rattle.std.proofs.Common.{sym, ◌∙◌, refl}
use Rattle.notation.specs.Value.{hex_of, is_hex}
use Rattle.notation.proofs.Taking.{takes, takes-none}
use Rattle.notation.proofs.numbers.hex_at.Goals as goal

pub returns-in_err-value : goal.returns-in_err-value
returns-in_err-value c =
    rw c.from_residual.ensures
    (takes-none c.args.text.now c.args.at c.next-word.result c.next-word.ensures is_hex hex_of (sym c.hex.ensures ∙ c.in_err-value.was))

pub returns : goal.returns
returns c =
    takes c.args.text.now c.args.at c.next-word.result c.next-word.ensures is_hex hex_of refl c.in_ok-value.value
    (sym c.hex.ensures ∙ c.in_ok-value.was)
