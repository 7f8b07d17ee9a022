-- `notation::words::skipped` meets its contract.
use Rattle.std.proofs.Common.{sym, ◌∙◌}
use Rattle.notation.proofs.Cutting.{words_step}
use Rattle.notation.proofs.words.skipped.Goals as goal

pub loop-i-preserved : goal.loop-i-preserved
loop-i-preserved c =
    c.loop-i.invariant ∙ words_step c.args.text.now c.loop-i.i c.loop-i-test.true (sym c.is_space.ensures ∙ c.if-not-is_space.false)
