-- `scte20_reader::judge` meets its contract: what was gathered is accepted, and else reading says.
use Rattle.std.specs.Prelude.{Err}
use Rattle.std.proofs.lemmas.Result.{err_from_is_err_and}
use Rattle.refusal.specs.Answers.{verdict_of}
use mathlib.Core.Path.{◌∙◌, ap, sym}
use Rattle.scte20.proofs.Accepting.{refused-in-order}
use Rattle.scte20_reader.proofs.judge.Goals as goal

pub returns-then-gathered : goal.returns-then-gathered
returns-then-gathered c = sym (c.gathered.ensures c.if-gathered.true).accepted

pub returns-in_err-read_stepwise : goal.returns-in_err-read_stepwise
returns-in_err-read_stepwise c =
    let p = err_from_is_err_and c.from_residual.result c.from_residual.ensures.1 in
    p.1 ∙ ap Err p.2 ∙ sym (ap verdict_of c.in_err-read_stepwise.was) ∙ refused-in-order _ _ _ _ c.read_stepwise.ensures

pub returns : goal.returns
returns c = sym (ap verdict_of c.in_ok-read_stepwise.was) ∙ refused-in-order _ _ _ _ c.read_stepwise.ensures
