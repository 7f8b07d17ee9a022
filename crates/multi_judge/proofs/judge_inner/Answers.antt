-- `multi_judge::judge_inner` meets its contract: where the form is accepted, all words of the inner packet are there.
use Rattle.std.proofs.Common.{rules}
use mathlib.Core.Path.{◌≡◌, ◌∙◌, sym}
use Rattle.refusal.proofs.Checks.{refused-first, accepted-first}
use Rattle.multi.proofs.Inner.{inner-halves, form-long}
use Rattle.multi_judge.proofs.judge_inner.Goals as goal

pub returns-in_err-judge_words : goal.returns-in_err-judge_words
returns-in_err-judge_words c =
    let args = c.args in
    (let same : c.from_residual.result ≡ c.judge_words.result = search rules in refused-first _ (same ∙ c.judge_words.ensures) (same ∙ c.in_err-judge_words.was)) ∙ sym (inner-halves args.at args.rest.now)

pub judge_rules-requires : goal.judge_rules-requires
judge_rules-requires c =
    let args = c.args in
    let long = form-long args.at args.rest.now (sym c.judge_words.ensures ∙ c.in_ok-judge_words.was) in
    record { in_bounds = long.0; rest_in_bounds = long.1; rest_bound = c.requires }

pub returns : goal.returns
returns c =
    let args = c.args in
    c.judge_rules.ensures ∙ sym (inner-halves args.at args.rest.now ∙ accepted-first _ c.judge_words.ensures c.in_ok-judge_words.was)
