-- `ga94_reader::first_wrong` meets its contract: the head, the constructs and what closes them decide, each where those before it accept.
use Prim.Native.Nat.{ℕ, ◌+◌, ◌*◌, ◌≤◌}
use native.Mathlib.Omega.{arith}
use mathlib.Core.Path.{◌≡◌, ◌∙◌, sym}
use mathlib.Core.List.{List}
use lib.ListN.{length}
use Rattle.std.proofs.lemmas.Result.{err_from_is_err_and}
use Rattle.refusal.specs.Checks.{and_then}
use Rattle.refusal.proofs.Checks.{refused-first, accepted-first}
use Rattle.ga94.specs.Reading.{count_in, constructs_verdict, closing_verdict, content_verdict}
use Rattle.ga94.proofs.Constructs.{constructs-within}
use Rattle.ga94.proofs.Contents.{Head, accepted-head}
use Rattle.ga94.proofs.Answers.{content-parts}
use Rattle.ga94_reader.proofs.first_wrong.Goals as goal

pub returns-in_err-judge_head : goal.returns-in_err-judge_head
returns-in_err-judge_head c =
    let body = c.args.body.now in
    let p = err_from_is_err_and c.from_residual.result c.from_residual.ensures.1 in
    rw (p.1, p.2) (sym c.in_err-judge_head.was ∙ refused-first _ c.judge_head.ensures c.in_err-judge_head.was ∙ sym (content-parts body))

pub returns-in_err-judge_constructs : goal.returns-in_err-judge_constructs
returns-in_err-judge_constructs c =
    let body = c.args.body.now in
    let p = err_from_is_err_and c.from_residual-in_err-judge_constructs.result c.from_residual-in_err-judge_constructs.ensures.1 in
    rw (p.1, p.2)
    (sym c.in_err-judge_constructs.was
    ∙ refused-first _ c.judge_constructs.ensures c.in_err-judge_constructs.was
    ∙ sym (content-parts body ∙ accepted-first _ c.judge_head.ensures c.in_ok-judge_head.was))

pub returns : goal.returns
returns c =
    let body_of : List ℕ = c.args.body.now in
    let left : content_verdict body_of ≡ and_then (constructs_verdict (count_in body_of) 7 body_of) (closing_verdict (7 + 3 * count_in body_of) body_of) = content-parts body_of ∙ accepted-first _ c.judge_head.ensures c.in_ok-judge_head.was in
    c.judge_closing.ensures
    ∙ sym (left ∙ accepted-first _ c.judge_constructs.ensures c.in_ok-judge_constructs.was)

pub bounds-body-5 : goal.bounds-body-5
bounds-body-5 c =
    let body_of : List ℕ = c.args.body.now in
    let head : Head body_of = accepted-head body_of (sym c.judge_head.ensures ∙ c.in_ok-judge_head.was) in
    omega (arith, head.complete)

pub judge_closing-requires : goal.judge_closing-requires
judge_closing-requires c =
    let body_of : List ℕ = c.args.body.now in
    let head : Head body_of = accepted-head body_of (sym c.judge_head.ensures ∙ c.in_ok-judge_head.was) in
    let within : let body = body_of in 7 + 3 * count_in body ≤ length body =
    let body = body_of in
    constructs-within (count_in body) 7 body head.complete (sym c.judge_constructs.ensures ∙ c.in_ok-judge_constructs.was)
    in
    record { body_len_bound = head.short; at_in_bounds = within }
