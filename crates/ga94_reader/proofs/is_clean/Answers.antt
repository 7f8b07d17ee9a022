-- `ga94_reader::is_clean` meets its contract: a yes comes after the head, the constructs and what closes them were each vouched for.
use Prim.Native.Nat.{ℕ}
use native.Mathlib.Omega.{arith}
use mathlib.Core.Path.{◌≡◌, ◌∙◌}
use mathlib.Core.List.{List}
use Rattle.refusal.specs.Verdict.{Accepted}
use Rattle.refusal.proofs.Checks.{and_then-accepted}
use Rattle.ga94.specs.Reading.{count_in, head_verdict, constructs_verdict}
use Rattle.ga94.proofs.Contents.{Head, accepted-head}
use Rattle.ga94.proofs.Answers.{content-parts}
use Rattle.ga94_reader.proofs.is_clean.Goals as goal

pub returns : goal.returns
returns c is =
    let body_of : List ℕ = c.args.body.now in
    let vouched : head_verdict body_of ≡ Accepted = c.has_head.ensures c.if-not-has_head.false in
    let body = body_of in
    let n = count_in body in
    content-parts body
    ∙ and_then-accepted (head_verdict body) _ vouched
    (and_then-accepted (constructs_verdict n 7 body) _ (c.are_marked.ensures c.if-not-are_marked.false) (c.is_closed.ensures is))

pub bounds-body-5 : goal.bounds-body-5
bounds-body-5 c =
    let body_of : List ℕ = c.args.body.now in
    let vouched : head_verdict body_of ≡ Accepted = c.has_head.ensures c.if-not-has_head.false in
    let head : Head body_of = accepted-head body_of vouched in
    omega (arith, head.complete)

pub is_closed-requires : goal.is_closed-requires
is_closed-requires c =
    let body_of : List ℕ = c.args.body.now in
    let vouched : head_verdict body_of ≡ Accepted = c.has_head.ensures c.if-not-has_head.false in
    let head : Head body_of = accepted-head body_of vouched in
    record { body_len_bound = head.short; at_in_bounds = omega (arith, c.if-body-closing.false) }
