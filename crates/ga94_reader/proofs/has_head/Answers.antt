-- `ga94_reader::has_head` meets its contract: a yes comes after all tests that `head_verdict` makes.
use native.Mathlib.Omega.{arith}
use mathlib.Core.Path.{◌∙◌, sym}
use borrow.Author.Tests.{eqb-true}
use Rattle.ga94.proofs.Heads.{head-accepted}
use Rattle.ga94_reader.proofs.has_head.Goals as goal

pub returns : goal.returns
returns c is =
    let body = c.args.body.now in
    head-accepted body c.if-body-gt-MAX_BYTES.false (omega (arith, c.if-body-lt-CONSTRUCTS.false)) (sym c.has_identifier.ensures ∙ c.if-not-has_identifier.false) (omega (arith, c.if-body-lt-CONSTRUCTS.false)) c.if-body-ne3.false
    (omega (arith, c.if-body-lt-CONSTRUCTS.false)) (eqb-true _ 0 is) (omega (arith, c.if-body-lt-CONSTRUCTS.false))
