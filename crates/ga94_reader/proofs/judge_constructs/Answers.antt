-- `ga94_reader::judge_constructs` meets its contract.
use Rattle.std.proofs.Common.{◌+◌, ◌*◌, ◌∙◌, sym, refl}
use Rattle.refusal.proofs.Checks.{refused-first, accepted-first}
use Rattle.ga94.proofs.Constructs.{missing-some, missing-none, marker-accepted, marker-other}
use Rattle.ga94.proofs.Answers.{constructs-here, constructs-done}
use Rattle.ga94_reader.proofs.judge_constructs.Goals as goal

pub returns-then-body-at : goal.returns-then-body-at
returns-then-body-at c =
    let body = c.args.body.now in
    let here = c.loop-i.invariant ∙ constructs-here body c.args.n c.loop-i.i c.loop-i-test.true in
    refused-first _ (sym (missing-some (7 + 3 * c.loop-i.i) 3 body c.if-body-at.true)) refl ∙ sym here

pub returns-then-body-at-ne31 : goal.returns-then-body-at-ne31
returns-then-body-at-ne31 c =
    let body = c.args.body.now in
    let at = 7 + 3 * c.loop-i.i in
    let here = c.loop-i.invariant ∙ constructs-here body c.args.n c.loop-i.i c.loop-i-test.true in
    refused-first _ (sym (marker-other at body c.if-body-at-ne31.true)) refl ∙ sym (here ∙ accepted-first _ (sym (missing-none at 3 body c.if-body-at.false)) refl)

pub loop-i-preserved : goal.loop-i-preserved
loop-i-preserved c =
    let body = c.args.body.now in
    let at = 7 + 3 * c.loop-i.i in
    c.loop-i.invariant
    ∙ constructs-here body c.args.n c.loop-i.i c.loop-i-test.true
    ∙ accepted-first _ (sym (missing-none at 3 body c.if-body-at.false)) refl
    ∙ accepted-first _ (sym (marker-accepted at body c.if-body-at-ne31.false)) refl

pub returns : goal.returns
returns c = sym (c.loop-i.invariant ∙ constructs-done c.args.body.now c.args.n c.loop-i.i c.loop-i-test.false)
