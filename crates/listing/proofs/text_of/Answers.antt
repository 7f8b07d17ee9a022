-- `listing::text_of` answers the text of its case: each return rewrites with the tests that led there.
use native.Mathlib.Omega.{arith}
use mathlib.Core.Path.{◌≡◌}
use mathlib.Core.Bool.{true, false}
use borrow.Author.Tests.{eq-eqb, ne_eqb, not-true, not-false}
use Rattle.listing.specs.Texts.{text_of}
use Rattle.listing.proofs.Building.{appends-first}
use Rattle.listing.proofs.text_of.Goals as goal

pub returns-then-refusal-ne0 : goal.returns-then-refusal-ne0
unfolding text_of
returns-then-refusal-ne0 c = simp (ne_eqb _ _ c.if-refusal-ne0.true) c.refused.ensures

pub returns-then-not-a : goal.returns-then-not-a
unfolding text_of
returns-then-not-a c =
    let absent : c.args.a.present ≡ false = not-true _ c.if-not-a.true in
    simp (eq-eqb _ _ c.if-refusal-ne0.false, absent)
    (appends-first c.empty.ensures c.with.ensures (omega arith))

pub returns : goal.returns
unfolding text_of
returns c =
    let present : c.args.a.present ≡ true = not-false _ c.if-not-a.false in
    simp (eq-eqb _ _ c.if-refusal-ne0.false, present) c.listed.ensures
