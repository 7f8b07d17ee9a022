-- `vectors::fields` answers how many fields the line has. Assumes nothing.
use Rattle.std.proofs.Common.{rules, List, ℕ, length, ap, sym, ◌∙◌, eqb}
use borrow.Author.Tests.{tests}
use Rattle.std.proofs.lemmas.Iterator.Consumers.{count_from_yields_List}
use Rattle.std.proofs.lemmas.Iterator.Splits.{YieldsList-from_slice_split}
use Rattle.vectors.proofs.Spaces.{fields-split}
use Rattle.vectors.proofs.line.fields.Goals as goal

pub returns : goal.returns
returns c =
    count_from_yields_List _ _ c.count.ensures.ran
    (YieldsList-from_slice_split _ (λ b. eqb b 32) c.args.s.now c.split.ensures.rest c.split.ensures.done c.split.ensures.closure (λ x b q k. search (rules, tests)))
    ∙ sym (ap (λ (fs : List (List ℕ)). length fs) (fields-split c.args.s.now))
