-- `vectors::field` answers the field of the index. Assumes nothing.
use Rattle.std.proofs.Common.{rules, ◌≡◌, refl, List, ℕ, [], get_or, ap, sym, ◌∙◌, eqb, Option, Some, None, Bor}
use Rattle.std.specs.Option.{option_map, unwrap_or}
use Rattle.std.proofs.lemmas.Option.{unwrap_or-slice_get}
use Rattle.std.proofs.lemmas.Iterator.Consumers.{nth_from_yields_List}
use Rattle.std.proofs.lemmas.Iterator.Splits.{YieldsList-from_slice_split}
use borrow.Author.Tests.{tests}
use Rattle.vectors.proofs.Spaces.{fields-split}
use Rattle.vectors.proofs.line.field.Goals as goal

behind : (r : Option (Bor (List ℕ))) (d : Bor (List ℕ)) → (unwrap_or r d).now ≡ unwrap_or (option_map (λ x. x.now) r) d.now
behind None d = refl
behind (Some x) d = refl

pub returns : goal.returns
returns c =
    let k = c.args.k in
    let s = c.args.s.now in
    let there =
    nth_from_yields_List _ _ k c.nth.ensures.ran
    (YieldsList-from_slice_split _ (λ b. eqb b 32) s c.split.ensures.rest c.split.ensures.done c.split.ensures.closure (λ x b q k. search (rules, tests))) in
    ap (λ (x : Bor (List ℕ)). x.now) c.unwrap_or.ensures
    ∙ behind c.nth.result _
    ∙ ap (λ (o : Option (List ℕ)). unwrap_or o []) there
    ∙ unwrap_or-slice_get _ k []
    ∙ ap (λ (fs : List (List ℕ)). get_or fs k []) (sym (fields-split s))
