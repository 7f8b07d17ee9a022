-- `kind::ours` meets its contract: each arm is a case of the definition.
use Rattle.std.proofs.Common.{◌∙◌, ap, sym}
use Rattle.kind.specs.declared.Kind.{Kind}
use Rattle.kind.specs.Ours.{ours}
use Rattle.kind.proofs.ours.Goals as goal

pub returns-in-Scte20 : goal.returns-in-Scte20
unfolding ours
returns-in-Scte20 c = c.typed.ensures ∙ ap (λ (k : Kind). ours k c.args.body.now) (sym c.in-Scte20.is)

pub returns-in-Ga94 : goal.returns-in-Ga94
unfolding ours
returns-in-Ga94 c = c.identified.ensures ∙ ap (λ (k : Kind). ours k c.args.body.now) (sym c.in-Ga94.is)
