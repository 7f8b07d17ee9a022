-- `picture::area::nothing` meets its contract: beside a refusal, and where there is no unit, all is zero.
use mathlib.Core.Path.{◌∙◌, ap₂}
use mathlib.Core.Bool.{false}
use Rattle.refusal.specs.declared.Refusal.{Refusal}
use Rattle.kind.specs.declared.Kind.{Kind}
use Rattle.picture.specs.Kinds.{Numbers}
use Rattle.picture.specs.Lent.{Head}
use Rattle.picture.proofs.Lending.{nothing-head}
use Rattle.picture.proofs.area.nothing.Goals as goal

made : (k : Kind) → Refusal → Numbers k → Head k
made k refusal numbers = record { refusal = refusal; present = false; numbers = numbers }

pub returns : goal.returns
unfolding made
returns g c =
    let k = g.C.Content.KIND in
    ap₂ (made k) c.from.ensures c.zeros.ensures ∙ nothing-head k c.args.verdict
