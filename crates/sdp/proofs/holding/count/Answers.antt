use Rattle.std.proofs.Common.{◌≡◌, ◌∙◌, eqb, not, count_by, rules}
use Rattle.sdp.specs.declared.Slot.{Slot}
use Rattle.sdp.specs.Value.{descriptor}
use Rattle.sdp.proofs.Descriptors.{full-counted}
use Rattle.sdp.proofs.holding.count.Goals as goal

pub returns : goal.returns
returns c =
    let told : c.count.result ≡ count_by (λ (s : Slot). not (eqb (descriptor s) 0)) c.args.p.slots = search rules in
    told ∙ full-counted descriptor c.args.p.slots
