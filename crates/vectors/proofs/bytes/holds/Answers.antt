-- `vectors::holds` tells by two comparisons, of the front and of what is behind it. Assumes nothing.
use Rattle.std.proofs.Common.{rules, ◌-◌, length, take, drop, sym, ◌∙◌, arith}
use Rattle.std.proofs.lemmas.Bool.Decides.{Decides-eqb}
use Rattle.std.proofs.lemmas.Slice.Eq.{slice_eq-Decides}
use lib.ListN.{length-drop}
use lib.Seq.{take_all}
use Rattle.vectors.proofs.bytes.holds.Goals as goal

pub returns-then-eq : goal.returns-then-eq
returns-then-eq c =
    let k = length c.args.expected.now in
    let a = c.args.after.now in
    let b = c.args.before.now in
    let whole-a = take_all (length a - k) (drop k a) (omega (arith, length-drop k a)) in
    let whole-b = take_all (length b - k) (drop k b) (omega (arith, length-drop k b)) in
    let behind = slice_eq-Decides Decides-eqb (take (length a - k) (drop k a)) (take (length b - k) (drop k b)) _ c.eq-then-eq.ensures in
    (λ h. (search rules, search rules, sym whole-a ∙ behind.0 h ∙ whole-b), λ p. behind.1 (whole-a ∙ p.2 ∙ sym whole-b))
