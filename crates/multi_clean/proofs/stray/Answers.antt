-- `multi_clean::stray` meets its contract.
use Rattle.std.proofs.Common.{◌≡◌, ◌+◌, ◌/◌, sym, ap, ◌∙◌, arith, eq-eqb, ne_eqb}
use Rattle.anc.specs.Words.{parity_of, byte_of}
use Rattle.anc.proofs.Words.{parity-low}
use Rattle.multi.specs.Inside.{mark, stray}
use Rattle.multi_clean.proofs.stray.Goals as goal

-- b15 to b8 and a bit fit 16 bits
pub overflow_add-w : goal.overflow_add-w
overflow_add-w c = let w = c.args.w in omega (arith, c.parity.ensures, parity-low (byte_of w))

pub returns-then-w-parity-eq2 : goal.returns-then-w-parity-eq2
unfolding stray
returns-then-w-parity-eq2 c =
    let w = c.args.w in
    let two : w / 256 + parity_of (byte_of w) ≡ 2 = omega (arith, c.if-w-parity-eq2.true, c.parity.ensures) in
    sym (ap mark (eq-eqb (w / 256 + parity_of (byte_of w)) 2 two))

pub returns : goal.returns
unfolding stray
returns c =
    let w = c.args.w in
    sym (ap mark (ne_eqb (w / 256 + parity_of (byte_of w)) 2 (λ e. c.if-w-parity-eq2.false (ap (λ k. w / 256 + k) c.parity.ensures ∙ e))))
