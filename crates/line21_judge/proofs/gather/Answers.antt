-- `line21_judge::gather` meets its contract: an OR is clear exactly where both numbers are, and a unit's word where the unit is let through.
use Rattle.std.proofs.Common.{◌≡◌, ◌∙◌, ℕ, ◌↔◌, bit_or, subst, sym, arith}
use Rattle.refusal.specs.Verdict.{Accepted}
use Rattle.line21.specs.Writing.{unit_verdict}
use Rattle.line21_judge.specs.Seen.{Clear}
use Rattle.line21_judge.proofs.Seen.{clear_or, clear-word, word_of}
use Rattle.line21_judge.proofs.gather.Goals as goal

pub returns : goal.returns
returns c =
    let seen = c.args.seen in
    let word : c.from_le_bytes.result ≡ word_of c.args.u = c.from_le_bytes.ensures ∙ omega arith in
    let both = clear_or seen (word_of c.args.u) in
    let here = clear-word c.args.u (omega arith) (omega arith) (omega arith) in
    subst (λ (w : ℕ). Clear (bit_or seen w) ↔ (Clear seen × (unit_verdict c.args.u ≡ Accepted))) (sym word) (
      λ h. let parts = both.0 h in (parts.0, here.0 parts.1),
      λ h. both.1 (h.0, here.1 h.1),
    )
