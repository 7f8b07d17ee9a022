-- Where the verdict accepts, `answer_of` computes at it.
use Rattle.std.proofs.Common.{◌∙◌, ap, ap₂, sym, ℕ, List, length, get_or, drop, arith}
use Rattle.refusal.specs.declared.Refusal.{Refusal}
use Rattle.refusal.specs.Verdict.{Verdict}
use Rattle.refusal.specs.Numbers.{refusal_of}
use Rattle.line21.specs.declared.Head.{Head}
use Rattle.line21.specs.Reading.{unit_count, value_of, answer_of, head_of}
use Rattle.line21.proofs.Length.{WholeUnits, accepted-whole}
use Rattle.line21.proofs.Units.{length-read_units}
use Rattle.line21.proofs.reading.read_head.Goals as goal
use Rattle.line21.proofs.reading.read_head.Goals.{In-Ok}

made : ℕ → Refusal → ℕ → Head
made flags refusal m = record { refusal = refusal; flags = flags; m = m }

answered : List ℕ → Verdict → Head
answered s verdict = head_of (answer_of verdict (value_of s))

whole : (c : In-Ok) → WholeUnits (length c.args.s.now)
whole c = accepted-whole (length c.args.s.now) (sym c.judge_length-verdict.ensures ∙ c.in-Ok.is)

pub bounds-s-0 : goal.bounds-s-0
bounds-s-0 c = omega (arith, (whole (goal.at.bounds-s-0 c).In-Ok).exact)

pub overflow_sub-result : goal.overflow_sub-result
overflow_sub-result c = omega (arith, (whole (goal.at.overflow_sub-result c).In-Ok).exact)

pub returns-in-Ok : goal.returns-in-Ok
unfolding made answered
returns-in-Ok c =
    let s = c.args.s.now in
    let told = c.in-Ok.is in
    ap₂ (made (get_or s 0 0)) (c.from-refusal.ensures ∙ ap refusal_of told) (sym (length-read_units (unit_count (length s)) (drop 1 s)))
    ∙ ap (answered s) (sym told ∙ c.judge_length-verdict.ensures)
