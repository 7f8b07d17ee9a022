-- It stores where a count was told, since the verdict accepts there.
use Rattle.std.proofs.Common.{◌≡◌, ℕ, ◌+◌, ◌*◌, List, length, sym, ap, ◌∙◌, arith}
use mathlib.Core.Path.{subst₃}
use Rattle.refusal.specs.declared.Refusal.{Refusal}
use Rattle.refusal.specs.Verdict.{Verdict}
use Rattle.refusal.specs.Numbers.{refusal_of}
use Rattle.refusal.specs.Answers.{Wrote}
use Rattle.refusal.proofs.Outputs.{wrote-laid}
use Rattle.sdp.specs.Value.{held}
use Rattle.subtitling.specs.Layout.{layout}
use Rattle.subtitling.specs.Writing.{value_verdict}
use Rattle.subtitling.proofs.Held.{few-structures, length-layout-held}
use Rattle.subtitling_writer.proofs.write_from.Goals as goal

pub overflow_mul-result : goal.overflow_mul-result
overflow_mul-result c = omega (arith, c.in-Ok.ensures.1, few-structures c.args.p c.args.rows.now c.by_types.ensures)

pub overflow_add-result : goal.overflow_add-result
overflow_add-result c = omega (arith, c.in-Ok.ensures.1, few-structures c.args.p c.args.rows.now c.by_types.ensures)

pub returns-in-Ok : goal.returns-in-Ok
returns-in-Ok c =
    let p = c.args.p in
    let rows = c.args.rows.now in
    let out = c.args.out.now in
    let verdict = value_verdict (held p rows) (length out) in
    let right = c.in-Ok.ensures.0 in
    let long : length (layout (held p rows)) ≡ 20 + 45 * c.in-Ok.k = omega (arith, length-layout-held p rows c.by_types.ensures, c.in-Ok.ensures.1) in
    record {
      typed = c.by_types.ensures;
      wrote =
          subst₃ (λ (r : Refusal) (n : ℕ) (exit : List ℕ). Wrote verdict (layout (held p rows)) out (record { refusal = r; len = n }) exit)
          (ap refusal_of right ∙ sym c.from.ensures)
          long
          (sym c.put.ensures)
          (wrote-laid verdict (layout (held p rows)) out (ap (λ (v : Verdict). (refusal_of v).number) right));
    }
