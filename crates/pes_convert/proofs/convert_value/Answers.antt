-- `pes_convert::convert_value` meets its contract: it writes the slots where the value is accepted.
use mathlib.Core.Path.{◌≡◌, ◌∙◌, ap, sym, subst, subst₂}
use mathlib.Core.Bool.{true≢false}
use lib.ListN.{length}
use Rattle.std.specs.Result.{is_err}
use Rattle.std.proofs.Common.{rules}
use Rattle.refusal.specs.declared.Refusal.{Refusal}
use Rattle.refusal.specs.Verdict.{Verdict}
use Rattle.refusal.specs.Verdict.{Accepted}
use Rattle.refusal.specs.Numbers.{refusal_of}
use Rattle.refusal.specs.Answers.{Wrote}
use Rattle.refusal.proofs.Acceptance.{told-accepted}
use Rattle.refusal.proofs.Outputs.{wrote_nothing}
use Rattle.sdp.specs.Value.{held}
use Rattle.pes.specs.Layout.{layout}
use Rattle.pes_convert.specs.Converting.{converted, convert_verdict, own_verdict}
use Rattle.pes_convert.proofs.Packets.{packet-decides}
use Rattle.pes_convert.proofs.convert_value.Goals.{After-from-refusal, Else-is_err}
use Rattle.pes_convert.proofs.convert_value.Goals as goal

told : (c : After-from-refusal) → c.from-refusal.result ≡ refusal_of (own_verdict (held c.args.p c.args.rows.now))
told c = c.from-refusal.ensures ∙ ap refusal_of c.judge-verdict.ensures.value

accepted : (c : Else-is_err) → own_verdict (held c.args.p c.args.rows.now) ≡ Accepted
accepted c = sym c.judge-verdict.ensures.value ∙ search rules

pub returns-then-is_err : goal.returns-then-is_err
returns-then-is_err c =
    let judged = (goal.at.returns-then-is_err c).After-from-refusal in
    let v = held c.args.p c.args.rows.now in
    let out = c.args.out.now in
    let laid = layout (converted v) in
    let refused : own_verdict v ≡ Accepted → ⊥ =
    λ e. true≢false (c.if-is_err.ensures.value ∙ ap is_err (c.judge-verdict.ensures.value ∙ e)) in
    record {
      typed = c.judge-verdict.ensures.typed;
      wrote =
          subst₂ (λ (verdict : Verdict) (r : Refusal). Wrote verdict laid out (record { refusal = r; len = 0 }) out)
          (sym (packet-decides (own_verdict v) v (length out) refused))
          (sym (told judged))
          (wrote_nothing (own_verdict v) laid out (λ e. refused (told-accepted (own_verdict v) e)));
    }

pub write_slots-requires : goal.write_slots-requires
write_slots-requires c = accepted (goal.at.write_slots-requires c).Else-is_err

pub returns : goal.returns
returns c =
    let past = (goal.at.returns c).Else-is_err in
    let v = held c.args.p c.args.rows.now in
    let out = c.args.out.now in
    record {
      typed = c.judge-verdict.ensures.typed;
      wrote =
          subst (λ (packet : Verdict). Wrote (convert_verdict packet v (length out)) (layout (converted v)) out c.write_slots.result c.write_slots.new.out)
          (sym (accepted past))
          c.write_slots.ensures;
    }
