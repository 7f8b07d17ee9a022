-- A byte holds the flags that are let through, and no byte those that are refused.
use Rattle.std.proofs.Common.{◌∙◌, ap, sym, refl, subst, ℕ, [], Err, arith}
use Rattle.refusal.specs.declared.Reason.{Reason}
use Rattle.refusal.specs.declared.Item.{Item}
use Rattle.refusal.specs.Answers.{counted_of}
use Rattle.line21.specs.Lent.{payload_in}
use Rattle.line21.specs.Writing.{Writes}
use Rattle.line21_judge.proofs.Flags.{flags-fit, flags-wide}
use Rattle.line21_writer.proofs.plain.write_plain.Goals as goal

pub returns-in-Ok : goal.returns-in-Ok
returns-in-Ok c =
    let fit = flags-fit c.args.flags c.in-Ok.byte (sym c.judge_flags.ensures ∙ c.in-Ok.is) in
    record {
      within = λ h. subst (λ (f : ℕ). Writes (payload_in f c.args.m c.args.units.now) c.args.out.now c.write_from.result c.write_from.new.out) (sym fit.1) c.write_from.ensures;
      beyond = λ h. absurd (omega arith);
    }

pub returns-in-Err : goal.returns-in-Err
returns-in-Err c =
    let wide = flags-wide c.args.flags c.in-Err.why (sym c.judge_flags.ensures ∙ c.in-Err.is) in
    record {
      within = λ h. absurd (omega arith);
      beyond = λ h. record { counted = c.from.ensures ∙ ap (λ (why : Reason × Item). counted_of (Err why) []) (sym wide.1); left = refl };
    }
