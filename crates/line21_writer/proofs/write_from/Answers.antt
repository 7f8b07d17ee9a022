-- It stores where the verdict accepts.
use Rattle.std.proofs.Common.{◌≡◌, ◌∙◌, sym, ℕ, ◌<◌, List, length, arith}
use Rattle.lists.proofs.Each.{each-of}
use Rattle.line21.specs.declared.Payload.{Payload}
use Rattle.line21.specs.Value.{Typed, held}
use Rattle.line21.specs.Layout.{layout}
use Rattle.line21.specs.Writing.{value_verdict}
use Rattle.line21.specs.Lent.{access_units_in, payload_in}
use Rattle.line21.proofs.Numbers.{accepted-value}
use Rattle.line21.proofs.LentUnits.{typed-in, verdict-flags}
use Rattle.line21_judge.proofs.Lent.{lent-array}
use Rattle.line21_writer.proofs.Outcomes.{wrote-refused, wrote-all}
use Rattle.line21_writer.proofs.write_from.Goals.{After-judge_value}
use Rattle.line21_writer.proofs.write_from.Goals as goal

module _ (c : After-judge_value) where
  abbrev p : Payload
  p = payload_in c.args.flags c.args.m c.args.units.now

  abbrev out : List ℕ
  out = c.args.out.now

  told : value_verdict p (length out) ≡ c.judge_value.result
  told = sym (c.judge_value.ensures ∙ lent-array _ _ _ c.told-units ∙ sym (verdict-flags c.args.flags c.args.m (length out) (access_units_in c.args.units.now)))

  types : Typed p
  types = typed-in c.args.flags c.args.m c.args.units.now (omega (arith, c.ranges.flags)) (each-of (λ (b : ℕ). b < 256) 0 c.args.units.now (λ i h. c.fits-units i))

pub returns-in-Err : goal.returns-in-Err
returns-in-Err c =
    let at = (goal.at.returns-in-Err c).After-judge_value in
    record { typed = types at; wrote = wrote-refused _ (layout (held (p at))) (out at) _ c.in-Err.why (told at ∙ c.in-Err.is) c.from.ensures }

pub write_judged-len-requires-clause-out_value : goal.write_judged-len-requires-clause-out_value
write_judged-len-requires-clause-out_value c = told (goal.at.write_judged-len-requires-clause-out_value c).After-judge_value ∙ c.in_default.is

pub write_judged-len-requires-clause-m_in_bounds : goal.write_judged-len-requires-clause-m_in_bounds
write_judged-len-requires-clause-m_in_bounds c =
    let at = (goal.at.write_judged-len-requires-clause-m_in_bounds c).After-judge_value in
    omega (arith, c.told-units, (accepted-value (p at) (length (out at)) (told at ∙ c.in_default.is)).few)

pub returns : goal.returns
returns c =
    let at = (goal.at.returns c).After-judge_value in
    record {
      typed = types at;
      wrote =
          wrote-all _ (layout (held (p at))) (out at) _ c.write_judged-len.result _ (told at ∙ c.in_default.is) c.from-2.ensures c.write_judged-len.ensures.value c.write_judged-len.ensures.out_after;
    }
