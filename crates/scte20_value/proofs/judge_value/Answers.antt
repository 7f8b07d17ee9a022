-- `scte20_value::judge_value` meets its contract. The loop's invariant: i records are judged and accepted, and `last` is what counts of them.
use Prim.Native.Nat.{ℕ, ◌+◌, ◌*◌, ◌≤◌, ◌<◌}
use native.Mathlib.Omega.{arith}
use mathlib.Core.Path.{◌≡◌, ◌∙◌, sym, subst, refl}
use mathlib.Core.List.{List, [], ◌∷◌}
use borrow.Author.Rules.{rules}
use lib.ListN.{length, drop, get_or}
use lib.Seq.{get_or-take}
use Rattle.refusal.specs.Verdict.{Accepted}
use Rattle.refusal.specs.Checks.{and_then}
use Rattle.refusal.proofs.Checks.{refused-first, accepted-first}
use Rattle.scte20.specs.declared.Last.{Last}
use Rattle.scte20.specs.declared.Numbers.{Numbers}
use Rattle.scte20.specs.Value.{blank, held}
use Rattle.scte20.specs.Lent.{unit_in}
use Rattle.scte20.specs.Inside.{last_verdict}
use Rattle.scte20.specs.Writing.{whole_verdict, range_verdict, records_verdict, value_verdict}
use Rattle.scte20.proofs.Lending.{lent_length}
use Rattle.scte20.proofs.Holding.{accepted-whole, length-held}
use Rattle.scte20.proofs.Judged.{Judging, judging-first, records-here, judging-next, judging-accepted}
use Rattle.scte20_value.proofs.judge_value.Goals.{After-record_in-record}
use Rattle.scte20_value.proofs.judge_value.Goals as goal

-- the checks of the whole value do not look at the records
whole-told : (v : Numbers) (s : List ℕ) → whole_verdict (unit_in v []) ≡ whole_verdict (unit_in v s)
unfolding whole_verdict
whole-told v s = refl

pub returns-in_err-judge_whole : goal.returns-in_err-judge_whole
unfolding value_verdict
returns-in_err-judge_whole c =
    let same : c.from_residual.result ≡ c.judge_whole.result = search rules in
    refused-first _ (same ∙ c.judge_whole.ensures ∙ whole-told c.args.v c.args.records.now) (same ∙ c.in_err-judge_whole.was)

-- a turn of the loop, and what is behind it: the checks of the whole value are past
module _ (v : Numbers) (s : List ℕ) (accepted : whole_verdict (unit_in v []) ≡ Accepted) where
  few : v.n ≤ 31
  few = (accepted-whole (unit_in v s) (sym (whole-told v s) ∙ accepted)).few

  length-records : length (held (unit_in v s)).records ≡ v.n
  length-records = length-held (unit_in v s) (lent_length s) few

  -- those of the records decide
  told : value_verdict (unit_in v s) ≡ records_verdict [] 21 (held (unit_in v s)).records
  unfolding value_verdict
  told = accepted-first _ (whole-told v s) accepted

-- the record that is judged is the same among those that are held, and this is left to judge
module _ (c : After-record_in-record) (accepted : whole_verdict (unit_in c.args.v []) ≡ Accepted) where
  inside : c.loop-i.i < length (held (unit_in c.args.v c.args.records.now)).records
  inside = omega (arith, length-records c.args.v c.args.records.now accepted, c.loop-i-test.true)

  record-held : get_or (held (unit_in c.args.v c.args.records.now)).records c.loop-i.i blank ≡ c.record_in-record.result
  record-held = get_or-take c.args.v.n (unit_in c.args.v c.args.records.now).records c.loop-i.i blank c.loop-i-test.true ∙ sym c.record_in-record.ensures

  here :
      let unit = unit_in c.args.v c.args.records.now in
      let i = c.loop-i.i in
      let at = 21 + 26 * i in
      let r = c.record_in-record.result in
      value_verdict unit
      ≡ and_then (range_verdict at r)
      (and_then (last_verdict at c.loop-i.last r)
      (and_then (records_verdict (r ∷ c.loop-i.invariant.judging.before) (at + 26) (drop (i + 1) (held unit).records)) Accepted))
  here =
      let unit = unit_in c.args.v c.args.records.now in
      told c.args.v c.args.records.now accepted
      ∙ records-here (held unit).records c.loop-i.last c.loop-i.i c.record_in-record.result c.loop-i.invariant.judging inside record-held

pub loop-i-init : goal.loop-i-init
loop-i-init c =
    let rs = (held (unit_in c.args.v c.args.records.now)).records in
    record {
      few = few c.args.v c.args.records.now (sym c.judge_whole.ensures ∙ c.in_ok-judge_whole.was);
      judging = subst (λ (last : Last). Judging rs last 0) (sym c.none_yet-last.ensures) (judging-first rs);
    }

pub returns-in_err-judge_range : goal.returns-in_err-judge_range
returns-in_err-judge_range c =
    let same : c.from_residual-in_err-judge_range.result ≡ c.judge_range.result = search rules in
    let whole = sym c.judge_whole.ensures ∙ c.in_ok-judge_whole.was in
    refused-first _ (same ∙ c.judge_range.ensures) (same ∙ c.in_err-judge_range.was)
    ∙ sym (here (goal.at.returns-in_err-judge_range c).After-record_in-record whole)

pub returns-in_err-judge_record : goal.returns-in_err-judge_record
returns-in_err-judge_record c =
    let same : c.from_residual-in_err-judge_record.result ≡ c.judge_record.result = search rules in
    let whole = sym c.judge_whole.ensures ∙ c.in_ok-judge_whole.was in
    refused-first _ (same ∙ c.judge_record.ensures) (same ∙ c.in_err-judge_record.was)
    ∙ sym (here (goal.at.returns-in_err-judge_record c).After-record_in-record whole ∙ accepted-first _ c.judge_range.ensures c.in_ok-judge_range.was)

pub loop-i-preserved : goal.loop-i-preserved
loop-i-preserved c =
    let turn = (goal.at.loop-i-preserved c).After-record_in-record in
    let whole = sym c.judge_whole.ensures ∙ c.in_ok-judge_whole.was in
    let rs = (held (unit_in c.args.v c.args.records.now)).records in
    let holds = sym c.judge_range.ensures ∙ c.in_ok-judge_range.was in
    let legal = sym c.judge_record.ensures ∙ c.in_ok-judge_record.was in
    record {
      few = c.loop-i.invariant.few;
      judging =
          subst (λ (last : Last). Judging rs last (c.loop-i.i + 1)) (sym c.after-last.ensures)
          (judging-next rs c.loop-i.last c.loop-i.i c.record_in-record.result c.loop-i.invariant.judging (inside turn whole) (record-held turn whole) holds legal);
    }

pub returns : goal.returns
returns c =
    let v = c.args.v in
    let s = c.args.records.now in
    let whole = sym c.judge_whole.ensures ∙ c.in_ok-judge_whole.was in
    let rs = (held (unit_in v s)).records in
    let over : length rs ≤ c.loop-i.i = omega (arith, length-records v s whole) in
    sym (told v s whole ∙ judging-accepted rs c.loop-i.last c.loop-i.i c.loop-i.invariant.judging over)
