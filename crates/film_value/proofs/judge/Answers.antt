-- `film_value::judge` meets its contract: at each return the verdicts that led there pick that check of `picture_verdict`.
use Rattle.std.proofs.Common.{rules}
use Prim.Native.Nat.{◌≤◌}
use mathlib.Core.Path.{◌≡◌, ◌∙◌, sym}
use borrow.Author.Tests.{lt-ltb, le-ltb}
use Rattle.refusal.specs.Verdict.{Verdict}
use Rattle.refusal.specs.Verdict.{Accepted}
use Rattle.refusal.specs.Checks.{and_then}
use Rattle.refusal.proofs.Checks.{and_then-last, refused-first, accepted-first}
use Rattle.scte20.specs.declared.CaptionUnit.{CaptionUnit}
use Rattle.scte20.specs.Value.{held}
use Rattle.scte20.specs.Lent.{unit_in}
use Rattle.scte20.specs.Writing.{value_verdict}
use Rattle.scte20.proofs.Holding.{value-whole}
use Rattle.film.specs.declared.Shown.{Shown}
use Rattle.film.specs.Calls.{repeat_verdict, line_verdict, picture_verdict}
use Rattle.film_value.proofs.judge.Goals as goal

-- the checks of the records
records-checked : Shown → CaptionUnit → Verdict
records-checked how u =
    and_then (repeat_verdict how.repeat_first_field 21 (held u).records) (and_then (line_verdict how.line_offset 21 (held u).records) Accepted)

pub returns-then-how-gt31 : goal.returns-then-how-gt31
unfolding picture_verdict
returns-then-how-gt31 c = simp (lt-ltb _ _ c.if-how-gt31.true)

-- the line can be set: the value's own checks come next
module _ (how : Shown) (unit : CaptionUnit) (settable : how.line_offset ≤ 31) where
  line_set : picture_verdict how unit ≡ and_then (value_verdict unit) (records-checked how unit)
  unfolding picture_verdict records-checked
  line_set = simp (le-ltb _ _ settable)

  value-passed : (value : Verdict) → value ≡ value_verdict unit → value ≡ Accepted → picture_verdict how unit ≡ records-checked how unit
  value-passed value told e = line_set ∙ accepted-first _ told e

pub returns-in_err-judge_value : goal.returns-in_err-judge_value
returns-in_err-judge_value c =
    let same : c.from_residual.result ≡ c.judge_value.result = search rules in
    refused-first _ (same ∙ c.judge_value.ensures) (same ∙ c.in_err-judge_value.was)
    ∙ sym (line_set c.args.how (unit_in c.args.v c.args.records.now) c.if-how-gt31.false)

pub returns-in_err-judge_repeat : goal.returns-in_err-judge_repeat
unfolding records-checked
returns-in_err-judge_repeat c =
    let same : c.from_residual-in_err-judge_repeat.result ≡ c.judge_repeat.result = search rules in
    refused-first _ (same ∙ c.judge_repeat.ensures) (same ∙ c.in_err-judge_repeat.was)
    ∙ sym (value-passed c.args.how (unit_in c.args.v c.args.records.now) c.if-how-gt31.false _ c.judge_value.ensures c.in_ok-judge_value.was)

pub returns : goal.returns
unfolding records-checked
returns c =
    c.judge_lines.ensures
    ∙ sym
    (value-passed c.args.how (unit_in c.args.v c.args.records.now) c.if-how-gt31.false _ c.judge_value.ensures c.in_ok-judge_value.was
    ∙ accepted-first _ c.judge_repeat.ensures c.in_ok-judge_repeat.was
    ∙ and_then-last _)

pub judge_repeat-requires : goal.judge_repeat-requires
judge_repeat-requires c =
    (value-whole (unit_in c.args.v c.args.records.now) (sym c.judge_value.ensures ∙ c.in_ok-judge_value.was)).few

pub judge_lines-requires : goal.judge_lines-requires
judge_lines-requires c =
    (value-whole (unit_in c.args.v c.args.records.now) (sym c.judge_value.ensures ∙ c.in_ok-judge_value.was)).few
