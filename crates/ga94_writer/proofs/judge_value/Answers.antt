-- `ga94_writer::judge_value` meets its contract. The loop's invariant: i records are accepted, and those from i on decide.
use Prim.Native.Nat.{ℕ, ◌+◌, ◌*◌, ◌≤◌, ◌<◌}
use native.Mathlib.Omega.{arith}
use mathlib.Core.Path.{◌≡◌, ◌∙◌, ap, sym, refl}
use mathlib.Core.List.{List, [], ◌∷◌}
use borrow.Author.Tests.{ne_eqb}
use lib.ListN.{length, drop, get_or}
use lib.Seq.{get_or-take}
use Rattle.refusal.specs.Verdict.{Verdict}
use Rattle.refusal.specs.Verdict.{Refused}
use Rattle.refusal.specs.declared.Reason.TheVariants.{AdditionalData}
use Rattle.refusal.specs.declared.Item.TheVariants.{Whole}
use Rattle.std.proofs.lemmas.Result.{err_from_is_err_and}
use Rattle.refusal.specs.Checks.{and_then, first}
use Rattle.refusal.proofs.Checks.{refused-first, accepted-first, and_then-last}
use Rattle.ga94.specs.declared.Record.{Record}
use Rattle.ga94.specs.declared.Numbers.{Numbers}
use Rattle.ga94.specs.Value.{CaptionUnit, blank, held}
use Rattle.ga94.specs.Lent.{unit_in}
use Rattle.ga94.specs.Writing.{whole_verdict, flag_verdict, range_verdict, records_verdict, value_verdict}
use Rattle.ga94.proofs.Lending.{lent_length}
use Rattle.ga94.proofs.Holding.{accepted-whole, flag-accepted, length-held}
use Rattle.ga94.proofs.Judged.{records-here, records-done}
use Rattle.ga94_writer.proofs.judge_value.Goals as goal

-- the checks of the whole value do not look at the records
whole-only : (v : Numbers) (s : List ℕ) → whole_verdict (unit_in v []) ≡ whole_verdict (unit_in v s)
unfolding whole_verdict
whole-only v s = refl

-- the third flag is set
flag-set : (u : CaptionUnit) → (u.additional_data_flag ≡ 0 → ⊥) → flag_verdict u ≡ Refused AdditionalData Whole
unfolding flag_verdict
flag-set u h = simp (ne_eqb u.additional_data_flag 0 h)

pub returns-in_err-judge_whole : goal.returns-in_err-judge_whole
unfolding value_verdict
returns-in_err-judge_whole c =
    let unit_of : CaptionUnit = unit_in c.args.v c.args.records.now in
    let whole-told : c.judge_whole.result ≡ whole_verdict unit_of = c.judge_whole.ensures ∙ whole-only c.args.v c.args.records.now in
    let p = err_from_is_err_and c.from_residual.result c.from_residual.ensures.1 in
    rw (p.1, p.2) (sym c.in_err-judge_whole.was ∙ refused-first _ whole-told c.in_err-judge_whole.was)

pub returns-then-v-ne0 : goal.returns-then-v-ne0
unfolding value_verdict
returns-then-v-ne0 c =
    let unit_of : CaptionUnit = unit_in c.args.v c.args.records.now in
    let whole-told : c.judge_whole.result ≡ whole_verdict unit_of = c.judge_whole.ensures ∙ whole-only c.args.v c.args.records.now in
    let unit : CaptionUnit = unit_of in
    let behind : value_verdict unit ≡ and_then (flag_verdict unit) (records_verdict 56 (held unit).records) =
    accepted-first (first (flag_verdict unit ∷ records_verdict 56 (held unit).records ∷ [])) whole-told c.in_ok-judge_whole.was
    ∙ ap (λ (v : Verdict). and_then (flag_verdict unit) v) (and_then-last (records_verdict 56 (held unit).records))
    in
    refused-first _ (sym (flag-set unit c.if-v-ne0.true)) refl ∙ sym behind

-- a yes of the quick look vouches for the records
pub returns-then-are_in_range : goal.returns-then-are_in_range
unfolding value_verdict
returns-then-are_in_range c =
    let unit_of : CaptionUnit = unit_in c.args.v c.args.records.now in
    let whole-told : c.judge_whole.result ≡ whole_verdict unit_of = c.judge_whole.ensures ∙ whole-only c.args.v c.args.records.now in
    let unit : CaptionUnit = unit_of in
    let behind : value_verdict unit ≡ and_then (flag_verdict unit) (records_verdict 56 (held unit).records) =
    accepted-first (first (flag_verdict unit ∷ records_verdict 56 (held unit).records ∷ [])) whole-told c.in_ok-judge_whole.was
    ∙ ap (λ (v : Verdict). and_then (flag_verdict unit) v) (and_then-last (records_verdict 56 (held unit).records))
    in
    sym (behind ∙ accepted-first _ (sym (flag-accepted unit c.if-v-ne0.false)) refl ∙ c.are_in_range.ensures c.if-are_in_range.true)

pub returns-in_err-judge_range : goal.returns-in_err-judge_range
unfolding value_verdict
returns-in_err-judge_range c =
    let unit_of : CaptionUnit = unit_in c.args.v c.args.records.now in
    let whole-told : c.judge_whole.result ≡ whole_verdict unit_of = c.judge_whole.ensures ∙ whole-only c.args.v c.args.records.now in
    let unit : CaptionUnit = unit_of in
    let few : unit.n ≤ 31 = (accepted-whole unit (sym whole-told ∙ c.in_ok-judge_whole.was)).few in
    let behind : value_verdict unit ≡ and_then (flag_verdict unit) (records_verdict 56 (held unit).records) =
    accepted-first (first (flag_verdict unit ∷ records_verdict 56 (held unit).records ∷ [])) whole-told c.in_ok-judge_whole.was
    ∙ ap (λ (v : Verdict). and_then (flag_verdict unit) v) (and_then-last (records_verdict 56 (held unit).records))
    in
    let rs : List Record = (held unit).records in
    let counted : length rs ≡ unit.n = length-held unit (lent_length c.args.records.now) few in
    let told : value_verdict unit ≡ records_verdict (56 + 24 * c.loop-i.i) (drop c.loop-i.i rs) = behind ∙ accepted-first _ (sym (flag-accepted unit c.if-v-ne0.false)) refl ∙ c.loop-i.invariant in
    let i : ℕ = c.loop-i.i in
    let inside : i < length rs = omega (arith, counted, c.loop-i-test.true) in
    let record-held : get_or rs i blank ≡ c.record_in.result = get_or-take unit.n unit.records i blank c.loop-i-test.true ∙ sym c.record_in.ensures in
    let here : records_verdict (56 + 24 * i) (drop i rs)
    ≡ and_then (range_verdict (56 + 24 * i) c.record_in.result) (records_verdict (56 + 24 * (i + 1)) (drop (i + 1) rs)) = records-here rs i c.record_in.result inside record-held in
    let p = err_from_is_err_and c.from_residual-in_err-judge_range.result c.from_residual-in_err-judge_range.ensures.1 in
    rw (p.1, p.2) (sym c.in_err-judge_range.was ∙ refused-first _ c.judge_range.ensures c.in_err-judge_range.was ∙ sym (told ∙ here))

pub loop-i-preserved : goal.loop-i-preserved
loop-i-preserved c =
    let unit_of : CaptionUnit = unit_in c.args.v c.args.records.now in
    let whole-told : c.judge_whole.result ≡ whole_verdict unit_of = c.judge_whole.ensures ∙ whole-only c.args.v c.args.records.now in
    let unit : CaptionUnit = unit_of in
    let few : unit.n ≤ 31 = (accepted-whole unit (sym whole-told ∙ c.in_ok-judge_whole.was)).few in
    let rs : List Record = (held unit).records in
    let counted : length rs ≡ unit.n = length-held unit (lent_length c.args.records.now) few in
    let i : ℕ = c.loop-i.i in
    let inside : i < length rs = omega (arith, counted, c.loop-i-test.true) in
    let record-held : get_or rs i blank ≡ c.record_in.result = get_or-take unit.n unit.records i blank c.loop-i-test.true ∙ sym c.record_in.ensures in
    let here : records_verdict (56 + 24 * i) (drop i rs)
    ≡ and_then (range_verdict (56 + 24 * i) c.record_in.result) (records_verdict (56 + 24 * (i + 1)) (drop (i + 1) rs)) = records-here rs i c.record_in.result inside record-held in
    c.loop-i.invariant ∙ here ∙ accepted-first _ c.judge_range.ensures c.in_ok-judge_range.was

pub returns : goal.returns
unfolding value_verdict
returns c =
    let unit_of : CaptionUnit = unit_in c.args.v c.args.records.now in
    let whole-told : c.judge_whole.result ≡ whole_verdict unit_of = c.judge_whole.ensures ∙ whole-only c.args.v c.args.records.now in
    let unit : CaptionUnit = unit_of in
    let few : unit.n ≤ 31 = (accepted-whole unit (sym whole-told ∙ c.in_ok-judge_whole.was)).few in
    let behind : value_verdict unit ≡ and_then (flag_verdict unit) (records_verdict 56 (held unit).records) =
    accepted-first (first (flag_verdict unit ∷ records_verdict 56 (held unit).records ∷ [])) whole-told c.in_ok-judge_whole.was
    ∙ ap (λ (v : Verdict). and_then (flag_verdict unit) v) (and_then-last (records_verdict 56 (held unit).records))
    in
    let rs : List Record = (held unit).records in
    let counted : length rs ≡ unit.n = length-held unit (lent_length c.args.records.now) few in
    let told : value_verdict unit ≡ records_verdict (56 + 24 * c.loop-i.i) (drop c.loop-i.i rs) = behind ∙ accepted-first _ (sym (flag-accepted unit c.if-v-ne0.false)) refl ∙ c.loop-i.invariant in
    sym (told ∙ records-done rs c.loop-i.i (omega (arith, counted, c.loop-i-test.false)))

pub are_in_range-requires : goal.are_in_range-requires
are_in_range-requires c =
    let unit_of : CaptionUnit = unit_in c.args.v c.args.records.now in
    let whole-told : c.judge_whole.result ≡ whole_verdict unit_of = c.judge_whole.ensures ∙ whole-only c.args.v c.args.records.now in
    let unit : CaptionUnit = unit_of in
    let few : unit.n ≤ 31 = (accepted-whole unit (sym whole-told ∙ c.in_ok-judge_whole.was)).few in
    few

pub overflow_mul-i : goal.overflow_mul-i
overflow_mul-i c =
    let unit_of : CaptionUnit = unit_in c.args.v c.args.records.now in
    let whole-told : c.judge_whole.result ≡ whole_verdict unit_of = c.judge_whole.ensures ∙ whole-only c.args.v c.args.records.now in
    let unit : CaptionUnit = unit_of in
    let few : unit.n ≤ 31 = (accepted-whole unit (sym whole-told ∙ c.in_ok-judge_whole.was)).few in
    let i : ℕ = c.loop-i.i in
    let below : i < 31 = omega (arith, few, c.loop-i-test.true) in
    omega (arith, below)

pub overflow_add-i : goal.overflow_add-i
overflow_add-i c =
    let unit_of : CaptionUnit = unit_in c.args.v c.args.records.now in
    let whole-told : c.judge_whole.result ≡ whole_verdict unit_of = c.judge_whole.ensures ∙ whole-only c.args.v c.args.records.now in
    let unit : CaptionUnit = unit_of in
    let few : unit.n ≤ 31 = (accepted-whole unit (sym whole-told ∙ c.in_ok-judge_whole.was)).few in
    let i : ℕ = c.loop-i.i in
    let below : i < 31 = omega (arith, few, c.loop-i-test.true) in
    omega (arith, below)

pub judge_range-requires : goal.judge_range-requires
judge_range-requires c =
    let unit_of : CaptionUnit = unit_in c.args.v c.args.records.now in
    let whole-told : c.judge_whole.result ≡ whole_verdict unit_of = c.judge_whole.ensures ∙ whole-only c.args.v c.args.records.now in
    let unit : CaptionUnit = unit_of in
    let few : unit.n ≤ 31 = (accepted-whole unit (sym whole-told ∙ c.in_ok-judge_whole.was)).few in
    let i : ℕ = c.loop-i.i in
    let below : i < 31 = omega (arith, few, c.loop-i-test.true) in
    omega (arith, below)
