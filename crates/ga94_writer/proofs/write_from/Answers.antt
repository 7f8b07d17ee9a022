-- `ga94_writer::write_from` meets its contract: the value's checks refuse, else those of the result do, else the body is stored in its place.
use Rattle.std.specs.Prelude.{Ok, Err}
use Rattle.std.proofs.lemmas.Result.{err_from_is_err_and}
use Prim.Native.Nat.{ℕ, ◌+◌, ◌-◌, ◌*◌, ◌≤◌, ◌<◌}
use native.Mathlib.Omega.{arith}
use mathlib.Core.Path.{◌≡◌, ◌∙◌, ap, sym}
use mathlib.Core.List.{List}
use borrow.Rule.Slice.PartMut.{put_mid}
use lib.ListN.{length, take, drop, length-drop}
use lib.Seq.{length-take-le}
use Rattle.lists.specs.Room.{over_at}
use Rattle.lists.proofs.Lay.{laid-part}
use Rattle.refusal.specs.declared.Reason.{Reason}
use Rattle.refusal.specs.declared.Item.{Item}
use Rattle.lists.proofs.Each.{each-of}
use Rattle.refusal.specs.Verdict.{Verdict}
use Rattle.refusal.specs.Verdict.{Accepted}
use Rattle.refusal.specs.Checks.{fit_verdict}
use Rattle.refusal.specs.Answers.{Judged, laid_of, body_left}
use Rattle.refusal.proofs.Checks.{refused-first, accepted-first, accepted-fit}
use Rattle.ga94.specs.Value.{CaptionUnit, held, Typed}
use Rattle.ga94.specs.Lent.{unit_in}
use Rattle.ga94.specs.Layout.{layout}
use Rattle.ga94.specs.Writing.{value_verdict, body_verdict, Writes}
use Rattle.ga94.proofs.Lending.{lent-typed}
use Rattle.ga94.proofs.Holding.{Whole, value-whole, length-layout-held}
use Rattle.ga94_writer.proofs.write_from.Goals as goal

-- what each verdict answers
module _ (u : CaptionUnit) (before after : ℕ) (out : List ℕ) (known : Typed u) where
  refuses : (why : Reason × Item) (r : Judged ℕ) → r ≡ Err why → body_verdict u before after (length out) ≡ Err why → Writes u before after out r out
  refuses (reason, item) r told body =
      record {
        typed = known;
        counted = told ∙ ap (λ (v : Verdict). laid_of v (layout (held u))) (sym body);
        left = ap (λ (v : Verdict). body_left v before (layout (held u)) out) (sym body);
      }

  writes : (n : ℕ) → n ≡ length (layout (held u)) → (exit : List ℕ) → exit ≡ over_at before (layout (held u)) out → body_verdict u before after (length out) ≡ Accepted
      → Writes u before after out (Ok n) exit
  writes n long exit laid body =
      record {
        typed = known;
        counted = ap Ok long ∙ ap (λ (v : Verdict). laid_of v (layout (held u))) (sym body);
        left = laid ∙ ap (λ (v : Verdict). body_left v before (layout (held u)) out) (sym body);
      }

pub returns-in_err-judge_value : goal.returns-in_err-judge_value
returns-in_err-judge_value c =
    let unit : CaptionUnit = unit_in c.args.v c.args.records.now in
    let known : Typed unit = lent-typed c.args.v c.args.records.now (each-of (λ (b : ℕ). b < 256) 0 c.args.records.now (λ i h. omega (arith, c.fits-records i))) c.told-records in
    let args = c.args in
    let value = c.judge_value in
    let p = err_from_is_err_and c.from_residual.result c.from_residual.ensures.1 in
    let fit = fit_verdict 16384 (args.before + length (layout (held unit)) + args.after) (length args.out.now) in
    refuses unit args.before args.after args.out.now known _ _ (p.1 ∙ ap Err p.2)
    (sym (refused-first fit value.ensures c.in_err-judge_value.was) ∙ c.in_err-judge_value.was)

pub returns-in_err-judge_fit : goal.returns-in_err-judge_fit
returns-in_err-judge_fit c =
    let unit : CaptionUnit = unit_in c.args.v c.args.records.now in
    let known : Typed unit = lent-typed c.args.v c.args.records.now (each-of (λ (b : ℕ). b < 256) 0 c.args.records.now (λ i h. omega (arith, c.fits-records i))) c.told-records in
    let accepted : value_verdict unit ≡ Accepted = sym c.judge_value.ensures ∙ c.in_ok-judge_value.was in
    let whole : Whole unit = value-whole unit accepted in
    let len : ℕ = 7 + 3 * unit.n + 1 + unit.z in
    let counted : len ≡ length (layout (held unit)) =
    omega (arith, length-layout-held unit known.places whole.few)
    in
    let before : ℕ = c.args.before in
    let after : ℕ = c.args.after in
    let out : List ℕ = c.args.out.now in
    let body : List ℕ = layout (held unit) in
    let judged : c.judge_fit.result ≡ body_verdict unit before after (length out) =
    let fit = fit_verdict 16384 (before + length body + after) (length out) in
    c.judge_fit.ensures
    ∙ ap (λ (n : ℕ). fit_verdict 16384 (before + n + after) (length out)) counted
    ∙ sym (accepted-first fit c.judge_value.ensures c.in_ok-judge_value.was)
    in
    let p = err_from_is_err_and c.from_residual-in_err-judge_fit.result c.from_residual-in_err-judge_fit.ensures.1 in
    refuses unit before after out known _ _ (p.1 ∙ ap Err p.2) (sym judged ∙ c.in_err-judge_fit.was)

pub put-requires : goal.put-requires
put-requires c =
    let unit : CaptionUnit = unit_in c.args.v c.args.records.now in
    let known : Typed unit = lent-typed c.args.v c.args.records.now (each-of (λ (b : ℕ). b < 256) 0 c.args.records.now (λ i h. omega (arith, c.fits-records i))) c.told-records in
    let accepted : value_verdict unit ≡ Accepted = sym c.judge_value.ensures ∙ c.in_ok-judge_value.was in
    let whole : Whole unit = value-whole unit accepted in
    let len : ℕ = 7 + 3 * unit.n + 1 + unit.z in
    let counted : len ≡ length (layout (held unit)) =
    omega (arith, length-layout-held unit known.places whole.few)
    in
    let before : ℕ = c.args.before in
    let after : ℕ = c.args.after in
    let out : List ℕ = c.args.out.now in
    let within : c.judge_fit.result ≡ Accepted → (before + len ≤ 16384) × (before + len ≤ length out) =
    λ e. let both = accepted-fit 16384 (before + len + after) (length out) (sym c.judge_fit.ensures ∙ e) in
    (omega (arith, both.0), omega (arith, both.1))
    in
    let from = before in
    let n = len in
    let same : from + n - from ≡ n = omega arith in
    let fits : n ≤ length (drop from out) = omega (arith, length-drop from out, (within c.in_ok-judge_fit.was).1) in
    record {
      records_value = accepted;
      out_len = ap (λ (k : ℕ). length (take k (drop from out))) same ∙ length-take-le n (drop from out) fits ∙ counted;
    }

pub returns : goal.returns
returns c =
    let unit : CaptionUnit = unit_in c.args.v c.args.records.now in
    let known : Typed unit = lent-typed c.args.v c.args.records.now (each-of (λ (b : ℕ). b < 256) 0 c.args.records.now (λ i h. omega (arith, c.fits-records i))) c.told-records in
    let accepted : value_verdict unit ≡ Accepted = sym c.judge_value.ensures ∙ c.in_ok-judge_value.was in
    let whole : Whole unit = value-whole unit accepted in
    let len : ℕ = 7 + 3 * unit.n + 1 + unit.z in
    let counted : len ≡ length (layout (held unit)) =
    omega (arith, length-layout-held unit known.places whole.few)
    in
    let before : ℕ = c.args.before in
    let after : ℕ = c.args.after in
    let out : List ℕ = c.args.out.now in
    let body : List ℕ = layout (held unit) in
    let judged : c.judge_fit.result ≡ body_verdict unit before after (length out) =
    let fit = fit_verdict 16384 (before + length body + after) (length out) in
    c.judge_fit.ensures
    ∙ ap (λ (n : ℕ). fit_verdict 16384 (before + n + after) (length out)) counted
    ∙ sym (accepted-first fit c.judge_value.ensures c.in_ok-judge_value.was)
    in
    let laid : put_mid before (before + len - before) out c.put.new.out ≡ over_at before body out = laid-part before len out c.put.new.out body counted c.put.ensures in
    writes unit before after out known len counted _ laid (sym judged ∙ c.in_ok-judge_fit.was)

pub overflow_mul-len : goal.overflow_mul-len
overflow_mul-len c =
    let unit : CaptionUnit = unit_in c.args.v c.args.records.now in
    let accepted : value_verdict unit ≡ Accepted = sym c.judge_value.ensures ∙ c.in_ok-judge_value.was in
    let whole : Whole unit = value-whole unit accepted in
    omega (arith, whole.few)

pub overflow_add-len : goal.overflow_add-len
overflow_add-len c =
    let unit : CaptionUnit = unit_in c.args.v c.args.records.now in
    let accepted : value_verdict unit ≡ Accepted = sym c.judge_value.ensures ∙ c.in_ok-judge_value.was in
    let whole : Whole unit = value-whole unit accepted in
    omega (arith, whole.few)

pub overflow_add-len-2 : goal.overflow_add-len-2
overflow_add-len-2 c =
    let unit : CaptionUnit = unit_in c.args.v c.args.records.now in
    let accepted : value_verdict unit ≡ Accepted = sym c.judge_value.ensures ∙ c.in_ok-judge_value.was in
    let whole : Whole unit = value-whole unit accepted in
    omega (arith, whole.few)

pub overflow_add-len-3 : goal.overflow_add-len-3
overflow_add-len-3 c =
    let unit : CaptionUnit = unit_in c.args.v c.args.records.now in
    let accepted : value_verdict unit ≡ Accepted = sym c.judge_value.ensures ∙ c.in_ok-judge_value.was in
    let whole : Whole unit = value-whole unit accepted in
    omega (arith, whole.few, whole.stuffing)
