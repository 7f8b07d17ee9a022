-- `scte20_writer::write_from` meets its contract: the value's checks refuse where no quick look vouched for it, else those of the result do, else the body is stored in its place.
use Rattle.std.specs.Prelude.{Ok, Err}
use Rattle.std.proofs.lemmas.Result.{err_from_is_err_and}
use Prim.Native.Nat.{ℕ, ◌+◌, ◌-◌, ◌≤◌, ◌<◌}
use native.Mathlib.Omega.{arith}
use mathlib.Core.Path.{◌≡◌, ◌∙◌, ap, sym, refl}
use mathlib.Core.List.{List}
use lib.ListN.{length, take, drop, length-drop}
use lib.Seq.{length-take-le}
use Rattle.lists.specs.Room.{over_at}
use Rattle.lists.proofs.Lay.{length-over_at, laid-part}
use Rattle.refusal.specs.declared.Reason.{Reason}
use Rattle.refusal.specs.declared.Item.{Item}
use Rattle.lists.proofs.Each.{each-of}
use Rattle.refusal.specs.Verdict.{Verdict}
use Rattle.refusal.specs.Verdict.{Accepted}
use Rattle.refusal.specs.Checks.{fit_verdict}
use Rattle.refusal.specs.Answers.{Judged, laid_of, body_left}
use Rattle.refusal.proofs.Checks.{refused-first, accepted-first, accepted-fit}
use Rattle.scte20.specs.declared.CaptionUnit.{CaptionUnit}
use Rattle.scte20.specs.Value.{held, Typed}
use Rattle.scte20.specs.Lent.{unit_in}
use Rattle.scte20.specs.Layout.{layout, size_in}
use Rattle.scte20.specs.Writing.{value_verdict, body_verdict, Writes}
use Rattle.scte20.proofs.Lending.{lent-typed}
use Rattle.scte20.proofs.Holding.{value-whole, length-layout-held}
use Rattle.scte20_writer.proofs.write_from.Goals.{Joined-not-is_value, then-not-is_value+in_ok-judge_value, else-not-is_value}
use Rattle.scte20_writer.proofs.write_from.Goals as goal

-- what fits with so many bytes behind it fits
fits-within : (a n b room : ℕ) (v : Verdict) → v ≡ fit_verdict 16384 (a + n + b) room → v ≡ Accepted → (a + n ≤ 16384) × (a + n ≤ room)
fits-within a n b room v told e =
    let both : (a + n + b ≤ 16384) × (a + n + b ≤ room) = accepted-fit 16384 (a + n + b) room (sym told ∙ e) in
    (omega (arith, both.0), omega (arith, both.1))

-- what each verdict answers
module _ (u : CaptionUnit) (before after : ℕ) (out : List ℕ) (known : Typed u) where
  refuses : (why : Reason × Item) (r : Judged ℕ) → r ≡ Err why → body_verdict u before after (length out) ≡ Err why → Writes u before after out r out
  refuses (reason, item) r told body =
      record {
        typed = known;
        counted = told ∙ ap (λ (v : Verdict). laid_of v (layout (held u))) (sym body);
        left = ap (λ (v : Verdict). body_left v before (layout (held u)) out) (sym body);
      }

  writes : (n : ℕ) → n ≡ length (layout (held u)) → (exit : List ℕ) → exit ≡ over_at before (layout (held u)) out → body_verdict u before after (length out) ≡ Accepted
      → Writes u before after out (Ok n) exit
  writes n long exit laid body =
      record {
        typed = known;
        counted = ap Ok long ∙ ap (λ (v : Verdict). laid_of v (layout (held u))) (sym body);
        left = laid ∙ ap (λ (v : Verdict). body_left v before (layout (held u)) out) (sym body);
      }

-- what the code counts is how long the layout is
counted : (u : CaptionUnit) → Typed u → value_verdict u ≡ Accepted → (n : ℕ) → n ≡ size_in u.vbi_data_flag u.n + u.z → n ≡ length (layout (held u))
counted u known accepted n told = told ∙ sym (length-layout-held u known.places (value-whole u accepted).few)

-- then the checks of the result decide
judged : (u : CaptionUnit) → value_verdict u ≡ Accepted → (before after n room : ℕ) → n ≡ length (layout (held u)) → (v : Verdict)
    → v ≡ fit_verdict 16384 (before + n + after) room → v ≡ body_verdict u before after room
judged u accepted before after n room long v told =
    let fit = fit_verdict 16384 (before + length (layout (held u)) + after) room in
    told ∙ ap (λ (k : ℕ). fit_verdict 16384 (before + k + after) room) long ∙ sym (accepted-first fit refl accepted)

pub returns-in_err-judge_value : goal.returns-in_err-judge_value
returns-in_err-judge_value c =
    let args = c.args in
    let u = unit_in args.v args.records.now in
    -- a lent array holds bytes, so that the value it tells is one of the code's
    let known = lent-typed args.v args.records.now (each-of (λ (b : ℕ). b < 256) 0 c.args.records.now (λ i h. omega (arith, c.fits-records i))) c.told-records in
    let value = c.judge_value in
    let p = err_from_is_err_and c.from_residual.result c.from_residual.ensures.1 in
    let fit = fit_verdict 16384 (args.before + length (layout (held u)) + args.after) (length args.out.now) in
    refuses u args.before args.after args.out.now known _ _ (p.1 ∙ ap Err p.2) (sym (refused-first fit value.ensures c.in_err-judge_value.was) ∙ c.in_err-judge_value.was)

-- past the first test the value is accepted: the quick look vouched for it, or the checks let it through
accepted : (c : Joined-not-is_value) → value_verdict (unit_in c.args.v c.args.records.now) ≡ Accepted
accepted c =
    elim c.if-not-is_value.branch [
      | then-not-is_value+in_ok-judge_value w ↦ sym w.judge_value.ensures ∙ w.in_ok-judge_value.was
      | else-not-is_value w ↦ c.is_value.ensures w.if-not-is_value.false
    ]

pub size-len-requires : goal.size-len-requires
size-len-requires c =
    let w = value-whole _ (accepted (goal.at.size-len-requires c).Joined-not-is_value) in
    record { n_bound = w.few; z_bound = w.stuffing }

pub returns-in_err-judge_fit : goal.returns-in_err-judge_fit
returns-in_err-judge_fit c =
    let args = c.args in
    let u = unit_in args.v args.records.now in
    let known = lent-typed args.v args.records.now (each-of (λ (b : ℕ). b < 256) 0 c.args.records.now (λ i h. omega (arith, c.fits-records i))) c.told-records in
    let right = accepted (goal.at.returns-in_err-judge_fit c).Joined-not-is_value in
    let n = c.size-len.result in
    let out = args.out.now in
    let long = counted u known right n c.size-len.ensures in
    let same = judged u right args.before args.after n (length out) long c.judge_fit.result c.judge_fit.ensures in
    let p = err_from_is_err_and c.from_residual-in_err-judge_fit.result c.from_residual-in_err-judge_fit.ensures.1 in
    refuses u args.before args.after out known _ _ (p.1 ∙ ap Err p.2) (sym same ∙ c.in_err-judge_fit.was)

pub overflow_add-before : goal.overflow_add-before
overflow_add-before c =
    let within = fits-within c.args.before c.size-len.result c.args.after (length c.args.out.now) c.judge_fit.result c.judge_fit.ensures c.in_ok-judge_fit.was in
    omega (arith, within.0)

pub slice_bounds-put-end : goal.slice_bounds-put-end
slice_bounds-put-end c =
    let within = fits-within c.args.before c.size-len.result c.args.after (length c.args.out.now) c.judge_fit.result c.judge_fit.ensures c.in_ok-judge_fit.was in
    omega (arith, within.1)

pub put-requires : goal.put-requires
put-requires c =
    let within = fits-within c.args.before c.size-len.result c.args.after (length c.args.out.now) c.judge_fit.result c.judge_fit.ensures c.in_ok-judge_fit.was in
    let args = c.args in
    let u = unit_in args.v args.records.now in
    let known = lent-typed args.v args.records.now (each-of (λ (b : ℕ). b < 256) 0 c.args.records.now (λ i h. omega (arith, c.fits-records i))) c.told-records in
    let right = accepted (goal.at.put-requires c).Joined-not-is_value in
    let n = c.size-len.result in
    let out = args.out.now in
    let long = counted u known right n c.size-len.ensures in
    let same = judged u right args.before args.after n (length out) long c.judge_fit.result c.judge_fit.ensures in
    let from = args.before in
    let cut : from + n - from ≡ n = omega arith in
    let fits : n ≤ length (drop from out) = omega (arith, length-drop from out, within.1) in
    record {
      records_value = right;
      out_len = ap (λ (k : ℕ). length (take k (drop from out))) cut ∙ length-take-le n (drop from out) fits ∙ long;
    }

-- behind the call the body stands in its place
pub returns : goal.returns
returns c =
    let args = c.args in
    let u = unit_in args.v args.records.now in
    let known = lent-typed args.v args.records.now (each-of (λ (b : ℕ). b < 256) 0 c.args.records.now (λ i h. omega (arith, c.fits-records i))) c.told-records in
    let right = accepted (goal.at.returns c).Joined-not-is_value in
    let n = c.size-len.result in
    let out = args.out.now in
    let long = counted u known right n c.size-len.ensures in
    let same = judged u right args.before args.after n (length out) long c.judge_fit.result c.judge_fit.ensures in
    let laid = laid-part args.before n out c.put.new.out (layout (held u)) long c.put.ensures in
    writes u args.before args.after out known n long _ laid (sym same ∙ c.in_ok-judge_fit.was)

pub shape_of-out : goal.shape_of-out
shape_of-out c =
    let within = fits-within c.args.before c.size-len.result c.args.after (length c.args.out.now) c.judge_fit.result c.judge_fit.ensures c.in_ok-judge_fit.was in
    let args = c.args in
    let u = unit_in args.v args.records.now in
    let known = lent-typed args.v args.records.now (each-of (λ (b : ℕ). b < 256) 0 c.args.records.now (λ i h. omega (arith, c.fits-records i))) c.told-records in
    let right = accepted (goal.at.shape_of-out c).Joined-not-is_value in
    let n = c.size-len.result in
    let out = args.out.now in
    let long = counted u known right n c.size-len.ensures in
    let same = judged u right args.before args.after n (length out) long c.judge_fit.result c.judge_fit.ensures in
    let laid = laid-part args.before n out c.put.new.out (layout (held u)) long c.put.ensures in
    ap length laid ∙ length-over_at args.before (layout (held u)) out (omega (arith, within.1, long))
