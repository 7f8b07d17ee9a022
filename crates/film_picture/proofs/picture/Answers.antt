-- `film_picture::picture` meets its contract: where the checks refuse the state stays, and else the fields are shown one after the other.
use Prim.Native.Nat.{◌≤◌}
use mathlib.Core.Path.{◌≡◌, ◌∙◌, ap, ap₂, subst, sym}
use Rattle.std.proofs.Common.{rules, true}
use Rattle.std.specs.Result.{is_err}
use Rattle.refusal.specs.Verdict.{Verdict}
use Rattle.refusal.specs.Verdict.{Accepted}
use Rattle.refusal.specs.Numbers.{refusal_of}
use mathlib.Core.List.{List}
use Rattle.film.specs.State.{State}
use Rattle.scte20.specs.declared.Record.{Record}
use Rattle.scte20.specs.declared.CaptionUnit.{CaptionUnit}
use Rattle.scte20.specs.Value.{held}
use Rattle.scte20.specs.Lent.{unit_in}
use Rattle.scte20.proofs.Holding.{value-whole}
use Rattle.film.specs.declared.Sent.{Sent}
use Rattle.film.specs.declared.Sent.TheVariants.{None}
use Rattle.film.specs.declared.Passing.{Passing}
use Rattle.film.specs.declared.Shown.{Shown}
use Rattle.film.specs.Display.{picture_events}
use Rattle.film.specs.Calls.{picture_verdict, units_sent}
use Rattle.film.specs.Inside.{shown_field, added}
use Rattle.film.proofs.Records.{array-typed}
use Rattle.film.proofs.Passages.{accepted-checked, first_shown, second_shown, third_shown, two_sent, two-shown, three-shown, refuses, accepts}
use Rattle.film_picture.proofs.picture.Goals as goal

pub returns-then-is_err : goal.returns-then-is_err
returns-then-is_err c =
    let args = c.args in
    let u = unit_in args.v args.records.now in
    record {
      typed = array-typed args.v args.records.now c.fits-records c.told-records;
      answer =
          refuses (picture_verdict args.how u) c.from-refusal.result args.state (picture_events args.how (held u).records)
          (c.from-refusal.ensures ∙ ap refusal_of c.judge-verdict.ensures) (subst (λ (v : Verdict). is_err v ≡ true) c.judge-verdict.ensures (search rules));
    }

-- the checks let it through
module _ (how : Shown) (u : CaptionUnit) (judged : Verdict) (of : judged ≡ picture_verdict how u) (ok : judged ≡ Accepted) where
  accepted : picture_verdict how u ≡ Accepted
  accepted = sym of ∙ ok

  few : u.n ≤ 31
  few = (value-whole u (accepted-checked how u accepted).value).few

pub show-one-requires : goal.show-one-requires
show-one-requires c = few c.args.how (unit_in c.args.v c.args.records.now) _ c.judge-verdict.ensures (search rules)

pub show-two-requires : goal.show-two-requires
show-two-requires c = few c.args.how (unit_in c.args.v c.args.records.now) _ c.judge-verdict.ensures (search rules)

pub show-three-requires : goal.show-three-requires
show-three-requires c = few c.args.how (unit_in c.args.v c.args.records.now) _ c.judge-verdict.ensures (search rules)

-- the first two display fields
module _ (s : State) (how : Shown) (rs : List Record) (one two : Passing) (before sent : Sent)
    (first : one ≡ first_shown s how rs) (second : two ≡ shown_field one.state 2 how rs)
    (adds : before ≡ added None one.gone) (adds-next : sent ≡ added before two.gone) where
  second-is : two ≡ second_shown s how rs
  second-is = second ∙ ap (λ (p : Passing). shown_field p.state 2 how rs) first

  sent-is : sent ≡ two_sent s how rs
  sent-is = adds-next ∙ ap (λ (x : Sent). added x two.gone) adds ∙ ap₂ (λ (p q : Passing). added (added None p.gone) q.gone) first second-is

pub returns : goal.returns
returns c =
    let args = c.args in
    let u = unit_in args.v args.records.now in
    let s = args.state in
    let how = args.how in
    let rs = (held u).records in
    let two = second-is s how rs _ _ _ _ c.show-one.ensures c.show-two.ensures c.add.ensures c.add-sent.ensures in
    let both = sent-is s how rs _ _ _ _ c.show-one.ensures c.show-two.ensures c.add.ensures c.add-sent.ensures in
    let right = two-shown s how rs c.if-how.false in
    record {
      typed = array-typed args.v args.records.now c.fits-records c.told-records;
      answer =
          accepts (picture_verdict how u) c.from-refusal.result s (picture_events how rs) c.add-sent.result c.show-two.result.state
          (c.from-refusal.ensures ∙ ap refusal_of c.judge-verdict.ensures) (accepted how u _ c.judge-verdict.ensures (search rules))
          (ap units_sent both ∙ right.0) (ap (λ (p : Passing). p.state) two ∙ right.1);
    }

pub returns-then-how : goal.returns-then-how
returns-then-how c =
    let args = c.args in
    let u = unit_in args.v args.records.now in
    let s = args.state in
    let how = args.how in
    let rs = (held u).records in
    let two = second-is s how rs _ _ _ _ c.show-one.ensures c.show-two.ensures c.add.ensures c.add-sent.ensures in
    let both = sent-is s how rs _ _ _ _ c.show-one.ensures c.show-two.ensures c.add.ensures c.add-sent.ensures in
    let right = three-shown s how rs c.if-how.true in
    let three : c.show-three.result ≡ third_shown s how rs = c.show-three.ensures ∙ ap (λ (p : Passing). shown_field p.state 3 how rs) two in
    record {
      typed = array-typed args.v args.records.now c.fits-records c.told-records;
      answer =
          accepts (picture_verdict how u) c.from-refusal.result s (picture_events how rs) c.add-then-how.result c.show-three.result.state
          (c.from-refusal.ensures ∙ ap refusal_of c.judge-verdict.ensures) (accepted how u _ c.judge-verdict.ensures (search rules))
          (ap units_sent (c.add-then-how.ensures ∙ ap₂ (λ (x : Sent) (p : Passing). added x p.gone) both three) ∙ right.0)
          (ap (λ (p : Passing). p.state) three ∙ right.1);
    }
