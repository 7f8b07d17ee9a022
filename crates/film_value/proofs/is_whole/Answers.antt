-- `film_value::is_whole` meets its contract: at the two returns that may say yes, no check of the whole value refuses.
use native.Mathlib.Omega.{arith}
use mathlib.Core.Path.{◌≡◌}
use mathlib.Core.List.{[]}
use borrow.Author.Tests.{eqb-false, not-true}
use Rattle.scte20.specs.Lent.{unit_in}
use Rattle.scte20.proofs.Holding.{no_group, whole-accepted}
use Rattle.film_value.proofs.is_whole.Goals as goal

pub returns-in-1 : goal.returns-in-1
returns-in-1 c is =
    let v = c.args.v in
    let flag : v.vbi_data_flag ≡ 1 = c.in-1.is in
    whole-accepted (unit_in v [])
    (record {
      few = omega arith;
      reserved = omega arith;
      flag = omega arith;
      stuffing = omega arith;
      bare = λ zero. omega (arith, flag, zero);
      no_group = no_group v.reserved v.vbi_data_flag (omega arith) (λ e f. eqb-false _ _ (not-true _ is) e) (λ e f. omega (arith, flag, f));
    })

pub returns-then-v-eq0 : goal.returns-then-v-eq0
returns-then-v-eq0 c is =
    let v = c.args.v in
    let flag : v.vbi_data_flag ≡ 0 = c.in-0.is in
    whole-accepted (unit_in v [])
    (record {
      few = omega arith;
      reserved = omega arith;
      flag = omega arith;
      stuffing = omega arith;
      bare = λ zero. c.if-v-eq0.true;
      no_group = no_group v.reserved v.vbi_data_flag (omega arith) (λ e f. omega (arith, flag, f)) (λ e f. eqb-false _ _ (not-true _ is) e);
    })
