-- `scte20_gather::hold` meets its contract. The loop's invariant: if the constructs from i on are right, all are.
use Prim.Native.Nat.{ℕ, suc, ◌+◌, ◌-◌, ◌%◌, ◌<◌}
use native.Mathlib.Omega.{arith}
use mathlib.Core.Path.{◌≡◌, subst}
use lib.ListN.{get_or}
use Rattle.std.proofs.lemmas.Bool.Decides.{nat_tests}
use Rattle.scte20_gather.specs.Inside.{place_in, urgent_in, Held}
use Rattle.scte20_gather.proofs.hold.Goals.{then-place-before-2, else-place-before-2}
use Rattle.scte20_gather.proofs.hold.Goals as goal

pub loop-i-preserved : goal.loop-i-preserved
unfolding place_in urgent_in
loop-i-preserved c =
    let at = c.loop-i in
    let found = c.args.found.now in
    let n = c.args.n in
    let i = at.i in
    let construct = get_or found i 0 in
    let counted : c.if-place-before-2.kept + c.from.result ≡ urgent_in at.before at.urgent construct = grind (arith, nat_tests) in
    let odd : construct % 2 ≡ 1 = omega (arith, c.if-construct-eq0.false) in
    let few : urgent_in at.before at.urgent construct < 5 = omega (arith, counted, c.if-urgent-gt4.false) in
    let left : suc (n - (i + 1)) ≡ n - i = omega (arith, c.loop-i-test.true) in (
      omega (arith, c.if-urgent-gt4.false),
      λ held.
          at.invariant.1
          (subst (λ (k : ℕ). Held at.before at.urgent k i found) left
          (c.if-place-before.false, odd, few, subst (λ (u : ℕ). Held (place_in construct) u (n - (i + 1)) (i + 1) found) counted held)),
    )
