-- `scte20_gather::gathered` meets its contract: where it answers yes, each part of the body was found right.
use Prim.Native.Nat.{ℕ, ◌+◌, ◌*◌, ◌/◌, ◌≤◌, ◌<◌}
use native.Mathlib.Omega.{arith}
use mathlib.Core.Path.{◌≡◌, subst}
use mathlib.Core.Bool.{false, false≢true}
use borrow.Author.Tests.{eqb-true}
use lib.ListN.{length, get_or}
use Rattle.std.proofs.lemmas.Bool.Decides.{nat_tests}
use Rattle.lists.proofs.Each.{each-of}
use Rattle.kind.specs.Ours.{group_type}
use Rattle.scte20_gather.specs.Inside.{Numbered, Held, Blank}
use Rattle.scte20_gather.proofs.Vouching.{gathers}
use Rattle.scte20_gather.proofs.gathered.Goals.{then-hold, else-hold, then-is_blank, else-is_blank, then-len-le-MAX_BYTES, else-len-le-MAX_BYTES, then-body-eq3, else-body-eq3}
use Rattle.scte20_gather.proofs.gathered.Goals as goal

pub returns-then-not-group_type : goal.returns-then-not-group_type
returns-then-not-group_type c told =
    let body = c.args.body.now in
    let n = get_or body 2 0 / 8 in
    let found = c.gather.new.found in
    elim c.if-body-eq3.branch [
      | else-body-eq3 w ↦ absurd (false≢true (cc))
      | then-body-eq3 w4 ↦
          elim c.if-len-le-MAX_BYTES.branch [
            | else-len-le-MAX_BYTES w ↦ absurd (false≢true (cc))
            | then-len-le-MAX_BYTES w3 ↦
                elim c.if-is_blank.branch [
                  | else-is_blank w ↦ absurd (false≢true (cc))
                  | then-is_blank w2 ↦
                      elim c.if-hold.branch [
                        | else-hold w ↦ absurd (false≢true (cc))
                        | then-hold w1 ↦
                            let long : (25 + 26 * n + 7) / 8 ≤ length body = omega (arith, c.from-n.ensures) in
                            let numbered : Numbered body n found = subst (λ (k : ℕ). Numbered body k found) c.from-n.ensures c.gather.ensures in
                            let held : Held 31 0 n 0 found = subst (λ (k : ℕ). Held 31 0 k 0 found) c.from-n.ensures (c.hold.ensures w1.if-hold.true) in
                            let blank : Blank body (21 + 26 * n) = subst (λ (k : ℕ). Blank body (21 + 26 * k)) c.from-n.ensures (w1.is_blank.ensures (cc)) in
                            let short : length body ≤ 16384 = grind (arith, nat_tests) in
                            let begins : get_or body 0 0 ≡ 3 = grind (arith, nat_tests) in
                            let no_group : group_type (get_or body 1 0) ≡ false = grind (arith, nat_tests) in
                            gathers body found (each-of (λ (b : ℕ). b < 256) 0 body (λ i h. omega (arith, c.type_inv.body i)))
                            c.if-len-lt3.false long numbered held blank short begins no_group (eqb-true _ _ told)
                      ]
                ]
          ]
    ]
