-- `units::scan` meets its contract: the ways out, and what a unit that was passed adds.
use Prim.Native.Nat.{◌+◌, ◌≤◌, ◌<◌}
use native.Mathlib.Omega.{arith}
use mathlib.Core.Path.{◌≡◌, ◌∙◌, sym}
use borrow.Author.Tests.{eqb-true, eqb-false}
use lib.ListN.{length, get_or-eq_default}
use Rattle.kind.specs.Ours.{ours}
use Rattle.units.specs.Split.{next_of}
use Rattle.units.proofs.Reach.{next_here, next-short}
use Rattle.units.proofs.Opened.{front_long, front-unopened, front-opened}
use Rattle.units.proofs.Walk.{front-refused, empty-nowhere, begins, refused, passed-foreign, passed-ours}
use Rattle.units.proofs.scan.Goals.{Left-loop-i, else-loop-i-test, then-loop-i-test+then-i-stop}
use Rattle.units.proofs.scan.Goals as goal

pub returns-then-s-gt-MAX_BYTES : goal.returns-then-s-gt-MAX_BYTES
returns-then-s-gt-MAX_BYTES c = sym (front-refused (ours c.args.kind) c.args.s.now _ _ (front_long c.args.s.now c.if-s-gt-MAX_BYTES.true))

pub returns-then-is_empty : goal.returns-then-is_empty
returns-then-is_empty c = sym (empty-nowhere (ours c.args.kind) c.args.s.now (eqb-true _ _ (sym c.is_empty.ensures ∙ c.if-is_empty.true)))

pub returns-then-not-is_opened : goal.returns-then-not-is_opened
returns-then-not-is_opened c =
    let s = c.args.s.now in
    sym (front-refused (ours c.args.kind) s _ _
    (front-unopened s c.if-s-gt-MAX_BYTES.false (eqb-false _ _ (sym c.is_empty.ensures ∙ c.if-is_empty.false)) (sym c.is_opened.ensures ∙ c.if-not-is_opened.true)))

pub units-init : goal.units-init
units-init c =
    let s = c.args.s.now in
    begins (ours c.args.kind) s (front-opened s c.if-s-gt-MAX_BYTES.false (sym c.is_opened.ensures ∙ c.if-not-is_opened.false))

pub returns-then-s-at : goal.returns-then-s-at
returns-then-s-at c = sym (refused c.units.invariant (omega arith) c.if-s-at.true)

-- behind the search in the body
stands : (c : Left-loop-i) → c.loop-i-test.next ≡ next_of c.args.s.now (c.units.at + 4)
stands c =
    let s = c.args.s.now in
    let i = c.loop-i.i in
    let inv = c.loop-i.invariant in
    elim c.loop-i-test.branch [
      | else-loop-i-test w ↦ w.next-is ∙ inv.1 ∙ sym (inv.0.ahead ∙ next-short s i inv.0.within (inv.2.1 w.loop-i-test.false))
      | then-loop-i-test+then-i-stop w ↦
          w.next-is
          ∙ sym (inv.0.ahead ∙ w.by_bytes-i.ensures.goes.ahead ∙ next_here s w.by_bytes-i.result (w.by_bytes-i.ensures.here w.if-i-stop.true))
    ]

pub units-preserved-then-not-ours : goal.units-preserved-then-not-ours
units-preserved-then-not-ours c =
    let inside : c.units.at + 3 < length c.args.s.now = omega arith in
    passed-foreign c.units.invariant inside c.if-s-at.false c.loop-i-test.next (stands (goal.at.units-preserved-then-not-ours c).Left-loop-i)
    (sym c.ours.ensures ∙ c.if-not-ours.true)

pub units-preserved : goal.units-preserved
units-preserved c =
    let inside : c.units.at + 3 < length c.args.s.now = omega arith in
    passed-ours c.units.invariant inside c.if-s-at.false c.loop-i-test.next (stands (goal.at.units-preserved c).Left-loop-i) c.noted-found.result
    (sym c.ours.ensures ∙ c.if-not-ours.false)
    c.noted-found.ensures

pub returns-then-at-s : goal.returns-then-at-s
returns-then-at-s c =
    let s = c.args.s.now in
    let past : length s ≤ c.units.at + 3 = omega arith in
    sym (refused c.units.invariant c.if-at-s.true (λ e. omega (arith, get_or-eq_default s 0 past)))
