-- The flags byte and the first k units are laid over the output.
use Rattle.std.proofs.Common.{◌≡◌, ◌∙◌, ap, sym, refl, ℕ, ◌+◌, ◌*◌, ◌≤◌, List, ◌∷◌, length, take, get_or, set, arith}
use lib.Seq.{length-take-le}
use Rattle.lists.specs.Room.{over, over_at}
use Rattle.lists.proofs.Lay.{laid-part, over_at-over_at}
use Rattle.line21.specs.Value.{blank}
use Rattle.line21.specs.Layout.{layout_access_unit}
use Rattle.line21.proofs.Numbers.{accepted-unit-at}
use Rattle.line21.proofs.Layouts.{length-layout_units, layout_units-more}
use Rattle.reel_units.proofs.put_payload.Invariants.{front}
use Rattle.reel_units.proofs.put_payload.Goals as goal

pub unit_bytes-requires : goal.unit_bytes-requires
unit_bytes-requires c = accepted-unit-at c.args.units.now c.requires.judged c.loop-unit.unit-index c.loop-unit-test.true

pub loop-unit-preserved : goal.loop-unit-preserved
loop-unit-preserved c =
    let us = c.args.units.now in
    let flags = c.args.flags in
    let k = c.loop-unit.unit-index in
    let at = 1 + 5 * k in
    let begun = set c.args.out.now 0 flags in
    let u = get_or us k blank in
    let piece = layout_access_unit u in
    let inside = c.loop-unit-test.true in
    let bytes : c.unit_bytes.result ≡ piece = c.unit_bytes.ensures in
    let some : 0 ≤ length begun = omega arith in
    let next : 0 + length (front flags us k) ≡ at = omega (arith, length-layout_units (take k us), length-take-le k us (omega arith)) in
    let before = c.loop-unit.invariant in (
      omega (arith, before.0),
      laid-part c.loop-unit.at 5 c.loop-unit.out c.copy_from_slice.new.self piece refl (c.copy_from_slice.ensures.after ∙ bytes)
          ∙ ap (λ (a : ℕ). over_at a piece c.loop-unit.out) before.0
          ∙ ap (over_at at piece) before.1
          ∙ over_at-over_at 0 (front flags us k) piece begun at some next
          ∙ ap (λ (all : List ℕ). over (flags ∷ all) begun) (sym (layout_units-more us k inside)),
    )

pub returns-clause-value : goal.returns-clause-value
returns-clause-value c = omega (arith, length-layout_units c.args.units.now)
