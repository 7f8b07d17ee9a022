use Rattle.std.proofs.Common.{◌≡◌, ◌+◌, ◌*◌, ◌≤◌, map, refl, ap, ◌∙◌, arith}
use Rattle.sdp.specs.Value.{descriptor}
use Rattle.sdp.specs.Layout.{count}
use Rattle.subtitling_writer.proofs.Stored.{slots_left, count_to, count_to-few, count_to-more, count_to-all, left-passed, value-fits}
use Rattle.subtitling_writer.proofs.holds.Goals as goal

pub loop-i-init : goal.loop-i-init
loop-i-init c = record { counted = refl; left = refl }

pub overflow_add-k : goal.overflow_add-k
overflow_add-k c =
    let p = c.args.p in
    let rows = c.args.rows.now in
    let i = c.loop-i.i in
    omega (
      arith,
      c.loop-i.invariant.counted,
      count_to-more p rows c.requires i c.loop-i-test.true (c.slot_holds.ensures c.if-not-slot_holds.false),
      count_to-few p rows c.requires (i + 1),
      c.from-k.ensures,
    )

pub loop-i-preserved : goal.loop-i-preserved
loop-i-preserved c =
    let p = c.args.p in
    let rows = c.args.rows.now in
    let i = c.loop-i.i in
    let passed = c.slot_holds.ensures c.if-not-slot_holds.false in
    record {
      counted = omega (arith, c.loop-i.invariant.counted, count_to-more p rows c.requires i c.loop-i-test.true passed, c.from-k.ensures);
      left = c.loop-i.invariant.left ∙ left-passed p rows c.requires i c.loop-i-test.true passed;
    }

pub returns : goal.returns
returns c =
    let p = c.args.p in
    let rows = c.args.rows.now in
    let end : c.loop-i.i ≡ 5 = omega arith in
    let same : c.loop-i.k ≡ count (map descriptor p.slots) = c.loop-i.invariant.counted ∙ ap (count_to p) end ∙ count_to-all p rows c.requires in
    let fits : 20 + 45 * count (map descriptor p.slots) ≤ c.args.room = omega (arith, same) in
    (value-fits p rows c.requires c.if-p-gt65535.false c.args.room (c.loop-i.invariant.left ∙ ap (slots_left p rows) end) fits, same)
