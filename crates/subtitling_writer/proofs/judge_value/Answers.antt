use Rattle.std.proofs.Common.{◌≡◌, ◌+◌, ◌*◌, ◌<◌, ◌≤◌, map, sym, ap, ◌∙◌, arith}
use Rattle.std.proofs.lemmas.Result.{err_from_is_err_and}
use Rattle.sdp.specs.Value.{descriptor}
use Rattle.sdp.specs.Layout.{count}
use Rattle.subtitling_writer.proofs.Stored.{slots_left, left-stopped, value-stopped, value-short, value-fits}
use Rattle.subtitling_writer.proofs.judge_value.Goals as goal

pub returns-in_err-judge_slot : goal.returns-in_err-judge_slot
returns-in_err-judge_slot c =
    let p = c.args.p in
    let rows = c.args.rows.now in
    let stopped = left-stopped p rows c.requires c.loop-i.i c.loop-i-test.true (sym c.in_err-judge_slot.ensures) in
    let refused = value-stopped p rows c.requires c.if-p-gt65535.false c.args.room (c.loop-i.invariant ∙ stopped) in
    let told = err_from_is_err_and c.from_residual.result c.from_residual.ensures.1 in
    rw (told.1, told.2) (sym refused)

pub returns-then-room-count : goal.returns-then-room-count
returns-then-room-count c =
    let p = c.args.p in
    let rows = c.args.rows.now in
    let end : c.loop-i.i ≡ 5 = omega arith in
    let short : c.args.room < 20 + 45 * count (map descriptor p.slots) = omega (arith, c.count.ensures) in
    sym (value-short p rows c.requires c.if-p-gt65535.false c.args.room (c.loop-i.invariant ∙ ap (slots_left p rows) end) short)

pub returns : goal.returns
returns c =
    let p = c.args.p in
    let rows = c.args.rows.now in
    let end : c.loop-i.i ≡ 5 = omega arith in
    let fits : 20 + 45 * count (map descriptor p.slots) ≤ c.args.room = omega (arith, c.count.ensures) in
    sym (value-fits p rows c.requires c.if-p-gt65535.false c.args.room (c.loop-i.invariant ∙ ap (slots_left p rows) end) fits)
