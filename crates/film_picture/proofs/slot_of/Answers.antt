-- `film_picture::slot_of` meets its contract: a record of this display field on this line decides, and another leaves it to those behind it.
use Rattle.std.proofs.Common.{rules}
use mathlib.Core.Path.{◌≡◌, sym}
use mathlib.Core.Logic.{◌⊎◌, inl, inr}
use Rattle.scte20.specs.Value.{field_of}
use Rattle.film.proofs.Records.{left-here, left-next, slot_from, slot-here, slot_next}
use Rattle.film_picture.proofs.slot_of.Goals.{else-eq-via-then-eq+else-record-line_offset, else-eq-via-else-eq}
use Rattle.film_picture.proofs.slot_of.Goals as goal

pub returns-then-record-line_offset : goal.returns-then-record-line_offset
returns-then-record-line_offset c =
    let args = c.args in
    let line = args.line_offset in
    let field = args.field.0 in
    let r = c.record_in-record.result in
    sym
    (left-here (slot_from line field) args.v args.records.now c.requires c.loop-i.i r c.loop-i-test.true c.record_in-record.ensures c.loop-i.invariant _
    (λ rest. slot-here line field r rest (search rules) c.if-record-line_offset.true))

pub loop-i-preserved : goal.loop-i-preserved
loop-i-preserved c =
    let args = c.args in
    let line = args.line_offset in
    let field = args.field.0 in
    let r = c.record_in-record.result in
    let other : (field_of r ≡ field → ⊥) ⊎ (r.line_offset ≡ line → ⊥) =
    elim c.else-eq.branch [
      | else-eq-via-then-eq+else-record-line_offset w ↦ inr w.if-record-line_offset.false
      | else-eq-via-else-eq w ↦ inl (search rules)
    ]
    in
    left-next (slot_from line field) args.v args.records.now c.requires c.loop-i.i r c.loop-i-test.true c.record_in-record.ensures c.loop-i.invariant
    (λ rest. slot_next line field r rest other)
