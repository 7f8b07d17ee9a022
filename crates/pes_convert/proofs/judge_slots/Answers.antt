-- `pes_convert::judge_slots` meets its contract. A turn passes an empty slot, and a full one whose line is let through; then the room decides.
use Prim.Native.Nat.{ℕ, ◌+◌, ◌≤◌, ◌<◌}
use native.Mathlib.Omega.{arith}
use native.Mathlib.Numerals.{add-one}
use mathlib.Core.Path.{◌≡◌, ◌∙◌, ap, ap₂, sym}
use mathlib.Core.Bool.{Bool}
use mathlib.Core.List.{List, [], ◌∷◌}
use borrow.Author.Tests.{lt-ltb, le-ltb}
use lib.Dec.{ltb}
use lib.ListN.{length, drop, get_or, drop_of_length-le, length-append}
use lib.Seq.{drop-cons, take_all}
use Rattle.std.specs.Prelude.{Err}
use Rattle.std.proofs.Common.{rules}
use Rattle.refusal.specs.Verdict.{Verdict}
use Rattle.refusal.specs.Verdict.{Accepted}
use Rattle.refusal.specs.declared.Reason.{Reason}
use Rattle.refusal.specs.declared.Reason.TheVariants.{NoRoom}
use Rattle.refusal.specs.declared.Item.{Item}
use Rattle.refusal.specs.declared.Item.TheVariants.{Whole}
use Rattle.refusal.specs.Checks.{refuse_if, and_then, first}
use Rattle.refusal.proofs.Checks.{and_then-last}
use Rattle.sdp.specs.declared.Packet.{Packet}
use Rattle.sdp.specs.Value.{SlotRow, Sdp, Typed, empty_slot, together, held}
use Rattle.sdp.proofs.Numbers.{length-held}
use Rattle.subtitling.proofs.Held.{beyond, held_at}
use Rattle.pes.specs.Layout.{layout_unit, layout_units, layout}
use Rattle.pes.specs.Order.{line_check}
use Rattle.pes.specs.Reading.{line_verdict}
use Rattle.pes_convert.specs.Converting.{slot_unit, full_units, converted, lines_checks, convert_verdict}
use Rattle.pes_convert.proofs.Full.{if-empty, if-full}
use Rattle.pes_convert.proofs.Walked.{bytes, bytes-none, bytes-some, length-unit, bytes-most}
use Rattle.pes_convert.proofs.judge_slots.Goals as goal
use Rattle.pes_convert.proofs.judge_slots.Goals.{then-slot-ne0+in_ok-judge_line, else-slot-ne0}

-- slot i, then those behind it
module _ (p : Packet) (rows : List (List ℕ)) (t : Typed p rows) (i : ℕ) (h : i < 5) where
  abbrev x : SlotRow
  x = together (get_or p.slots i empty_slot) (get_or rows i [])

  abbrev from : ℕ → Verdict
  from k = first (lines_checks (drop k (held p rows).slots))

  split : drop i (held p rows).slots ≡ x ∷ drop (i + 1) (held p rows).slots
  split =
      let xs = (held p rows).slots in
      drop-cons xs i beyond (omega (arith, length-held p rows t))
      ∙ ap₂ (λ (y : SlotRow) (k : ℕ). y ∷ drop k xs) (held_at p rows t i h) (sym (add-one i))

  empty-next : x.slot.full ≡ 0 → from i ≡ from (i + 1)
  empty-next e = ap (λ (ys : List SlotRow). first (lines_checks ys)) split ∙ ap first (if-empty x.slot.full _ _ e)

  full-next : (x.slot.full ≡ 0 → ⊥) → from i ≡ and_then (line_verdict Whole x.slot.line) (from (i + 1))
  unfolding line_verdict
  full-next some =
      ap (λ (ys : List SlotRow). first (lines_checks ys)) split
      ∙ ap first (if-full x.slot.full (line_check Whole x.slot.line) (lines_checks (drop (i + 1) (held p rows).slots)) some)

-- the lines decide, then the room
decides : (v : Sdp) (room : ℕ) → convert_verdict Accepted v room
    ≡ and_then (first (lines_checks v.slots)) (refuse_if (ltb room (length (layout (converted v)))) NoRoom Whole)
unfolding convert_verdict
decides v room = ap (and_then (first (lines_checks v.slots))) (and_then-last (refuse_if (ltb room (length (layout (converted v)))) NoRoom Whole))

lines-refuse : (v : Sdp) (room : ℕ) (fault : Reason × Item) → first (lines_checks v.slots) ≡ Err fault → convert_verdict Accepted v room ≡ Err fault
lines-refuse v room fault e =
    decides v room ∙ ap (λ (w : Verdict). and_then w (refuse_if (ltb room (length (layout (converted v)))) NoRoom Whole)) e

-- behind the last slot
module _ (p : Packet) (rows : List (List ℕ)) (t : Typed p rows) (room i size : ℕ) (past : 5 ≤ i)
    (kept : (first (lines_checks (held p rows).slots) ≡ first (lines_checks (drop i (held p rows).slots))) × (1 + length (bytes (held p rows).slots i) ≡ size)) where
  abbrev v : Sdp
  v = held p rows

  all : length v.slots ≤ i
  all = omega (arith, length-held p rows t, past)

  sized : length (layout (converted v)) ≡ size
  sized =
      let whole = ap (λ (xs : List SlotRow). length (layout_units (full_units xs))) (take_all i v.slots all) in
      omega (arith, whole, kept.1)

  left : convert_verdict Accepted v room ≡ refuse_if (ltb room size) NoRoom Whole
  left =
      decides v room
      ∙ ap₂ (λ (w : Verdict) (n : ℕ). and_then w (refuse_if (ltb room n) NoRoom Whole))
      (kept.0 ∙ ap (λ (xs : List SlotRow). first (lines_checks xs)) (drop_of_length-le v.slots all)) sized

pub returns-in_err-judge_line : goal.returns-in_err-judge_line
returns-in_err-judge_line c =
    let p = c.args.p in
    let rows = c.args.rows.now in
    let i = c.loop-i.i in
    let same : c.from_residual.result ≡ c.judge_line.result = search rules in
    let next = full-next p rows c.requires i c.loop-i-test.true c.if-slot-ne0.true in
    let refused = ap (λ (w : Verdict). and_then w (from p rows c.requires i c.loop-i-test.true (i + 1))) (sym c.in_err-judge_line.ensures) in
    same ∙ c.in_err-judge_line.was ∙ sym (lines-refuse (held p rows) c.args.room _ (c.loop-i.invariant.0 ∙ next ∙ refused))

pub overflow_add-size : goal.overflow_add-size
overflow_add-size c =
    omega (arith, bytes-most c.args.p c.args.rows.now c.requires c.loop-i.i (omega arith), c.loop-i.invariant.1)

pub loop-i-preserved : goal.loop-i-preserved
loop-i-preserved c =
    let p = c.args.p in
    let rows = c.args.rows.now in
    let xs = (held p rows).slots in
    let i = c.loop-i.i in
    let more = c.loop-i-test.true in
    elim c.if-slot-ne0.branch [
      | then-slot-ne0+in_ok-judge_line w ↦
          let next = full-next p rows c.requires i more w.if-slot-ne0.true in
          let right = ap (λ (u : Verdict). and_then u (from p rows c.requires i more (i + 1))) (sym w.in_ok-judge_line.ensures) in
          let unit = layout_unit (slot_unit (x p rows c.requires i more)) in
          let grown = ap length (bytes-some p rows c.requires i more w.if-slot-ne0.true) in (
            c.loop-i.invariant.0 ∙ next ∙ right,
            omega (arith, grown, length-append (bytes xs i) unit, length-unit p rows c.requires i more, c.loop-i.invariant.1, w.size-is),
          )
      | else-slot-ne0 w ↦ (
        c.loop-i.invariant.0 ∙ empty-next p rows c.requires i more w.if-slot-ne0.false,
        omega (arith, ap length (bytes-none p rows c.requires i more w.if-slot-ne0.false), c.loop-i.invariant.1, w.size-is),
      )
    ]

pub returns-then-room-size : goal.returns-then-room-size
returns-then-room-size c =
    sym (
    left c.args.p c.args.rows.now c.requires c.args.room c.loop-i.i c.loop-i.size c.loop-i-test.false c.loop-i.invariant
    ∙ ap (λ (b : Bool). refuse_if b NoRoom Whole) (lt-ltb _ _ c.if-room-size.true)
    )

pub returns : goal.returns
returns c =
    sym (
    left c.args.p c.args.rows.now c.requires c.args.room c.loop-i.i c.loop-i.size c.loop-i-test.false c.loop-i.invariant
    ∙ ap (λ (b : Bool). refuse_if b NoRoom Whole) (le-ltb _ _ c.if-room-size.false)
    )
