use Rattle.std.proofs.Common.{◌≡◌, ℕ, ◌+◌, ◌%◌, ◌<◌, List, []}
use Rattle.std.proofs.Common.{length, get_or, sym, ap, ◌∙◌, arith}
use Rattle.lists.specs.Room.{over}
use Rattle.lists.specs.Each.{Each}
use Rattle.lists.specs.Sum.{sum}
use Rattle.lists.proofs.Lay.{laid_more, length_rest}
use Rattle.anc.specs.Words.{word_of}
use Rattle.sdp.specs.declared.Packet.{Packet}
use Rattle.sdp.specs.Value.{SlotRow, LegalSlot, Typed, descriptor, empty_slot, held}
use Rattle.sdp.specs.Layout.{structures}
use Rattle.sdp.specs.User.{mark_of}
use mathlib.Core.List.{map}
use Rattle.subtitling_writer.proofs.Structures.{words, piece, words-none, words-some, words-grown, words-all, length-front, unmarked, marked, totalled}
use Rattle.subtitling_writer.proofs.put_structures.Goals.{then-p-i-ne0, else-p-i-ne0}
use Rattle.subtitling_writer.proofs.put_structures.Goals as goal

-- a full slot's descriptor is not 0
some : (p : Packet) (rows : List (List ℕ)) → Typed p rows → Each LegalSlot (held p rows).slots → (i : ℕ) → i < 5
    → ((get_or p.slots i empty_slot).full ≡ 0 → ⊥) → descriptor (get_or p.slots i empty_slot) ≡ 0 → ⊥
some p rows t legal i h full e = full (marked p rows t legal i h ∙ ap mark_of e)

pub put_structure-words-requires : goal.put_structure-words-requires
put_structure-words-requires c =
    let p = c.args.p in
    let rows = c.args.rows.now in
    let t = c.requires.typed in
    let i = c.loop-i.i in
    let grown = words-grown p rows t i c.loop-i-test.true (some p rows t c.requires.each i c.loop-i-test.true c.if-p-i-ne0.true) in
    omega (arith, length_rest c.loop-i.out c.loop-i.at, grown, length-front p rows t (i + 1), c.loop-i.invariant.place, c.requires.slots_in_bounds)

pub loop-i-preserved : goal.loop-i-preserved
loop-i-preserved c =
    let p = c.args.p in
    let rows = c.args.rows.now in
    let t = c.requires.typed in
    let xs = (held p rows).slots in
    let i = c.loop-i.i in
    let at = c.loop-i in
    let below = c.loop-i-test.true in
    let out = c.args.out.now in
    let inv = c.loop-i.invariant in
    elim c.if-p-i-ne0.branch [
      | then-p-i-ne0 w ↦
          let full = some p rows t c.requires.each i below w.if-p-i-ne0.true in
          let more = words-some p rows t i below full in
          let new = piece (get_or rows i []) in
          record {
            place = omega (arith, words-grown p rows t i below full, inv.place, w.at-is);
            laid =
                w.out-is
                ∙ laid_more (words xs i) new out at.out w.put_structure-words.new.out at.at inv.laid inv.place w.put_structure-words.ensures.out_after
                ∙ ap (λ (front : List ℕ). over front out) (sym more);
            summed = w.total-is ∙ totalled (words xs i) new _ _ inv.summed w.put_structure-words.ensures.value ∙ ap (λ (ws : List ℕ). sum ws % 65536) (sym more);
          }
      | else-p-i-ne0 w ↦
          let none = unmarked _ (sym (marked p rows t c.requires.each i below) ∙ w.if-p-i-ne0.false) in
          let same = words-none p rows t i below none in
          record {
            place = ap length same ∙ inv.place ∙ sym w.at-is;
            laid = w.out-is ∙ inv.laid ∙ ap (λ (front : List ℕ). over front out) (sym same);
            summed = w.total-is ∙ inv.summed ∙ ap (λ (ws : List ℕ). sum ws % 65536) (sym same);
          }
    ]

pub returns : goal.returns
returns c =
    let p = c.args.p in
    let rows = c.args.rows.now in
    let whole = words-all p rows c.requires.typed c.loop-i.i c.loop-i-test.false in
    record {
      value = c.loop-i.invariant.summed ∙ ap (λ (xs : List SlotRow). sum (map word_of (structures xs)) % 65536) whole;
      out_after = c.loop-i.invariant.laid ∙ ap (λ (xs : List SlotRow). over (map word_of (structures xs)) c.args.out.now) whole;
    }
