use Rattle.std.proofs.Common.{ℕ, ◌%◌, ◌<◌, ◌≤◌, List, [], ◌∷◌, length, get_or, take, set, sym, ap, ◌∙◌, ap₂, arith, take_all}
use Rattle.lists.specs.Room.{over}
use Rattle.lists.specs.Sum.{sum}
use Rattle.lists.proofs.Sum.{sum-append}
use Rattle.lists.proofs.Lay.{store-next}
use Rattle.anc.specs.Words.{word_of, byte_of}
use Rattle.sdp.specs.declared.Slot.{Slot}
use Rattle.sdp.specs.Value.{descriptor, empty_slot}
use Rattle.sdp.proofs.Types.{five}
use Rattle.subtitling_writer.proofs.Words.{slot_words, length-slot_words, slot_words_more}
use Rattle.subtitling_writer.proofs.put_descriptors.Goals as goal

pub loop-i-preserved : goal.loop-i-preserved
loop-i-preserved c =
    let ss = c.args.p.slots in
    let i = c.loop-i.i in
    let out = c.args.out.now in
    let places = five c.args.p _ c.well_formed.0 in
    let inside : i < length ss = omega (arith, places) in
    let within : i ≤ length ss = omega (arith, places) in
    let room : i < length out = omega arith in
    let new = word_of (byte_of (descriptor (get_or ss i empty_slot))) in
    let word = c.word-word.ensures ∙ ap (λ (d : ℕ). word_of (byte_of d)) c.descriptor.ensures in
    let more = slot_words_more ss i inside in
    record {
      laid =
          ap₂ (λ (xs : List ℕ) (w : ℕ). set xs i w) c.loop-i.invariant.laid word
          ∙ store-next (slot_words (take i ss)) out new i (length-slot_words ss i within) room
          ∙ ap (λ (front : List ℕ). over front out) (sym more);
      summed = omega (arith, c.loop-i.invariant.summed, word, ap sum more, sum-append (slot_words (take i ss)) (new ∷ []));
    }

pub returns : goal.returns
returns c =
    let ss = c.args.p.slots in
    let all : length ss ≤ c.loop-i.i = omega (arith, five c.args.p _ c.well_formed.0) in
    let whole = take_all c.loop-i.i ss all in
    record {
      value = c.loop-i.invariant.summed ∙ ap (λ (xs : List Slot). sum (slot_words xs) % 65536) whole;
      out_after = c.loop-i.invariant.laid ∙ ap (λ (xs : List Slot). over (slot_words xs) c.args.out.now) whole;
    }
