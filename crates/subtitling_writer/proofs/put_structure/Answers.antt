use Rattle.std.proofs.Common.{ℕ, ◌+◌, ◌%◌, ◌<◌, ◌≤◌, List, [], ◌∷◌, length, get_or, take, set, sym, ap, ◌∙◌, ap₂, arith, take_all}
use lib.Seq.{sets-eq}
use Rattle.lists.specs.Room.{over}
use Rattle.lists.specs.Sum.{sum}
use Rattle.lists.proofs.Sum.{sum-append}
use Rattle.lists.proofs.Lay.{store-next}
use Rattle.anc.specs.Words.{word_of}
use Rattle.subtitling_writer.proofs.Words.{row_words, row_words-word_of, length-row_words, row_words_more}
use Rattle.subtitling_writer.proofs.put_structure.Goals as goal

pub loop-j-init : goal.loop-j-init
loop-j-init c = record { laid = sets-eq (row_words []) c.args.out.now 0 (omega arith); summed = omega arith }

pub loop-j-preserved : goal.loop-j-preserved
loop-j-preserved c =
    let r = c.args.row.now in
    let j = c.loop-j.j in
    let out = c.args.out.now in
    let inside : j < length r = omega arith in
    let within : j ≤ length r = omega arith in
    let room : 3 + j < length out = omega arith in
    let more = row_words_more r j inside in
    let word = c.word-word.ensures in
    record {
      laid =
          ap₂ (λ (xs : List ℕ) (w : ℕ). set xs (3 + j) w) c.loop-j.invariant.laid word
          ∙ store-next (row_words (take j r)) out (word_of (get_or r j 0)) (3 + j) (length-row_words r j within) room
          ∙ ap (λ (front : List ℕ). over front out) (sym more);
      summed = omega (arith, c.loop-j.invariant.summed, word, ap sum more, sum-append (row_words (take j r)) (word_of (get_or r j 0) ∷ []));
    }

pub returns : goal.returns
returns c =
    let r = c.args.row.now in
    let all : length r ≤ c.loop-j.j = omega arith in
    let whole = take_all c.loop-j.j r all in
    record {
      value = c.loop-j.invariant.summed ∙ ap (λ (bytes : List ℕ). sum (row_words bytes) % 65536) whole ∙ ap (λ (ws : List ℕ). sum ws % 65536) (row_words-word_of r);
      out_after =
          c.loop-j.invariant.laid
          ∙ ap (λ (bytes : List ℕ). over (row_words bytes) c.args.out.now) whole
          ∙ ap (λ (front : List ℕ). over front c.args.out.now) (row_words-word_of r);
    }
