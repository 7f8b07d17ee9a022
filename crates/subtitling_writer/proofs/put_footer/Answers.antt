-- Three stores from the front are its three words in place of the first three, and their sum is told.
use Rattle.std.proofs.Common.{◌≡◌, ℕ, ◌/◌, ◌%◌, ◌<◌, ◌≤◌, List, [], ◌∷◌, sym, refl, ◌∙◌, subst, ap₂, arith}
use lib.Seq.{sets-eq}
use Rattle.lists.specs.Room.{over}
use Rattle.anc.specs.Words.{parity_of, word_of}
use Rattle.anc.proofs.Words.{word_low}
use Rattle.subtitling_writer.proofs.put_footer.Goals as goal

abbrev words : ℕ → ℕ → List ℕ
words high low = 0x274 ∷ high ∷ low ∷ []

identified : word_of 0x74 ≡ 0x274
unfolding word_of parity_of
identified = refl

few : (w b : ℕ) → w ≡ word_of b → b < 256 → w ≤ 1023
few w b e h = subst (λ (v : ℕ). v ≤ 1023) (sym e) (word_low b h)

pub overflow_add-result : goal.overflow_add-result
overflow_add-result c = omega (arith, few c.word-high.result (c.args.counter / 256) c.word-high.ensures (omega (arith, c.requires.counter_bound)))

pub overflow_add-result-2 : goal.overflow_add-result-2
overflow_add-result-2 c =
    let high = few c.word-high.result (c.args.counter / 256) c.word-high.ensures (omega (arith, c.requires.counter_bound)) in
    let low = few c.word-low.result (c.args.counter % 256) c.word-low.ensures (omega arith) in
    omega (arith, high, low)

pub returns-clause-value : goal.returns-clause-value
returns-clause-value c = omega (arith, identified, c.word-high.ensures, c.word-low.ensures)

pub returns-clause-out_after : goal.returns-clause-out_after
unfolding word_of parity_of
returns-clause-out_after c =
    let out = c.args.out.now in
    sets-eq (words c.word-high.result c.word-low.result) out 0 c.requires.in_bounds
    ∙ ap₂ (λ (high low : ℕ). over (words high low) out) c.word-high.ensures c.word-low.ensures
