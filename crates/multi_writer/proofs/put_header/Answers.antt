-- Seven stores from the front are its seven words in place of the first seven.
use Rattle.std.proofs.Common.{◌≡◌, ℕ, ◌+◌, List, [], ◌∷◌, map, ◌∙◌, ap₂, arith}
use lib.Seq.{sets-eq}
use Rattle.lists.specs.Room.{over}
use Rattle.lists.specs.Sum.{sum}
use Rattle.anc.specs.Words.{parity_of, word_of}
use Rattle.anc.proofs.Words.{word_low}
use Rattle.multi.proofs.Whole.{did-word, sdid-word}
use Rattle.multi_writer.proofs.put_header.Goals as goal

abbrev header : ℕ → ℕ → List ℕ
header dc priority = 0x000 ∷ 0x3FF ∷ 0x3FF ∷ 0x143 ∷ 0x203 ∷ dc ∷ priority ∷ []

covers : (dc priority a b : ℕ) → a ≡ word_of dc → b ≡ word_of priority → 0x143 + 0x203 + a + b ≡ sum (map word_of (0x43 ∷ 0x03 ∷ dc ∷ priority ∷ []))
covers dc priority a b e f = omega (arith, did-word, sdid-word)

pub overflow_add-result-2 : goal.overflow_add-result-2
overflow_add-result-2 c = omega (arith, c.word-count.ensures, word_low c.args.dc (omega arith))

pub overflow_add-result-3 : goal.overflow_add-result-3
overflow_add-result-3 c =
    omega (arith, c.word-count.ensures, word_low c.args.dc (omega arith), c.word-rank.ensures, word_low c.args.priority (omega arith))

pub returns-clause-out_after : goal.returns-clause-out_after
unfolding word_of parity_of
returns-clause-out_after c =
    let out = c.args.out.now in
    sets-eq (header c.word-count.result c.word-rank.result) out 0 c.requires
    ∙ ap₂ (λ (a b : ℕ). over (header a b) out) c.word-count.ensures c.word-rank.ensures

pub returns-clause-value : goal.returns-clause-value
returns-clause-value c =
    covers c.args.dc c.args.priority c.word-count.result c.word-rank.result c.word-count.ensures c.word-rank.ensures
