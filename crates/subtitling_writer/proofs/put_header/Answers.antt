-- Ten stores from the front are its ten words in place of the first ten.
use Rattle.std.proofs.Common.{ℕ, List, [], ◌∷◌, ap, ◌∙◌}
use lib.Seq.{sets-eq}
use Rattle.lists.specs.Room.{over}
use Rattle.anc.specs.Words.{parity_of, word_of}
use Rattle.subtitling_writer.proofs.put_header.Goals as goal

abbrev header : ℕ → List ℕ
header w = 0x000 ∷ 0x3FF ∷ 0x3FF ∷ 0x143 ∷ 0x102 ∷ w ∷ 0x151 ∷ 0x115 ∷ w ∷ 0x102 ∷ []

pub returns-clause-out_after : goal.returns-clause-out_after
unfolding word_of parity_of
returns-clause-out_after c =
    let out = c.args.out.now in
    sets-eq (header c.word-count.result) out 0 c.requires ∙ ap (λ (w : ℕ). over (header w) out) c.word-count.ensures
