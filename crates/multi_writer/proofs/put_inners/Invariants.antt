-- The first i inner packets, which take at words, are laid over the output, and total is their sum.
use Rattle.std.proofs.Common.{◌≡◌, ℕ, ◌%◌, List, map, take}
use Rattle.lists.specs.Room.{over}
use Rattle.lists.specs.Sum.{sum}
use Rattle.multi.specs.Layout.{layout_inners}
use Rattle.multi.specs.Lent.{inner_of}
use Rattle.multi.specs.Inside.{heads_words}
use Rattle.multi_writer.proofs.put_inners.Given as goal

-- the words of the first i inner packets
abbrev pub front : List ℕ → List (List ℕ) → ℕ → List ℕ
front words heads i = layout_inners (map (inner_of words) (take i heads))

abbrev pub invariant-loop-i : goal.invariant-loop-i
invariant-loop-i l =
    (l.at ≡ heads_words (take l.i l.heads))
    × (l.out ≡ over (front l.words l.heads l.i) l.initial.out)
    × (l.total ≡ sum (front l.words l.heads l.i) % 65536)
