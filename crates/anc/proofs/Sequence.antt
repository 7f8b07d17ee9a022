-- The definitions check words in the order of RULES.
-- Assumes nothing.
use Rattle.std.proofs.Common.{◌≡◌, ℕ, suc, List, [], ◌∷◌, refl}
use Rattle.refusal.specs.Checks.{first}
use Rattle.refusal.proofs.Checks.{and_then-assoc}
use Rattle.anc.specs.Words.{word_verdict, words_verdict, sum_verdict}
use Rattle.anc.specs.Order.{words_checks, sum_checks}

pub words-order : (place : ℕ) (ws : List ℕ) → words_verdict place ws ≡ first (words_checks place ws)
unfolding word_verdict
words-order place [] = refl
words-order place (w ∷ ws) = simp (words-order (suc place) ws, and_then-assoc)

pub sum-order : (place w : ℕ) → sum_verdict place w ≡ first (sum_checks place w)
unfolding sum_verdict
sum-order place w = refl
