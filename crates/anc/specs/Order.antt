-- RULES, "Order of checks": the checks of words, 11, as lists. The first word stands at `place`.
use Rattle.std.specs.Prelude.{ℕ, suc, ◌/◌, ◌%◌, not, List, [], ◌∷◌, ◌==◌, nat_lt}
use Rattle.refusal.specs.Verdict.{Verdict}
use Rattle.refusal.specs.declared.Reason.TheVariants.{WordRange, WordParity}
use Rattle.refusal.specs.declared.Item.TheVariants.{Word}
use Rattle.refusal.specs.Checks.{refuse_if}
use Rattle.anc.specs.Words.{word_of, byte_of}

-- 11: each word in order, above 1023, or its parity bits wrong
abbrev pub words_checks : ℕ → List ℕ → List Verdict
words_checks place [] = []
words_checks place (w ∷ ws) =
    refuse_if (nat_lt 1023 w) WordRange (Word place)
    ∷ refuse_if (not (w == word_of (byte_of w))) WordParity (Word place)
    ∷ words_checks (suc place) ws

-- 11: CS, above 1023, or b9 not inverse to b8
abbrev pub sum_checks : ℕ → ℕ → List Verdict
sum_checks place w =
    refuse_if (nat_lt 1023 w) WordRange (Word place)
    ∷ refuse_if (w / 512 == w / 256 % 2) WordParity (Word place)
    ∷ []
