-- What functions promise each other. No theorem for a signer speaks of it.
use Rattle.std.specs.Prelude.{◌≡◌, ℕ, ◌+◌, ◌-◌, ◌*◌, ◌/◌, ◌%◌, Bool, true, List, Option, IfSome}
use Rattle.lists.specs.Sum.{sum}
use Rattle.refusal.specs.Verdict.{Accepted}
use Rattle.anc.specs.Words.{words_verdict}

-- a yes vouches for words that stand one behind the other, the first at place; a no says nothing
abbrev pub Vouches : ℕ → List ℕ → Bool → Type 0
Vouches place ws r = r ≡ true → words_verdict place ws ≡ Accepted

-- a sum that is told vouches for the words too; none says nothing
abbrev pub VouchesSum : ℕ → List ℕ → Option ℕ → Type 0
VouchesSum place ws r = IfSome r (λ s. (words_verdict place ws ≡ Accepted) × (s ≡ sum ws % 65536))

-- CS of words with this sum
unfoldable pub cs_of : ℕ → ℕ
cs_of s = s % 512 + 512 * (1 - s % 512 / 256)
