-- What writing a multipacket answers, and what the lent output then holds, for every value and output. RULES, "Order of
-- checks": 15 of the priority; 26; inner packet by inner packet 15, 11, a subtitling packet's own; 13; 14.
use Rattle.std.specs.Prelude.{ℕ, ◌<◌, ◌≡◌, List, [], ◌∷◌, map, length, get_or}
use Rattle.refusal.specs.declared.Refusal.{Refusal}
use Rattle.refusal.specs.Verdict.{Verdict}
use Rattle.refusal.specs.declared.Written.{Written}
use Rattle.refusal.specs.Checks.{first}
use Rattle.refusal.specs.Answers.{Wrote}
use Rattle.multi.specs.Layout.{layout}
use Rattle.multi.specs.Order.{head_checks, writing_checks}
use Rattle.multi.specs.Lent.{Told, held}

-- one inner packet
unfoldable pub head_verdict : List ℕ → List ℕ → Verdict
head_verdict words h = first (head_checks words h)

-- each of them in order
abbrev pub heads_verdict : List ℕ → List (List ℕ) → Verdict
heads_verdict words heads = first (map (head_verdict words) heads)

unfoldable pub value_verdict : Told → ℕ → Verdict
value_verdict t room = first (writing_checks t.priority t.heads t.words (held t) room)

-- the promise of `write_from`
abbrev pub Writes : Told → List ℕ → Written → List ℕ → Type 0
Writes t out answer exit = Wrote (value_verdict t (length out)) (layout (held t)) out answer exit

-- the refusals that a value gets for itself, whatever the room: one of these numbers, without a place
abbrev pub value_numbers : List ℕ
value_numbers = 5 ∷ 6 ∷ 7 ∷ 11 ∷ 12 ∷ 13 ∷ 15 ∷ 20 ∷ 26 ∷ []

abbrev pub ValueRefused : Refusal → Type 0
ValueRefused r = (r.place ≡ 0) × ((i : ℕ) × (i < 9) × (get_or value_numbers i 0 ≡ r.number))
