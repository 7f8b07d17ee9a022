-- What private functions promise each other on the way to an answer. No theorem for a signer speaks of it.
use Rattle.std.specs.Prelude.{ℕ, zero, suc, ◌+◌, ◌-◌, ◌*◌, ◌/◌, ◌%◌, ◌^◌, ◌≤◌, ◌<◌, ◌≡◌, List, [], ◌∷◌, eqb, length, get_or}
use Rattle.refusal.specs.Verdict.{Accepted}
use Rattle.bits.specs.Bits.{bits_of}
use Rattle.bits.specs.Peek.{peek_of, first_set}
use Rattle.scte20.specs.declared.Record.{Record}
use Rattle.scte20.specs.Value.{count_if}
use Rattle.scte20.specs.Reading.{flag_in, count_in, content_verdict}
use Rattle.scte20.specs.Inside.{construct_of, kept}

-- the first n places hold the constructs of a body, each as the number that its 26 bits write
abbrev pub Numbered : List ℕ → ℕ → List ℕ → Type 0
Numbered body n found = (i : ℕ) → i < n → get_or found i 0 ≡ peek_of body (21 + 26 * i) 26

-- and are numbers of 26 bits
abbrev pub Small : ℕ → List ℕ → Type 0
Small n found = (i : ℕ) → i < n → get_or found i 0 < 67108864

-- the records of k of them, from index i on
abbrev pub records_of : ℕ → ℕ → List ℕ → List Record
records_of zero i found = []
records_of (suc k) i found = construct_of (get_or found i 0) ∷ records_of k (i + 1) found

-- field and line of a construct, as one number
unfoldable pub place_in : ℕ → ℕ
place_in c = c / 131072 % 128

-- how many records of its field have priority 0, with those that count on
unfoldable pub urgent_in : ℕ → ℕ → ℕ → ℕ
urgent_in before urgent c = count_if (eqb (c / 16777216) 0) + kept (eqb (before / 32) (place_in c / 32)) urgent

-- k constructs from index i on are right, behind one of that place and with so many of its field that have priority 0: places rise, markers are 1,
-- and up to four of a field have priority 0
abbrev pub Held : ℕ → ℕ → ℕ → ℕ → List ℕ → Type 0
Held before urgent zero i found = Unit {0}
Held before urgent (suc k) i found =
    let c = get_or found i 0 in
    (before < place_in c) × (c % 2 ≡ 1) × (urgent_in before urgent c < 5) × Held (place_in c) (urgent_in before urgent c) k (i + 1) found

-- all bits from bit `from` on are 0: those of its byte, and all bytes behind
pub record Blank (body : List ℕ) (from : ℕ) : Type 0 where
  pub here : get_or body (from / 8) 0 % 2 ^ (8 - from % 8) ≡ 0
  pub behind : length body ≤ first_set body (from / 8 + 1)

-- what a yes vouches for: a body with flag 1 is accepted, and its constructs are gathered
pub record Gathers (body found : List ℕ) : Type 0 where
  pub accepted : content_verdict body ≡ Accepted
  pub flagged : flag_in (bits_of body) ≡ 1
  pub long : (25 + 26 * count_in (bits_of body) + 7) / 8 ≤ length body
  pub numbered : Numbered body (count_in (bits_of body)) found
