-- What functions promise each other. No theorem for a signer speaks of it.
use Rattle.std.specs.Prelude.{ℕ, ◌-◌, ◌%◌, ◌≤◌, ◌≡◌, Bool, true, List, [], ◌∷◌, ◌++◌, map, drop, length, slice_index, Option, IfSome, Result, Err, MatchResult}
use Rattle.refusal.specs.declared.Reason.{Reason}
use Rattle.refusal.specs.declared.Item.{Item}
use Rattle.refusal.specs.Verdict.{Accepted}
use Rattle.anc.specs.Words.{word_of, byte_of, checksum_of}
use Rattle.sdp.specs.declared.Packet.{Packet}
use Rattle.sdp.specs.Value.{descriptor, held}
use Rattle.sdp.specs.Layout.{count, sdp_checksum}
use Rattle.subtitling.specs.Reading.{packet_verdict}
use Rattle.subtitling.specs.Writing.{value_verdict}

-- a yes vouches for a packet; a no says nothing
abbrev pub Vouches : List ℕ → Bool → Type 0
Vouches s r = r ≡ true → packet_verdict s ≡ Accepted

-- what stands around the words that are summed: the length, the flag, DID, SDID and DC
pub record Surround (s : List ℕ) : Type 0 where
  pub long : 20 ≤ length s
  pub short : length s ≤ 245
  pub flag0 : slice_index s 0 ≡ 0x000
  pub flag1 : slice_index s 1 ≡ 0x3FF
  pub flag2 : slice_index s 2 ≡ 0x3FF
  pub did : slice_index s 3 ≡ 0x143
  pub sdid : slice_index s 4 ≡ 0x102
  pub dc : slice_index s 5 % 256 ≡ length s - 7

-- a number of structures that is told is the value's, and vouches for the value in an output of this room; none says nothing
abbrev pub CountVouches : Packet → List (List ℕ) → ℕ → Option ℕ → Type 0
CountVouches p rows room told =
    IfSome told (λ k. (value_verdict (held p rows) room ≡ Accepted) × (k ≡ count (map descriptor p.slots)))

-- how many structures a value brings, or why it cannot be written to an output of this room
abbrev pub CountJudged : Packet → List (List ℕ) → ℕ → Result ℕ (Reason × Item) → Type 0
CountJudged p rows room told =
    MatchResult told
    (λ k. (value_verdict (held p rows) room ≡ Accepted) × (k ≡ count (map descriptor p.slots)))
    (λ why. value_verdict (held p rows) room ≡ Err why)

-- a packet up to its SDP checksum, with that word behind it,
abbrev pub summed : List ℕ → List ℕ
summed front = front ++ (word_of (sdp_checksum (map byte_of (drop 6 front))) ∷ [])

-- and with CS behind that
abbrev pub sealed : List ℕ → List ℕ
sealed front = summed front ++ (checksum_of (drop 3 (summed front)) ∷ [])
