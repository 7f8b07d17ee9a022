-- The rules over the user bytes of a subtitling packet, apart from its header and CS. RULES, "Subtitling packet" and
-- "Order of checks": 6 of 51 and 15; 13 of LENGTH; 6 of the format; 7 of each descriptor; 13 of DC; 20 of each
-- structure; 6 of the footer; 12.
--
-- The bytes are those of the user words. `dc` is the word of the packet in which DC stands; the user words follow it.
use Rattle.std.specs.Prelude.{ℕ, zero, suc, ◌+◌, ◌-◌, ◌*◌, ◌/◌, ◌%◌, not, ◌&&◌, ◌||◌, List, [], ◌∷◌, eqb, ltb, length, get_or, take, drop}
use Rattle.lists.specs.Part.{part}
use Rattle.lists.specs.Sum.{sum}
use Rattle.refusal.specs.Verdict.{Verdict}
use Rattle.refusal.specs.Verdict.{Accepted}
use Rattle.refusal.specs.declared.Reason.TheVariants.{Ends, Unfixed, DescriptorLine, SdpChecksum, Unfit}
use Rattle.refusal.specs.declared.Fixed.TheVariants.{Identifier, FormatCode, RunIn, FramingCode, Footer}
use Rattle.refusal.specs.declared.Misfit.TheVariants.{SdpLength, Structures}
use Rattle.refusal.specs.declared.Item.{Item}
use Rattle.refusal.specs.declared.Item.TheVariants.{Word}
use Rattle.refusal.specs.Checks.{refuse_if, and_then, first}
use Rattle.sdp.specs.declared.Slot.{Slot}
use Rattle.sdp.specs.Value.{SlotRow, Sdp, together, zero_row}
use Rattle.sdp.specs.Layout.{count, user_length}

-- 7: line 1 to 5, or 23 and above
unfoldable pub line_verdict : Item → ℕ → Verdict
line_verdict item l = refuse_if (ltb 0 l && (ltb l 6 || ltb 22 l)) DescriptorLine item

abbrev pub descriptors_verdict : ℕ → List ℕ → Verdict
descriptors_verdict at [] = Accepted
descriptors_verdict at (d ∷ ds) = and_then (line_verdict (Word at) (d % 32)) (descriptors_verdict (suc at) ds)

-- 20: a structure begins 55 55 27
unfoldable pub structure_verdict : ℕ → List ℕ → Verdict
structure_verdict at u =
    first
    (refuse_if (not (eqb (get_or u 0 0) 0x55)) (Unfixed RunIn) (Word at)
    ∷ refuse_if (not (eqb (get_or u 1 0) 0x55)) (Unfixed RunIn) (Word (at + 1))
    ∷ refuse_if (not (eqb (get_or u 2 0) 0x27)) (Unfixed FramingCode) (Word (at + 2))
    ∷ [])

-- the same of k structures, one behind the other
abbrev pub structures_verdict : ℕ → ℕ → List ℕ → Verdict
structures_verdict at zero u = Accepted
structures_verdict at (suc k) u = and_then (structure_verdict at u) (structures_verdict (at + 45) k (drop 45 u))

-- the five descriptors among the user bytes, and how many are not 0
abbrev pub descriptors_in : List ℕ → List ℕ
descriptors_in u = part 4 9 u

abbrev pub structures_in : List ℕ → ℕ
structures_in u = count (descriptors_in u)

-- what stands before the structures. 13 bytes are there in every packet of 20 words, so that 5 is never given in one
unfoldable pub head_verdict : ℕ → List ℕ → Verdict
head_verdict dc u =
    first
    (refuse_if (ltb (length u) 13) Ends (Word (dc + 1 + length u))
    ∷ refuse_if (not (eqb (get_or u 0 0) 0x51)) (Unfixed Identifier) (Word (dc + 1))
    ∷ refuse_if (not (eqb (get_or u 1 0) 0x15)) (Unfixed Identifier) (Word (dc + 2))
    ∷ refuse_if (not (eqb (get_or u 2 0) (length u))) (Unfit SdpLength) (Word (dc + 3))
    ∷ refuse_if (not (eqb (get_or u 3 0) 0x02)) (Unfixed FormatCode) (Word (dc + 4))
    ∷ descriptors_verdict (dc + 5) (descriptors_in u)
    ∷ refuse_if (not (eqb (length u) (user_length (structures_in u)))) (Unfit Structures) (Word dc)
    ∷ [])

-- the structures, the footer's 74, and the SDP checksum: all the user bytes add up to 0 modulo 256
unfoldable pub tail_verdict : ℕ → List ℕ → Verdict
tail_verdict dc u =
    first
    (structures_verdict (dc + 10) (structures_in u) (drop 9 u)
    ∷ refuse_if (not (eqb (get_or u (length u - 4) 0) 0x74)) (Unfixed Footer) (Word (dc + (length u - 3)))
    ∷ refuse_if (not (eqb (sum u % 256) 0)) SdpChecksum (Word (dc + length u))
    ∷ [])

abbrev pub user_verdict : ℕ → List ℕ → Verdict
user_verdict dc u = and_then (head_verdict dc u) (tail_verdict dc u)

-- full exactly when the descriptor is not 0
abbrev pub mark_of : ℕ → ℕ
mark_of zero = 0
mark_of (suc d) = 1

unfoldable pub slot_of : ℕ → Slot
slot_of d = record { full = mark_of d; line = d % 32; reserved = d / 32 % 4; field = record { 0 = d / 128 } }

-- a slot's row: 42 bytes behind 55 55 27 where it is full, else zeros; and where the next structure begins
abbrev pub row_in : ℕ → List ℕ → List ℕ
row_in zero u = zero_row
row_in (suc d) u = take 42 (drop 3 u)

abbrev pub behind : ℕ → List ℕ → List ℕ
behind zero u = u
behind (suc d) u = drop 45 u

-- the slots of these descriptors, whose structures begin the bytes u
abbrev pub slots_in : List ℕ → List ℕ → List SlotRow
slots_in [] u = []
slots_in (d ∷ ds) u = together (slot_of d) (row_in d u) ∷ slots_in ds (behind d u)

unfoldable pub counter_in : List ℕ → ℕ
counter_in u = 256 * get_or u (length u - 3) 0 + get_or u (length u - 2) 0

-- the value that the user bytes hold
abbrev pub user_value : List ℕ → Sdp
user_value u = record { counter = counter_in u; slots = slots_in (descriptors_in u) (drop 9 u) }
