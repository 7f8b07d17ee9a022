-- The user bytes of a subtitling packet, from its value alone. RULES, "Subtitling packet"; 002, clause 5.
use Rattle.std.specs.Prelude.{ℕ, zero, suc, ◌+◌, ◌-◌, ◌*◌, ◌/◌, ◌%◌, List, [], ◌∷◌, ◌++◌, map}
use Rattle.lists.specs.Sum.{sum}
use Rattle.sdp.specs.Value.{SlotRow, Sdp, descriptor}

abbrev pub descriptors_of : List SlotRow → List ℕ
descriptors_of xs = map (λ (x : SlotRow). descriptor x.slot) xs

-- how many descriptors are not 0
abbrev pub count : List ℕ → ℕ
count [] = 0
count (zero ∷ ds) = count ds
count (suc d ∷ ds) = suc (count ds)

-- one 45-byte structure for a descriptor that is not 0: 55 55 27, then the 42 bytes as they are
abbrev pub structure : ℕ → List ℕ → List ℕ
structure zero row = []
structure (suc d) row = 0x55 ∷ 0x55 ∷ 0x27 ∷ row

abbrev pub structures : List SlotRow → List ℕ
structures [] = []
structures (x ∷ xs) = structure (descriptor x.slot) x.row ++ structures xs

-- with k structures
abbrev pub user_length : ℕ → ℕ
user_length k = 13 + 45 * k

-- 74, counter high, counter low
abbrev pub footer : ℕ → List ℕ
footer counter = 0x74 ∷ counter / 256 ∷ counter % 256 ∷ []

-- 51, 15, LENGTH, 02, five descriptors, the structures in the same order, and the footer
abbrev pub body : Sdp → List ℕ
body v =
    0x51 ∷ 0x15 ∷ user_length (count (descriptors_of v.slots)) ∷ 0x02
    ∷ (descriptors_of v.slots ++ (structures v.slots ++ footer v.counter))

-- the byte that makes the sum 0 modulo 256
unfoldable pub sdp_checksum : List ℕ → ℕ
sdp_checksum bytes = (256 - sum bytes % 256) % 256

-- the user bytes, from 51 to the SDP checksum
abbrev pub user_bytes : Sdp → List ℕ
user_bytes v = body v ++ (sdp_checksum (body v) ∷ [])
