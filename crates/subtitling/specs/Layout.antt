-- The words of a subtitling packet, from its value alone. RULES, "Subtitling packet"; 002, clause 4. The user bytes
-- that it carries are laid out in `sdp`.
use Rattle.std.specs.Prelude.{ℕ, List, [], ◌∷◌, ◌++◌, map, length}
use Rattle.anc.specs.Words.{word_of, checksum_of}
use Rattle.sdp.specs.Value.{Sdp}
use Rattle.sdp.specs.Layout.{user_bytes}

-- DID, SDID, DC and the user words: what CS covers
abbrev pub covered : List ℕ → List ℕ
covered bytes = map word_of (0x43 ∷ 0x02 ∷ length bytes ∷ bytes)

-- the ancillary data flag, the covered words, CS
abbrev pub packet : List ℕ → List ℕ
packet bytes = 0x000 ∷ 0x3FF ∷ 0x3FF ∷ (covered bytes ++ (checksum_of (covered bytes) ∷ []))

abbrev pub layout : Sdp → List ℕ
layout v = packet (user_bytes v)
