-- The words of a multipacket, from its value alone. RULES, "Multipacket"; 002, 6.1 and 6.2; SMPTE 291M.
use Rattle.std.specs.Prelude.{ℕ, ◌+◌, ◌*◌, List, [], ◌∷◌, ◌++◌, map, length}
use Rattle.lists.specs.Flat.{flat}
use Rattle.anc.specs.Words.{word_of, checksum_of}
use Rattle.multi.specs.Value.{Inner, Multi}

-- words, and behind them their sum as CS has it. NCS is made as CS is, from NDID on
abbrev pub checked : List ℕ → List ℕ
checked ws = ws ++ (checksum_of ws ∷ [])

-- line in b0 to b4, field in b5, and zeros in b6 and b7
abbrev pub line_field : Inner → ℕ
line_field x = x.line + 32 * x.field.0

-- NDID, NSDID, NDC and the user words: what NCS covers
abbrev pub covered_inner : Inner → List ℕ
covered_inner x = map word_of (x.did ∷ x.sdid ∷ length x.bytes ∷ x.bytes)

abbrev pub layout_inner : Inner → List ℕ
layout_inner x = word_of (line_field x) ∷ checked (covered_inner x)

abbrev pub layout_inners : List Inner → List ℕ
layout_inners xs = flat layout_inner xs

-- the priority, and the inner packets one behind the other
abbrev pub user_words : Multi → List ℕ
user_words v = word_of v.priority ∷ layout_inners v.inners

-- DID, SDID, DC and the user words: what CS covers
abbrev pub covered : Multi → List ℕ
covered v = word_of 0x43 ∷ word_of 0x03 ∷ word_of (length (user_words v)) ∷ user_words v

-- the ancillary data flag, the covered words, CS
abbrev pub layout : Multi → List ℕ
layout v = 0x000 ∷ 0x3FF ∷ 0x3FF ∷ checked (covered v)
