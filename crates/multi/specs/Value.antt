-- The value of a multipacket, and when it is legal. RULES, "Multipacket"; 002, clause 6.
use Rattle.std.specs.Prelude.{ℕ, ◌+◌, ◌≤◌, ◌<◌, ◌≡◌, List, [], ◌∷◌, length}
use Rattle.lists.specs.Each.{Each}
use Rattle.lists.specs.Bytes.{Bytes}
use Rattle.fields.specs.declared.OddEven.{OddEven}
use Rattle.sdp.specs.Value.{Sdp}
use Rattle.sdp.specs.Value as subtitling
use Rattle.sdp.specs.Layout.{user_bytes}

-- an inner packet: the line and the field of its LINE/FIELD word (1 odd, 0 even), the bytes of NDID and NSDID, and those
-- of its user words
pub record Inner : Type 0 where
  pub line : ℕ
  pub field : OddEven
  pub did : ℕ
  pub sdid : ℕ
  pub bytes : List ℕ

-- the priority, and the inner packets in order
pub record Multi : Type 0 where
  pub priority : ℕ
  pub inners : List Inner

-- the user bytes of a legal subtitling packet (`sdp`)
abbrev pub Subtitles : List ℕ → Type 0
Subtitles bytes = (v : Sdp) × subtitling.Legal v × (user_bytes v ≡ bytes)

-- line 0 to 31; what 143, 102 carries are subtitles, and what others carry is carried as it is
pub record LegalInner (x : Inner) : Type 0 where
  pub line : x.line < 32
  pub field : x.field.0 < 2
  pub did : x.did < 256
  pub sdid : x.sdid < 256
  pub bytes : Bytes x.bytes
  pub subtitles : x.did ≡ 0x43 → x.sdid ≡ 0x02 → Subtitles x.bytes

-- the same inner packet with other user bytes
abbrev pub with_bytes : Inner → List ℕ → Inner
with_bytes x bytes = record { line = x.line; field = x.field; did = x.did; sdid = x.sdid; bytes = bytes }

-- how many words an inner packet has: LINE/FIELD, NDID, NSDID, NDC and NCS beside its user words
abbrev pub inner_words : Inner → ℕ
inner_words x = 5 + length x.bytes

abbrev pub inners_words : List Inner → ℕ
inners_words [] = 0
inners_words (x ∷ xs) = inner_words x + inners_words xs

-- the user words of the multipacket, the priority among them
abbrev pub user_count : Multi → ℕ
user_count v = 1 + inners_words v.inners

-- one inner packet or more, and 255 user words at the most
pub record Legal (v : Multi) : Type 0 where
  pub priority : v.priority < 256
  pub some : 0 < length v.inners
  pub each : Each LegalInner v.inners
  pub fits : user_count v ≤ 255

-- no value: what a refusal holds
abbrev pub none : Multi
none = record { priority = 0; inners = [] }
