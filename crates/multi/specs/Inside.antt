-- What functions promise each other. No theorem for a signer speaks of it.
use Rattle.std.specs.Prelude.{ℕ, ◌+◌, ◌-◌, ◌*◌, ◌/◌, ◌%◌, ◌≤◌, ◌<◌, ◌≡◌, ◌⊎◌, Bool, true, false, List, [], ◌∷◌, map, eqb, length, get_or, take, drop, Option, IfSome}
use Rattle.lists.specs.Part.{part}
use Rattle.lists.specs.Sum.{sum}
use Rattle.refusal.specs.Verdict.{Verdict}
use Rattle.refusal.specs.Verdict.{Accepted}
use Rattle.refusal.specs.Checks.{first}
use Rattle.anc.specs.Words.{parity_of, word_of, byte_of, checksum_of}
use Rattle.sdp.specs.User.{user_verdict}
use Rattle.multi.specs.Order.{subtitling_id, only_if, bytes_in, ncs_at, size_in, inners_in, covered_in, last_word, inner_checks, outer_checks}
use Rattle.multi.specs.Value.{Inner}
use Rattle.multi.specs.Reading.{inner_verdict, inners_verdict, multi_verdict, read_inners}

-- the checks of `outer_checks` up to 11, and those behind
unfoldable pub outer_form : List ℕ → Verdict
outer_form s = first (take 7 (outer_checks s))

unfoldable pub outer_header : List ℕ → Verdict
outer_header s = first (drop 7 (outer_checks s))

-- the checks of `inner_checks` up to 11, and those behind
unfoldable pub inner_form : ℕ → List ℕ → Verdict
inner_form at u = first (take 4 (inner_checks at u))

unfoldable pub inner_rules : ℕ → List ℕ → Verdict
inner_rules at u = first (drop 4 (inner_checks at u))

-- the rules over the user words, where the identifiers ask for them
abbrev pub own_verdict : ℕ → List ℕ → Verdict
own_verdict at u = only_if (subtitling_id (byte_of (get_or u 1 0)) (byte_of (get_or u 2 0))) (user_verdict (at + 3) (bytes_in u))

-- the inner packets of a multipacket from word `at` on, up to CS
abbrev pub inners_from : ℕ → List ℕ → List Inner
inners_from at s = read_inners (length (part at (length s - 1) s)) (part at (length s - 1) s)

-- the words of the inner packets that heads tell of, by their counts
abbrev pub heads_words : List (List ℕ) → ℕ
heads_words [] = 0
heads_words (h ∷ heads) = 5 + get_or h 5 0 + heads_words heads

-- a count of the user words that need not go on above 255
abbrev pub CountsUser : List (List ℕ) → ℕ → Type 0
CountsUser heads n = (n ≡ 1 + heads_words heads) ⊎ ((255 < n) × (255 < 1 + heads_words heads))

-- LINE/FIELD, NDID, NSDID and NDC, as a head tells them
abbrev pub header_words : List ℕ → List ℕ
header_words h = map word_of ((get_or h 0 0 + 32 * get_or h 1 0) ∷ get_or h 2 0 ∷ get_or h 3 0 ∷ get_or h 5 0 ∷ [])

-- A QUICK LOOK AT ALL WORDS: A YES VOUCHES, A NO SAYS NOTHING

-- a yes vouches for a multipacket
abbrev pub Vouches : List ℕ → Bool → Type 0
Vouches s r = r ≡ true → multi_verdict s ≡ Accepted

-- a word that is not its byte's counts 1: b9 and b8 of a byte's word are 10 or 01, so that they and the parity make 2
abbrev pub mark : Bool → ℕ
mark true = 0
mark false = 1

unfoldable pub stray : ℕ → ℕ
stray w = mark (eqb (w / 256 + parity_of (byte_of w)) 2)

abbrev pub strays : List ℕ → ℕ
strays ws = sum (map stray ws)

-- what is found around the inner packets: 1, 5, 2, 6, 13, 26
pub record Framed (s : List ℕ) : Type 0 where
  pub long : length s ≤ 262
  pub some : 8 < length s
  pub flag0 : get_or s 0 0 ≡ 0x000
  pub flag1 : get_or s 1 0 ≡ 0x3FF
  pub flag2 : get_or s 2 0 ≡ 0x3FF
  pub did : get_or s 3 0 ≡ 0x143
  pub sdid : get_or s 4 0 ≡ 0x203
  pub dc : byte_of (get_or s 5 0) ≡ length s - 7

-- what is found of the rest: 11 of DC and the priority, the inner packets, 12 of CS
pub record Filled (s : List ℕ) : Type 0 where
  pub pair : strays (part 5 7 s) ≡ 0
  pub own : inners_verdict 7 (inners_in s) ≡ Accepted
  pub total : last_word s ≡ checksum_of (covered_in s)

-- the sum of the inner packet with which words begin. It is all there, and it is accepted wherever it stands if none of its
-- words before NCS is a stray
pub record Sums (u : List ℕ) (n : ℕ) : Type 0 where
  pub header : 4 ≤ length u
  pub long : size_in u ≤ length u
  pub total : n ≡ sum (take (size_in u) u) % 65536
  pub holds : strays (take (ncs_at u) u) ≡ 0 → (at : ℕ) → inner_verdict at u ≡ Accepted

-- none says nothing
abbrev pub SumsInner : List ℕ → Option ℕ → Type 0
SumsInner u r = IfSome r (Sums u)
