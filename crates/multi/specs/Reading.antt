-- What reading a multipacket answers, for every list of words. RULES, "Order of checks": 1; 5 under 8 words; 2; 11 of the
-- header, the priority and CS; 6; 13; 26; inner packet by inner packet 26, 11, 6, a subtitling packet's own, 12; CS 12.
use Rattle.std.specs.Prelude.{ℕ, zero, suc, ◌/◌, ◌%◌, List, [], ◌∷◌, map, length, get_or, take, drop}
use Rattle.refusal.specs.Verdict.{Verdict}
use Rattle.refusal.specs.Checks.{first}
use Rattle.anc.specs.Words.{byte_of}
use Rattle.multi.specs.Value.{Inner, Multi}
use Rattle.multi.specs.Order.{bytes_in, size_in, inners_in, inner_checks, inners_checks, outer_checks, reading_checks}

-- one inner packet
unfoldable pub inner_verdict : ℕ → List ℕ → Verdict
inner_verdict at u = first (inner_checks at u)

-- those of all user words that are left
unfoldable pub inners_verdict : ℕ → List ℕ → Verdict
inners_verdict at u = first (inners_checks (length u) at u)

unfoldable pub outer_verdict : List ℕ → Verdict
outer_verdict s = first (outer_checks s)

unfoldable pub multi_verdict : List ℕ → Verdict
multi_verdict s = first (reading_checks s)

-- the inner packet with which the words begin
unfoldable pub read_inner : List ℕ → Inner
read_inner u =
    record {
      line = byte_of (get_or u 0 0) % 32;
      field = record { 0 = byte_of (get_or u 0 0) / 32 % 2 };
      did = byte_of (get_or u 1 0);
      sdid = byte_of (get_or u 2 0);
      bytes = bytes_in u;
    }

-- the words from each inner packet on, k at the most
abbrev pub rests : ℕ → List ℕ → List (List ℕ)
rests zero u = []
rests (suc k) [] = []
rests (suc k) (w ∷ u) = (w ∷ u) ∷ rests k (drop (size_in (w ∷ u)) (w ∷ u))

-- the words of each
abbrev pub cut : ℕ → List ℕ → List (List ℕ)
cut k u = map (λ (r : List ℕ). take (size_in r) r) (rests k u)

-- and what each holds
abbrev pub read_inners : ℕ → List ℕ → List Inner
read_inners k u = map read_inner (rests k u)

abbrev pub value_of : List ℕ → Multi
value_of s = record { priority = byte_of (get_or s 6 0); inners = read_inners (length (inners_in s)) (inners_in s) }
