-- The descriptors from an index on, and the structures from one on: a loop judges them one after the other.
-- Assumes nothing.
use Prim.Native.Nat.{ℕ, suc, ◌+◌, ◌-◌, ◌*◌, ◌%◌, ◌≤◌, ◌<◌}
use native.Mathlib.Omega.{arith}
use mathlib.Core.Path.{◌≡◌, ◌∙◌, ap, ap₂, sym}
use mathlib.Core.List.{List, [], ◌∷◌, map}
use native.Mathlib.Nat.{add-zero}
use Rattle.std.proofs.Common.{Err}
use mathlib.Core.Bool.{Bool, true, not}
use Rattle.sdp.proofs.Accepted.{accepted-head}
use Rattle.sdp_reader.specs.Inside.{Vouches, Opens}
use lib.Dec.{eqb, ltb}
use borrow.Author.Tests.{eq-eqb, ne_eqb, le-ltb}
use Rattle.lists.specs.Sum.{sum}
use Rattle.lists.proofs.Sum.{sum_low}
use Rattle.sdp.specs.Layout.{user_length}
use Rattle.sdp.proofs.Descriptors.{few-structures}
use lib.ListN.{length, get_or, drop, length-map}
use lib.Seq.{drop-drop}
use Rattle.lists.specs.Part.{part}
use Rattle.lists.proofs.Part.{part-cons, part_none}
use Rattle.refusal.specs.Verdict.{Verdict}
use Rattle.refusal.specs.Verdict.{Accepted, Refused}
use Rattle.refusal.specs.declared.Reason.{Reason}
use Rattle.refusal.specs.declared.Reason.TheVariants.{Ends, Unfixed, SdpChecksum, Unfit}
use Rattle.refusal.specs.declared.Fixed.TheVariants.{Identifier, FormatCode, RunIn, FramingCode, Footer}
use Rattle.refusal.specs.declared.Misfit.TheVariants.{SdpLength, Structures}
use Rattle.refusal.specs.declared.Item.{Item}
use Rattle.refusal.specs.declared.Item.TheVariants.{Word}
use Rattle.refusal.specs.Checks.{refuse_if, and_then, first}
use Rattle.anc.specs.Words.{byte_of}
use Rattle.sdp.specs.User.{line_verdict, descriptors_in, descriptors_verdict, structure_verdict, structures_verdict, structures_in, head_verdict, tail_verdict}
use Rattle.sdp.proofs.Bytes.{byte_at, byte-from}

-- the descriptors from index i of the user words on
abbrev pub lines : List ℕ → ℕ → ℕ → Verdict
lines user dc i = descriptors_verdict (dc + 1 + i) (part i 9 (map byte_of user))

pub lines-first : (user : List ℕ) (dc : ℕ) → descriptors_verdict (dc + 5) (descriptors_in (map byte_of user)) ≡ lines user dc 4
lines-first user dc =
    let first : dc + 5 ≡ dc + 1 + 4 = omega arith in
    ap (λ (k : ℕ). descriptors_verdict k (descriptors_in (map byte_of user))) first

-- the descriptor at i decides, then those behind it
pub lines_next : (user : List ℕ) (dc i : ℕ) → i < 9 → 9 ≤ length user
    → lines user dc i ≡ and_then (line_verdict (Word (dc + 1 + i)) (get_or user i 0 % 32)) (lines user dc (i + 1))
lines_next user dc i more long =
    let u = map byte_of user in
    let inside : i < length u = omega (arith, length-map user byte_of) in
    let line : get_or u i 0 % 32 ≡ get_or user i 0 % 32 = omega (arith, byte_at user i) in
    let place : suc (dc + 1 + i) ≡ dc + 1 + (i + 1) = omega arith in
    ap (descriptors_verdict (dc + 1 + i)) (part-cons u 0 i 9 more inside)
    ∙ ap₂ (λ (l k : ℕ). and_then (line_verdict (Word (dc + 1 + i)) l) (descriptors_verdict k (part (i + 1) 9 u))) line place

-- where it is accepted, those behind it decide alone, and where it is refused it does
pub lines-passed : (user : List ℕ) (dc i : ℕ) → i < 9 → 9 ≤ length user → line_verdict (Word (dc + 1 + i)) (get_or user i 0 % 32) ≡ Accepted → lines user dc i ≡ lines user dc (i + 1)
lines-passed user dc i more long right = lines_next user dc i more long ∙ ap (λ (v : Verdict). and_then v (lines user dc (i + 1))) right

pub lines-stopped : (user : List ℕ) (dc i : ℕ) {why : Reason × Item} → i < 9 → 9 ≤ length user
    → line_verdict (Word (dc + 1 + i)) (get_or user i 0 % 32) ≡ Err why → lines user dc i ≡ Err why
lines-stopped user dc i more long wrong = lines_next user dc i more long ∙ ap (λ (v : Verdict). and_then v (lines user dc (i + 1))) wrong

pub lines_none : (user : List ℕ) (dc i : ℕ) → 9 ≤ i → lines user dc i ≡ Accepted
lines_none user dc i done = ap (descriptors_verdict (dc + 1 + i)) (part_none (map byte_of user) i 9 done)

-- the structures from structure i on, of k
abbrev pub openings : List ℕ → ℕ → ℕ → ℕ → Verdict
openings u dc k i = structures_verdict (dc + 10 + 45 * i) (k - i) (drop (9 + 45 * i) u)

pub openings-first : (u : List ℕ) (dc k : ℕ) → structures_verdict (dc + 10) k (drop 9 u) ≡ openings u dc k 0
openings-first u dc k =
    let place : dc + 10 ≡ dc + 10 + 45 * 0 = omega arith in
    let left : k ≡ k - 0 = omega arith in
    ap₂ (λ (n m : ℕ). structures_verdict n m (drop 9 u)) place left

-- structure i decides, then those behind it
pub openings-next : (u : List ℕ) (dc k i : ℕ) → i < k
    → openings u dc k i ≡ and_then (structure_verdict (dc + 1 + (9 + 45 * i)) (drop (9 + 45 * i) u)) (openings u dc k (i + 1))
openings-next u dc k i more =
    let left : k - i ≡ suc (k - (i + 1)) = omega arith in
    let place : dc + 10 + 45 * i ≡ dc + 1 + (9 + 45 * i) = omega arith in
    let next : dc + 10 + 45 * i + 45 ≡ dc + 10 + 45 * (i + 1) = omega arith in
    let index : 9 + 45 * i + 45 ≡ 9 + 45 * (i + 1) = omega arith in
    let begun = drop (9 + 45 * i) u in
    let rest : drop 45 begun ≡ drop (9 + 45 * (i + 1)) u = drop-drop 45 (9 + 45 * i) u ∙ ap (λ (n : ℕ). drop n u) index in
    ap (λ (m : ℕ). structures_verdict (dc + 10 + 45 * i) m begun) left
    ∙ ap (λ (n : ℕ). and_then (structure_verdict n begun) (structures_verdict (dc + 10 + 45 * i + 45) (k - (i + 1)) (drop 45 begun))) place
    ∙ ap₂ (λ (n : ℕ) (v : List ℕ). and_then (structure_verdict (dc + 1 + (9 + 45 * i)) begun) (structures_verdict n (k - (i + 1)) v)) next rest

pub openings-passed : (u : List ℕ) (dc k i : ℕ) → i < k → structure_verdict (dc + 1 + (9 + 45 * i)) (drop (9 + 45 * i) u) ≡ Accepted → openings u dc k i ≡ openings u dc k (i + 1)
openings-passed u dc k i more right = openings-next u dc k i more ∙ ap (λ (v : Verdict). and_then v (openings u dc k (i + 1))) right

pub openings-stopped : (u : List ℕ) (dc k i : ℕ) {why : Reason × Item} → i < k
    → structure_verdict (dc + 1 + (9 + 45 * i)) (drop (9 + 45 * i) u) ≡ Err why → openings u dc k i ≡ Err why
openings-stopped u dc k i more wrong = openings-next u dc k i more ∙ ap (λ (v : Verdict). and_then v (openings u dc k (i + 1))) wrong

pub openings-none : (u : List ℕ) (dc k i : ℕ) → k ≤ i → openings u dc k i ≡ Accepted
openings-none u dc k i done =
    let none : k - i ≡ 0 = omega arith in
    ap (λ (m : ℕ). structures_verdict (dc + 10 + 45 * i) m (drop (9 + 45 * i) u)) none

-- for a loop's tactics
pub ruleset steps = (lines-first, lines-passed, lines-stopped, lines_none, openings-first, openings-passed, openings-stopped, openings-none)

-- THE VERDICTS BY THE WORDS

pub structure-words : (user : List ℕ) (at i : ℕ) → structure_verdict at (drop i (map byte_of user)) ≡ first (
    refuse_if (not (eqb (byte_of (get_or user i 0)) 0x55)) (Unfixed RunIn) (Word at)
    ∷ refuse_if (not (eqb (byte_of (get_or user (i + 1) 0)) 0x55)) (Unfixed RunIn) (Word (at + 1))
    ∷ refuse_if (not (eqb (byte_of (get_or user (i + 2) 0)) 0x27)) (Unfixed FramingCode) (Word (at + 2))
    ∷ []
    )
unfolding structure_verdict
structure-words user at i = simp (byte-from, add-zero)

pub head-told : (user : List ℕ) (dc : ℕ) → head_verdict dc (map byte_of user) ≡ first (
    refuse_if (ltb (length user) 13) Ends (Word (dc + 1 + length user))
    ∷ refuse_if (not (eqb (byte_of (get_or user 0 0)) 0x51)) (Unfixed Identifier) (Word (dc + 1))
    ∷ refuse_if (not (eqb (byte_of (get_or user 1 0)) 0x15)) (Unfixed Identifier) (Word (dc + 2))
    ∷ refuse_if (not (eqb (byte_of (get_or user 2 0)) (length user))) (Unfit SdpLength) (Word (dc + 3))
    ∷ refuse_if (not (eqb (byte_of (get_or user 3 0)) 0x02)) (Unfixed FormatCode) (Word (dc + 4))
    ∷ descriptors_verdict (dc + 5) (descriptors_in (map byte_of user))
    ∷ refuse_if (not (eqb (length user) (user_length (structures_in (map byte_of user))))) (Unfit Structures) (Word dc)
    ∷ []
    )
unfolding head_verdict
head-told user dc = simp (length-map, byte_at)

-- past the fixed bytes the descriptors decide, then DC
module _ (user : List ℕ) (dc : ℕ) (long : 13 ≤ length user) (one : byte_of (get_or user 0 0) ≡ 0x51) (two : byte_of (get_or user 1 0) ≡ 0x15)
    (three : byte_of (get_or user 2 0) ≡ length user) (four : byte_of (get_or user 3 0) ≡ 0x02) where
  fits : Verdict
  fits = refuse_if (not (eqb (length user) (user_length (structures_in (map byte_of user))))) (Unfit Structures) (Word dc)

  opened : head_verdict dc (map byte_of user) ≡ and_then (descriptors_verdict (dc + 5) (descriptors_in (map byte_of user))) (and_then fits Accepted)
  unfolding fits
  opened =
      head-told user dc ∙ simp (le-ltb _ _ long, eq-eqb _ _ one, eq-eqb _ _ two, eq-eqb _ _ three, eq-eqb _ _ four)

  pub head-stopped : {why : Reason × Item} → descriptors_verdict (dc + 5) (descriptors_in (map byte_of user)) ≡ Err why
      → head_verdict dc (map byte_of user) ≡ Err why
  head-stopped wrong = opened ∙ ap (λ (v : Verdict). and_then v (and_then fits Accepted)) wrong

  pub head-misfit : descriptors_verdict (dc + 5) (descriptors_in (map byte_of user)) ≡ Accepted → (length user ≡ user_length (structures_in (map byte_of user)) → ⊥)
      → head_verdict dc (map byte_of user) ≡ Refused (Unfit Structures) (Word dc)
  unfolding fits
  head-misfit right ne = opened ∙ ap (λ (v : Verdict). and_then v (and_then fits Accepted)) right ∙ simp (ne_eqb _ _ ne)

  pub head-passed : descriptors_verdict (dc + 5) (descriptors_in (map byte_of user)) ≡ Accepted → length user ≡ user_length (structures_in (map byte_of user))
      → head_verdict dc (map byte_of user) ≡ Accepted
  unfolding fits
  head-passed right e = opened ∙ ap (λ (v : Verdict). and_then v (and_then fits Accepted)) right ∙ simp (eq-eqb _ _ e)

-- as those of a head that was looked at
pub opens-passed : (user : List ℕ) (dc : ℕ) → Opens user → descriptors_verdict (dc + 5) (descriptors_in (map byte_of user)) ≡ Accepted
    → length user ≡ user_length (structures_in (map byte_of user)) → head_verdict dc (map byte_of user) ≡ Accepted
opens-passed user dc h = head-passed user dc h.long h.identifier_51 h.identifier_15 h.counted h.format

-- the structures decide, of which there are k, then the footer and the sum
module _ (user : List ℕ) (dc k : ℕ) (many : k ≡ structures_in (map byte_of user)) where
  ends : Verdict
  ends =
      first (
      refuse_if (not (eqb (byte_of (get_or user (length user - 4) 0)) 0x74)) (Unfixed Footer) (Word (dc + (length user - 3)))
      ∷ refuse_if (not (eqb (sum (map byte_of user) % 256) 0)) SdpChecksum (Word (dc + length user))
      ∷ []
      )

  begun : tail_verdict dc (map byte_of user) ≡ and_then (structures_verdict (dc + 10) k (drop 9 (map byte_of user))) ends
  unfolding tail_verdict ends
  begun = simp (length-map, byte_at, many)

  pub tail-stopped : {why : Reason × Item} → structures_verdict (dc + 10) k (drop 9 (map byte_of user)) ≡ Err why
      → tail_verdict dc (map byte_of user) ≡ Err why
  tail-stopped wrong = begun ∙ ap (λ (v : Verdict). and_then v ends) wrong

  pub tail-footer : structures_verdict (dc + 10) k (drop 9 (map byte_of user)) ≡ Accepted → (byte_of (get_or user (length user - 4) 0) ≡ 0x74 → ⊥)
      → tail_verdict dc (map byte_of user) ≡ Refused (Unfixed Footer) (Word (dc + (length user - 3)))
  unfolding ends
  tail-footer right ne = begun ∙ ap (λ (v : Verdict). and_then v ends) right ∙ simp (ne_eqb _ _ ne)

  pub tail-sum : structures_verdict (dc + 10) k (drop 9 (map byte_of user)) ≡ Accepted → byte_of (get_or user (length user - 4) 0) ≡ 0x74
      → (sum (map byte_of user) % 256 ≡ 0 → ⊥) → tail_verdict dc (map byte_of user) ≡ Refused SdpChecksum (Word (dc + length user))
  unfolding ends
  tail-sum right footer ne = begun ∙ ap (λ (v : Verdict). and_then v ends) right ∙ simp (eq-eqb _ _ footer, ne_eqb _ _ ne)

  pub tail-passed : structures_verdict (dc + 10) k (drop 9 (map byte_of user)) ≡ Accepted → byte_of (get_or user (length user - 4) 0) ≡ 0x74
      → sum (map byte_of user) % 256 ≡ 0 → tail_verdict dc (map byte_of user) ≡ Accepted
  unfolding ends
  tail-passed right footer e = begun ∙ ap (λ (v : Verdict). and_then v ends) right ∙ simp (eq-eqb _ _ footer, eq-eqb _ _ e)

-- a sum that is 0 modulo 256 makes that of the bytes so
pub sum-none : (s : ℕ) (user : List ℕ) → s % 256 ≡ sum user % 256 → s % 256 ≡ 0 → sum (map byte_of user) % 256 ≡ 0
sum-none s user same none = omega (arith, sum_low 256 256 user)

-- a head that is accepted tells how many words there are,
pub head-whole : (user : List ℕ) (dc : ℕ) → head_verdict dc (map byte_of user) ≡ Accepted → length user ≡ user_length (structures_in (map byte_of user))
head-whole user dc e = sym (length-map user byte_of) ∙ (accepted-head dc (map byte_of user) e).whole

-- and so does one that was vouched for
pub vouched-whole : (user : List ℕ) (r : Bool) → Vouches r (λ dc. head_verdict dc (map byte_of user)) → r ≡ true → length user ≡ user_length (structures_in (map byte_of user))
vouched-whole user r vouches is = head-whole user 0 (vouches is 0)

-- for a function's tactics
pub ruleset by_words = (structure-words, head-told, head-stopped, head-misfit, opens-passed, sum-none, tail-stopped, tail-footer, tail-sum, tail-passed, head-whole, vouched-whole, few-structures)
