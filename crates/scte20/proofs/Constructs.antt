-- Constructs: 26 bits each. What reading accepts is what writing lays out, and the other way round.
-- Assumes nothing.
use Prim.Native.Nat.{ℕ, zero, suc, ◌+◌, ◌*◌, ◌≤◌, ◌<◌}
use native.Mathlib.Omega.{arith}
use mathlib.Core.Path.{◌≡◌, ◌∙◌, ap, ap₂, sym, refl}
use mathlib.Core.Bool.{not}
use mathlib.Core.List.{List, [], ◌∷◌, ◌++◌}
use borrow.Author.Tests.{le-ltb, eq-eqb}
use lib.Dec.{eqb, ltb}
use lib.ListN.{length, take, drop, length-append, length-drop}
use lib.Seq.{drop-drop}
use Rattle.lists.specs.Each.{Each}
use Rattle.lists.proofs.Part.{take-join}
use Rattle.refusal.specs.Verdict.{Accepted}
use Rattle.refusal.specs.declared.Reason.TheVariants.{Ends, Unfixed}
use Rattle.refusal.specs.declared.Fixed.TheVariants.{Marker}
use Rattle.refusal.specs.declared.Item.TheVariants.{Bit}
use Rattle.refusal.specs.Checks.{first}
use Rattle.refusal.proofs.Checks.{accepted-and_then, and_then-accepted, refuse_if-accepted, accepted-equal, accepted-within}
use Rattle.bits.specs.Bits.{bits, num, field, reversed}
use Rattle.bits.proofs.Numbers.{AreBits, num-bits-small}
use Rattle.bits.proofs.Fields.{field_lt, field-bits}
use Rattle.bits.proofs.Turn.{reversed-lt, reversed-reversed}
use Rattle.scte20.specs.declared.Record.{Record}
use Rattle.scte20.specs.Value.{LegalRecord, field_of, Ranged}
use Rattle.scte20.specs.Layout.{construct_bits, constructs_bits}
use Rattle.scte20.specs.Rules.{record_verdict}
use Rattle.scte20.specs.Reading.{missing, construct_at, marker_verdict, constructs_verdict, records_at}
use Rattle.scte20.proofs.Fitting.{Fits, AllFit, record-fits, fits-record}

-- how long they are
pub length-construct : (r : Record) → length (construct_bits r) ≡ 26
length-construct r = refl

pub length-constructs : (rs : List Record) → length (constructs_bits rs) ≡ 26 * length rs
length-constructs [] = refl
length-constructs (r ∷ rs) = omega (arith, length-constructs rs)

pub length-records : (k at : ℕ) (xs : List ℕ) → length (records_at k at xs) ≡ k
length-records zero at xs = refl
length-records (suc k) at xs = ap suc (length-records k (at + 26) xs)

-- enough bits are left
pub accepted-missing : (at w : ℕ) (xs : List ℕ) → missing at w xs ≡ Accepted → at + w ≤ length xs
unfolding missing
accepted-missing at w xs e = accepted-within (length xs) (at + w) Ends (Bit at) e

pub missing-accepted : (at w : ℕ) (xs : List ℕ) → at + w ≤ length xs → missing at w xs ≡ Accepted
unfolding missing
missing-accepted at w xs h = refuse_if-accepted (ltb (length xs) (at + w)) Ends (Bit at) (le-ltb (length xs) (at + w) h)

-- ---- what reading accepts

pub construct-ranged : (at : ℕ) (xs : List ℕ) → AreBits xs → Ranged (construct_at at xs)
unfolding construct_at
construct-ranged at xs h =
    record {
      priority = field_lt xs at 2 h;
      field = omega (arith, field_lt xs (at + 2) 2 h);
      line = field_lt xs (at + 4) 5 h;
      bytes = record {
        data-1 = reversed-lt (field xs (at + 9) 8) (field_lt xs (at + 9) 8 h);
        data-2 = reversed-lt (field xs (at + 17) 8) (field_lt xs (at + 17) 8 h);
      };
    }

pub records-ranged : (k at : ℕ) (xs : List ℕ) → AreBits xs → Each Ranged (records_at k at xs)
records-ranged zero at xs h = tt
records-ranged (suc k) at xs h = (construct-ranged at xs h, records-ranged k (at + 26) xs h)

-- six parts side by side
parts_join : (at : ℕ) (xs a b c d e f : List ℕ) → a ≡ take 2 (drop at xs) → b ≡ take 2 (drop (at + 2) xs) → c ≡ take 5 (drop (at + 4) xs)
    → d ≡ take 8 (drop (at + 9) xs) → e ≡ take 8 (drop (at + 17) xs) → f ≡ take 1 (drop (at + 25) xs)
    → a ++ (b ++ (c ++ (d ++ (e ++ f)))) ≡ take 26 (drop at xs)
parts_join at xs a b c d e f ha hb hc hd he hf =
    ap₂ (λ (u v : List ℕ). u ++ v) ha
    (ap₂ (λ (u v : List ℕ). u ++ v) hb
    (ap₂ (λ (u v : List ℕ). u ++ v) hc
    (ap₂ (λ (u v : List ℕ). u ++ v) hd
    (ap₂ (λ (u v : List ℕ). u ++ v) he hf ∙ take-join xs (at + 17) 8 (at + 25) 1 9 (omega arith) refl)
    ∙ take-join xs (at + 9) 8 (at + 17) 9 17 (omega arith) refl)
    ∙ take-join xs (at + 4) 5 (at + 9) 17 22 (omega arith) refl)
    ∙ take-join xs (at + 2) 2 (at + 4) 22 24 (omega arith) refl)
    ∙ take-join xs at 2 (at + 2) 24 26 refl refl

-- a data byte, turned when it was read and turned again
twice-turned : (xs : List ℕ) (at : ℕ) → AreBits xs → at + 8 ≤ length xs → bits 8 (reversed (reversed (field xs at 8))) ≡ take 8 (drop at xs)
twice-turned xs at h fits = ap (bits 8) (reversed-reversed (field xs at 8) (field_lt xs at 8 h)) ∙ field-bits xs at 8 h fits

-- a construct that is complete and has its marker is laid out again as it stands
pub construct-again : (at : ℕ) (xs : List ℕ) → AreBits xs → at + 26 ≤ length xs → field xs (at + 25) 1 ≡ 1 → construct_bits (construct_at at xs) ≡ take 26 (drop at xs)
unfolding construct_at
construct-again at xs h fits marked =
    parts_join
    at
    xs
    (bits 2 (field xs at 2))
    (bits 2 (field xs (at + 2) 2))
    (bits 5 (field xs (at + 4) 5))
    (bits 8 (reversed (reversed (field xs (at + 9) 8))))
    (bits 8 (reversed (reversed (field xs (at + 17) 8))))
    (bits 1 1)
    (field-bits xs at 2 h (omega arith))
    (field-bits xs (at + 2) 2 h (omega arith))
    (field-bits xs (at + 4) 5 h (omega arith))
    (twice-turned xs (at + 9) h (omega arith))
    (twice-turned xs (at + 17) h (omega arith))
    (ap (bits 1) (sym marked) ∙ field-bits xs (at + 25) 1 h (omega arith))

marked : (at : ℕ) (xs : List ℕ) → marker_verdict at xs ≡ Accepted → field xs (at + 25) 1 ≡ 1
unfolding marker_verdict
marked at xs e = accepted-equal (field xs (at + 25) 1) 1 (Unfixed Marker) (Bit (at + 25)) e

-- the four checks of one construct and those behind it
pub record Step (before : List Record) (k at : ℕ) (xs : List ℕ) : Type 0 where
  pub complete : at + 26 ≤ length xs
  pub fits : Fits before (construct_at at xs)
  pub marked : field xs (at + 25) 1 ≡ 1
  pub behind : constructs_verdict (construct_at at xs ∷ before) k (at + 26) xs ≡ Accepted

pub accepted-step : (before : List Record) (k at : ℕ) (xs : List ℕ) → constructs_verdict before (suc k) at xs ≡ Accepted → Step before k at xs
accepted-step before k at xs e =
    let here = construct_at at xs in
    let behind = constructs_verdict (here ∷ before) k (at + 26) xs in
    let one = accepted-and_then (missing at 26 xs) (first (record_verdict at before here ∷ marker_verdict at xs ∷ behind ∷ [])) e in
    let two = accepted-and_then (record_verdict at before here) (first (marker_verdict at xs ∷ behind ∷ [])) one.1 in
    let three = accepted-and_then (marker_verdict at xs) (first (behind ∷ [])) two.1 in
    let four = accepted-and_then behind Accepted three.1 in
    record { complete = accepted-missing at 26 xs one.0; fits = record-fits at before here two.0; marked = marked at xs three.0; behind = four.0 }

-- constructs that are accepted lie within the bits,
pub constructs-within : (before : List Record) (k at : ℕ) (xs : List ℕ) → at ≤ length xs → constructs_verdict before k at xs ≡ Accepted → at + 26 * k ≤ length xs
constructs-within before zero at xs h e = omega arith
constructs-within before (suc k) at xs h e =
    let s = accepted-step before k at xs e in
    omega (arith, constructs-within (construct_at at xs ∷ before) k (at + 26) xs s.complete s.behind)

-- fit, one behind the other,
pub constructs-fit : (before : List Record) (k at : ℕ) (xs : List ℕ) → constructs_verdict before k at xs ≡ Accepted → AllFit before (records_at k at xs)
constructs-fit before zero at xs e = tt
constructs-fit before (suc k) at xs e =
    let s = accepted-step before k at xs e in
    (s.fits, constructs-fit (construct_at at xs ∷ before) k (at + 26) xs s.behind)

-- and are laid out again as they stand
pub constructs-again : (before : List Record) (k at : ℕ) (xs : List ℕ) → AreBits xs → constructs_verdict before k at xs ≡ Accepted
    → constructs_bits (records_at k at xs) ≡ take (26 * k) (drop at xs)
constructs-again before zero at xs h e = refl
constructs-again before (suc k) at xs h e =
    let s = accepted-step before k at xs e in
    ap₂ (λ (u v : List ℕ). u ++ v) (construct-again at xs h s.complete s.marked) (constructs-again (construct_at at xs ∷ before) k (at + 26) xs h s.behind)
    ∙ take-join xs at 26 (at + 26) (26 * k) (26 * suc k) refl (omega arith)

-- ---- what writing lays out

-- fields of bits that stand from bit `at` on
pub field-on : (xs ys : List ℕ) (at k w : ℕ) → drop at xs ≡ ys → field xs (at + k) w ≡ field ys k w
field-on xs ys at k w e = ap (λ (l : List ℕ). num (take w l)) (sym (drop-drop k at xs) ∙ ap (drop k) e)

-- a construct that stands there is read as it was
pub construct-back : (r : Record) (at : ℕ) (xs rest : List ℕ) → Ranged r → drop at xs ≡ construct_bits r ++ rest → construct_at at xs ≡ r
unfolding construct_at
construct-back r at xs rest h e =
    let all = construct_bits r ++ rest in
    let priority : field xs at 2 ≡ r.cc_priority = ap (λ (l : List ℕ). num (take 2 l)) e ∙ num-bits-small 2 r.cc_priority h.priority in
    let allowed : field xs (at + 2) 2 ≡ field_of r = field-on xs all at 2 2 e ∙ num-bits-small 2 (field_of r) (omega (arith, h.field)) in
    let line : field xs (at + 4) 5 ≡ r.line_offset = field-on xs all at 4 5 e ∙ num-bits-small 5 r.line_offset h.line in
    let one : reversed (field xs (at + 9) 8) ≡ r.cc_data_1 = ap reversed (field-on xs all at 9 8 e) ∙ turned r.cc_data_1 h.bytes.data-1 in
    let two : reversed (field xs (at + 17) 8) ≡ r.cc_data_2 = ap reversed (field-on xs all at 17 8 e) ∙ turned r.cc_data_2 h.bytes.data-2 in
    λ i. record { cc_priority = priority i; field_number = record { 0 = allowed i }; line_offset = line i; cc_data_1 = one i; cc_data_2 = two i }
  where
    turned : (b : ℕ) → b < 256 → reversed (num (bits 8 (reversed b))) ≡ b
    turned b small = ap reversed (num-bits-small 8 (reversed b) (reversed-lt b small)) ∙ reversed-reversed b small

-- so many bits are there,
pub long-enough : (at : ℕ) (xs ys rest : List ℕ) (n : ℕ) → length ys ≡ suc n → drop at xs ≡ ys ++ rest → at + suc n ≤ length xs
long-enough at xs ys rest n long e = omega (arith, length-drop at xs, ap length e, length-append ys rest)

-- and its marker
accepted-marker : (r : Record) (at : ℕ) (xs rest : List ℕ) → drop at xs ≡ construct_bits r ++ rest → marker_verdict at xs ≡ Accepted
unfolding marker_verdict
accepted-marker r at xs rest e =
    let one : field xs (at + 25) 1 ≡ 1 = field-on xs (construct_bits r ++ rest) at 25 1 e in
    refuse_if-accepted (not (eqb (field xs (at + 25) 1) 1)) (Unfixed Marker) (Bit (at + 25)) (ap not (eq-eqb (field xs (at + 25) 1) 1 one))

-- what stands behind it
behind-construct : (r : Record) (at : ℕ) (xs rest : List ℕ) → drop at xs ≡ construct_bits r ++ rest → drop (at + 26) xs ≡ rest
behind-construct r at xs rest e = sym (drop-drop 26 at xs) ∙ ap (drop 26) e

-- constructs of legal records that fit, standing from bit `at` on, are accepted
pub constructs-accepted : (before rs : List Record) (at : ℕ) (xs post : List ℕ) → Each LegalRecord rs → AllFit before rs
    → drop at xs ≡ constructs_bits rs ++ post → constructs_verdict before (length rs) at xs ≡ Accepted
constructs-accepted before [] at xs post h fit e = refl
constructs-accepted before (r ∷ rs) at xs post h fit e =
    let rest = constructs_bits rs ++ post in
    let here = construct_at at xs in
    let back : here ≡ r = construct-back r at xs rest h.0.ranged e in
    let behind = constructs-accepted (r ∷ before) rs (at + 26) xs post h.1 fit.1 (behind-construct r at xs rest e) in
    and_then-accepted
    (missing at 26 xs)
    (first (record_verdict at before here ∷ marker_verdict at xs ∷ constructs_verdict (here ∷ before) (length rs) (at + 26) xs ∷ []))
    (missing-accepted at 26 xs (long-enough at xs (construct_bits r) rest 25 refl e))
    (and_then-accepted
    (record_verdict at before here)
    (first (marker_verdict at xs ∷ constructs_verdict (here ∷ before) (length rs) (at + 26) xs ∷ []))
    (ap (record_verdict at before) back ∙ fits-record at before r fit.0)
    (and_then-accepted
    (marker_verdict at xs)
    (first (constructs_verdict (here ∷ before) (length rs) (at + 26) xs ∷ []))
    (accepted-marker r at xs rest e)
    (and_then-accepted
    (constructs_verdict (here ∷ before) (length rs) (at + 26) xs)
    Accepted
    (ap (λ (q : Record). constructs_verdict (q ∷ before) (length rs) (at + 26) xs) back ∙ behind)
    refl)))

-- and read as they were
pub records-back : (rs : List Record) (at : ℕ) (xs post : List ℕ) → Each LegalRecord rs → drop at xs ≡ constructs_bits rs ++ post
    → records_at (length rs) at xs ≡ rs
records-back [] at xs post h e = refl
records-back (r ∷ rs) at xs post h e =
    let rest = constructs_bits rs ++ post in
    ap₂
    (λ (q : Record) (qs : List Record). q ∷ qs)
    (construct-back r at xs rest h.0.ranged e)
    (records-back rs (at + 26) xs post h.1 (behind-construct r at xs rest e))
