-- What reading accepts: the value is legal, and its layout is the body that was read.
-- Assumes nothing.
use Prim.Native.Nat.{ℕ, zero, suc, ◌+◌, ◌-◌, ◌*◌, ◌≤◌}
use native.Mathlib.Omega.{arith}
use mathlib.Core.Path.{◌≡◌, ◌∙◌, ap, ap₂, sym, refl}
use mathlib.Core.Bool.{false, not}
use mathlib.Core.List.{List, [], ◌∷◌, ◌++◌, append_assoc, append-nil}
use lib.Dec.{eqb, ltb}
use lib.ListN.{length, take, drop, replicate, length-drop, take-append-drop}
use lib.Seq.{drop-drop, length-take-le}
use Rattle.lists.specs.Bytes.{Bytes}
use Rattle.lists.specs.Each.{Each}
use Rattle.lists.proofs.Part.{take-join}
use Rattle.lists.proofs.Each.{each_both}
use Rattle.refusal.specs.Verdict.{Accepted}
use Rattle.refusal.specs.declared.Reason.TheVariants.{TooLong, Unfixed, SampledVideo}
use Rattle.refusal.specs.declared.Fixed.TheVariants.{Alignment, Stuffing, Identifier}
use Rattle.refusal.specs.declared.Item.TheVariants.{Whole, Bit}
use Rattle.refusal.specs.Checks.{refuse_if, first}
use Rattle.refusal.proofs.Checks.{accepted-and_then, accepted-refuse_if, accepted-equal, accepted-within}
use Rattle.bits.specs.Bits.{bits, bits_of, field}
use Rattle.bits.proofs.Numbers.{AreBits}
use Rattle.bits.proofs.Stream.{length-bits_of, bits_of-are, bits_of-same}
use Rattle.bits.proofs.Fields.{field_lt, field-bits}
use Rattle.stuffing.specs.Zeros.{zero_verdict}
use Rattle.stuffing.proofs.Zeros.{accepted-zero}
use Rattle.kind.specs.Ours.{group_type}
use Rattle.scte20.specs.declared.Record.{Record}
use Rattle.scte20.specs.Value.{flag_byte, LegalRecord, Legal, field_of, Ranged}
use Rattle.scte20.specs.Layout.{constructs_bits, flagged_bits, item_bits, padding, layout}
use Rattle.scte20.specs.Reading.{missing, constructs_verdict, records_at, sampled_verdict, rest_verdict, head_verdict, reserved_in, flag_in, count_in, flag_verdict, content_verdict, records_in, value_of}
use Rattle.scte20.specs.Places.{bits_in}
use Rattle.scte20.proofs.Fitting.{AllFit, fit-allowed, fit-order, fit-four}
use Rattle.scte20.proofs.Constructs.{accepted-missing, length-records, records-ranged, constructs-fit, constructs-again}
use Rattle.scte20.proofs.Sizes.{length-items, padded, padded-size, layout-bytes, bits_of-layout}

-- ---- zero bits

-- what stands behind the items, which end before bit `at`: zeros
pub accepted-rest : (at : ℕ) (xs : List ℕ) → rest_verdict at xs ≡ Accepted → at + padding at ≤ length xs
    → drop at xs ≡ replicate (padding at) 0 ++ replicate (length xs - (at + padding at)) 0
unfolding rest_verdict
accepted-rest at xs e fits =
    let p = padding at in
    let aligned = take p (drop at xs) in
    let stuffed = drop (at + p) xs in
    let one = accepted-and_then (zero_verdict Alignment at aligned) (first (zero_verdict Stuffing (at + p) stuffed ∷ [])) e in
    let two = accepted-and_then (zero_verdict Stuffing (at + p) stuffed) Accepted one.1 in
    let long : length aligned ≡ p = length-take-le p (drop at xs) (omega (arith, length-drop at xs)) in
    sym (take-append-drop p (drop at xs))
    ∙ ap₂ (λ (u v : List ℕ). u ++ v)
    (accepted-zero Alignment at aligned one.0 ∙ ap (λ (k : ℕ). replicate k 0) long)
    (drop-drop p at xs ∙ accepted-zero Stuffing (at + p) stuffed two.0 ∙ ap (λ (k : ℕ). replicate k 0) (length-drop (at + p) xs))

-- ---- what stands before the flag's decision

pub record Head (body : List ℕ) : Type 0 where
  pub short : length body ≤ 16384
  pub identified : field (bits_of body) 0 8 ≡ 3
  pub complete : 16 ≤ length (bits_of body)
  pub no_group : group_type (flag_byte (reserved_in (bits_of body)) (flag_in (bits_of body))) ≡ false

pub accepted-head : (body : List ℕ) → head_verdict body ≡ Accepted → Head body
unfolding head_verdict
accepted-head body e =
    let xs = bits_of body in
    let third = refuse_if (not (eqb (field xs 0 8) 3)) (Unfixed Identifier) (Bit 0) in
    let last = refuse_if (group_type (flag_byte (reserved_in xs) (flag_in xs))) (Unfixed Identifier) (Bit 8) in
    let one = accepted-and_then (refuse_if (ltb 16384 (length body)) TooLong Whole) (first (missing 0 8 xs ∷ third ∷ missing 8 7 xs ∷ missing 15 1 xs ∷ last ∷ [])) e in
    let two = accepted-and_then (missing 0 8 xs) (first (third ∷ missing 8 7 xs ∷ missing 15 1 xs ∷ last ∷ [])) one.1 in
    let three = accepted-and_then third (first (missing 8 7 xs ∷ missing 15 1 xs ∷ last ∷ [])) two.1 in
    let four = accepted-and_then (missing 8 7 xs) (first (missing 15 1 xs ∷ last ∷ [])) three.1 in
    let five = accepted-and_then (missing 15 1 xs) (first (last ∷ [])) four.1 in
    let six = accepted-and_then last Accepted five.1 in
    record {
      short = accepted-within 16384 (length body) TooLong Whole one.0;
      identified = accepted-equal (field xs 0 8) 3 (Unfixed Identifier) (Bit 0) three.0;
      complete = accepted-missing 15 1 xs five.0;
      no_group = accepted-refuse_if _ _ _ six.0;
    }

-- the three fields are laid out again as they stand
head-again : (xs : List ℕ) → AreBits xs → 16 ≤ length xs → field xs 0 8 ≡ 3 → bits 8 3 ++ (bits 7 (field xs 8 7) ++ bits 1 (field xs 15 1)) ≡ take 16 xs
head-again xs h fits e =
    ap₂ (λ (u v : List ℕ). u ++ v)
    (ap (bits 8) (sym e) ∙ field-bits xs 0 8 h (omega arith))
    (ap₂ (λ (u v : List ℕ). u ++ v) (field-bits xs 8 7 h (omega arith)) (field-bits xs 15 1 h (omega arith)) ∙ take-join xs 8 7 15 1 8 refl refl)
    ∙ take-join xs 0 8 8 8 16 refl refl

-- ---- what stands behind the flag

sampled-accepted : (at : ℕ) (xs : List ℕ) → sampled_verdict at xs ≡ Accepted → (at + 4 ≤ length xs) × (field xs at 4 ≡ 0)
unfolding sampled_verdict
sampled-accepted at xs e =
    let second = refuse_if (not (eqb (field xs at 4) 0)) SampledVideo (Bit at) in
    let one = accepted-and_then (missing at 4 xs) (first (second ∷ [])) e in
    let two = accepted-and_then second Accepted one.1 in
    (accepted-missing at 4 xs one.0, accepted-equal (field xs at 4) 0 SampledVideo (Bit at) two.0)

pub record Flagged (f : ℕ) (xs : List ℕ) : Type 0 where
  pub within : bits_in f (count_in xs) ≤ length xs
  pub again : take 16 xs ++ flagged_bits f (records_in f xs) ≡ take (bits_in f (count_in xs)) xs
  pub rest : rest_verdict (bits_in f (count_in xs)) xs ≡ Accepted
  pub fit : AllFit [] (records_in f xs)

pub accepted-flag : (f : ℕ) (xs : List ℕ) → AreBits xs → 16 ≤ length xs → flag_verdict f xs ≡ Accepted → Flagged f xs
accepted-flag zero xs h fits e = record { within = fits; again = append-nil (take 16 xs); rest = e; fit = tt }
accepted-flag (suc f) xs h fits e =
    let n = count_in xs in
    let run = constructs_verdict [] n 21 xs in
    let one = accepted-and_then (missing 16 5 xs) (first (run ∷ sampled_verdict (21 + 26 * n) xs ∷ rest_verdict (25 + 26 * n) xs ∷ [])) e in
    let two = accepted-and_then run (first (sampled_verdict (21 + 26 * n) xs ∷ rest_verdict (25 + 26 * n) xs ∷ [])) one.1 in
    let three = accepted-and_then (sampled_verdict (21 + 26 * n) xs) (first (rest_verdict (25 + 26 * n) xs ∷ [])) two.1 in
    let four = accepted-and_then (rest_verdict (25 + 26 * n) xs) Accepted three.1 in
    let counted : 21 ≤ length xs = accepted-missing 16 5 xs one.0 in
    let sampled = sampled-accepted (21 + 26 * n) xs three.0 in
    let count : bits 5 (length (records_at n 21 xs)) ≡ take 5 (drop 16 xs) = ap (bits 5) (length-records n 21 xs) ∙ field-bits xs 16 5 h counted in
    let none : bits 4 0 ≡ take 4 (drop (21 + 26 * n) xs) = ap (bits 4) (sym sampled.1) ∙ field-bits xs (21 + 26 * n) 4 h sampled.0 in
    let tail : constructs_bits (records_at n 21 xs) ++ bits 4 0 ≡ take (4 + 26 * n) (drop 21 xs) =
    ap₂ (λ (u v : List ℕ). u ++ v) (constructs-again [] n 21 xs h two.0) none ∙ take-join xs 21 (26 * n) (21 + 26 * n) 4 (4 + 26 * n) refl (omega arith)
    in
    record {
      within = omega (arith, sampled.0);
      again =
          ap (λ (u : List ℕ). take 16 xs ++ u) (ap₂ (λ (u v : List ℕ). u ++ v) count tail ∙ take-join xs 16 5 21 (4 + 26 * n) (9 + 26 * n) refl (omega arith))
          ∙ take-join xs 0 16 16 (9 + 26 * n) (25 + 26 * n) refl (omega arith);
      rest = four.0;
      fit = constructs-fit [] n 21 xs two.0;
    }

-- the number of records is the count
length-in : (f : ℕ) (xs : List ℕ) → bits_in f (length (records_in f xs)) ≡ bits_in f (count_in xs)
length-in zero xs = refl
length-in (suc f) xs = ap (λ (n : ℕ). 25 + 26 * n) (length-records (count_in xs) 21 xs)

few-in : (f : ℕ) (xs : List ℕ) → AreBits xs → length (records_in f xs) ≤ 31
few-in zero xs h = omega arith
few-in (suc f) xs h = omega (arith, length-records (count_in xs) 21 xs, field_lt xs 16 5 h)

ranged-in : (f : ℕ) (xs : List ℕ) → AreBits xs → Each Ranged (records_in f xs)
ranged-in zero xs h = tt
ranged-in (suc f) xs h = records-ranged (count_in xs) 21 xs h

bare-in : (f : ℕ) (xs : List ℕ) → f ≡ 0 → records_in f xs ≡ []
bare-in zero xs e = refl
bare-in (suc f) xs e = let x : ⊥ = omega arith in absurd x

-- ---- the body

pub accepted-content : (body : List ℕ) → content_verdict body ≡ Accepted → Head body × Flagged (flag_in (bits_of body)) (bits_of body)
unfolding content_verdict
accepted-content body e =
    let xs = bits_of body in
    let both = accepted-and_then (head_verdict body) (flag_verdict (flag_in xs) xs) e in
    let head = accepted-head body both.0 in
    (head, accepted-flag (flag_in xs) xs (bits_of-are body) head.complete both.1)

allowed-legal : (r : Record) → 1 ≤ field_of r → Ranged r → LegalRecord r
allowed-legal r s h = record { ranged = h; allowed = s }

pub value-legal : (body : List ℕ) → Bytes body → content_verdict body ≡ Accepted → Legal (value_of body)
unfolding value_of
value-legal body h e =
    let xs = bits_of body in
    let are = bits_of-are body in
    let fit = (accepted-content body e).1.fit in
    let rs = records_in (flag_in xs) xs in
    record {
      reserved = field_lt xs 8 7 are;
      flag = field_lt xs 15 1 are;
      few = few-in (flag_in xs) xs are;
      each = each_both (λ (r : Record). 1 ≤ field_of r) Ranged LegalRecord allowed-legal rs (fit-allowed rs fit) (ranged-in (flag_in xs) xs are);
      order = fit-order rs fit;
      four = fit-four rs fit;
      bare = bare-in (flag_in xs) xs;
      no_group = (accepted-content body e).0.no_group;
    }

-- the items are laid out again as they stand
items-again : (body : List ℕ) → content_verdict body ≡ Accepted → item_bits (value_of body) ≡ take (bits_in (flag_in (bits_of body)) (count_in (bits_of body))) (bits_of body)
unfolding value_of
items-again body e =
    let xs = bits_of body in
    let known = accepted-content body e in
    ap (λ (u : List ℕ). u ++ flagged_bits (flag_in xs) (records_in (flag_in xs) xs)) (head-again xs (bits_of-are body) known.0.complete known.0.identified)
    ∙ known.1.again

items-long : (body : List ℕ) → length (item_bits (value_of body)) ≡ bits_in (flag_in (bits_of body)) (count_in (bits_of body))
unfolding value_of
items-long body = length-items (value_of body) ∙ length-in (flag_in (bits_of body)) (bits_of body)

-- what is left are the bytes of stuffing
stuffing-long : (body : List ℕ) → let n = bits_in (flag_in (bits_of body)) (count_in (bits_of body)) in 8 * (value_of body).z ≡ length (bits_of body) - (n + padding n)
unfolding value_of
stuffing-long body =
    let xs = bits_of body in
    omega (arith, length-bits_of body, padded-size (flag_in xs) (count_in xs))

bits-again : (body : List ℕ) → content_verdict body ≡ Accepted → bits_of (layout (value_of body)) ≡ bits_of body
bits-again body e =
    let xs = bits_of body in
    let c = value_of body in
    let n = bits_in (flag_in xs) (count_in xs) in
    let known = (accepted-content body e).1 in
    let fits : n + padding n ≤ length xs = omega (arith, known.within, length-bits_of body, padded n) in
    bits_of-layout c
    ∙ append_assoc (item_bits c) (replicate (padding (length (item_bits c))) 0) (replicate (8 * c.z) 0)
    ∙ ap₂ (λ (u v : List ℕ). u ++ v) (items-again body e)
    (ap₂ (λ (k m : ℕ). replicate (padding k) 0 ++ replicate m 0) (items-long body) (stuffing-long body) ∙ sym (accepted-rest n xs known.rest fits))
    ∙ take-append-drop n xs

pub value-layout : (body : List ℕ) → Bytes body → content_verdict body ≡ Accepted → layout (value_of body) ≡ body
value-layout body h e = bits_of-same (layout (value_of body)) body (layout-bytes (value_of body)) h (bits-again body e)
