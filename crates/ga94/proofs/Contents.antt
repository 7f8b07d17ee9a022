-- What reading accepts: the value is legal, and its layout is the body that was read.
-- Assumes nothing.
use Prim.Native.Nat.{ℕ, suc, ◌+◌, ◌-◌, ◌*◌, ◌/◌, ◌%◌, ◌≤◌, ◌<◌}
use native.Mathlib.Omega.{arith}
use mathlib.Core.Path.{◌≡◌, ◌∙◌, ap, ap₂, sym}
use mathlib.Core.Bool.{true, not, and-eq-true_iff}
use mathlib.Core.List.{List, [], ◌∷◌, ◌++◌, append_assoc}
use borrow.Author.Tests.{eqb-true, not-false}
use lib.Dec.{eqb, ltb, eqb→eq}
use lib.ListN.{length, get_or, drop, replicate, length-drop}
use lib.Seq.{drop-cons}
use Rattle.lists.specs.Bytes.{Bytes}
use Rattle.lists.specs.Flat.{flat}
use Rattle.lists.proofs.Below.{below}
use Rattle.lists.proofs.Each.{each_at, each-drop}
use Rattle.refusal.specs.Verdict.{Accepted}
use Rattle.refusal.specs.declared.Reason.TheVariants.{TooLong, Unfixed, AdditionalData}
use Rattle.refusal.specs.declared.Fixed.TheVariants.{Marker, Stuffing, Identifier}
use Rattle.refusal.specs.declared.Item.TheVariants.{Whole, Bit}
use Rattle.refusal.specs.Checks.{refuse_if}
use Rattle.refusal.proofs.Checks.{accepted-and_then, accepted-refuse_if, accepted-equal, accepted-within}
use Rattle.bits.specs.Bits.{bits_of}
use Rattle.stuffing.specs.Zeros.{zero_verdict}
use Rattle.stuffing.proofs.Zeros.{accepted-zeros}
use Rattle.ga94.specs.Value.{Legal}
use Rattle.ga94.specs.Layout.{construct_bytes, layout}
use Rattle.ga94.specs.Reading.{missing, identifier_in, additional_in, count_in, head_verdict, constructs_verdict, records_at, closing_verdict, content_verdict, value_of}
use Rattle.ga94.proofs.Constructs.{accepted-missing, length-records, constructs-again, records-legal}

-- ---- what stands before the constructs

pub record Head (body : List ℕ) : Type 0 where
  pub short : length body ≤ 16384
  pub complete : 7 ≤ length body
  pub identified : identifier_in body ≡ true
  pub typed : get_or body 4 0 ≡ 3
  pub no_additional : additional_in body ≡ 0

pub accepted-head : (body : List ℕ) → head_verdict body ≡ Accepted → Head body
unfolding head_verdict
accepted-head body e =
    let long = accepted-and_then (refuse_if (ltb 16384 (length body)) TooLong Whole) _ e in
    let four = accepted-and_then (missing 0 4 body) _ long.1 in
    let identifier = accepted-and_then (refuse_if (not (identifier_in body)) (Unfixed Identifier) (Bit 0)) _ four.1 in
    let five = accepted-and_then (missing 4 1 body) _ identifier.1 in
    let code = accepted-and_then (refuse_if (not (eqb (get_or body 4 0) 3)) (Unfixed Identifier) (Bit 32)) _ five.1 in
    let six = accepted-and_then (missing 5 1 body) _ code.1 in
    let flag = accepted-and_then (refuse_if (not (eqb (additional_in body) 0)) AdditionalData (Bit 42)) _ six.1 in
    let seven = accepted-and_then (missing 6 1 body) Accepted flag.1 in
    record {
      short = accepted-within 16384 (length body) TooLong Whole long.0;
      complete = omega (arith, accepted-missing 6 1 body seven.0);
      identified = not-false (identifier_in body) (accepted-refuse_if (not (identifier_in body)) (Unfixed Identifier) (Bit 0) identifier.0);
      typed = accepted-equal (get_or body 4 0) 3 (Unfixed Identifier) (Bit 32) code.0;
      no_additional = accepted-equal (additional_in body) 0 AdditionalData (Bit 42) flag.0;
    }

-- the identifier, byte by byte
identifier-bytes : (body : List ℕ) → identifier_in body ≡ true
    → (get_or body 0 0 ≡ 0x47) × (get_or body 1 0 ≡ 0x41) × (get_or body 2 0 ≡ 0x39) × (get_or body 3 0 ≡ 0x34)
identifier-bytes body e =
    let one = (and-eq-true_iff (eqb (get_or body 0 0) 0x47) _).0 e in
    let two = (and-eq-true_iff (eqb (get_or body 1 0) 0x41) _).0 one.1 in
    let three = (and-eq-true_iff (eqb (get_or body 2 0) 0x39) _).0 two.1 in
    (eqb-true (get_or body 0 0) 0x47 one.0, eqb-true (get_or body 1 0) 0x41 two.0, eqb-true (get_or body 2 0) 0x39 three.0, eqb-true (get_or body 3 0) 0x34 three.1)

-- the three flags and the count make the byte that they were read from
flags-again : (b : ℕ) → b < 256 → 128 * (b / 128) + 64 * (b / 64 % 2) + 32 * (b / 32 % 2) + b % 32 ≡ b
flags-again b h =
    eqb→eq (128 * (b / 128) + 64 * (b / 64 % 2) + 32 * (b / 32 % 2) + b % 32) b
    (below (λ (b : ℕ). eqb (128 * (b / 128) + 64 * (b / 64 % 2) + 32 * (b / 32 % 2) + b % 32) b) 256 tt b h)

-- the first seven bytes
head-again : (body : List ℕ) → Head body → body ≡ 0x47 ∷ 0x41 ∷ 0x39 ∷ 0x34 ∷ 0x03 ∷ get_or body 5 0 ∷ get_or body 6 0 ∷ drop 7 body
head-again body h =
    let long : 7 ≤ length body = h.complete in
    let word = identifier-bytes body h.identified in
    drop-cons body 0 0 (omega arith)
    ∙ cc (
      word.0,
      word.1,
      word.2,
      word.3,
      h.typed,
      drop-cons body 1 0 (omega arith),
      drop-cons body 2 0 (omega arith),
      drop-cons body 3 0 (omega arith),
      drop-cons body 4 0 (omega arith),
      drop-cons body 5 0 (omega arith),
      drop-cons body 6 0 (omega arith),
    )

-- ---- what stands behind them

pub record Closing (i : ℕ) (body : List ℕ) : Type 0 where
  pub there : i + 1 ≤ length body
  pub marker : get_or body i 0 ≡ 0xFF
  pub stuffed : zero_verdict Stuffing (8 * (i + 1)) (bits_of (drop (i + 1) body)) ≡ Accepted

pub accepted-closing : (i : ℕ) (body : List ℕ) → closing_verdict i body ≡ Accepted → Closing i body
unfolding closing_verdict
accepted-closing i body e =
    let one = accepted-and_then (missing i 1 body) _ e in
    let two = accepted-and_then (refuse_if (not (eqb (get_or body i 0) 0xFF)) (Unfixed Marker) (Bit (8 * i))) _ one.1 in
    let three = accepted-and_then (zero_verdict Stuffing (8 * (i + 1)) (bits_of (drop (i + 1) body))) Accepted two.1 in
    record {
      there = accepted-missing i 1 body one.0;
      marker = accepted-equal (get_or body i 0) 0xFF (Unfixed Marker) (Bit (8 * i)) two.0;
      stuffed = three.0;
    }

-- a byte of ones, then zeros up to the end
closing-again : (i : ℕ) (body : List ℕ) → Bytes body → Closing i body → drop i body ≡ 0xFF ∷ replicate (length body - (i + 1)) 0
closing-again i body h known =
    let rest = drop (i + 1) body in
    let next : suc i ≡ i + 1 = omega arith in
    drop-cons body i 0 (omega (arith, known.there))
    ∙ ap₂ (λ (b n : ℕ). b ∷ drop n body) known.marker next
    ∙ ap (λ (t : List ℕ). 0xFF ∷ t)
    (accepted-zeros Stuffing (8 * (i + 1)) rest (each-drop (λ (b : ℕ). b < 256) (i + 1) body h) known.stuffed
    ∙ ap (λ (k : ℕ). replicate {A = ℕ} k 0) (length-drop (i + 1) body))

-- ---- the body

pub record Accepts (body : List ℕ) : Type 0 where
  pub head : Head body
  pub constructs : constructs_verdict (count_in body) 7 body ≡ Accepted
  pub closing : Closing (7 + 3 * count_in body) body

pub accepted-content : (body : List ℕ) → content_verdict body ≡ Accepted → Accepts body
unfolding content_verdict
accepted-content body e =
    let n = count_in body in
    let one = accepted-and_then (head_verdict body) _ e in
    let two = accepted-and_then (constructs_verdict n 7 body) _ one.1 in
    let three = accepted-and_then (closing_verdict (7 + 3 * n) body) Accepted two.1 in
    record { head = accepted-head body one.0; constructs = two.0; closing = accepted-closing (7 + 3 * n) body three.0 }

pub value-legal : (body : List ℕ) → Bytes body → content_verdict body ≡ Accepted → Legal (value_of body)
unfolding value_of
value-legal body h e =
    let known = accepted-content body e in
    let long : 7 ≤ length body = known.head.complete in
    let flags : get_or body 5 0 < 256 = each_at (λ (b : ℕ). b < 256) 0 body h 5 (omega arith) in
    record {
      em_flag = omega arith;
      cc_flag = omega arith;
      no_additional = known.head.no_additional;
      em = each_at (λ (b : ℕ). b < 256) 0 body h 6 (omega arith);
      few = omega (arith, length-records (count_in body) 7 body);
      each = records-legal (count_in body) 7 body h known.constructs;
    }

-- what is laid behind the identifier and user_data_type_code is what stands there
begins : (body : List ℕ) (flags : ℕ) (rest : List ℕ) → flags ≡ get_or body 5 0 → rest ≡ drop 7 body → Head body
    → 0x47 ∷ 0x41 ∷ 0x39 ∷ 0x34 ∷ 0x03 ∷ flags ∷ get_or body 6 0 ∷ rest ≡ body
begins body flags rest byte same head =
    ap₂ (λ (b : ℕ) (t : List ℕ). 0x47 ∷ 0x41 ∷ 0x39 ∷ 0x34 ∷ 0x03 ∷ b ∷ get_or body 6 0 ∷ t) byte same ∙ sym (head-again body head)

pub value-layout : (body : List ℕ) → Bytes body → content_verdict body ≡ Accepted → layout (value_of body) ≡ body
unfolding value_of
value-layout body h e =
    let known = accepted-content body e in
    let n = count_in body in
    let laid = flat construct_bytes (records_at n 7 body) in
    let long : 7 ≤ length body = known.head.complete in
    let flags : get_or body 5 0 < 256 = each_at (λ (b : ℕ). b < 256) 0 body h 5 (omega arith) in
    let count : length (records_at n 7 body) ≡ n = length-records n 7 body in
    let byte : 128 * (get_or body 5 0 / 128) + 64 * (get_or body 5 0 / 64 % 2) + 32 * (get_or body 5 0 / 32 % 2) + length (records_at n 7 body) ≡ get_or body 5 0 =
    omega (arith, flags-again (get_or body 5 0) flags)
    in
    let size : length body - (8 + 3 * n) ≡ length body - (7 + 3 * n + 1) = omega arith in
    let rest : (laid ++ (0xFF ∷ [])) ++ replicate (length body - (8 + 3 * n)) 0 ≡ drop 7 body =
    append_assoc laid (0xFF ∷ []) (replicate (length body - (8 + 3 * n)) 0)
    ∙ ap (λ (k : ℕ). laid ++ (0xFF ∷ replicate k 0)) size
    ∙ ap (λ (t : List ℕ). laid ++ t) (sym (closing-again (7 + 3 * n) body h known.closing))
    ∙ sym (constructs-again n 7 body known.constructs)
    in
    begins body _ _ byte rest known.head
