-- The longest run of zero bits in legal SCTE 20 content, without its stuffing, has 22 of them. RULES, "Picture area".
-- Assumes nothing.
use Prim.Native.Nat.{ℕ, zero, suc, ◌+◌, ◌≤◌, ◌<◌}
use native.Mathlib.Omega.{arith}
use mathlib.Core.Path.{◌≡◌, ap, refl}
use mathlib.Core.Bool.{and-false}
use mathlib.Core.List.{List, [], ◌∷◌, ◌++◌, append_assoc}
use lib.Dec.{eqb}
use lib.ListN.{length, replicate, length-replicate}
use Rattle.lists.specs.Each.{Each}
use Rattle.bits.specs.Bits.{bits, reversed, longest_from, longest}
use Rattle.bits.proofs.Quiet.{longest-length, longest-one, longest-after}
use Rattle.scte20.specs.declared.Record.{Record}
use Rattle.scte20.specs.Value.{Content, field_of, count_if, urgent, LegalRecord, Legal}
use Rattle.scte20.specs.Layout.{constructs_bits, flagged_bits, item_bits, padding, content_bits}

-- line_offset and the data: 21 bits
abbrev line_bits : Record → List ℕ
line_bits r = bits 5 r.line_offset ++ (bits 8 (reversed r.cc_data_1) ++ bits 8 (reversed r.cc_data_2))

-- a construct's priority, a field that is not 00, 21 bits, and the marker
abbrev fielded : Record → ℕ → List ℕ → List ℕ
fielded r f rest = bits 2 r.cc_priority ++ (bits 2 f ++ (line_bits r ++ (1 ∷ rest)))

longest-fielded : (r : Record) (f : ℕ) → 1 ≤ f → f ≤ 3 → (run : ℕ) (rest : List ℕ) → run ≤ 19 → longest_from 0 rest ≤ 22 → longest_from run (fielded r f rest) ≤ 22
longest-fielded r zero low high run rest h g = let f : ⊥ = omega arith in absurd f
longest-fielded r (suc zero) low high run rest h g =
    longest-one 22 run (bits 2 r.cc_priority ++ (0 ∷ [])) (line_bits r ++ (1 ∷ rest)) (omega arith) (longest-one 22 0 (line_bits r) rest (omega arith) g)
longest-fielded r (suc (suc zero)) low high run rest h g =
    longest-one 22 run (bits 2 r.cc_priority) (0 ∷ (line_bits r ++ (1 ∷ rest))) (omega arith) (longest-one 22 0 (0 ∷ line_bits r) rest (omega arith) g)
longest-fielded r (suc (suc (suc zero))) low high run rest h g =
    longest-one 22 run (bits 2 r.cc_priority) (1 ∷ (line_bits r ++ (1 ∷ rest))) (omega arith) (longest-one 22 0 (1 ∷ line_bits r) rest (omega arith) g)
longest-fielded r (suc (suc (suc (suc f)))) low high run rest h g = let f : ⊥ = omega arith in absurd f

-- constructs, behind a run of at most 19 zeros, and what follows them
longest-constructs : (rs : List Record) → Each LegalRecord rs → (run : ℕ) (rest : List ℕ) → run ≤ 19 → run + length rest ≤ 22 → longest_from run (constructs_bits rs ++ rest) ≤ 22
longest-constructs [] legal run rest h g = omega (arith, longest-length run rest)
longest-constructs (r ∷ rs) legal run rest h g =
    longest-fielded
    r
    (field_of r)
    legal.0.allowed
    legal.0.ranged.field
    run
    (constructs_bits rs ++ rest)
    h
    (longest-constructs rs legal.1 0 rest (omega arith) (omega arith))

-- behind a flag of 1: the 5 bits of cc_count, the constructs, the 4 zeros of the other count, and k zeros up to a whole byte
longest-counted : (rs : List Record) → Each LegalRecord rs → (k : ℕ) → k ≤ 7 → longest_from 0 (flagged_bits 1 rs ++ replicate k 0) ≤ 22
longest-counted rs legal k h =
    let long : length {A = ℕ} (replicate k 0) ≡ k = length-replicate k 0 in
    let tail = bits 4 0 ++ replicate k 0 in
    rw (append_assoc (constructs_bits rs) (bits 4 0) (replicate k 0))
    (longest-after
    22
    5
    (omega arith)
    0
    (bits 5 (length rs))
    (constructs_bits rs ++ tail)
    (omega arith)
    (λ j below. longest-constructs rs legal j tail (omega arith) (omega arith)))

-- behind user_data_type_code
longest-flagged : (f : ℕ) → f < 2 → (rs : List Record) → Each LegalRecord rs → (reserved k : ℕ) → k ≤ 7
    → longest_from 0 (bits 7 reserved ++ (bits 1 f ++ (flagged_bits f rs ++ replicate k 0))) ≤ 22
longest-flagged zero low rs legal reserved k h =
    let long : length {A = ℕ} (replicate k 0) ≡ k = length-replicate k 0 in
    omega (arith, longest-length 0 (bits 7 reserved ++ (0 ∷ replicate k 0)))
longest-flagged (suc zero) low rs legal reserved k h =
    longest-one 22 0 (bits 7 reserved) (flagged_bits 1 rs ++ replicate k 0) (omega arith) (longest-counted rs legal k h)
longest-flagged (suc (suc f)) low rs legal reserved k h = let f : ⊥ = omega arith in absurd f

padding-most : (n : ℕ) → padding n ≤ 7
unfolding padding
padding-most n = omega arith

pub zero-run : (c : Content) → Legal c → longest (content_bits c) ≤ 22
zero-run c legal =
    let k = padding (length (item_bits c)) in
    omega (arith, longest-flagged c.flag legal.flag c.records legal.each c.reserved k (padding-most (length (item_bits c))))

-- field 10, then 22 zeros up to the marker
abbrev pub widest : Content
widest =
    record {
      reserved = 0;
      flag = 1;
      records =
          record {
            cc_priority = 3;
            field_number = record { 0 = 2 };
            line_offset = 0;
            cc_data_1 = 0;
            cc_data_2 = 0;
          }
          ∷ [];
      z = 0;
    }

few-urgent : (f : ℕ) → urgent f widest.records ≤ 4
few-urgent f = omega (arith, ap count_if (and-false (eqb 2 f)))

legal-widest : Legal widest
legal-widest =
    record {
      reserved = omega arith;
      flag = omega arith;
      few = omega arith;
      each = (
        record {
          ranged = record { priority = omega arith; field = omega arith; line = omega arith; bytes = record { data-1 = omega arith; data-2 = omega arith } };
          allowed = omega arith;
        },
        tt,
      );
      order = tt;
      four = few-urgent;
      bare = λ e. let f : ⊥ = omega arith in absurd f;
      no_group = refl;
    }

pub zero-run-reached : (c : Content) × Legal c × (longest (content_bits c) ≡ 22)
unfolding padding reversed
zero-run-reached = (widest, legal-widest, refl)
