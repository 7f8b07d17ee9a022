-- The longest run of zero bits in legal GA94 content, without its stuffing, has 19 of them. RULES, "GA94".
-- Assumes nothing.
use Prim.Native.Nat.{ℕ, ◌≤◌}
use native.Mathlib.Omega.{arith}
use mathlib.Core.Path.{◌≡◌, sym, subst, refl}
use mathlib.Core.List.{List, [], ◌∷◌, ◌++◌}
use lib.ListN.{length}
use Rattle.lists.specs.Flat.{flat}
use Rattle.bits.specs.Bits.{bits, bits_of, longest_from, longest}
use Rattle.bits.proofs.Quiet.{longest-one, longest-after}
use Rattle.ga94.specs.declared.Record.{Record}
use Rattle.ga94.specs.Value.{Content, Legal}
use Rattle.ga94.specs.Layout.{content_bytes, construct_bits, item_bits}
use Rattle.ga94.proofs.Table.{table-3}

-- cc_valid, cc_type and the data bytes: 19 bits
abbrev data_bits : Record → List ℕ
data_bits r = bits 1 r.cc_valid ++ (bits 2 r.cc_type ++ (bits 8 r.cc_data_1 ++ bits 8 r.cc_data_2))

-- constructs, each behind its five ones, and the eight ones that close them: behind at most 19 zeros
longest-constructs : (rs : List Record) (run : ℕ) → run ≤ 19 → longest_from run (flat construct_bits rs ++ bits 8 0xFF) ≤ 19
longest-constructs [] run h = omega arith
longest-constructs (r ∷ rs) run h =
    let ones : longest_from 0 (data_bits r ++ (flat construct_bits rs ++ bits 8 0xFF)) ≤ 19 =
    longest-after 19 19 (omega arith) 0 (data_bits r) (flat construct_bits rs ++ bits 8 0xFF) (omega arith) (λ j below. longest-constructs rs j below)
    in
    omega (arith, ones)

-- the flags, cc_count and em_data: 16 bits
abbrev number_bits : Content → List ℕ
number_bits c =
    bits 1 c.process_em_data_flag
    ++ (bits 1 c.process_cc_data_flag ++ (bits 1 c.additional_data_flag ++ (bits 5 (length c.records) ++ bits 8 c.em_data)))

-- ATSC_identifier and user_data_type_code: up to a 1 in 41, then in 39, then in 03
fixed-bits : (rest : List ℕ) → longest_from 0 rest ≤ 19 → longest_from 0 (bits 32 0x47413934 ++ (bits 8 3 ++ rest)) ≤ 19
fixed-bits rest h =
    longest-one 19 0 (bits 15 0x23A0) (bits 16 0x3934 ++ (bits 8 3 ++ rest)) (omega arith)
    (longest-one 19 0 (bits 7 0x1C) (bits 8 0x34 ++ (bits 8 3 ++ rest)) (omega arith)
    (longest-one 19 0 (bits 15 0x1A01) rest (omega arith) h))

longest-items : (c : Content) → longest (item_bits c) ≤ 19
longest-items c =
    let rest = flat construct_bits c.records ++ bits 8 0xFF in
    let behind : longest_from 0 (number_bits c ++ rest) ≤ 19 =
    longest-after 19 16 (omega arith) 0 (number_bits c) rest (omega arith) (λ j below. longest-constructs c.records j (omega arith))
    in
    fixed-bits (number_bits c ++ rest) behind

pub zero-run : (c : Content) → Legal c → longest (bits_of (content_bytes c)) ≤ 19
zero-run c legal = subst (λ (xs : List ℕ). longest xs ≤ 19) (sym (table-3 c legal)) (longest-items c)

-- a construct of zeros between ones
abbrev pub widest : Content
widest =
    record {
      process_em_data_flag = 0;
      process_cc_data_flag = 0;
      additional_data_flag = 0;
      em_data = 0;
      records = record { cc_valid = 0; cc_type = 0; cc_data_1 = 0; cc_data_2 = 0 } ∷ [];
      z = 0;
    }

legal-widest : Legal widest
legal-widest =
    record {
      em_flag = omega arith;
      cc_flag = omega arith;
      no_additional = refl;
      em = omega arith;
      few = omega arith;
      each = (record { valid = omega arith; type = omega arith; bytes = record { data-1 = omega arith; data-2 = omega arith } }, tt);
    }

pub zero-run-reached : (c : Content) × Legal c × (longest (bits_of (content_bytes c)) ≡ 19)
zero-run-reached = (widest, legal-widest, refl)
