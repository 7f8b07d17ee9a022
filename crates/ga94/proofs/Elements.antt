-- What the layout of a legal value has at each element, and behind them.
-- Assumes nothing.
use Prim.Native.Nat.{ℕ, ◌+◌, ◌-◌, ◌*◌, ◌≤◌, ◌<◌}
use native.Mathlib.Omega.{arith}
use mathlib.Core.Path.{◌≡◌, ◌∙◌, ap, sym, refl}
use mathlib.Core.List.{List, ◌++◌, append_assoc}
use lib.ListN.{length, get_or, take, drop, replicate}
use lib.Seq.{drop-drop, drop_at, get_or-drop}
use Rattle.lists.specs.Flat.{flat}
use Rattle.lists.proofs.Flat.{length-flat, flat-at}
use Rattle.bits.specs.Bits.{bits, num, bits_of, field}
use Rattle.bits.proofs.Numbers.{num-bits-small}
use Rattle.bits.proofs.Runs.{zeros-at}
use Rattle.bits.proofs.Stream.{bits_of-append, bits_of-zeros}
use Rattle.ga94.specs.declared.Record.{Record}
use Rattle.ga94.specs.Value.{Content, Legal, blank}
use Rattle.ga94.specs.Layout.{flags_byte, content_bytes, layout, construct_bits, item_bits}
use Rattle.ga94.specs.Places.{Element, atsc_identifier, user-data-type-code, flags-byte, additional-data-flag, cc-count, em-data, construct, marker-bits, closing}
use Rattle.ga94.specs.Places.{Has, element_in, record_at, value_in}
use Rattle.ga94.proofs.Table.{table-3}

module _ (c : Content) (legal : Legal c) where
  abbrev xs : List ℕ
  xs = bits_of (layout c)

  abbrev n : ℕ
  n = length c.records

  stuffed : List ℕ
  stuffed = replicate (8 * c.z) 0

  -- the items of Table 3, then zeros
  stands : xs ≡ item_bits c ++ stuffed
  unfolding stuffed
  stands = bits_of-append (content_bytes c) (replicate c.z 0) ∙ ap (λ (ys : List ℕ). ys ++ bits_of (replicate c.z 0)) (table-3 c legal) ∙ ap (λ (ys : List ℕ). item_bits c ++ ys) (bits_of-zeros c.z)

  wide : (r : Record) → length (construct_bits r) ≡ 24
  wide r = refl

  -- from the constructs on
  constructs-stand : drop 56 xs ≡ flat construct_bits c.records ++ (bits 8 0xFF ++ stuffed)
  constructs-stand = ap (drop 56) stands ∙ append_assoc (flat construct_bits c.records) (bits 8 0xFF) stuffed

  construct-stands : (i : ℕ) → i < n → (after : List ℕ) × (drop (8 * (7 + 3 * i)) xs ≡ construct_bits (record_at c i) ++ after)
  construct-stands i few =
      let at : 8 * (7 + 3 * i) ≡ 56 + 24 * i = omega arith in
      let one = flat-at construct_bits 24 wide blank c.records i (bits 8 0xFF ++ stuffed) few in
      (one.0, ap (λ (k : ℕ). drop k xs) at ∙ sym (drop-drop (24 * i) 56 xs) ∙ ap (drop (24 * i)) constructs-stand ∙ one.1)

  closing-stands : drop (8 * (7 + 3 * n)) xs ≡ bits 8 0xFF ++ stuffed
  closing-stands =
      let at : 8 * (7 + 3 * n) ≡ 56 + 24 * n = omega arith in
      ap (λ (k : ℕ). drop k xs) at
      ∙ sym (drop-drop (24 * n) 56 xs)
      ∙ ap (drop (24 * n)) constructs-stand
      ∙ drop_at (flat construct_bits c.records) (bits 8 0xFF ++ stuffed) (24 * n) (length-flat construct_bits 24 wide c.records)

  pub layout-elements : (e : Element) → Has (length c.records) e → element_in (bits_of (layout c)) e ≡ value_in c e
  layout-elements atsc_identifier h = refl
  layout-elements user-data-type-code h = refl
  layout-elements flags-byte h = num-bits-small 8 (flags_byte c) (omega (arith, legal.em_flag, legal.cc_flag, legal.no_additional, legal.few))
  layout-elements additional-data-flag h =
      ap (λ (ys : List ℕ). field ys 42 1) stands ∙ num-bits-small 1 c.additional_data_flag (omega (arith, legal.no_additional))
  layout-elements cc-count h = ap (λ (ys : List ℕ). field ys 43 5) stands ∙ num-bits-small 5 n (omega (arith, legal.few))
  layout-elements em-data h = num-bits-small 8 c.em_data legal.em
  layout-elements (construct i) h = ap (λ (ys : List ℕ). num (take 24 ys)) (construct-stands i h).1
  layout-elements (marker-bits i) h = ap (λ (ys : List ℕ). num (take 5 ys)) (construct-stands i h).1
  layout-elements (closing m) h = ap (λ (k : ℕ). field xs (8 * (7 + 3 * k)) 8) h ∙ ap (λ (ys : List ℕ). num (take 8 ys)) closing-stands

  pub layout-zeros : (i : ℕ) → 8 * (8 + 3 * length c.records) ≤ i → get_or (bits_of (layout c)) i 0 ≡ 0
  unfolding stuffed
  layout-zeros i h =
      let from = 8 * (7 + 3 * n) in
      let there : from + 8 + (i - (from + 8)) ≡ i = omega arith in
      let rest : drop (from + 8) xs ≡ replicate (8 * c.z) 0 = sym (drop-drop 8 from xs) ∙ ap (drop 8) closing-stands in
      ap (λ (k : ℕ). get_or xs k 0) (sym there)
      ∙ sym (get_or-drop (from + 8) xs (i - (from + 8)) 0)
      ∙ ap (λ (l : List ℕ). get_or l (i - (from + 8)) 0) rest
      ∙ zeros-at (8 * c.z) (i - (from + 8))
