-- What the layout of a legal value has at each element, and behind them.
-- Assumes nothing.
use Prim.Native.Nat.{ℕ, ◌+◌, ◌-◌, ◌*◌, ◌≤◌, ◌<◌}
use native.Mathlib.Omega.{arith}
use mathlib.Core.Path.{◌≡◌, ◌∙◌, ap, sym, refl}
use mathlib.Core.List.{List, [], ◌∷◌, ◌++◌}
use lib.ListN.{length, get_or, take, drop, replicate-append-replicate}
use lib.Seq.{drop-drop, drop_at, get_or-drop}
use Rattle.lists.specs.Flat.{flat}
use Rattle.lists.proofs.Each.{each_at}
use Rattle.lists.proofs.Flat.{flat-at}
use Rattle.bits.specs.Bits.{bits, num, bits_of, field}
use Rattle.bits.proofs.Numbers.{num-bits-small}
use Rattle.bits.proofs.Runs.{zeros-at}
use Rattle.scte20.specs.declared.Record.{Record}
use Rattle.scte20.specs.Value.{Content, Legal, LegalRecord, Ranged, blank, field_of}
use Rattle.scte20.specs.Layout.{construct_bits, constructs_bits, flagged_bits, item_bits, padding, layout}
use Rattle.scte20.specs.Places.{Element, user-data-type-code, reserved_bits, vbi-data-flag, cc-count, construct, cc-priority, field-number, line-offset, marker, video_count}
use Rattle.scte20.specs.Places.{Has, element_in, bits_in, record_at, value_in}
use Rattle.scte20.proofs.Constructs.{length-construct, field-on}
use Rattle.scte20.proofs.Sizes.{length-items}
use Rattle.scte20.proofs.Layouts.{zeros_at, count-back, run-stands, sampled-stands, layout-stands, flagged-stands}
use Rattle.scte20.proofs.Own.{reserved-back, flag-back}

-- the constructs of records, one behind the other
constructs-flat : (rs : List Record) → constructs_bits rs ≡ flat construct_bits rs
constructs-flat [] = refl
constructs-flat (r ∷ rs) = ap (λ (xs : List ℕ). construct_bits r ++ xs) (constructs-flat rs)

module _ (c : Content) (legal : Legal c) where
  xs : List ℕ
  xs = bits_of (layout c)

  -- with flag 1
  module _ (set : c.flag ≡ 1) where
    n : ℕ
    n = length c.records

    behind : drop 16 xs ≡ flagged_bits 1 c.records ++ zeros_at (25 + 26 * n) (8 * c.z)
    unfolding xs n
    behind = flagged-stands c legal ∙ ap (λ (f : ℕ). flagged_bits f c.records ++ zeros_at (bits_in f (length c.records)) (8 * c.z)) set

    module _ (i : ℕ) (few : i < length c.records) where
      r : Record
      r = record_at c i

      ranged : Ranged r
      unfolding r
      ranged = (each_at LegalRecord blank c.records legal.each i few).ranged

      stands : (rest : List ℕ) × (drop (21 + 26 * i) xs ≡ construct_bits r ++ rest)
      unfolding r n
      stands =
          let post = bits 4 0 ++ zeros_at (25 + 26 * length c.records) (8 * c.z) in
          let one = flat-at construct_bits 26 length-construct blank c.records i post few in
          let run = run-stands 0 c.records xs (8 * c.z) legal.few behind in
          let flattened = ap (λ (ys : List ℕ). drop (26 * i) (ys ++ post)) (constructs-flat c.records) in
          (one.0, sym (drop-drop (26 * i) 21 xs) ∙ ap (drop (26 * i)) run ∙ flattened ∙ one.1)

      at-construct : field xs (21 + 26 * i) 26 ≡ num (construct_bits r)
      at-construct = ap (λ (l : List ℕ). num (take 26 l)) stands.1

      at-priority : field xs (21 + 26 * i) 2 ≡ r.cc_priority
      at-priority = ap (λ (l : List ℕ). num (take 2 l)) stands.1 ∙ num-bits-small 2 r.cc_priority ranged.priority

      at_field : field xs (21 + 26 * i + 2) 2 ≡ field_of r
      at_field =
          let small : field_of r < 4 = omega (arith, ranged.field) in
          field-on xs (construct_bits r ++ stands.0) (21 + 26 * i) 2 2 stands.1 ∙ num-bits-small 2 (field_of r) small

      at-line : field xs (21 + 26 * i + 4) 5 ≡ r.line_offset
      at-line = field-on xs (construct_bits r ++ stands.0) (21 + 26 * i) 4 5 stands.1 ∙ num-bits-small 5 r.line_offset ranged.line

      at-marker : field xs (21 + 26 * i + 25) 1 ≡ 1
      at-marker = field-on xs (construct_bits r ++ stands.0) (21 + 26 * i) 25 1 stands.1

    at_count : field xs 16 5 ≡ length c.records
    unfolding n
    at_count = count-back 0 c.records xs (8 * c.z) legal.few behind

    at-sampled : (m : ℕ) → m ≡ length c.records → field xs (21 + 26 * m) 4 ≡ 0
    unfolding n
    at-sampled m e =
        ap (λ (k : ℕ). field xs (21 + 26 * k) 4) e
        ∙ ap (λ (l : List ℕ). num (take 4 l)) (sampled-stands 0 c.records xs (8 * c.z) legal.few behind)

  pub layout-elements : (e : Element) → Has c.flag (length c.records) e → element_in (bits_of (layout c)) e ≡ value_in c e
  unfolding xs r
  layout-elements user-data-type-code h = ap (λ (l : List ℕ). field l 0 8) (layout-stands c legal)
  layout-elements reserved_bits h = reserved-back c legal.reserved
  layout-elements vbi-data-flag h = flag-back c legal.flag
  layout-elements cc-count h = at_count h
  layout-elements (construct i) h = at-construct h.0 i h.1
  layout-elements (cc-priority i) h = at-priority h.0 i h.1
  layout-elements (field-number i) h = at_field h.0 i h.1
  layout-elements (line-offset i) h = at-line h.0 i h.1
  layout-elements (marker i) h = at-marker h.0 i h.1
  layout-elements (video_count m) h = at-sampled h.0 m h.1

  pub layout-zeros : (i : ℕ) → bits_in c.flag (length c.records) ≤ i → get_or (bits_of (layout c)) i 0 ≡ 0
  layout-zeros i h =
      let from = bits_in c.flag (length c.records) in
      let there : from + (i - from) ≡ i = omega arith in
      let rest : drop from (bits_of (layout c)) ≡ zeros_at from (8 * c.z) =
      ap (drop from) (layout-stands c legal) ∙ drop_at (item_bits c) (zeros_at from (8 * c.z)) from (length-items c) in
      ap (λ (k : ℕ). get_or (bits_of (layout c)) k 0) (sym there)
      ∙ sym (get_or-drop from (bits_of (layout c)) (i - from) 0)
      ∙ ap (λ (l : List ℕ). get_or l (i - from) 0) rest
      ∙ ap (λ (l : List ℕ). get_or l (i - from) 0) (replicate-append-replicate (padding from) (8 * c.z) 0)
      ∙ zeros-at (padding from + 8 * c.z) (i - from)
