-- The body in the pieces that the code stores, one behind the other: seven bytes, the constructs, a byte of ones, and zeros.
-- Assumes nothing.
use Prim.Native.Nat.{ℕ, ◌+◌, ◌-◌, ◌*◌, ◌≤◌, ◌<◌}
use native.Mathlib.Omega.{arith}
use mathlib.Core.Path.{◌≡◌, ◌∙◌, ap, ap₂, refl}
use mathlib.Core.List.{List, [], ◌∷◌, ◌++◌}
use borrow.Rule.Slice.PartMut.{put_mid}
use lib.ListN.{length, take, drop, set, replicate, length-append}
use Rattle.lists.specs.Flat.{flat}
use Rattle.lists.specs.Room.{over, over_at}
use Rattle.lists.proofs.Lay.{length_over, take-over, store-next, over_at-over_at, cleared}
use Rattle.refusal.specs.Verdict.{Accepted}
use Rattle.ga94.specs.Value.{CaptionUnit, held}
use Rattle.ga94.specs.Layout.{construct_bytes, flags_byte, layout}
use Rattle.ga94.specs.Writing.{value_verdict}
use Rattle.ga94.proofs.Sizes.{length-constructs}
use Rattle.ga94.proofs.Holding.{value-whole, value-flag, length-held, length-layout-held}

-- the first seven bytes
abbrev pub head_bytes : ℕ → ℕ → List ℕ
head_bytes flags em = 0x47 ∷ 0x41 ∷ 0x39 ∷ 0x34 ∷ 0x03 ∷ flags ∷ em ∷ []

-- a value that was judged, and an output that its layout fills
module _ (u : CaptionUnit) (places : length u.records ≡ 31) (accepted : value_verdict u ≡ Accepted) where
  abbrev laid : List ℕ
  laid = flat construct_bytes (held u).records

  few : u.n ≤ 31
  few = (value-whole u accepted).few

  counted : length (held u).records ≡ u.n
  counted = length-held u places few

  -- the flags and cc_count as the code puts them together
  abbrev flags : ℕ
  flags = u.process_em_data_flag * 128 + u.process_cc_data_flag * 64 + u.n

  pub flags-small : flags < 256
  flags-small = omega (arith, (value-whole u accepted).em_flag, (value-whole u accepted).cc_flag, few)

  flags-same : flags ≡ flags_byte (held u)
  flags-same = omega (arith, value-flag u accepted, counted)

  abbrev front : List ℕ
  front = head_bytes flags u.em_data ++ laid

  length_front : length front ≡ 7 + 3 * u.n
  length_front = omega (arith, length-constructs (held u).records, counted)

  abbrev end : ℕ
  end = 7 + 3 * u.n

  module _ (out : List ℕ) (fills : length out ≡ length (layout (held u))) where
    pub out-long : length out ≡ end + 1 + u.z
    out-long = omega (arith, fills, length-layout-held u places few)

    module _ (one : List ℕ) (headed : one ≡ over (head_bytes flags u.em_data) out) where
      pub length-headed : length one ≡ length out
      length-headed = ap length headed ∙ length_over (head_bytes flags u.em_data) out (omega (arith, out-long))

      module _ (two : List ℕ) (built : two ≡ over_at 7 laid one) where
        front-laid : two ≡ over front out
        front-laid =
            built ∙ ap (over_at 7 laid) headed ∙ over_at-over_at 0 (head_bytes flags u.em_data) laid out 7 (omega arith) refl

        pub length-built : length two ≡ length out
        length-built = ap length front-laid ∙ length_over front out (omega (arith, out-long, length_front))

        -- the ones behind them
        abbrev three : List ℕ
        three = set two end 0xFF

        ones-laid : three ≡ over (front ++ (0xFF ∷ [])) out
        ones-laid = ap (λ (xs : List ℕ). set xs end 0xFF) front-laid ∙ store-next front out 0xFF end length_front (omega (arith, out-long))

        length-ones : length (front ++ (0xFF ∷ [])) ≡ end + 1
        length-ones = length-append front (0xFF ∷ []) ∙ ap (λ (k : ℕ). k + 1) length_front

        pub length_three : length three ≡ length out
        length_three = ap length ones-laid ∙ length_over (front ++ (0xFF ∷ [])) out (omega (arith, out-long, length-ones))

        -- and zeros up to the end
        pub all_laid : (part : List ℕ) → part ≡ replicate (length (take (length three - (end + 1)) (drop (end + 1) three))) 0
            → put_mid (end + 1) (length three - (end + 1)) three part ≡ layout (held u)
        all_laid part zeros =
            let rest : length three - (end + 1) ≡ u.z = omega (arith, length_three, out-long) in
            cleared three part (end + 1) zeros
            ∙ ap₂ (λ (ys : List ℕ) (k : ℕ). take (end + 1) ys ++ replicate k 0) ones-laid rest
            ∙ ap (λ (ys : List ℕ). ys ++ replicate u.z 0) (take-over (front ++ (0xFF ∷ [])) out (end + 1) length-ones)
            ∙ ap (λ (b : ℕ). (head_bytes b u.em_data ++ (laid ++ (0xFF ∷ []))) ++ replicate u.z 0) flags-same
