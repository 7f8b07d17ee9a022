-- In the bits of a legal layout, stuffing and all, no 1 stands behind 23 zeros, as it does in 00 00 01.
-- Assumes nothing.
use Prim.Native.Nat.{ℕ, ◌*◌, ◌≤◌}
use native.Mathlib.Omega.{arith}
use mathlib.Core.Path.{◌≡◌, ◌∙◌, ap}
use mathlib.Core.Bool.{true}
use Rattle.bits.specs.Bits.{bits_of, longest}
use Rattle.bits.proofs.Quiet.{quiet, longest-quiet}
use Rattle.ga94.specs.Value.{Content, Legal}
use Rattle.ga94.specs.Layout.{content_bytes, layout}
use Rattle.ga94.proofs.Sizes.{bits_of-layout}
use Rattle.ga94.proofs.Zeros.{zero-run}

fewer : (n : ℕ) → n ≤ 19 → n ≤ 22
fewer n h = omega arith

pub layout-quiet : (c : Content) → Legal c → quiet 0 (bits_of (layout c)) ≡ true
layout-quiet c legal =
    ap (quiet 0) (bits_of-layout c) ∙ longest-quiet 0 (bits_of (content_bytes c)) (8 * c.z) (fewer (longest (bits_of (content_bytes c))) (zero-run c legal))
