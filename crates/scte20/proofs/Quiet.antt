-- In the bits of a legal layout, stuffing and all, no 1 stands behind 23 zeros, as it does in 00 00 01.
-- Assumes nothing.
use Prim.Native.Nat.{◌*◌}
use mathlib.Core.Path.{◌≡◌, ◌∙◌, ap}
use mathlib.Core.Bool.{true}
use Rattle.bits.specs.Bits.{bits_of}
use Rattle.bits.proofs.Quiet.{quiet, longest-quiet}
use Rattle.scte20.specs.Value.{Content, Legal}
use Rattle.scte20.specs.Layout.{content_bits, layout}
use Rattle.scte20.proofs.Sizes.{bits_of-layout}
use Rattle.scte20.proofs.Zeros.{zero-run}

pub layout-quiet : (c : Content) → Legal c → quiet 0 (bits_of (layout c)) ≡ true
layout-quiet c legal = ap (quiet 0) (bits_of-layout c) ∙ longest-quiet 0 (content_bits c) (8 * c.z) (zero-run c legal)
