-- A look at bits that may lie beyond the last byte: within the bytes it is the field, and everywhere it fits its width.
-- Assumes nothing.
use Prim.Native.Nat.{ℕ, ◌+◌, ◌*◌, ◌^◌, ◌≤◌, ◌<◌}
use native.Mathlib.Omega.{arith}
use mathlib.Core.Path.{◌≡◌, ◌∙◌, ap}
use mathlib.Core.List.{List, ◌++◌}
use lib.ListN.{length, take, drop, replicate, length-drop}
use lib.Seq.{take-append-le, drop-append-le}
use Rattle.bits.specs.Bits.{num, bits_of, field}
use Rattle.bits.specs.Peek.{peek_of}
use Rattle.bits.proofs.Numbers.{are-append, are-zeros}
use Rattle.bits.proofs.Stream.{length-bits_of, bits_of-are}
use Rattle.bits.proofs.Fields.{field_lt}

pub peek-inside : (s : List ℕ) (at w : ℕ) → at + w ≤ 8 * length s → peek_of s at w ≡ field (bits_of s) at w
unfolding peek_of
peek-inside s at w fits =
    let xs = bits_of s in
    let before : at ≤ length xs = omega (arith, length-bits_of s) in
    let enough : w ≤ length (drop at xs) = omega (arith, length-bits_of s, length-drop at xs) in
    ap (λ (ys : List ℕ). num (take w ys)) (drop-append-le at xs (replicate w 0) before)
    ∙ ap num (take-append-le w (drop at xs) (replicate w 0) enough)

pub peek-lt : (s : List ℕ) (at w : ℕ) → peek_of s at w < 2 ^ w
unfolding peek_of
peek-lt s at w = field_lt (bits_of s ++ replicate w 0) at w (are-append (bits_of s) (replicate w 0) (bits_of-are s) (are-zeros w))
