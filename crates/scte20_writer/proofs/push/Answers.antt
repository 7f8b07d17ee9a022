-- `scte20_writer::push` meets its contract: the word is the front of what is pushed, and its four bytes are stored.
use Prim.Native.Nat.{ℕ, ◌+◌, ◌*◌, ◌/◌, ◌%◌, ◌^◌, ◌<◌}
use native.Mathlib.Nat.{mod-eq_of_lt}
use native.Mathlib.Omega.{arith}
use mathlib.Core.Path.{◌≡◌, ◌∙◌, ap, sym, refl}
use mathlib.Core.List.{[], ◌∷◌}
use mir.Syntax.{w32}
use Rattle.std.specs.Int.{to_be_bytes}
use Rattle.lists.proofs.Lay.{laid-part}
use Rattle.bits.specs.Bits.{bits, bytes_of}
use Rattle.scte20_writer.proofs.Packing.{word_bytes, pushed-word}
use Rattle.scte20_writer.proofs.push.Goals as goal

be-bytes : (word : ℕ) → word < 4294967296 → to_be_bytes w32 word ≡ bytes_of 4 (bits 32 word)
be-bytes word small =
    let first : word / 16777216 % 256 ≡ word / 16777216 = omega arith in
    ap (λ (a : ℕ). a ∷ word / 65536 % 256 ∷ word / 256 % 256 ∷ word % 256 ∷ []) first ∙ sym (word_bytes word small)

pub returns : goal.returns
returns c =
    let args = c.args in
    let bit = 5 + 26 * args.i in
    let both = (args.last * 67108864 + args.construct) * 2 ^ 8 in
    let whole : both % 18446744073709551616 ≡ both = mod-eq_of_lt (omega (arith, c.requires.last_bound, c.requires.construct_bound)) in
    laid-part (2 + bit / 8) 4 args.out.now c.copy_from_slice.new.self _ refl
    (c.copy_from_slice.ensures.after
    ∙ c.to_be_bytes.ensures
    ∙ ap (λ (m : ℕ). to_be_bytes w32 (m / 2 ^ (bit % 8 + 2) % 4294967296)) whole
    ∙ be-bytes (both / 2 ^ (bit % 8 + 2) % 4294967296) (omega arith)
    ∙ pushed-word bit args.last args.construct c.requires.last_bound c.requires.construct_bound)
