-- What private functions promise each other: what the writer keeps on its way. No theorem for a signer speaks of it.
use Rattle.std.specs.Prelude.{ℕ, ◌+◌, ◌*◌, ◌/◌, ◌%◌, ◌≡◌, List, ◌++◌, length, take, replicate}
use Rattle.bits.specs.Bits.{bits, bytes_of}
use Rattle.scte20.specs.declared.Record.{Record}
use Rattle.scte20.specs.Layout.{constructs_bits}

-- what stands from the last whole byte before bit `bit` on: the last bits of the number that ends there, a construct of 26 bits, zeros
abbrev pub pushed : ℕ → ℕ → ℕ → List ℕ
pushed bit last c = (bits (bit % 8) last ++ bits 26 c) ++ replicate 8 0

-- cc_count and the constructs, behind the first two bytes
abbrev pub counted_bits : List Record → List ℕ
counted_bits rs = bits 5 (length rs) ++ constructs_bits rs

-- how many bytes they take, the last not filled: 5 + 26n is odd
abbrev pub counted_size : ℕ → ℕ
counted_size n = (5 + 26 * n) / 8 + 1

-- these bytes
abbrev pub counted_bytes : List Record → List ℕ
counted_bytes rs = bytes_of (counted_size (length rs)) (counted_bits rs ++ replicate 8 0)

-- the promise of `put_constructs`: these bytes stand behind the first two, up to the index that it answers. What stands behind them is not said
pub record Counts (rs : List Record) (out : List ℕ) (end : ℕ) (exit : List ℕ) : Type 0 where
  pub ends : end ≡ 2 + counted_size (length rs)
  pub long : length exit ≡ length out
  pub front : take end exit ≡ take 2 out ++ counted_bytes rs
