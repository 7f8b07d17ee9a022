-- Bits packed into words and bytes: the number of a construct, and the word that a construct and the bits before it make.
-- Assumes nothing.
use Prim.Native.Nat.{ℕ, ◌+◌, ◌-◌, ◌*◌, ◌/◌, ◌%◌, ◌^◌, ◌<◌}
use native.Mathlib.Omega.{arith}
use mathlib.Core.Path.{◌≡◌, ◌∙◌, ap, ap₂, sym, refl}
use mathlib.Core.List.{List, [], ◌∷◌, ◌++◌, append_assoc}
use lib.ListN.{drop, replicate}
use lib.Seq.{drop_at}
use Rattle.bits.specs.Bits.{bits, num, bytes_of, reversed}
use Rattle.bits.proofs.Numbers.{length-bits, bits_are, num-lt, num-bits-small, num-front, bits-mod, bits-add}
use Rattle.bits.proofs.Stream.{bytes_of-front}
use Rattle.bits.proofs.Fields.{bytes_at, bytes-at}
use Rattle.bits.proofs.Runs.{bits-shifted}
use Rattle.bits.proofs.Turn.{reversed-lt}
use Rattle.scte20.specs.declared.Record.{Record}
use Rattle.scte20.specs.Value.{field_of, Ranged}
use Rattle.scte20.specs.Layout.{construct_bits}
use Rattle.scte20_writer.specs.Inside.{pushed}
use Rattle.scte20.proofs.Sizes.{construct-are}

-- ---- a construct

pub construct-lt : (r : Record) → num (construct_bits r) < 67108864
construct-lt r = num-lt (construct_bits r) (construct-are r)

parts-sum : (p f l a b : ℕ) → p * 16777216 + (f * 4194304 + (l * 131072 + (a * 512 + (b * 2 + 1)))) ≡ ((((p * 4 + f) * 32 + l) * 256 + a) * 256 + b) * 2 + 1
parts-sum p f l a b = omega arith

-- its number is made of its parts as the code makes it
pub construct-num : (r : Record) → Ranged r
    → num (construct_bits r) ≡ ((((r.cc_priority * 4 + field_of r) * 32 + r.line_offset) * 256 + reversed r.cc_data_1) * 256 + reversed r.cc_data_2) * 2 + 1
construct-num r h =
    let p = r.cc_priority in
    let f = field_of r in
    let l = r.line_offset in
    let a = reversed r.cc_data_1 in
    let b = reversed r.cc_data_2 in
    let five = bits 8 b ++ (1 ∷ []) in
    let four = bits 8 a ++ five in
    let three = bits 5 l ++ four in
    let two = bits 2 f ++ three in
    num-front 2 p two (f * 4194304 + (l * 131072 + (a * 512 + (b * 2 + 1)))) h.priority
    (num-front 2 f three (l * 131072 + (a * 512 + (b * 2 + 1))) (omega (arith, h.field))
    (num-front 5 l four (a * 512 + (b * 2 + 1)) h.line
    (num-front 8 a five (b * 2 + 1) (reversed-lt r.cc_data_1 h.bytes.data-1) (num-front 8 b (1 ∷ []) 1 (reversed-lt r.cc_data_2 h.bytes.data-2) refl))))
    ∙ parts-sum p f l a b

-- ---- a word

-- its four bytes, as they are stored
pub word_bytes : (word : ℕ) → word < 4294967296 → bytes_of 4 (bits 32 word) ≡ word / 16777216 ∷ word / 65536 % 256 ∷ word / 256 % 256 ∷ word % 256 ∷ []
word_bytes word small =
    let first : word / 16777216 % 256 ≡ word / 16777216 = omega arith in
    let last : word / 1 % 256 ≡ word % 256 = omega arith in
    bytes-at 4 0 (bits 32 word) (bits_are 32 word) (omega arith)
    ∙ ap₂ (bytes_at 4 0) (length-bits 32 word) (num-bits-small 32 word small)
    ∙ ap₂ (λ (a b : ℕ). a ∷ word / 65536 % 256 ∷ word / 256 % 256 ∷ b ∷ []) first last

-- ---- a construct behind other bits

-- the bits of a number in front of some, without the first of them
front-dropped : (w j x : ℕ) (ys : List ℕ) → drop j (bits (j + w) x ++ ys) ≡ bits w x ++ ys
front-dropped w j x ys =
    ap (λ (xs : List ℕ). drop j (xs ++ ys)) (bits-add j w x)
    ∙ ap (drop j) (append_assoc (bits j (x / 2 ^ w)) (bits w x) ys)
    ∙ drop_at (bits j (x / 2 ^ w)) (bits w x ++ ys) j (length-bits j (x / 2 ^ w))

module _ (bit last c : ℕ) (small : last < 67108864) (fits : c < 67108864) where
  -- how many bits stand before the construct in a byte that is not whole
  abbrev w : ℕ
  w = bit % 8

  -- both numbers, and eight zeros
  abbrev m : ℕ
  m = (last * 67108864 + c) * 2 ^ 8

  both_bits : bits 60 m ≡ (bits 26 last ++ bits 26 c) ++ replicate 8 0
  both_bits =
      let both = last * 67108864 + c in
      let first : both / 2 ^ 26 ≡ last = omega arith in
      let second : both % 2 ^ 26 ≡ c = omega arith in
      let two : bits 52 both ≡ bits 26 last ++ bits 26 c =
      bits-add 26 26 both ∙ ap₂ (λ (a : ℕ) (b : List ℕ). bits 26 a ++ b) first (sym (bits-mod 26 both) ∙ ap (bits 26) second)
      in
      bits-shifted 52 8 both ∙ ap (λ (xs : List ℕ). xs ++ replicate 8 0) two

  -- what is pushed, by the number that both make
  pushed-tail : pushed bit last c ≡ drop (26 - w) (bits 60 m)
  pushed-tail =
      let all : 26 - w + w ≡ 26 = omega arith in
      sym
      (ap (drop (26 - w)) (both_bits ∙ append_assoc (bits 26 last) (bits 26 c) (replicate 8 0))
      ∙ ap (λ (n : ℕ). drop (26 - w) (bits n last ++ (bits 26 c ++ replicate 8 0))) (sym all)
      ∙ front-dropped w (26 - w) last (bits 26 c ++ replicate 8 0)
      ∙ sym (append_assoc (bits w last) (bits 26 c) (replicate 8 0)))

  -- its first 32 bits are the word that the code makes
  pub pushed-word : bytes_of 4 (bits 32 (m / 2 ^ (w + 2) % 4294967296)) ≡ bytes_of 4 (pushed bit last c)
  pushed-word =
      let q = m / 2 ^ (w + 2) in
      let all : 26 - w + 32 + (w + 2) ≡ 60 = omega arith in
      let split : drop (26 - w) (bits 60 m) ≡ bits 32 q ++ bits (w + 2) m =
      ap (λ (n : ℕ). drop (26 - w) (bits n m)) (sym all)
      ∙ ap (drop (26 - w)) (bits-add (26 - w + 32) (w + 2) m)
      ∙ front-dropped 32 (26 - w) q (bits (w + 2) m)
      in
      ap (bytes_of 4) (bits-mod 32 q)
      ∙ sym (bytes_of-front 4 (bits 32 q) (bits (w + 2) m) (omega (arith, length-bits 32 q)))
      ∙ ap (bytes_of 4) (sym (pushed-tail ∙ split))
