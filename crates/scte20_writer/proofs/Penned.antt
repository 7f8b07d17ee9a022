-- Bits that are brought into an output: the whole bytes stand in it from index 2 on, and the rest is the end of the last number.
-- Assumes nothing.
use Prim.Native.Nat.{ℕ, ◌+◌, ◌-◌, ◌*◌, ◌/◌, ◌%◌, ◌^◌, ◌≤◌, ◌<◌}
use native.Mathlib.Omega.{arith}
use native.Mathlib.Numerals.{add-one}
use mathlib.Core.Path.{◌≡◌, ◌∙◌, ap, ap₂, sym, subst, refl}
use mathlib.Core.List.{List, [], ◌∷◌, ◌++◌, append_assoc, append-nil}
use lib.ListN.{length, get_or, take, drop, set, replicate, length-append, length-drop}
use lib.Pow.{mod-mod-pow}
use lib.Seq.{length-take-le, take_at, take-suc, take-append-le, take-append-add, take-suc-set, drop_at, drop-append-le, drop-append-add}
use Rattle.lists.specs.Room.{over_at}
use Rattle.lists.proofs.Lay.{length-over_at}
use Rattle.bits.specs.Bits.{bits, num, bytes_of}
use Rattle.bits.proofs.Numbers.{AreBits, length-bits, num-bits, num-lt, bits-num, bits-add}
use Rattle.bits.proofs.Stream.{length-bytes_of, bytes_of-add, bytes_of-front}
use Rattle.bits.proofs.Runs.{bits-shifted}
use Rattle.scte20.specs.declared.Record.{Record}
use Rattle.scte20.specs.Layout.{construct_bits, constructs_bits}
use Rattle.scte20_writer.specs.Inside.{pushed}
use Rattle.scte20_writer.proofs.Pieces.{zeros-more}

-- the bits xs are written so far. Those that fill no byte are the last of a number of 26 bits
pub record Penned (out xs : List ℕ) (last : ℕ) (exit : List ℕ) : Type 0 where
  pub long : length exit ≡ length out
  pub front : take (2 + length xs / 8) exit ≡ take 2 out ++ bytes_of (length xs / 8) xs
  pub small : last < 67108864
  pub waiting : bits (length xs % 8) last ≡ drop (8 * (length xs / 8)) xs

-- cc_count alone fills no byte
pub penned-start : (out : List ℕ) (n : ℕ) → n < 32 → Penned out (bits 5 n) n out
penned-start out n few =
    record {
      long = refl;
      front = sym (append-nil (take 2 out));
      small = omega arith;
      waiting = refl;
    }

-- the last bits of the number that 26 bits write
last-bits : (w : ℕ) (ys : List ℕ) → AreBits ys → length ys ≡ 26 → w ≤ 26 → bits w (num ys) ≡ drop (26 - w) ys
last-bits w ys are long fits =
    let j = 26 - w in
    let all : j + w ≡ 26 = omega arith in
    sym
    (ap (drop j) (sym (bits-num ys are) ∙ ap (λ (n : ℕ). bits n (num ys)) (long ∙ sym all) ∙ bits-add j w (num ys))
    ∙ drop_at (bits j (num ys / 2 ^ w)) (bits w (num ys)) j (length-bits j (num ys / 2 ^ w)))

module _ (out xs : List ℕ) (last : ℕ) (exit : List ℕ) (p : Penned out xs last exit) where
  -- how many bytes are whole
  abbrev whole : ℕ
  whole = length xs / 8

  length_front : 2 + whole ≤ length out → length (take 2 out ++ bytes_of whole xs) ≡ 2 + whole
  length_front fits = simp length-append (omega (arith, length-take-le 2 out (omega arith), length-bytes_of whole xs))

  -- one construct more
  module _ (ys : List ℕ) (are : AreBits ys) (long : length ys ≡ 26) (then : List ℕ) (laid : then ≡ over_at (2 + length xs / 8) (bytes_of 4 (pushed (length xs) last (num ys))) exit)
      (room : 2 + length xs / 8 + 4 ≤ length out) where
    abbrev k : ℕ
    k = length xs / 8

    length-longer : length (xs ++ ys) ≡ length xs + 26
    length-longer = length-append xs ys ∙ ap (λ (n : ℕ). length xs + n) long

    -- how many bytes it fills
    abbrev filled : ℕ
    filled = (length xs % 8 + 26) / 8

    longer-bytes : length (xs ++ ys) / 8 ≡ k + filled
    longer-bytes = omega (arith, length-longer)

    -- the bits from the last whole byte on
    abbrev open-bits : List ℕ
    open-bits = drop (8 * k) (xs ++ ys)

    pushed-bits : pushed (length xs) last (num ys) ≡ open-bits ++ replicate 8 0
    pushed-bits =
        let same : bits 26 (num ys) ≡ ys = ap (λ (n : ℕ). bits n (num ys)) (sym long) ∙ bits-num ys are in
        ap₂ (λ (a b : List ℕ). (a ++ b) ++ replicate 8 0) p.waiting same
        ∙ ap (λ (a : List ℕ). a ++ replicate 8 0) (sym (drop-append-le (8 * k) xs ys (omega arith)))

    length-open : 8 * filled ≤ length open-bits
    length-open = omega (arith, length-drop (8 * k) (xs ++ ys), length-longer)

    -- of the four bytes, those that are whole
    filled-bytes : take filled (bytes_of 4 (pushed (length xs) last (num ys))) ≡ bytes_of filled open-bits
    filled-bytes =
        let more = 4 - filled in
        let all : filled + more ≡ 4 = omega arith in
        let zeros = open-bits ++ replicate 8 0 in
        ap (λ (bs : List ℕ). take filled (bytes_of 4 bs)) pushed-bits
        ∙ ap (λ (n : ℕ). take filled (bytes_of n zeros)) (sym all)
        ∙ ap (take filled) (bytes_of-add filled more zeros)
        ∙ take_at (bytes_of filled zeros) (bytes_of more (drop (8 * filled) zeros)) filled (length-bytes_of filled zeros)
        ∙ bytes_of-front filled open-bits (replicate 8 0) length-open

    pub penned-on : Penned out (xs ++ ys) (num ys) then
    penned-on =
        let front = take 2 out ++ bytes_of k xs in
        let four = bytes_of 4 (pushed (length xs) last (num ys)) in
        let behind = four ++ drop (length four) (drop (2 + k) exit) in
        let size : length four ≡ 4 = length-bytes_of 4 (pushed (length xs) last (num ys)) in
        let before : length front ≡ 2 + k = length_front (omega arith) in
        let few : filled ≤ length four = omega arith in
        let far : 2 + length (xs ++ ys) / 8 ≡ length front + filled = omega (arith, longer-bytes) in
        let bytes : bytes_of k xs ++ bytes_of filled open-bits ≡ bytes_of (length (xs ++ ys) / 8) (xs ++ ys) =
        ap (λ (a : List ℕ). a ++ bytes_of filled open-bits) (sym (bytes_of-front k xs ys (omega arith)))
        ∙ sym (bytes_of-add k filled (xs ++ ys))
        ∙ ap (λ (n : ℕ). bytes_of n (xs ++ ys)) (sym longer-bytes)
        in
        let w = length (xs ++ ys) % 8 in
        let end : 8 * (length (xs ++ ys) / 8) ≡ length xs + (26 - w) = omega (arith, length-longer) in
        record {
          long = ap length laid ∙ length-over_at (2 + k) four exit (omega (arith, p.long)) ∙ p.long;
          front =
              ap (take (2 + length (xs ++ ys) / 8)) (laid ∙ ap (λ (a : List ℕ). a ++ behind) p.front)
              ∙ ap (λ (n : ℕ). take n (front ++ behind)) far
              ∙ take-append-add front behind filled
              ∙ ap (λ (a : List ℕ). front ++ a) (take-append-le filled four (drop (length four) (drop (2 + k) exit)) few ∙ filled-bytes)
              ∙ append_assoc (take 2 out) (bytes_of k xs) (bytes_of filled open-bits)
              ∙ ap (λ (a : List ℕ). take 2 out ++ a) bytes;
          small = subst (λ (n : ℕ). num ys < 2 ^ n) long (num-lt ys are);
          waiting =
              last-bits w ys are long (omega arith)
              ∙ sym (ap (λ (n : ℕ). drop n (xs ++ ys)) end ∙ drop-append-add xs ys (26 - w));
        }

  -- the last byte: the bits that fill none, and zeros
  last_byte : last * 2 ^ (8 - length xs % 8) % 4294967296 % 256 ≡ num (take 8 (drop (8 * whole) xs ++ replicate 8 0))
  last_byte =
      let w = length xs % 8 in
      let free = 8 - w in
      let m = last * 2 ^ free in
      let one : w + free ≡ 8 = omega arith in
      let other : free + w ≡ 8 = omega arith in
      let shifted : bits 8 m ≡ bits w last ++ replicate free 0 = ap (λ (n : ℕ). bits n m) (sym one) ∙ bits-shifted w free last in
      let size : length (bits w last ++ replicate free 0) ≡ 8 = sym (ap length shifted) ∙ length-bits 8 m in
      let zeros : take 8 (bits w last ++ replicate 8 0) ≡ bits w last ++ replicate free 0 =
      ap (λ (n : ℕ). take 8 (bits w last ++ replicate n 0)) (sym other)
      ∙ ap (take 8) (sym (zeros-more (bits w last) free w))
      ∙ take_at (bits w last ++ replicate free 0) (replicate w 0) 8 size
      in
      mod-mod-pow m 24 8
      ∙ sym (num-bits 8 m)
      ∙ ap num (shifted ∙ sym zeros)
      ∙ ap (λ (a : List ℕ). num (take 8 (a ++ replicate 8 0))) p.waiting

  -- storing it brings in all bits
  pub penned-end : 2 + length xs / 8 < length out → (byte : ℕ) → byte ≡ last * 2 ^ (8 - length xs % 8) % 4294967296 % 256
      → take (2 + length xs / 8 + 1) (set exit (2 + length xs / 8) byte) ≡ take 2 out ++ bytes_of (length xs / 8 + 1) (xs ++ replicate 8 0)
  penned-end fits byte e =
      let k = length xs / 8 in
      let inside : 2 + k < length exit = omega (arith, p.long) in
      let bytes : bytes_of k xs ++ (byte ∷ []) ≡ bytes_of (k + 1) (xs ++ replicate 8 0) =
      ap₂ (λ (a : List ℕ) (b : ℕ). a ++ (b ∷ [])) (sym (bytes_of-front k xs (replicate 8 0) (omega arith)))
      (e ∙ last_byte ∙ ap (λ (r : List ℕ). num (take 8 r)) (sym (drop-append-le (8 * k) xs (replicate 8 0) (omega arith))))
      ∙ sym (bytes_of-add k 1 (xs ++ replicate 8 0))
      in
      ap (λ (n : ℕ). take n (set exit (2 + k) byte)) (add-one (2 + k))
      ∙ take-suc-set exit (2 + k) byte inside
      ∙ ap (λ (a : List ℕ). a ++ (byte ∷ [])) p.front
      ∙ append_assoc (take 2 out) (bytes_of k xs) (byte ∷ [])
      ∙ ap (λ (a : List ℕ). take 2 out ++ a) bytes

-- ---- the records

constructs-append : (rs ss : List Record) → constructs_bits (rs ++ ss) ≡ constructs_bits rs ++ constructs_bits ss
constructs-append [] ss = refl
constructs-append (r ∷ rs) ss = ap (λ (xs : List ℕ). construct_bits r ++ xs) (constructs-append rs ss)

-- one record more
pub constructs-more : (rs : List Record) (i : ℕ) (d : Record) → i < length rs → constructs_bits (take (i + 1) rs) ≡ constructs_bits (take i rs) ++ construct_bits (get_or rs i d)
constructs-more rs i d inside =
    ap (λ (k : ℕ). constructs_bits (take k rs)) (add-one i)
    ∙ ap constructs_bits (take-suc rs i d inside)
    ∙ constructs-append (take i rs) (get_or rs i d ∷ [])
