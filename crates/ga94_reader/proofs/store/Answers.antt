-- `ga94_reader::store` meets its contract. The loop's invariant: the bytes of the first i records are laid over zeros.
use Prim.Native.Nat.{ℕ, ◌+◌, ◌*◌, ◌/◌, ◌%◌, ◌≤◌, ◌<◌}
use native.Mathlib.Omega.{arith}
use mathlib.Core.Path.{◌≡◌, ◌∙◌, ap, sym, refl}
use mathlib.Core.List.{List, [], ◌∷◌}
use lib.ListN.{length, get_or, take, replicate}
use lib.Seq.{take_all}
use Rattle.lists.specs.Room.{over, over_at}
use Rattle.lists.proofs.Each.{each-of, each_at}
use Rattle.lists.proofs.Lay.{laid-part}
use Rattle.ga94.specs.declared.Record.{Record}
use Rattle.ga94.specs.Value.{blank}
use Rattle.ga94.specs.Reading.{construct_at, records_at}
use Rattle.ga94.specs.Lent.{record_bytes, records_bytes}
use Rattle.ga94.proofs.Constructs.{length-records}
use Rattle.ga94.proofs.Answers.{record-of}
use Rattle.ga94.proofs.Lending.{lent-next, lent-over}
use Rattle.ga94_reader.proofs.store.Goals as goal

-- a number's bytes, the lowest first
abbrev bytes_of : ℕ → List ℕ
bytes_of x = x % 256 ∷ x / 256 % 256 ∷ x / 65536 % 256 ∷ x / 16777216 % 256 ∷ []

low : (x y : ℕ) → x < 256 → (x + 256 * y) % 256 ≡ x
low x y h = omega arith

lowest : (x y : ℕ) → x < 65536 → (x + 65536 * y) % 65536 ≡ x
lowest x y h = omega arith

bytes-of : (a b d e : ℕ) → a < 256 → b < 256 → d < 256 → e < 256 → bytes_of (a + 256 * b + 65536 * (d + 256 * e)) ≡ a ∷ b ∷ d ∷ e ∷ []
bytes-of a b d e ha hb hd he =
    let x = a + 256 * b + 65536 * (d + 256 * e) in
    let one : x % 256 ≡ a = omega arith in
    let rest : x / 256 ≡ b + 256 * (d + 256 * e) = omega arith in
    let two : x / 256 % 256 ≡ b = ap (λ (k : ℕ). k % 256) rest ∙ low b (d + 256 * e) hb in
    let high : x / 65536 ≡ d + 256 * e = omega arith in
    let three : x / 65536 % 256 ≡ d = ap (λ (k : ℕ). k % 256) high ∙ low d e hd in
    let top : x / 16777216 ≡ e = omega arith in
    let four : x / 16777216 % 256 ≡ e = omega (arith, top) in
    λ i. one i ∷ two i ∷ three i ∷ four i ∷ []

-- the code's numbers are the construct's record
module _ (a b d e : ℕ) (ha : a < 256) (hb : b < 256) (hd : d < 256) (he : e < 256) where
  abbrev taken : ℕ
  taken = a + 256 * b + 65536 * (d + 256 * e)

  abbrev kept : ℕ
  kept = taken / 4 % 2 + 256 * (taken % 4) + 65536 * (taken / 256 % 65536)

  parts : kept ≡ a / 4 % 2 + 256 * (a % 4) + 65536 * (b + 256 * d)
  parts =
      let quarter : taken / 4 ≡ a / 4 + 2 * (32 * b + 8192 * (d + 256 * e)) = omega arith in
      let valid : taken / 4 % 2 ≡ a / 4 % 2 = omega (arith, quarter) in
      let four : taken ≡ a + 4 * (64 * b + 16384 * (d + 256 * e)) = omega arith in
      let type : taken % 4 ≡ a % 4 = omega (arith, four) in
      let rest : taken / 256 ≡ b + 256 * d + 65536 * e = omega arith in
      let both : taken / 256 % 65536 ≡ b + 256 * d = ap (λ (k : ℕ). k % 65536) rest ∙ lowest (b + 256 * d) e (omega arith) in
      omega (arith, valid, type, both)

  same : bytes_of kept ≡ a / 4 % 2 ∷ a % 4 ∷ b ∷ d ∷ []
  same = ap bytes_of parts ∙ bytes-of (a / 4 % 2) (a % 4) b d (omega arith) (omega arith) hb hd

pub loop-i-preserved : goal.loop-i-preserved
unfolding construct_at
loop-i-preserved c =
    let body_of : List ℕ = c.args.body.now in
    let n_of : ℕ = c.args.n in
    let i_of : ℕ = c.loop-i.i in
    let rs : List Record = records_at n_of 7 body_of in
    let inside : 7 + 3 * i_of + 4 ≤ length body_of = omega (arith, c.requires.n_in_bounds) in
    let at = 7 + 3 * i_of in
    let fit = each_at (λ (b : ℕ). b < 256) 0 body_of (each-of (λ (b : ℕ). b < 256) 0 body_of (λ i h. omega (arith, c.type_inv.body i))) in
    let below : i_of < 31 = omega arith in
    let counted : length rs ≡ n_of = length-records n_of 7 body_of in
    let i = i_of in
    let r = get_or rs i blank in
    let piece : c.copy_from_slice.new.self ≡ record_bytes r =
    c.copy_from_slice.ensures.after
    ∙ c.to_le_bytes.ensures
    ∙ ap bytes_of (c.record_of.ensures ∙ ap (λ (w : ℕ). w / 4 % 2 + 256 * (w % 4) + 65536 * (w / 256 % 65536)) c.four_at-construct.ensures)
    ∙ same (get_or body_of at 0) (get_or body_of (at + 1) 0) (get_or body_of (at + 2) 0) (get_or body_of (at + 3) 0)
    (fit at (omega (arith, inside))) (fit (at + 1) (omega (arith, inside))) (fit (at + 2) (omega (arith, inside))) (fit (at + 3) (omega (arith, inside)))
    ∙ ap record_bytes (sym (record-of n_of i_of body_of c.loop-i-test.true))
    in
    laid-part (4 * i) 4 c.loop-i.records c.copy_from_slice.new.self (record_bytes r) refl piece
    ∙ ap (over_at (4 * i) (record_bytes r)) c.loop-i.invariant
    ∙ lent-next rs (replicate 124 0) i (omega (arith, counted))

pub returns : goal.returns
returns c =
    let body_of : List ℕ = c.args.body.now in
    let n_of : ℕ = c.args.n in
    let rs : List Record = records_at n_of 7 body_of in
    let at = c.loop-i in
    let body = c.args.body.now in
    let n = c.args.n in
    let all : take at.i (records_at n 7 body) ≡ records_at n 7 body = take_all at.i (records_at n 7 body) (omega (arith, length-records n 7 body)) in
    at.invariant
    ∙ ap (λ (rs : List Record). over (records_bytes rs) (replicate 124 0)) all
    ∙ lent-over (records_at n 7 body) (omega (arith, length-records n 7 body))
