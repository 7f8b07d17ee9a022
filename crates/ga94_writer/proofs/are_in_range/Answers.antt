-- `ga94_writer::are_in_range` meets its contract. The loop's invariant: as long as no number was too large, the records from i on decide as all of them do.
use Prim.Native.Nat.{ℕ, ◌+◌, ◌*◌, ◌/◌, ◌%◌, ◌≤◌, ◌<◌}
use native.Mathlib.Omega.{arith}
use mathlib.Core.Path.{◌≡◌, ◌∙◌, ap, sym, refl}
use mathlib.Core.Bool.{false≢true}
use mathlib.Core.List.{List}
use lib.ListN.{length, get_or, take, drop}
use lib.Seq.{get_or-take, length-take-le}
use Rattle.lists.specs.Bytes.{Bytes}
use Rattle.lists.proofs.Each.{each-of, each_at}
use Rattle.refusal.proofs.Checks.{accepted-first}
use Rattle.ga94.specs.declared.Record.{Record}
use Rattle.ga94.specs.Value.{blank}
use Rattle.ga94.specs.Lent.{record_in, lent_records}
use Rattle.ga94.proofs.Holding.{range-accepted}
use Rattle.ga94.proofs.Judged.{records-here}
use Rattle.ga94.proofs.Lending.{lent_length, lent_at, record-at}
use Rattle.ga94_writer.proofs.are_in_range.Goals.{then-not-is_in_range, else-not-is_in_range}
use Rattle.ga94_writer.proofs.are_in_range.Goals as goal

high : (x y : ℕ) → x < 256 → (x + 256 * y) / 256 ≡ y
high x y h = omega arith

low : (x y : ℕ) → x < 256 → (x + 256 * y) % 256 ≡ x
low x y h = omega arith

-- the numbers that were looked at are the record's
in-range : (s : List ℕ) (at : ℕ) → Bytes s → at + 4 ≤ length s → (x : ℕ)
    → x ≡ get_or s at 0 + 256 * get_or s (at + 1) 0 + 65536 * (get_or s (at + 2) 0 + 256 * get_or s (at + 3) 0)
    → (x % 256 ≤ 1) × (x / 256 % 256 ≤ 3)
    → ((record_in (drop at s)).cc_valid ≤ 1) × ((record_in (drop at s)).cc_type ≤ 3)
in-range s at h fits x e small =
    let a = get_or s at 0 in
    let b = get_or s (at + 1) 0 in
    let rest = get_or s (at + 2) 0 + 256 * get_or s (at + 3) 0 in
    let one : a < 256 = each_at (λ (b : ℕ). b < 256) 0 s h at (omega arith) in
    let two : b < 256 = each_at (λ (b : ℕ). b < 256) 0 s h (at + 1) (omega arith) in
    let whole : x ≡ a + 256 * (b + 256 * rest) = omega (arith, e) in
    let valid : x % 256 ≡ a = ap (λ (k : ℕ). k % 256) whole ∙ low a (b + 256 * rest) one in
    let type : x / 256 % 256 ≡ b = ap (λ (k : ℕ). k / 256 % 256) whole ∙ ap (λ (k : ℕ). k % 256) (high a (b + 256 * rest) one) ∙ low b rest two in (
      omega (arith, ap (λ (r : Record). r.cc_valid) (record-at s at), valid, small.0),
      omega (arith, ap (λ (r : Record). r.cc_type) (record-at s at), type, small.1),
    )

pub loop-i-preserved : goal.loop-i-preserved
loop-i-preserved c =
    let s = c.args.records.now in
    let n = c.args.n in
    let i = c.loop-i.i in
    let rs = take n (lent_records s) in
    let count = length-take-le n (lent_records s) (omega (arith, lent_length s)) in
    let r = record_in (drop (4 * i) s) in
    let here : get_or rs i blank ≡ r = get_or-take n (lent_records s) i blank c.loop-i-test.true ∙ lent_at s i (omega arith) in
    elim c.if-not-is_in_range.branch [
      | then-not-is_in_range w ↦ λ is. absurd (false≢true (sym w.clean-is ∙ is))
      | else-not-is_in_range w ↦ λ is.
          c.loop-i.invariant (sym w.clean-is ∙ is)
          ∙ records-here rs i r (omega (arith, count, c.loop-i-test.true)) here
          ∙ accepted-first _ (sym (range-accepted (56 + 24 * i) r
          (in-range s (4 * i) (each-of (λ (b : ℕ). b < 256) 0 s (λ i h. c.fits-records i)) (omega arith) c.four_at-lent.result c.four_at-lent.ensures (c.is_in_range.ensures w.if-not-is_in_range.false)))) refl
    ]
