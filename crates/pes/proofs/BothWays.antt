-- Reading what was written, and writing what was read.
-- Assumes nothing.
use Prim.Native.Nat.{ℕ, ◌*◌, ◌≤◌}
use native.Mathlib.Omega.{arith}
use mathlib.Core.Path.{◌≡◌, ◌∙◌, ap, ap₂, sym, subst, refl}
use mathlib.Core.List.{List}
use lib.ListN.{length, take}
use lib.Seq.{length-take-le}
use Rattle.lists.specs.Room.{filled, over}
use Rattle.lists.proofs.Each.{each_map}
use Rattle.lists.proofs.Lay.{take-over}
use Rattle.refusal.specs.declared.Written.{Written}
use Rattle.refusal.specs.Answers.{accepted, written}
use Rattle.pes.specs.declared.Head.{Head}
use Rattle.pes.specs.Value.{LegalUnit, Told, stored, held}
use Rattle.pes.specs.Layout.{layout}
use Rattle.pes.specs.Reading.{value_of}
use Rattle.pes.specs.Writing.{Writes}
use Rattle.pes.specs.Lent.{units_in, field_in, ReadsInto}
use Rattle.pes.proofs.Unit.{Sized, legal-sized}
use Rattle.pes.proofs.Field.{accepted-field}
use Rattle.pes.proofs.Lending.{places, lent-held, lent-front, stored-typed}
use Rattle.pes.proofs.Accepting.{the-answer, stored-held, stored-legal, answered, verdict-accepted}
use Rattle.pes.proofs.Writing.{writes-exactly, written-front}

pub written_read : (identifier n : ℕ) (units out : List ℕ) (w : Written) (end : List ℕ)
    → Writes (field_in identifier n units) out w end → w.refusal.number ≡ 0 → length units ≡ 1395
    → (lent : List ℕ) (r : Head) (exit : List ℕ) → ReadsInto (take w.len end) lent r exit
    → (r ≡ record { refusal = accepted; data_identifier = identifier; n = n }) × (exit ≡ filled (take (45 * n) units) 1395 0)
written_read identifier n units out w end writes zero whole lent r exit reads =
    let t = field_in identifier n units in
    let v = held t in
    let legal = ((writes-exactly t out w end writes).0 zero).0 in
    let front = written-front t out w end writes zero in
    let bytes : take w.len end ≡ layout v =
    ap₂ (λ (k : ℕ) (s : List ℕ). take k s) (ap (λ (x : Written). x.len) front.0) front.1 ∙ take-over (layout v) out (length (layout v)) refl in
    let answer = the-answer v legal.value lent r exit (subst (λ (s : List ℕ). ReadsInto s lent r exit) bytes reads) in
    let count : length (take n (units_in units)) ≡ n = length-take-le n (units_in units) (omega (arith, places units, legal.few)) in
    let sized = each_map LegalUnit Sized legal-sized v.units legal.value.each in (
      answer.0 ∙ ap (λ (k : ℕ). record { refusal = accepted; data_identifier = identifier; n = k }) count,
      answer.1 ∙ lent-front identifier n units legal.few whole sized,
    )

pub read-written : (s lent : List ℕ) (a : Head) (exit : List ℕ) → ReadsInto s lent a exit → a.refusal.number ≡ 0
    → (out : List ℕ) (r : Written) (end : List ℕ) → Writes (field_in a.data_identifier a.n exit) out r end
    → length s ≤ length out → (r ≡ written (length s)) × (end ≡ over s out)
read-written s lent a exit reads zero out r end writes fits =
    let h = accepted-field s reads.bytes (verdict-accepted s lent a exit reads zero) in
    let v = value_of s in
    let both = answered s lent a exit reads (verdict-accepted s lent a exit reads zero) in
    let same : field_in a.data_identifier a.n exit ≡ stored v =
    ap₂ (λ (x : Head) (xs : List ℕ). field_in x.data_identifier x.n xs) both.0 both.1 ∙ lent-held (stored v) (stored-typed v h.legal) in
    let again = subst (λ (t : Told). Writes t out r end) same writes in
    let bytes : layout (held (stored v)) ≡ s = ap layout (stored-held v) ∙ h.same in
    let room : length (layout (held (stored v))) ≤ length out = subst (λ (xs : List ℕ). length xs ≤ length out) (sym bytes) fits in
    let front = written-front (stored v) out r end again ((writes-exactly (stored v) out r end again).1 (stored-legal v h.legal, room)) in
    (front.0 ∙ ap (λ (xs : List ℕ). written (length xs)) bytes, front.1 ∙ ap (λ (xs : List ℕ). over xs out) bytes)
