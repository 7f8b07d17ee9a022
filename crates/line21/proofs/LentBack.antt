-- What is read into a lent array, and what is written from one, both ways.
-- Assumes nothing.
use Prim.Native.Nat.{ℕ, ◌*◌, ◌≤◌}
use native.Mathlib.Omega.{arith}
use mathlib.Core.Path.{◌≡◌, ◌∙◌, ap, ap₂, sym, refl}
use mathlib.Core.List.{List, [], ◌∷◌}
use lib.ListN.{length, take}
use lib.Seq.{length-take-le}
use Rattle.lists.specs.Room.{filled}
use Rattle.lists.proofs.Fill.{length-filled}
use Rattle.lists.proofs.Flat.{length_taken, flat-front}
use Rattle.refusal.specs.Verdict.{Verdict}
use Rattle.refusal.specs.Answers.{lent_of}
use Rattle.line21.specs.declared.Answer.{Answer}
use Rattle.line21.specs.declared.Head.{Head}
use Rattle.line21.specs.Value.{blank, stored, held}
use Rattle.line21.specs.Reading.{value_of, read_of}
use Rattle.line21.specs.Lent.{access_unit_bytes, access_units_bytes, access_unit_in, access_units_in, payload_in, ReadsInto}
use Rattle.line21.proofs.Answers.{accepted-verdict, accepted-answer}
use Rattle.line21.proofs.Back.{read-legal}
use Rattle.line21.proofs.LentUnits.{payload-told}

-- seven bytes tell the unit that they are
unit-same : (s : List ℕ) → 7 ≤ length s → access_unit_bytes (access_unit_in s) ≡ take 7 s
unfolding access_unit_in
unit-same [] h = let f : ⊥ = omega arith in absurd f
unit-same (a ∷ []) h = let f : ⊥ = omega arith in absurd f
unit-same (a ∷ b ∷ []) h = let f : ⊥ = omega arith in absurd f
unit-same (a ∷ b ∷ c ∷ []) h = let f : ⊥ = omega arith in absurd f
unit-same (a ∷ b ∷ c ∷ d ∷ []) h = let f : ⊥ = omega arith in absurd f
unit-same (a ∷ b ∷ c ∷ d ∷ e ∷ []) h = let f : ⊥ = omega arith in absurd f
unit-same (a ∷ b ∷ c ∷ d ∷ e ∷ f ∷ []) h = let f : ⊥ = omega arith in absurd f
unit-same (a ∷ b ∷ c ∷ d ∷ e ∷ f ∷ g ∷ s) h = refl

-- the value that an array tells, stored again: its numbers, and the bytes of its m units with zeros behind them
module _ (flags m : ℕ) (units : List ℕ) (few : m ≤ 291) where
  pub lent-count : (stored (held (payload_in flags m units))).m ≡ m
  lent-count = length-take-le m (access_units_in units) (omega (arith, length_taken access_unit_in 7 291 units))

  pub lent-front : length units ≡ 2037 → access_units_bytes (stored (held (payload_in flags m units))).units ≡ filled (take (7 * m) units) 2037 0
  lent-front e = flat-front access_unit_bytes 7 (λ u. refl) access_unit_in unit-same blank refl 291 m units few (omega arith)

-- what was read into an array, where it is accepted, tells the struct that `read` answers
pub into-told : (s lent : List ℕ) (r : Head) (exit : List ℕ) → ReadsInto s lent r exit → r.refusal.number ≡ 0 → payload_in r.flags r.m exit ≡ (read_of s).payload
into-told s lent r exit p e =
    let zero : (read_of s).refusal.number ≡ 0 = sym (ap (λ (h : Head). h.refusal.number) p.answer) ∙ e in
    let left : exit ≡ access_units_bytes (read_of s).payload.units =
    p.left ∙ ap (λ (v : Verdict). lent_of v (access_units_bytes (read_of s).payload.units) lent) (accepted-verdict s zero) in
    let places : length (read_of s).payload.units ≡ 291 =
    ap (λ (a : Answer). length a.payload.units) (accepted-answer s zero) ∙ length-filled (value_of s).units 291 blank (read-legal s p.bytes zero).legal.count in
    ap₂ (λ (h : Head) (bytes : List ℕ). payload_in h.flags h.m bytes) p.answer left ∙ payload-told (read_of s).payload places
