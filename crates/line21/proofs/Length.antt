-- Which lengths a payload may have: those of a flags byte and 0 to 291 whole units.
-- Assumes nothing.
use Prim.Native.Nat.{ℕ, ◌+◌, ◌-◌, ◌*◌, ◌%◌, ◌≤◌}
use native.Mathlib.Omega.{arith}
use mathlib.Core.Path.{◌≡◌}
use borrow.Author.Tests.{eqb-false, ne_eqb, le-ltb, eq-eqb}
use Rattle.refusal.specs.Verdict.{Accepted}
use Rattle.refusal.proofs.Checks.{accepted-refuse_if, accepted-and_then, accepted-equal, accepted-within}
use Rattle.line21.specs.Reading.{length_verdict, unit_count}

pub record WholeUnits (n : ℕ) : Type 0 where
  pub exact : n ≡ 1 + 5 * unit_count n
  pub most : unit_count n ≤ 291

pub accepted-whole : (n : ℕ) → length_verdict n ≡ Accepted → WholeUnits n
unfolding length_verdict
accepted-whole n e =
    let start = accepted-and_then _ _ e in
    let long = accepted-and_then _ _ start.1 in
    let fit = accepted-and_then _ _ long.1 in
    let some = eqb-false n 0 (accepted-refuse_if _ _ _ start.0) in
    let within : n ≤ 1456 = accepted-within 1456 n _ _ long.0 in
    let whole : (n - 1) % 5 ≡ 0 = accepted-equal ((n - 1) % 5) 0 _ _ fit.0 in
    record { exact = omega arith; most = omega arith }

pub whole-accepted : (n m : ℕ) → n ≡ 1 + 5 * m → m ≤ 291 → length_verdict n ≡ Accepted
unfolding length_verdict
whole-accepted n m e h =
    let some : n ≡ 0 → ⊥ = λ z. omega arith in
    let within : n ≤ 1456 = omega arith in
    let whole : (n - 1) % 5 ≡ 0 = omega arith in
    simp (ne_eqb n 0 some, le-ltb 1456 n within, eq-eqb ((n - 1) % 5) 0 whole)

pub whole-unit_count : (n m : ℕ) → n ≡ 1 + 5 * m → unit_count n ≡ m
whole-unit_count n m e = omega arith
