-- How long a reel is, by its count of units, and that a run whose units are let through is accepted where it fits.
-- Assumes nothing.
use Prim.Native.Nat.{ℕ, ◌+◌, ◌-◌, ◌*◌, ◌/◌, ◌≤◌, ◌<◌}
use native.Mathlib.Omega.{arith}
use native.Mathlib.Nat.{mul_comm, mul-le-mul_left, lt_of_mul-lt-mul_left, div-lt_iff_lt-mul, mul-add}
use mathlib.Core.Path.{◌≡◌, ap}
use mathlib.Core.Logic.{◌↔◌}
use mathlib.Core.List.{List}
use lib.ListN.{length, drop_of_length-le}
use Rattle.refusal.specs.Verdict.{Accepted}
use Rattle.line21.specs.declared.AccessUnit.{AccessUnit}
use Rattle.line21.specs.Writing.{units_verdict}
use Rattle.reel.specs.Cut.{cut}
use Rattle.reel.specs.Writing.{reel, reel_layout, reel_verdict}
use Rattle.reel.proofs.Writing.{reel-length, payload-count, few-each, pass-units, reel-accepted}

-- n units are no more than `most` payloads of `size` exactly where the last of them begins in one
counted : (size n count most : ℕ) → 1 ≤ size → 1 ≤ n → n ≤ size * count → size * count < n + size → (n - 1) / size < most ↔ count ≤ most
counted size n count most some one low high = (
  λ h.
      let inside : n - 1 < most * size = (div-lt_iff_lt-mul some).0 h in
      let within : size * count < size * (most + 1) = omega (arith, mul_comm most size, mul-add size most 1) in
      let fewer = lt_of_mul-lt-mul_left size within in
      omega (arith, fewer),
  λ h.
      let inside : n - 1 < most * size = omega (arith, mul_comm most size, mul-le-mul_left size h) in
      (div-lt_iff_lt-mul some).1 inside,
)

module _ (flags size : ℕ) (us : List AccessUnit) (some : 1 ≤ size) where
  -- a run of n units, not none
  pub fits-counted : (n room : ℕ) → length us ≡ n → 1 ≤ n → 5 * n ≤ room
      → (n - 1) / size < room - 5 * n ↔ length (reel_layout (reel flags size us)) ≤ room
  fits-counted n room is one inside =
      let count = length (cut size us) in
      let bounds = payload-count flags size us some in
      let exactly = counted size n count (room - 5 * n) some one (omega (arith, bounds.0)) (omega (arith, bounds.1)) in (
        λ h. omega (arith, exactly.0 h, reel-length flags size us some),
        λ h. exactly.1 (omega (arith, reel-length flags size us some)),
      )

  -- none
  pub none-long : length us ≡ 0 → length (reel_layout (reel flags size us)) ≡ 0
  none-long none = ap (λ (vs : List AccessUnit). length (reel_layout (reel flags size vs))) (drop_of_length-le us {i = 0} (omega arith))

  -- the five bytes of each unit alone
  pub units-long : 5 * length us ≤ length (reel_layout (reel flags size us))
  units-long = omega (arith, reel-length flags size us some)

  pub fits-accepted : (room : ℕ) → size ≤ 291 → units_verdict us ≡ Accepted → length (reel_layout (reel flags size us)) ≤ room
      → reel_verdict (reel flags size us) room ≡ Accepted
  fits-accepted room few pass fits =
      reel-accepted (reel flags size us) room (few-each flags size us some few) (pass-units flags size us some pass) fits
